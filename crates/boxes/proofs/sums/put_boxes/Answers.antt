-- What has been tested is what the rows ask; and both tables are arrays, of their own lengths.
use Rattle.std.proofs.Common.{refl}
use Rattle.boxes.proofs.SumsStoring.{rows_ready, boxes_put}
use Rattle.boxes.proofs.sums.put_boxes.Goals as goal

pub put_box_rows-requires : goal.put_box_rows-requires
put_box_rows-requires c =
    rows_ready c.if-minutes.true c.if-temperatures.true c.if-boxes-minutes.true (c.if-strips_within.ensures.0 refl) (c.if-strips_within-2.ensures.0 refl)

pub returns-then-strips_within-2 : goal.returns-then-strips_within-2
returns-then-strips_within-2 c =
    boxes_put c.in-Some.ensures.cases.long c.in-Some.ensures.cases.same c.in-Some-as_array.ensures.cases.long c.in-Some-as_array.ensures.cases.same
    (rows_ready c.if-minutes.true c.if-temperatures.true c.if-boxes-minutes.true (c.if-strips_within.ensures.0 refl) (c.if-strips_within-2.ensures.0 refl))
    c.put_box_rows.ensures

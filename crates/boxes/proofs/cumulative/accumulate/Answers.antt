-- Both lists are arrays: of their own lengths, and filled.
use Rattle.boxes.proofs.CumulativeFilling.{filled_whole}
use Rattle.boxes.proofs.cumulative.accumulate.Goals as goal

pub returns-in-Some-as_mut_array : goal.returns-in-Some-as_mut_array
returns-in-Some-as_mut_array c =
    filled_whole c.in-Some.ensures.cases.long c.in-Some-as_mut_array.ensures.cases.long c.in-Some.ensures.cases.same c.put_table_rows.ensures

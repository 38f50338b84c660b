-- A minute window's row is as long as all temperature windows take.
use Rattle.boxes.proofs.SumsStoring.{row_ready}
use Rattle.boxes.proofs.sums.pairs.put_box_rows.Goals as goal

pub put_box_row-requires : goal.put_box_row-requires
put_box_row-requires c = search row_ready

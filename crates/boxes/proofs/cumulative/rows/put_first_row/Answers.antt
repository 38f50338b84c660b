-- The first 66 numbers are all 0.
use Rattle.boxes.proofs.CumulativeFilling.{first_row}
use Rattle.boxes.proofs.cumulative.rows.put_first_row.Goals as goal

pub returns : goal.returns
returns c = first_row c.args.table.now c.told-table (c.fill.ensures.after (λ y e. e))

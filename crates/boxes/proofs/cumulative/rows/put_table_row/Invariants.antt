-- Each turn adds a cell to the running sum, and stores the number above with it.
use Rattle.boxes.proofs.CumulativeFilling.{RowPart}
use Rattle.boxes.proofs.cumulative.rows.put_table_row.Given as goal

abbrev pub invariant-loop-b : goal.invariant-loop-b
invariant-loop-b l = RowPart l.cells l.table l.a l.b l.row

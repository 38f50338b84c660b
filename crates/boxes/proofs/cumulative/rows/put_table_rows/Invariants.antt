-- Each turn stores one row more.
use Rattle.std.specs.Prelude.{◌≡◌, length}
use Rattle.boxes.specs.Tables.{RowsTo}
use Rattle.boxes.proofs.cumulative.rows.put_table_rows.Given as goal

abbrev pub invariant-loop-a : goal.invariant-loop-a
invariant-loop-a l = (length l.table ≡ 4356) × RowsTo l.cells l.table l.a

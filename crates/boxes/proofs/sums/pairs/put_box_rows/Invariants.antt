-- Each turn stores the row of one minute window more behind those before.
use Rattle.boxes.proofs.SumsStoring.{RowsTo}
use Rattle.boxes.proofs.sums.pairs.put_box_rows.Given as goal

abbrev pub invariant-loop-j : goal.invariant-loop-j
invariant-loop-j l = RowsTo l.tables.counts.now l.tables.sums.now l.minutes l.temperatures l.boxes l.at l.j

-- Each turn keeps the invariant of RowList: the step lands on its mark's window, and the row of that stands behind the rows before.
-- The edges of the last record are the passes.
use Rattle.regression.proofs.RowList.{SmoothedTo}
use Rattle.regression.proofs.sweep.smooth_rows.Given as goal

abbrev pub invariant-loop-k : goal.invariant-loop-k
invariant-loop-k l = SmoothedTo l.readings.minutes.now l.readings.values.now l.marks.points.now l.marks.bandwidths.now l.initial.rows l.k l.rows l.running

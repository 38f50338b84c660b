-- Each turn keeps the invariant of Sweeping: both records land on the mark's window, and the row that they make stands behind the rows before.
-- The edges of the last records are the passes.
use Rattle.regression.proofs.RangesSweeping.{SweptTo}
use Rattle.regression.proofs.ranges.sweep_rows.Given as goal

abbrev pub invariant-loop-k : goal.invariant-loop-k
invariant-loop-k l =
    SweptTo l.ranges.minutes.now l.ranges.lows.now l.ranges.highs.now l.marks.points.now l.marks.bandwidths.now l.initial.rows l.k l.rows
    l.running

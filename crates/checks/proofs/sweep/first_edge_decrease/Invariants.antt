-- The lowest position where an edge falls: at each turn none below i has one.
-- So the first that is found is the lowest, and at the end there is none.
use Rattle.checks.proofs.SweepSearches.{NoneBackBelow}
use Rattle.checks.proofs.sweep.first_edge_decrease.Given as goal

abbrev pub invariant-loop-i : goal.invariant-loop-i
invariant-loop-i l = NoneBackBelow l.marks.points.now l.marks.bandwidths.now l.i

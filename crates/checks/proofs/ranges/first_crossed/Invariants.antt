-- The lowest crossed range: at each turn none below i is crossed.
-- So the first that is found is the lowest, and at the end there is none.
use Rattle.checks.proofs.RangesSearches.{NoneCrossedBelow}
use Rattle.checks.proofs.ranges.first_crossed.Given as goal

abbrev pub invariant-loop-i : goal.invariant-loop-i
invariant-loop-i l = NoneCrossedBelow l.ranges.lows.now l.ranges.highs.now l.i

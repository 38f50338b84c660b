-- The lowest half width out of range: at each turn none below i is.
-- So the first that is found is the lowest, and at the end there is none.
use Rattle.checks.proofs.CurveSearches.{NoneBadBelow}
use Rattle.checks.proofs.curve.first_out_of_range.Given as goal

abbrev pub invariant-loop-i : goal.invariant-loop-i
invariant-loop-i l = NoneBadBelow l.most l.bandwidths l.i

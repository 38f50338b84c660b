-- At each turn the first hit from `from` on is the first hit from i on.
-- So a hit at i is the answer, and at the end the answer is `to`.
use Rattle.regression.proofs.Laws.{Searched}
use Rattle.regression.proofs.estimator.edges.first_from.Given as goal

abbrev pub invariant-loop-i : goal.invariant-loop-i
invariant-loop-i l = Searched l.minutes l.bound l.from l.to l.i

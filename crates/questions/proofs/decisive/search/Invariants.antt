-- A reading that does not decide is one more of those before; the first that does is the answer. What is taken out stands in weight and sum.
use Rattle.questions.proofs.Removing.{NoneDecides}
use Rattle.questions.proofs.decisive.search.Given as goal

abbrev pub invariant-loop-i : goal.invariant-loop-i
invariant-loop-i l = NoneDecides l.minutes l.values l.mark.point l.mark.bandwidth l.limit l.run l.low l.i

-- Each turn adds one reading's terms; at the window's right edge they are weight and sum of the row.
use Rattle.questions.proofs.Adding.{TotalTo}
use Rattle.questions.proofs.decisive.add_run.Given as goal

abbrev pub invariant-loop-i : goal.invariant-loop-i
invariant-loop-i l = TotalTo l.minutes l.values l.mark.point l.mark.bandwidth l.left l.right l.i l.weight l.sum

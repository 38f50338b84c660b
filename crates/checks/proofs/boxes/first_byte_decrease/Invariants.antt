-- The lowest decrease: at each turn no position below i decreases.
-- So the first that does is the lowest, and at the end there is none.
use Rattle.checks.proofs.Decreases.{OrderedTo}
use Rattle.checks.proofs.boxes.first_byte_decrease.Given as goal

abbrev pub invariant-loop-i : goal.invariant-loop-i
invariant-loop-i l = OrderedTo l.xs l.i

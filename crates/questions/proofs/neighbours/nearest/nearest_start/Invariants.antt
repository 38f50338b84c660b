-- At each turn every start before this one has been passed: the sum of its minute and of the one behind its run is below twice the mark. The
-- first at which it is not, or the last one that there is, is the answer.
use Rattle.questions.specs.Nearest.{StartsPassed}
use Rattle.questions.proofs.neighbours.nearest.nearest_start.Given as goal

abbrev pub invariant-loop-start : goal.invariant-loop-start
invariant-loop-start l = StartsPassed l.minutes l.k l.point l.start

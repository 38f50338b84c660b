-- Each turn keeps the invariant of Weighing: one reading more, with the weight that the table has at its distance.
use Rattle.std.proofs.Common.{length}
use Rattle.questions.proofs.Weighing.{WeighedTo}
use Rattle.questions.proofs.biweight.weigh.Given as goal

abbrev pub invariant-loop-minute : goal.invariant-loop-minute
invariant-loop-minute l = WeighedTo l.run.minutes.now l.run.values.now l.weights l.point (length l.yielded) l.weight l.sum

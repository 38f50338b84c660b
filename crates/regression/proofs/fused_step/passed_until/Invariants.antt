-- At each turn the readings from `from` up to i are passed and none of their minutes is at least `bound`; the first that is, or `to`, ends it.
use Rattle.regression.proofs.FusedStepPassing.{PassedTo}
use Rattle.regression.proofs.fused_step.passed_until.Given as goal

abbrev pub invariant-loop-i : goal.invariant-loop-i
invariant-loop-i g l = PassedTo g.C.Change.op l.initial.sums l.readings.minutes.now l.readings.values.now l.from l.to l.bound l.i l.sums

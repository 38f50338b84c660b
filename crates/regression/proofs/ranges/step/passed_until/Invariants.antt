-- At each turn the readings from `from` up to i are passed and none of their minutes is at least `bound`; the first that is, or `to`, ends it.
use Rattle.regression.proofs.RangesPassing.{BothPassedTo}
use Rattle.regression.proofs.ranges.step.passed_until.Given as goal

abbrev pub invariant-loop-i : goal.invariant-loop-i
invariant-loop-i g l = BothPassedTo g.C.Change.op l.initial.sums l.ranges.minutes.now l.ranges.lows.now l.ranges.highs.now l.from l.to l.bound l.i l.sums

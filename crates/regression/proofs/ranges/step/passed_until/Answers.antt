-- At each turn the readings from `from` up to i are passed and none of their minutes is at least `bound`; the first that is, or `to`, ends it.
use native.Mathlib.Omega.{arith}
use Rattle.regression.proofs.RangesPassing.{passing_begins, passing_goes_on, passing_stops}
use Rattle.regression.proofs.ranges.step.passed_until.Goals as goal

pub loop-i-init : goal.loop-i-init
loop-i-init g c = passing_begins 64 g.met.C.Change.by_zero g.met.C.Change.by_parts (omega arith) (omega arith) (search)

pub returns-then-bound-minutes : goal.returns-then-bound-minutes
returns-then-bound-minutes g c = search passing_stops

pub loop-i-preserved : goal.loop-i-preserved
loop-i-preserved g c = search passing_goes_on

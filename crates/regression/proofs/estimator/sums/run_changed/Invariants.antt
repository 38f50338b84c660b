-- At each turn the sums are joined with the readings from `from` up to i, and one reading more makes the next run.
-- A run of no readings leaves the sums, since each is below 2^64.
use Rattle.regression.proofs.Laws.{Joined}
use Rattle.regression.proofs.estimator.sums.run_changed.Given as goal

abbrev pub invariant-loop-i : goal.invariant-loop-i
invariant-loop-i g l = Joined g.C.Change.op l.initial.sums l.readings.minutes.now l.readings.values.now l.from l.to l.i l.sums

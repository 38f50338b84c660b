-- Of the positions that are left halving leaves the one that it leaves of the whole list.
use Rattle.arithmetic.proofs.Halving.{HalvedTo}
use Rattle.arithmetic.proofs.values.first_at_least.Given as goal

abbrev pub invariant-loop-size : goal.invariant-loop-size
invariant-loop-size l = HalvedTo l.minutes l.bound l.base l.size

abbrev pub decreases-loop-size : goal.decreases-loop-size
decreases-loop-size l = l.size

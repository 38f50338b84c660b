-- At each turn the sums have let go what lies between where the edge stood at first and where it stands, and its minute is not below the bound.
-- It stops behind the first minute below it, or at the start.
use Rattle.regression.proofs.Travels.{Falling}
use Rattle.regression.proofs.turn.edges.lowered.Given as goal

abbrev pub invariant-loop-before : goal.invariant-loop-before
invariant-loop-before l = Falling l.readings.minutes.now l.readings.values.now l.bound l.initial.before l.initial.sums l.before l.sums

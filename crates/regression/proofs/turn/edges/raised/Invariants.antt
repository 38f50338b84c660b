-- At each turn the sums have taken in what lies between where the edge stood at first and where it stands.
-- It stops at the first minute of at least the bound, or at the end.
use Rattle.regression.proofs.Travels.{Rising}
use Rattle.regression.proofs.turn.edges.raised.Given as goal

abbrev pub invariant-loop-at : goal.invariant-loop-at
invariant-loop-at l = Rising l.readings.minutes.now l.readings.values.now l.initial.at l.initial.sums l.at l.sums

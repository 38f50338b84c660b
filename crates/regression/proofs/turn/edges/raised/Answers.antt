-- At each turn the sums have taken in what lies between where the edge stood at first and where it stands.
use native.Mathlib.Omega.{arith}
use Rattle.regression.proofs.Travels.{rising_begins, rises}
use Rattle.regression.proofs.turn.edges.raised.Goals as goal

pub loop-at-init : goal.loop-at-init
loop-at-init c = rising_begins (search) (omega arith)

pub loop-at-preserved : goal.loop-at-preserved
loop-at-preserved c = search rises

-- At each turn the sums have let go what lies between where the edge stood at first and where it stands, and its minute is not below the bound.
use native.Mathlib.Omega.{arith}
use Rattle.regression.proofs.Travels.{falling_begins, falls}
use Rattle.regression.proofs.turn.edges.lowered.Goals as goal

pub loop-before-init : goal.loop-before-init
loop-before-init c = falling_begins (search) (omega arith)

pub loop-before-preserved : goal.loop-before-preserved
loop-before-preserved c = search falls

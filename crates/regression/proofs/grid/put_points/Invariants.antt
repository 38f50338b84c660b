-- Each turn stores one mark more behind those before.
use mathlib.Core.Path.{◌≡◌}
use lib.ListN.{take}
use Rattle.meanings.specs.Grid.{grid}
use Rattle.regression.proofs.grid.put_points.Given as goal

abbrev pub invariant-loop-k : goal.invariant-loop-k
invariant-loop-k l = take l.k l.points ≡ grid l.first l.spacing l.k

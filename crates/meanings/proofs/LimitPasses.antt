-- The passes up to and with a mark are left plus right of its row: each step of accepted lists lands on its mark's window.
use Prim.Native.Nat.{ℕ, suc, ◌+◌, ◌<◌}
use mathlib.Core.Path.{◌≡◌, ap, ◌∙◌}
use mathlib.Core.List.{List}
use lib.ListN.{length, get_or, take}
use Rattle.meanings.specs.declared.RunningSums.{RunningSums}
use Rattle.meanings.specs.Estimate.{left_of, right_of}
use Rattle.meanings.specs.Moves.{moves}
use Rattle.meanings.specs.Running.{fresh, passes}
use Rattle.meanings.proofs.Passes.{passes_are_last_edges}
use Rattle.meanings.proofs.Steps.{Small}
use Rattle.meanings.proofs.SmoothSteps.{CurveAccepted}
use Rattle.meanings.proofs.SmoothRows.{smooth_is_one_step_a_point}

pub passes_to_point : (ts vs zs hs : List ℕ) → Small ts vs → CurveAccepted ts vs zs hs → (k : ℕ) → k < length zs
    → passes ts vs fresh (moves (take (suc k) zs) (take (suc k) hs))
    ≡ right_of ts (get_or zs k 0) (get_or hs k 0) + left_of ts (get_or zs k 0) (get_or hs k 0)
passes_to_point ts vs zs hs s a k l =
    passes_are_last_edges ts vs (moves (take (suc k) zs) (take (suc k) hs))
    ∙ ap (λ (r : RunningSums). r.right + r.left) (smooth_is_one_step_a_point ts vs zs hs s a (suc k) l)

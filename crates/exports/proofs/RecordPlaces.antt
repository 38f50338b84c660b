-- Every refusal of a step has place 0.
use Prim.Native.Nat.{ℕ, ◌≤◌}
use mathlib.Core.Bool.{◌||◌}
use mathlib.Core.List.{List}
use lib.Dec.{ltb}
use lib.ListN.{length}
use Rattle.meanings.specs.declared.RunningSums.{RunningSums}
use Rattle.meanings.specs.Limits.{full, max_sheet}
use Rattle.meanings.specs.Reports.{uneven_samples, advance_checks}
use Rattle.meanings.specs.Running.{moved, advance}
use Rattle.exports.proofs.AnswersPlaces.{refusal_place, answer_small, at_start, bandwidth_small}

pub advance_place : (ts vs : List ℕ) (r : RunningSums) (z h : ℕ) → refusal_place (advance ts vs r z h) ≤ max_sheet
unfolding advance
advance_place ts vs r z h =
    answer_small (advance_checks full ts vs r.left r.right h) (moved ts vs r z h) (
      at_start (uneven_samples ts vs),
      λ even. (at_start (ltb 1024 (length ts)), λ few. (at_start (ltb r.right r.left || ltb (length ts) r.right), λ valid. bandwidth_small h)),
    )

-- No refusal at one mark has a place over 1,024.
use Prim.Native.Nat.{ℕ, ◌≤◌}
use mathlib.Core.List.{List}
use native.Mathlib.Omega.{arith}
use lib.Dec.{ltb}
use lib.ListN.{length}
use Rattle.meanings.specs.Limits.{full, max_sheet}
use Rattle.meanings.specs.Reports.{decreases}
use Rattle.meanings.specs.Reports.{uneven_samples, evaluate_checks}
use Rattle.meanings.specs.Estimate.{estimate}
use Rattle.meanings.specs.Calls.{evaluate}
use Rattle.exports.proofs.AnswersPlaces.{refusal_place, answer_small, at_start, at_position, bandwidth_small, few_small}

pub evaluate_place : (ts vs : List ℕ) (z h : ℕ) → refusal_place (evaluate full ts vs z h) ≤ max_sheet
unfolding evaluate
evaluate_place ts vs z h =
    answer_small (evaluate_checks full ts vs h) (estimate ts vs z h) (
      at_start (uneven_samples ts vs),
      λ even. (
        at_start (ltb 1024 (length ts)),
        λ few. (at_position (decreases ts) (length ts) (few_small 1024 (length ts) few (omega arith)), λ ordered. bandwidth_small h),
      ),
    )

-- The call is refused at a position of its readings. What the call below found is what the answer tells and the list then holds.
use Prim.Native.Nat.{ℕ, ◌≤◌}
use mathlib.Core.List.{List}
use native.Mathlib.Omega.{arith}
use lib.Dec.{ltb}
use lib.ListN.{length}
use Rattle.meanings.specs.Limits.{full, max_sheet}
use Rattle.meanings.specs.Reports.{decreases, uneven_samples, evaluate_checks}
use Rattle.meanings.specs.decisive.Decisive.{first_decisive, decisive}
use Rattle.exports.proofs.AnswersPlaces.{refusal_place, answer_small, at_start, at_position, bandwidth_small, few_small}

module _ (ts vs : List ℕ) (z h limit : ℕ) where
  pub decisive_place : refusal_place (decisive full ts vs z h limit) ≤ max_sheet
  unfolding decisive
  decisive_place =
      answer_small (evaluate_checks full ts vs h) (first_decisive ts vs z h limit) (
        at_start (uneven_samples ts vs),
        λ even. (
          at_start (ltb 1024 (length ts)),
          λ few. (at_position (decreases ts) (length ts) (few_small 1024 (length ts) few (omega arith)), λ ordered. bandwidth_small h),
        ),
      )

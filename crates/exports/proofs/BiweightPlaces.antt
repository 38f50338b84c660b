-- No refusal has a place over 1,024.
use Prim.Native.Nat.{ℕ, ◌≤◌}
use mathlib.Core.List.{List}
use native.Mathlib.Omega.{arith}
use lib.Dec.{ltb}
use lib.ListN.{length}
use Rattle.meanings.specs.Limits.{full, max_sheet}
use Rattle.meanings.specs.Reports.{decreases, uneven_samples, series_checks}
use Rattle.meanings.specs.biweight.Biweight.{biweight_bandwidth, biweight_row, biweight}
use Rattle.exports.proofs.AnswersPlaces.{refusal_place, answer_small, at_start, at_position, few_small}

pub biweight_place : (ts vs : List ℕ) (z : ℕ) → refusal_place (biweight full ts vs z) ≤ max_sheet
unfolding biweight
biweight_place ts vs z =
    answer_small (series_checks full ts vs) (biweight_row ts vs z biweight_bandwidth) (
      at_start (uneven_samples ts vs),
      λ even. (
        at_start (ltb 1024 (length ts)),
        λ few. (at_position (decreases ts) (length ts) (few_small 1024 (length ts) few (omega arith)), λ ordered. tt),
      ),
    )

-- Wrong exports of another shape than the code, each shut out by its answer to one input.
use Prim.Native.Nat.{ℕ}
use mathlib.Core.Path.{◌≡◌}
use mathlib.Core.List.{List}
use native.Mathlib.Omega.{arith}
use lib.ListN.{replicate}
use Rattle.meanings.specs.declared.Estimate.{Estimate}
use Rattle.meanings.specs.Limits.{row_width}
use Rattle.meanings.specs.Reports.{given}
use Rattle.meanings.specs.Codes.{answered, no_detail}
use Rattle.exports.specs.Answers.{sized, record_length}

abbrev zeros : ℕ → List ℕ
zeros n = replicate n 0

-- the row of a record, by a call that does not look at the record's length, or not at the row's
pub no_row_of_ten_numbers : (e : Estimate) → ¬ (0 ≡ answered no_detail (sized record_length (zeros 10) (sized row_width (zeros 5) (given e))))
unfolding sized
no_row_of_ten_numbers e q = let z : ◌≡◌ {A = ℕ} 0 8 = q in omega arith

pub no_row_into_six_numbers : (e : Estimate) → ¬ (0 ≡ answered no_detail (sized record_length (zeros 9) (sized row_width (zeros 6) (given e))))
unfolding sized
no_row_into_six_numbers e q = let z : ◌≡◌ {A = ℕ} 0 8 = q in omega arith

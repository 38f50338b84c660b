-- Whether a list is so many numbers a mark long, by the quotient and the remainder that the code looks at.
use Prim.Native.Nat.{ℕ, ◌+◌, ◌*◌, ◌/◌, ◌%◌}
use mathlib.Core.Path.{◌≡◌, sym, ap, ◌∙◌}
use mathlib.Core.Bool.{true, false}
use native.Mathlib.Nat.{mul_comm, div-add-mod'}
use native.Mathlib.Omega.{arith}
use lib.Arith.{digits_mod}
use Rattle.meanings.specs.Reports.{differ}
use Rattle.meanings.proofs.Checks.{differ_true, differ_same}

module _ (rows width n : ℕ) where
  pub rows_fit : rows % width ≡ 0 → rows / width ≡ n → differ rows (width * n) ≡ false
  rows_fit r q = differ_same rows (width * n) (sym (div-add-mod' rows width) ∙ rw (r, q) (omega (arith, mul_comm n width)))

  module _ (w : width ≡ 0 → ⊥) where
    as_digits : rows ≡ width * n → rows ≡ n * width + 0
    as_digits e = omega (arith, e, mul_comm n width)

    pub rows_remainder : (rows % width ≡ 0 → ⊥) → differ rows (width * n) ≡ true
    rows_remainder r =
        differ_true rows (width * n) (λ e. r (ap (λ (x : ℕ). x % width) (as_digits e) ∙ digits_mod n (omega arith)))

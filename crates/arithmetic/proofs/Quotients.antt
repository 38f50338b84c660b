-- A quotient is kept where the rest is below what it lacks of the weight, and raised where it is above. Where both are equal, the quotient's own
-- remainder by 2 makes it even. Raised, it does not pass the sum, since the rest is then above 0.
use Prim.Native.Nat.{ℕ, ◌+◌, ◌-◌, ◌/◌, ◌%◌, ◌^◌, ◌≤◌, ◌<◌}
use mathlib.Core.Path.{◌≡◌, sym, ◌∙◌}
use native.Mathlib.Nat.{mul-le-mul_left, div-add-mod', mod-lt}
use native.Mathlib.Omega.{arith}
use Rattle.meanings.specs.Estimate.{value_of}
use Rattle.meanings.proofs.Rounding.{value_missing, value_present, below_half, above_half, at_half}

pub no_weight : (s w : ℕ) → w ≡ 0 → 65536 ≡ value_of s w
no_weight s w e = rw e (sym (value_missing s))

module _ (s w : ℕ) (n : w ≡ 0 → ⊥) where
  positive : 0 < w
  positive = omega arith

  -- one more than the quotient fits wherever the rest is above 0
  next_fits : s < 2 ^ 64 → w - s % w ≤ s % w → s / w + 1 < 2 ^ 64
  next_fits f l = omega (arith, div-add-mod' s w, mod-lt s positive, mul-le-mul_left (s / w) positive)

  pub raised_fits : s < 2 ^ 64 → w - s % w < s % w → s / w + 1 < 2 ^ 64
  raised_fits f l = next_fits f (omega arith)

  pub even_fits : s < 2 ^ 64 → w - s % w ≤ s % w → s / w + s / w % 2 < 2 ^ 64
  even_fits f l = let b = next_fits f l in omega arith

  pub keeps : s % w < w - s % w → s / w ≡ value_of s w
  keeps l = sym (value_present s w positive ∙ below_half s w positive (omega arith))

  pub raises : w - s % w < s % w → s / w + 1 ≡ value_of s w
  raises l = sym (value_present s w positive ∙ above_half s w positive (omega arith))

  pub makes_even : w - s % w ≤ s % w → s % w ≤ w - s % w → s / w + s / w % 2 ≡ value_of s w
  makes_even l g = sym (value_present s w positive ∙ at_half s w positive (omega arith))

-- Of two rows with one value neither reads higher: not of present values, whatever the weights and sums, and not of missing ones.
use Prim.Native.Nat.{ℕ}
use mathlib.Core.Path.{◌≡◌, refl}
use mathlib.Core.Bool.{false}
use Rattle.meanings.specs.declared.Estimate.{Estimate}
use Rattle.meanings.specs.pair.Comparison.{above}

abbrev row : ℕ → ℕ → ℕ → ℕ → Estimate
row right weight sum value = record { left = 0; right = right; weight = weight; sum = sum; value = value }

pub present_values_alike : (above (row 1 3 15 5) (row 2 6 30 5) ≡ false) × (above (row 2 6 30 5) (row 1 3 15 5) ≡ false)
unfolding above
present_values_alike = (refl, refl)

pub missing_values_alike : (above (row 1 0 0 65536) (row 2 0 0 65536) ≡ false) × (above (row 2 0 0 65536) (row 1 0 0 65536) ≡ false)
unfolding above
missing_values_alike = (refl, refl)

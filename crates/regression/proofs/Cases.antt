-- A worked case of what a list of 16 bits is: the greatest number is one of its numbers.
use Prim.Native.Nat.{ℕ, zero, suc, ◌<◌}
use mathlib.Core.List.{List, [], ◌∷◌}
use native.Mathlib.Omega.{arith}
use lib.ListN.{get_or}
use Rattle.regression.specs.Rows.{Of16Bits}

pub greatest_number_fits : Of16Bits (65535 ∷ [])
greatest_number_fits = record { fits = fits }
  where
    fits : (i : ℕ) → get_or (65535 ∷ []) i 0 < 65536
    fits zero = omega arith
    fits (suc i) = omega arith

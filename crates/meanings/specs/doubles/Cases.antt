-- Worked cases of weights and sums as doubles, by the doubles' bit patterns.
use Rattle.std.specs.Prelude.{ℕ, ◌+◌, ◌-◌, ◌^◌, List, [], ◌∷◌, Float}
use Rattle.std.specs.Float.{binary64}
use Rattle.std.specs.Float.Ieee.{to_bits}
use Rattle.meanings.specs.declared.Estimate.{Estimate}
use Rattle.meanings.specs.doubles.Doubles.{Doubles, empty, one, pair, handed, row_handed}

abbrev pub pattern : Float → ℕ
pattern d = to_bits binary64 d

abbrev pub patterns : Doubles → List ℕ
patterns empty = []
patterns (one d) = pattern d ∷ []
patterns (pair high low) = pattern high ∷ pattern low ∷ []

-- a row's weight, one of its two numbers, and the bit patterns handed over for it
pub record NumberCase : Type 0 where
  pub weight : ℕ
  pub number : ℕ
  pub expected : List ℕ

abbrev pub number_result : NumberCase → List ℕ
number_result c = patterns (handed c.weight c.number)

abbrev under : ℕ → ℕ → List ℕ → NumberCase
under w n ds = record { weight = w; number = n; expected = ds }

abbrev pub number_cases : List NumberCase
number_cases =
    -- without weight nothing is handed over, whatever the number
    under 0 0 []
    ∷ under 0 1 []
    ∷ under 0 9 []
    ∷ under 0 (2 ^ 32 - 1) []
    ∷ under 0 (2 ^ 32) []
    ∷ under 0 (2 ^ 53 - 1) []
    ∷ under 0 (2 ^ 53) []
    ∷ under 0 (2 ^ 53 + 1) []
    ∷ under 0 (2 ^ 58 - 2 ^ 42) []
    ∷ under 0 18034464286310400000 []
    ∷ under 0 (2 ^ 64 - 1) []
    -- one double: +0, 1, and so up to the last number below 2^53
    ∷ under 5 0 (0x0000000000000000 ∷ [])
    ∷ under 5 1 (0x3ff0000000000000 ∷ [])
    ∷ under 5 5 (0x4014000000000000 ∷ [])
    ∷ under 5 (2 ^ 32 - 1) (0x41efffffffe00000 ∷ [])
    ∷ under 5 (2 ^ 32) (0x41f0000000000000 ∷ [])
    ∷ under 5 (2 ^ 53 - 1) (0x433fffffffffffff ∷ [])
    -- a pair: itself and 0, itself and 1, the greatest sum of a row, the greatest with the biweight kernel, the greatest number
    ∷ under 5 9007199254740992 (0x4340000000000000 ∷ 0x0000000000000000 ∷ [])
    ∷ under 5 (2 ^ 53 + 1) (0x4340000000000000 ∷ 0x3ff0000000000000 ∷ [])
    ∷ under 5 (2 ^ 53 + 2 ^ 32 - 1) (0x4340000000000000 ∷ 0x41efffffffe00000 ∷ [])
    ∷ under 5 (2 ^ 53 + 2 ^ 32) (0x4340000080000000 ∷ 0x0000000000000000 ∷ [])
    ∷ under 5 (2 ^ 58 - 2 ^ 42) (0x438fffe000000000 ∷ 0x0000000000000000 ∷ [])
    ∷ under 5 18034464286310400000 (0x43ef48e936e00000 ∷ 0x41e7800000000000 ∷ [])
    ∷ under 5 (2 ^ 64 - 1) (0x43efffffffe00000 ∷ 0x41efffffffe00000 ∷ [])
    -- any weight but 0
    ∷ under 1 1 (0x3ff0000000000000 ∷ [])
    ∷ under (2 ^ 64 - 1) 0 (0x0000000000000000 ∷ [])
    ∷ under (2 ^ 64 - 1) (2 ^ 53) (0x4340000000000000 ∷ 0x0000000000000000 ∷ [])
    ∷ []

-- a row, and the bit patterns of its weight and of its sum
pub record RowCase : Type 0 where
  pub row : Estimate
  pub weight_expected : List ℕ
  pub sum_expected : List ℕ

abbrev of_row : ℕ → ℕ → List ℕ → List ℕ → RowCase
of_row w s ws ss = record { row = record { left = 3; right = 4; weight = w; sum = s; value = 6 }; weight_expected = ws; sum_expected = ss }

abbrev pub weight_result : RowCase → List ℕ
weight_result c = patterns (row_handed c.row).weight

abbrev pub sum_result : RowCase → List ℕ
sum_result c = patterns (row_handed c.row).sum

abbrev pub row_cases : List RowCase
row_cases =
    -- C1 and C5
    of_row 200 14000 (0x4069000000000000 ∷ []) (0x40cb580000000000 ∷ [])
    ∷ of_row 0 0 [] []
    -- by the weight and never by the number
    ∷ of_row 5 0 (0x4014000000000000 ∷ []) (0x0000000000000000 ∷ [])
    -- no row of a window: both are empty, and the 9 is lost
    ∷ of_row 0 9 [] []
    -- each number for itself
    ∷ of_row (2 ^ 42) (2 ^ 58 - 2 ^ 42) (0x4290000000000000 ∷ []) (0x438fffe000000000 ∷ 0x0000000000000000 ∷ [])
    ∷ of_row (2 ^ 53) 3 (0x4340000000000000 ∷ 0x0000000000000000 ∷ []) (0x4008000000000000 ∷ [])
    ∷ []

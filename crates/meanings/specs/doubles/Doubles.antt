-- SPECIFICATION, "Sums for the spreadsheet": what a weight or a sum is handed over as, and which number that is.
use Rattle.std.specs.Prelude.{ℕ, ◌+◌, ◌-◌, ◌*◌, ◌%◌, ◌^◌, ◌≤◌, ◌<◌, ◌≡◌, false, T, ltb, eqb, pos, Float}
use Rattle.std.specs.Float.{binary64}
use Rattle.std.specs.Float.Ieee.{of_int, to_unsigned, fits}
use Rattle.std.specs.Float.Ieee.Exact.{HasValue}
use Rattle.meanings.specs.declared.Estimate.{Estimate}
use Rattle.meanings.specs.Lists.{pick}
use Rattle.meanings.specs.declared.doubles.Cell.{Cell}
use Rattle.meanings.specs.declared.doubles.Cell.TheVariants.{Empty, One, Pair}
use Rattle.meanings.specs.declared.doubles.RowCells.{RowCells}

-- no double, one, or a high part and a low part
pub data Doubles : Type 0 where
  empty : Doubles
  one : Float → Doubles
  pair : Float → Float → Doubles

-- what a call tells
abbrev pub cell_doubles : Cell → Doubles
cell_doubles Empty = empty
cell_doubles (One d) = one d
cell_doubles (Pair p) = pair p.high p.low

-- the double that is n; of a number that no double is, the nearest
abbrev pub double : ℕ → Float
double n = of_int binary64 (pos n)

-- numbers below this are one double
abbrev pub one_limit : ℕ
one_limit = 2 ^ 53

-- the low part is the remainder by this, and the high part the rest
abbrev pub low_unit : ℕ
low_unit = 2 ^ 32

abbrev pub low_of : ℕ → ℕ
low_of n = n % low_unit

abbrev pub high_of : ℕ → ℕ
high_of n = n - low_of n

-- the number n, a weight or a sum of a row of this weight
unfoldable pub handed : ℕ → ℕ → Doubles
handed weight n = pick (eqb weight 0) empty (pick (ltb n one_limit) (one (double n)) (pair (double (high_of n)) (double (low_of n))))

-- both numbers of a row
pub record RowDoubles : Type 0 where
  pub weight : Doubles
  pub sum : Doubles

abbrev pub row_doubles : RowCells → RowDoubles
row_doubles c = record { weight = cell_doubles c.weight; sum = cell_doubles c.sum }

abbrev pub row_handed : Estimate → RowDoubles
row_handed e = record { weight = handed e.weight e.weight; sum = handed e.weight e.sum }

-- Having back.

-- the double is exactly the whole number n: finite, not below +0, without a fraction
abbrev pub Exactly : Float → ℕ → Type 0
Exactly d n = HasValue d false n 1

-- the number had back: 0 of no double, of one double its number, of a pair both numbers added as whole numbers
abbrev pub HadBack : Doubles → ℕ → Type 0
HadBack empty n = n ≡ 0
HadBack (one d) n = Exactly d n
HadBack (pair high low) n = (a : ℕ) × (b : ℕ) × (Exactly high a × Exactly low b × (n ≡ a + b))

-- the same as a function, by the cast that drops a fraction: of doubles that are whole numbers it drops nothing
abbrev pub number_of : Doubles → ℕ
number_of empty = 0
number_of (one d) = to_unsigned 64 d
number_of (pair high low) = to_unsigned 64 high + to_unsigned 64 low

-- the high part is so many times 2^32, and the low part is below 2^32
pub record Parts (high low : Float) (n : ℕ) : Type 0 where
  pub units : ℕ
  pub rest : ℕ
  pub high_is : Exactly high (units * low_unit)
  pub low_is : Exactly low rest
  pub low_below : rest < low_unit
  pub together : n ≡ units * low_unit + rest

-- A second reading, which names no way to make a double: what is handed over for n is a double of the format with that value, or nothing.
abbrev pub Is : Float → ℕ → Type 0
Is d n = T (fits binary64 d) × Exactly d n

abbrev pub HandedOver : ℕ → ℕ → Doubles → Type 0
HandedOver weight n empty = weight ≡ 0
HandedOver weight n (one d) = ¬ (weight ≡ 0) × (n < one_limit) × Is d n
HandedOver weight n (pair high low) =
    ¬ (weight ≡ 0) × (one_limit ≤ n) × T (fits binary64 high) × T (fits binary64 low) × Parts high low n

-- a row whose numbers have 64 bits, and whose sum is 0 where its weight is
pub record Tellable (e : Estimate) : Type 0 where
  pub weight_fits : e.weight < 2 ^ 64
  pub sum_fits : e.sum < 2 ^ 64
  pub no_sum_alone : e.weight ≡ 0 → e.sum ≡ 0

-- Worked cases of the sweep over ranges.
use Rattle.std.specs.Prelude.{ℕ, List, [], ◌∷◌, replicate}
use Rattle.meanings.specs.Limits.{full}
use Rattle.meanings.specs.Reports.{Answer, given, refused}
use Rattle.meanings.specs.ranges.Ranges.{smooth_ranges, smooth_ranges_rows}

-- what a call gives: its answer, and the rows at exit
pub record Outcome : Type 0 where
  pub answer : Answer ℕ
  pub rows : List ℕ

-- readings, marks with their half widths and a list for the rows, and what is given
pub record RangeCase : Type 0 where
  pub minutes : List ℕ
  pub lows : List ℕ
  pub highs : List ℕ
  pub points : List ℕ
  pub bandwidths : List ℕ
  pub rows : List ℕ
  pub expected : Outcome

abbrev pub range_result : RangeCase → Outcome
range_result c = record {
  answer = smooth_ranges full c.minutes c.lows c.highs c.points c.bandwidths c.rows;
  rows = smooth_ranges_rows full c.minutes c.lows c.highs c.points c.bandwidths c.rows;
}

-- a list of so many sevens, which no row holds
abbrev sevens : ℕ → List ℕ
sevens n = replicate n 7

-- accepted with these passes and rows
abbrev swept : List ℕ → List ℕ → List ℕ → List ℕ → List ℕ → ℕ → ℕ → List ℕ → RangeCase
swept ts ls us zs hs m n rs = record {
  minutes = ts;
  lows = ls;
  highs = us;
  points = zs;
  bandwidths = hs;
  rows = sevens m;
  expected = record { answer = given n; rows = rs };
}

-- refused with this report at this place, rows as they were
abbrev unswept : List ℕ → List ℕ → List ℕ → List ℕ → List ℕ → ℕ → ℕ → ℕ → RangeCase
unswept ts ls us zs hs m n p = record {
  minutes = ts;
  lows = ls;
  highs = us;
  points = zs;
  bandwidths = hs;
  rows = sevens m;
  expected = record { answer = refused (record { number = n; place = p }); rows = sevens m };
}

-- the readings of SPECIFICATION 7.9, two of them known from 0 up
abbrev minutes : List ℕ
minutes = 10 ∷ 20 ∷ 20 ∷ 35 ∷ []

abbrev lows : List ℕ
lows = 40 ∷ 0 ∷ 80 ∷ 0 ∷ []

abbrev highs : List ℕ
highs = 40 ∷ 60 ∷ 80 ∷ 20 ∷ []

abbrev points : List ℕ
points = 20 ∷ 25 ∷ 60 ∷ []

abbrev widths : List ℕ
widths = 10 ∷ 15 ∷ 20 ∷ []

abbrev pub range_cases : List RangeCase
range_cases =
    swept minutes lows highs points widths 21 8
    (0 ∷ 3 ∷ 200 ∷ 8000 ∷ 14000 ∷ 40 ∷ 70
    ∷ 0 ∷ 4 ∷ 525 ∷ 16000 ∷ 30500 ∷ 30 ∷ 58
    ∷ 4 ∷ 4 ∷ 0 ∷ 0 ∷ 0 ∷ 65536 ∷ 65536 ∷ [])
    -- one value each: sum and value stand twice
    ∷ swept minutes highs highs points widths 21 8
    (0 ∷ 3 ∷ 200 ∷ 14000 ∷ 14000 ∷ 70 ∷ 70
    ∷ 0 ∷ 4 ∷ 525 ∷ 30500 ∷ 30500 ∷ 58 ∷ 58
    ∷ 4 ∷ 4 ∷ 0 ∷ 0 ∷ 0 ∷ 65536 ∷ 65536 ∷ [])
    -- the ends of a range are rounded by themselves: halves of 1 and of 3 are 0 and 2, where the middle would be 1
    ∷ swept (0 ∷ 0 ∷ []) (0 ∷ 1 ∷ []) (1 ∷ 2 ∷ []) (0 ∷ []) (1 ∷ []) 7 2 (0 ∷ 2 ∷ 2 ∷ 1 ∷ 3 ∷ 0 ∷ 2 ∷ [])
    -- no readings
    ∷ swept [] [] [] (5 ∷ []) (1 ∷ []) 7 0 (0 ∷ 0 ∷ 0 ∷ 0 ∷ 0 ∷ 65536 ∷ 65536 ∷ [])
    -- 8: each list of readings, marks with half widths, seven numbers a mark and no other number
    ∷ unswept minutes lows (40 ∷ 60 ∷ 80 ∷ []) points widths 21 8 0
    ∷ unswept minutes (40 ∷ 0 ∷ 80 ∷ []) highs points widths 21 8 0
    ∷ unswept (10 ∷ 20 ∷ 20 ∷ []) lows highs points widths 21 8 0
    ∷ unswept minutes lows highs points (10 ∷ 15 ∷ []) 21 8 0
    ∷ unswept minutes lows highs points widths 15 8 0
    ∷ unswept minutes lows highs points widths 22 8 0
    -- 6, 7
    ∷ unswept (replicate 1025 0) (replicate 1025 0) (replicate 1025 0) (5 ∷ []) (1 ∷ []) 7 6 0
    ∷ unswept minutes lows highs [] [] 0 7 0
    -- crossed at 1 and early at 3: 4 first
    ∷ unswept (10 ∷ 20 ∷ 20 ∷ 15 ∷ []) (40 ∷ 61 ∷ 80 ∷ 0 ∷ []) highs points widths 21 4 3
    -- 15 at the first crossed range, before an early mark
    ∷ unswept minutes (40 ∷ 61 ∷ 81 ∷ 0 ∷ []) highs points widths 21 15 1
    ∷ unswept minutes (40 ∷ 60 ∷ 80 ∷ 21 ∷ []) highs (25 ∷ 20 ∷ 60 ∷ []) widths 21 15 3
    -- 5, 9, 10
    ∷ unswept minutes lows highs (25 ∷ 20 ∷ 60 ∷ []) (0 ∷ 15 ∷ 20 ∷ []) 21 5 1
    ∷ unswept minutes lows highs points (10 ∷ 0 ∷ 1 ∷ []) 21 9 1
    ∷ unswept minutes lows highs points (10 ∷ 4 ∷ 20 ∷ []) 21 10 1
    ∷ []

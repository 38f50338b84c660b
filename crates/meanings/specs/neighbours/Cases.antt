-- Worked cases of half widths by neighbours.
use Rattle.std.specs.Prelude.{ℕ, List, [], ◌∷◌, replicate}
use Rattle.meanings.specs.Limits.{full}
use Rattle.meanings.specs.Reports.{Answer, given, refused}
use Rattle.meanings.specs.neighbours.Neighbours.{neighbours, bandwidths_then, rows_then}

-- answer, half widths and rows at exit
pub record Outcome : Type 0 where
  pub answer : Answer Unit
  pub bandwidths : List ℕ
  pub rows : List ℕ

-- readings, marks, K and both lists at entry, and what comes of them
pub record NeighboursCase : Type 0 where
  pub minutes : List ℕ
  pub values : List ℕ
  pub points : List ℕ
  pub k : ℕ
  pub bandwidths : List ℕ
  pub rows : List ℕ
  pub expected : Outcome

abbrev pub neighbours_result : NeighboursCase → Outcome
neighbours_result c = record {
  answer = neighbours full c.minutes c.values c.points c.k c.bandwidths c.rows;
  bandwidths = bandwidths_then full c.minutes c.values c.points c.k c.bandwidths c.rows;
  rows = rows_then full c.minutes c.values c.points c.k c.bandwidths c.rows;
}

abbrev asked : List ℕ → List ℕ → List ℕ → ℕ → List ℕ → List ℕ → Outcome → NeighboursCase
asked ts vs zs k hs rs o = record {
  minutes = ts;
  values = vs;
  points = zs;
  k = k;
  bandwidths = hs;
  rows = rs;
  expected = o;
}

-- both lists written, or a report with both as they were
abbrev pub filled : List ℕ → List ℕ → Outcome
filled hs rs = record { answer = given tt; bandwidths = hs; rows = rs }

abbrev pub is_report : ℕ → ℕ → List ℕ → List ℕ → Outcome
is_report n p hs rs = record { answer = refused (record { number = n; place = p }); bandwidths = hs; rows = rs }

-- lists at entry hold nines and sevens
abbrev nines : ℕ → List ℕ
nines n = replicate n 9

abbrev sevens : ℕ → List ℕ
sevens n = replicate n 7

-- refused, both lists with so many numbers
abbrev refuses : List ℕ → List ℕ → List ℕ → ℕ → ℕ → ℕ → ℕ → ℕ → NeighboursCase
refuses ts vs zs k h r n p = asked ts vs zs k (nines h) (sevens r) (is_report n p (nines h) (sevens r))

-- the readings of SPECIFICATION 7.9
abbrev minutes : List ℕ
minutes = 10 ∷ 20 ∷ 20 ∷ 35 ∷ []

abbrev values : List ℕ
values = 40 ∷ 60 ∷ 80 ∷ 20 ∷ []

abbrev sheet : ℕ → List ℕ → List ℕ → NeighboursCase
sheet k hs rs = asked minutes values (20 ∷ 25 ∷ 60 ∷ []) k (nines 3) (sevens 15) (filled hs rs)

abbrev pub neighbours_cases : List NeighboursCase
neighbours_cases =
    sheet 1 (1 ∷ 6 ∷ 26 ∷ []) (1 ∷ 3 ∷ 2 ∷ 140 ∷ 70 ∷ 1 ∷ 3 ∷ 22 ∷ 1540 ∷ 70 ∷ 3 ∷ 4 ∷ 51 ∷ 1020 ∷ 20 ∷ [])
    ∷ sheet 2 (1 ∷ 6 ∷ 41 ∷ []) (1 ∷ 3 ∷ 2 ∷ 140 ∷ 70 ∷ 1 ∷ 3 ∷ 22 ∷ 1540 ∷ 70 ∷ 1 ∷ 4 ∷ 1218 ∷ 32460 ∷ 27 ∷ [])
    ∷ sheet 3 (11 ∷ 11 ∷ 41 ∷ []) (0 ∷ 3 ∷ 263 ∷ 17780 ∷ 68 ∷ 1 ∷ 4 ∷ 213 ∷ 13860 ∷ 65 ∷ 1 ∷ 4 ∷ 1218 ∷ 32460 ∷ 27 ∷ [])
    ∷ sheet 4 (16 ∷ 16 ∷ 51 ∷ []) (0 ∷ 4 ∷ 699 ∷ 42700 ∷ 61 ∷ 0 ∷ 4 ∷ 649 ∷ 36700 ∷ 57 ∷ 0 ∷ 4 ∷ 4079 ∷ 183700 ∷ 45 ∷ [])
    -- 0, and one more than there are
    ∷ refuses minutes values (20 ∷ 25 ∷ 60 ∷ []) 0 3 15 14 0
    ∷ refuses minutes values (20 ∷ 25 ∷ 60 ∷ []) 5 3 15 14 0
    -- equal minutes far from the mark
    ∷ asked (0 ∷ 0 ∷ 0 ∷ 10 ∷ []) (1 ∷ 2 ∷ 3 ∷ 4 ∷ []) (10 ∷ []) 1 (nines 1) (sevens 5) (filled (1 ∷ []) (3 ∷ 4 ∷ 1 ∷ 4 ∷ 4 ∷ []))
    -- the widest, from either end of the clock
    ∷ asked (65535 ∷ []) (5 ∷ []) (0 ∷ []) 1 (nines 1) (sevens 5) (filled (65536 ∷ []) (0 ∷ 1 ∷ 131071 ∷ 655355 ∷ 5 ∷ []))
    ∷ asked (0 ∷ []) (5 ∷ []) (65535 ∷ []) 1 (nines 1) (sevens 5) (filled (65536 ∷ []) (0 ∷ 1 ∷ 131071 ∷ 655355 ∷ 5 ∷ []))
    -- no readings: every K
    ∷ refuses [] [] (5 ∷ []) 0 1 5 14 0
    ∷ refuses [] [] (5 ∷ []) 1 1 5 14 0
    -- 8, 6, 7, 4, 5, 14, each with the faults of those behind it
    ∷ refuses (2 ∷ 1 ∷ []) (1 ∷ []) [] 0 0 0 8 0
    ∷ refuses (2 ∷ 1 ∷ []) (1 ∷ 1 ∷ []) (1 ∷ 0 ∷ []) 0 1 10 8 0
    ∷ refuses (2 ∷ 1 ∷ []) (1 ∷ 1 ∷ []) (1 ∷ 0 ∷ []) 0 2 9 8 0
    ∷ refuses (1 ∷ replicate 1024 0) (replicate 1025 0) [] 0 0 0 6 0
    ∷ refuses (2 ∷ 1 ∷ []) (1 ∷ 1 ∷ []) (replicate 513 0) 0 513 2565 6 0
    ∷ refuses (2 ∷ 1 ∷ []) (1 ∷ 1 ∷ []) [] 0 0 0 7 0
    ∷ refuses (1 ∷ 2 ∷ 1 ∷ []) (1 ∷ 1 ∷ 1 ∷ []) (1 ∷ 0 ∷ []) 0 2 10 4 2
    ∷ refuses (1 ∷ 2 ∷ []) (1 ∷ 1 ∷ []) (7 ∷ 8 ∷ 7 ∷ []) 0 3 15 5 2
    ∷ refuses (1 ∷ 2 ∷ []) (1 ∷ 1 ∷ []) (7 ∷ 8 ∷ 7 ∷ []) 3 3 15 5 2
    ∷ refuses (1 ∷ 2 ∷ []) (1 ∷ 1 ∷ []) (7 ∷ 8 ∷ 8 ∷ []) 3 3 15 14 0
    ∷ []

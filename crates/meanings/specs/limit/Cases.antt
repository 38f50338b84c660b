-- Worked cases of the questions with a limit.
use Rattle.std.specs.Prelude.{ℕ, List, [], ◌∷◌, replicate, None, Some}
use Rattle.meanings.specs.declared.limit.Located.{Located}
use Rattle.meanings.specs.Limits.{full}
use Rattle.meanings.specs.Reports.{Answer, given, refused}
use Rattle.meanings.specs.limit.Crossing.{first_at_most}

-- readings, marks with their half widths and a limit, and what is answered
pub record CrossingCase : Type 0 where
  pub minutes : List ℕ
  pub values : List ℕ
  pub points : List ℕ
  pub bandwidths : List ℕ
  pub limit : ℕ
  pub expected : Answer Located

abbrev pub crossing_result : CrossingCase → Answer Located
crossing_result c = first_at_most full c.minutes c.values c.points c.bandwidths c.limit

abbrev asked : List ℕ → List ℕ → List ℕ → List ℕ → ℕ → Answer Located → CrossingCase
asked ts vs zs hs limit a = record { minutes = ts; values = vs; points = zs; bandwidths = hs; limit = limit; expected = a }

-- a position with its passes, none with those of all marks, a report with its place
abbrev pub at : ℕ → ℕ → Answer Located
at k n = given (record { position = Some k; passes = n })

abbrev pub nowhere : ℕ → Answer Located
nowhere n = given (record { position = None; passes = n })

abbrev pub is_report : ℕ → ℕ → Answer Located
is_report n p = refused (record { number = n; place = p })

-- the sheet of SPECIFICATION 7.9, whose values are 70, 58 and missing
abbrev sheet : ℕ → Answer Located → CrossingCase
sheet = asked (10 ∷ 20 ∷ 20 ∷ 35 ∷ []) (40 ∷ 60 ∷ 80 ∷ 20 ∷ []) (20 ∷ 25 ∷ 60 ∷ []) (10 ∷ 15 ∷ 20 ∷ [])

-- one reading of value 1, with which mark 0 would answer
abbrev low : List ℕ → List ℕ → Answer Located → CrossingCase
low zs hs = asked (7 ∷ []) (1 ∷ []) zs hs 65535

abbrev pub crossing_cases : List CrossingCase
crossing_cases =
    sheet 57 (nowhere 8)
    ∷ sheet 58 (at 1 4)
    ∷ sheet 69 (at 1 4)
    ∷ sheet 70 (at 0 3)
    ∷ sheet 65535 (at 0 3)
    -- C9, C5, C4: no value is present
    ∷ asked (50 ∷ []) (9 ∷ []) (0 ∷ 100 ∷ []) (1 ∷ 1 ∷ []) 65535 (nowhere 2)
    ∷ asked (10 ∷ []) (40 ∷ []) (20 ∷ []) (10 ∷ []) 65535 (nowhere 1)
    ∷ asked [] [] (5 ∷ []) (1 ∷ []) 65535 (nowhere 0)
    -- by the weight and not by its number 65,536, which no limit of 16 bits reaches
    ∷ asked (50 ∷ []) (9 ∷ []) (0 ∷ 100 ∷ []) (1 ∷ 1 ∷ []) 65536 (nowhere 2)
    -- a missing value in front of one of 0
    ∷ asked (50 ∷ []) (0 ∷ []) (0 ∷ 50 ∷ []) (1 ∷ 1 ∷ []) 0 (at 1 1)
    -- of several marks the first, though the curve rises behind it and falls again
    ∷ asked (0 ∷ 9 ∷ 18 ∷ 27 ∷ []) (9 ∷ 5 ∷ 7 ∷ 4 ∷ []) (0 ∷ 9 ∷ 18 ∷ 27 ∷ []) (1 ∷ 1 ∷ 1 ∷ 1 ∷ []) 5 (at 1 3)
    -- C7: a half goes to the even neighbour
    ∷ asked (0 ∷ 0 ∷ []) (2 ∷ 3 ∷ []) (0 ∷ []) (1 ∷ []) 2 (at 0 2)
    -- 8, 6, 7, 4, 5, 9, 10, each with the faults of those behind it
    ∷ asked (2 ∷ 1 ∷ []) (1 ∷ []) [] [] 65535 (is_report 8 0)
    ∷ asked (2 ∷ 1 ∷ []) (1 ∷ 1 ∷ []) (1 ∷ 0 ∷ []) (0 ∷ []) 65535 (is_report 8 0)
    ∷ asked (1 ∷ replicate 1024 0) (replicate 1025 0) [] [] 65535 (is_report 6 0)
    ∷ asked (2 ∷ 1 ∷ []) (1 ∷ 1 ∷ []) (replicate 513 0) (replicate 513 0) 65535 (is_report 6 0)
    ∷ asked (2 ∷ 1 ∷ []) (1 ∷ 1 ∷ []) [] [] 65535 (is_report 7 0)
    ∷ asked (1 ∷ 2 ∷ 1 ∷ []) (1 ∷ 1 ∷ 1 ∷ []) (1 ∷ 0 ∷ []) (0 ∷ 1 ∷ []) 65535 (is_report 4 2)
    ∷ low (7 ∷ 8 ∷ 7 ∷ []) (0 ∷ 9 ∷ 9 ∷ []) (is_report 5 2)
    -- though mark 0 would answer
    ∷ low (7 ∷ 7 ∷ 7 ∷ []) (9 ∷ 8 ∷ 0 ∷ []) (is_report 9 2)
    ∷ low (7 ∷ 7 ∷ 7 ∷ []) (9 ∷ 9 ∷ 65537 ∷ []) (is_report 9 2)
    ∷ low (7 ∷ 7 ∷ 7 ∷ []) (9 ∷ 9 ∷ 8 ∷ []) (is_report 10 2)
    ∷ low (7 ∷ 7 ∷ 7 ∷ []) (9 ∷ 9 ∷ 9 ∷ []) (at 0 1)
    ∷ []

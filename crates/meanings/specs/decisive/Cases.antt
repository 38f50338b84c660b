-- Worked cases of the question which reading decides.
use Rattle.std.specs.Prelude.{ℕ, List, [], ◌∷◌, replicate, Option, None, Some}
use Rattle.meanings.specs.Limits.{full}
use Rattle.meanings.specs.Reports.{Answer, given, refused}
use Rattle.meanings.specs.decisive.Decisive.{decisive}

-- readings, a mark with its half width and a limit, and what is answered
pub record DecisiveCase : Type 0 where
  pub minutes : List ℕ
  pub values : List ℕ
  pub point : ℕ
  pub bandwidth : ℕ
  pub limit : ℕ
  pub expected : Answer (Option ℕ)

abbrev pub decisive_result : DecisiveCase → Answer (Option ℕ)
decisive_result c = decisive full c.minutes c.values c.point c.bandwidth c.limit

abbrev asked : List ℕ → List ℕ → ℕ → ℕ → ℕ → Answer (Option ℕ) → DecisiveCase
asked ts vs z h limit a = record { minutes = ts; values = vs; point = z; bandwidth = h; limit = limit; expected = a }

abbrev pub at : ℕ → Answer (Option ℕ)
at i = given (Some i)

abbrev pub nobody : Answer (Option ℕ)
nobody = given None

abbrev pub is_report : ℕ → ℕ → Answer (Option ℕ)
is_report n p = refused (record { number = n; place = p })

-- the sheet of SPECIFICATION 7.9
abbrev sheet : ℕ → ℕ → ℕ → Answer (Option ℕ) → DecisiveCase
sheet = asked (10 ∷ 20 ∷ 20 ∷ 35 ∷ []) (40 ∷ 60 ∷ 80 ∷ 20 ∷ [])

abbrev pub decisive_cases : List DecisiveCase
decisive_cases =
    -- the value is 70: without 80 it is 60, without 60 it is 80
    sheet 20 10 59 nobody
    ∷ sheet 20 10 60 (at 2)
    ∷ sheet 20 10 69 (at 2)
    ∷ sheet 20 10 70 (at 1)
    ∷ sheet 20 10 79 (at 1)
    ∷ sheet 20 10 80 nobody
    ∷ sheet 25 15 65 (at 3)
    -- one reading: without it there is no value
    ∷ asked (10 ∷ []) (40 ∷ []) 10 5 40 (at 0)
    ∷ asked (10 ∷ []) (40 ∷ []) 10 5 39 nobody
    -- on the edge it has no weight, and where no value is present none decides
    ∷ asked (10 ∷ []) (40 ∷ []) 20 10 65535 nobody
    ∷ asked [] [] 20 10 65535 nobody
    -- two alike: neither decides alone
    ∷ asked (10 ∷ 10 ∷ []) (40 ∷ 40 ∷ []) 10 5 40 nobody
    -- the rounded value decides, a half to the even neighbour: 5 / 2 is 2, and 8 / 3 is 3 where 6 / 2 is 3 and 5 / 2 is 2
    ∷ asked (0 ∷ 0 ∷ []) (2 ∷ 3 ∷ []) 0 1 2 (at 0)
    ∷ asked (0 ∷ 0 ∷ 0 ∷ []) (2 ∷ 3 ∷ 3 ∷ []) 0 1 2 (at 1)
    -- a position of the whole list: two readings lie before the window
    ∷ asked (0 ∷ 1 ∷ 50 ∷ []) (9 ∷ 9 ∷ 4 ∷ []) 50 5 4 (at 2)
    -- the last of the run
    ∷ asked (0 ∷ 1 ∷ 2 ∷ []) (9 ∷ 9 ∷ 0 ∷ []) 1 9 6 (at 2)
    -- a reading on either edge is of the run and never decides
    ∷ asked (5 ∷ 10 ∷ 15 ∷ []) (9 ∷ 4 ∷ 9 ∷ []) 10 5 4 (at 1)
    -- the lowest of those that decide: neither the last, nor the highest, nor the heaviest of them
    ∷ asked (3 ∷ 4 ∷ 4 ∷ []) (5 ∷ 6 ∷ 0 ∷ []) 4 9 3 (at 0)
    -- the lowest of two that decide, and a half that is not cut off
    ∷ asked (4 ∷ 4 ∷ 4 ∷ []) (6 ∷ 6 ∷ 0 ∷ []) 4 2 3 (at 0)
    ∷ asked (4 ∷ 4 ∷ 4 ∷ []) (5 ∷ 6 ∷ 1 ∷ []) 4 2 4 (at 2)
    ∷ asked (4 ∷ 4 ∷ 4 ∷ []) (5 ∷ 6 ∷ 1 ∷ []) 4 2 3 (at 1)
    -- every limit is fit
    ∷ asked (4 ∷ 4 ∷ []) (0 ∷ 65535 ∷ []) 4 1 0 (at 1)
    ∷ asked (4 ∷ []) (65535 ∷ []) 4 1 65535 (at 0)
    -- 8, 6, 4, 9
    ∷ asked (2 ∷ 1 ∷ []) (1 ∷ []) 0 0 0 (is_report 8 0)
    ∷ asked (1 ∷ replicate 1024 0) (replicate 1025 0) 0 0 0 (is_report 6 0)
    ∷ asked (1 ∷ 2 ∷ 1 ∷ []) (1 ∷ 1 ∷ 1 ∷ []) 0 0 0 (is_report 4 2)
    ∷ asked (1 ∷ 1 ∷ []) (1 ∷ 1 ∷ []) 0 0 0 (is_report 9 0)
    ∷ asked (1 ∷ 1 ∷ []) (1 ∷ 1 ∷ []) 0 65537 0 (is_report 9 0)
    ∷ []

-- Cases of the preview: at its limits and one over, where report 6 meets the reports around it, and the rows of SPECIFICATION 7.9.
use Rattle.std.specs.Prelude.{ℕ, zero, suc, List, [], ◌∷◌, replicate}
use Rattle.meanings.specs.Limits.{preview}
use Rattle.meanings.specs.Reports.{given}
use Rattle.meanings.specs.Cases.{Case, Call, ◌⇒◌, smooth_over, smooth_gives, is_report}

abbrev pub sevens : ℕ → List ℕ
sevens n = replicate n 7

-- the rows of n windows before all readings
abbrev pub empty_rows : ℕ → List ℕ
empty_rows zero = []
empty_rows (suc n) = 0 ∷ 0 ∷ 0 ∷ 0 ∷ 65536 ∷ empty_rows n

-- n readings at minute 7, and m marks 0 with half width 1
abbrev pub drawn : ℕ → ℕ → List ℕ → Call
drawn n m rs = smooth_over preview (sevens n) (sevens n) (replicate m 0) (replicate m 1) rs

abbrev pub preview_cases : List Case
preview_cases =
    -- 64 marks and 256 readings are accepted, one more of either is 6
    drawn 0 64 (sevens 320) ⇒ smooth_gives (given 0) (empty_rows 64)
    ∷ drawn 0 65 (sevens 325) ⇒ smooth_gives (is_report 6 0) (sevens 325)
    ∷ drawn 256 1 (sevens 5) ⇒ smooth_gives (given 0) (empty_rows 1)
    ∷ drawn 257 1 (sevens 5) ⇒ smooth_gives (is_report 6 0) (sevens 5)
    -- more readings than marks may be
    ∷ drawn 65 2 (sevens 10) ⇒ smooth_gives (given 0) (empty_rows 2)
    -- 8 before 6
    ∷ smooth_over preview (sevens 257) (sevens 256) (0 ∷ []) (1 ∷ []) (sevens 5) ⇒ smooth_gives (is_report 8 0) (sevens 5)
    ∷ smooth_over preview [] [] (sevens 65) (sevens 64) (sevens 325) ⇒ smooth_gives (is_report 8 0) (sevens 325)
    ∷ drawn 257 65 (sevens 324) ⇒ smooth_gives (is_report 8 0) (sevens 324)
    -- 6 before 7, and before a fault of order, of a half width and of an edge
    ∷ drawn 257 0 [] ⇒ smooth_gives (is_report 6 0) []
    ∷ smooth_over preview (8 ∷ sevens 256) (sevens 257) (1 ∷ 0 ∷ []) (0 ∷ 9 ∷ []) (sevens 10) ⇒ smooth_gives (is_report 6 0) (sevens 10)
    -- the others where they are in the sweep
    ∷ drawn 3 0 [] ⇒ smooth_gives (is_report 7 0) []
    ∷ smooth_over preview (1 ∷ 2 ∷ 1 ∷ []) (sevens 3) (1 ∷ 0 ∷ []) (1 ∷ 1 ∷ []) (sevens 10) ⇒ smooth_gives (is_report 4 2) (sevens 10)
    ∷ smooth_over preview [] [] (1 ∷ 0 ∷ []) (0 ∷ 1 ∷ []) (sevens 10) ⇒ smooth_gives (is_report 5 1) (sevens 10)
    ∷ smooth_over preview [] [] (0 ∷ 0 ∷ []) (3 ∷ 0 ∷ []) (sevens 10) ⇒ smooth_gives (is_report 9 1) (sevens 10)
    ∷ smooth_over preview [] [] (5 ∷ 6 ∷ []) (9 ∷ 7 ∷ []) (sevens 10) ⇒ smooth_gives (is_report 10 1) (sevens 10)
    ∷ smooth_over preview (10 ∷ 20 ∷ 20 ∷ 35 ∷ []) (40 ∷ 60 ∷ 80 ∷ 20 ∷ []) (20 ∷ 25 ∷ 60 ∷ []) (10 ∷ 15 ∷ 20 ∷ []) (sevens 15)
    ⇒ smooth_gives (given 8) (0 ∷ 3 ∷ 200 ∷ 14000 ∷ 70 ∷ 0 ∷ 4 ∷ 525 ∷ 30500 ∷ 58 ∷ 4 ∷ 4 ∷ 0 ∷ 0 ∷ 65536 ∷ [])
    ∷ []

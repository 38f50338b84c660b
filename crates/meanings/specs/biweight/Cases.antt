-- Worked cases of the biweight row.
use Rattle.std.specs.Prelude.{ℕ, ◌≡◌, List, [], ◌∷◌, ◌++◌, map, replicate}
use Rattle.meanings.specs.declared.Estimate.{Estimate}
use Rattle.meanings.specs.Limits.{full}
use Rattle.meanings.specs.Reports.{Answer, given, refused}
use Rattle.meanings.specs.Estimate.{missing}
use Rattle.meanings.specs.biweight.Biweight.{biweight}

-- readings and a mark, and what is answered
pub record BiweightCase : Type 0 where
  pub minutes : List ℕ
  pub values : List ℕ
  pub point : ℕ
  pub expected : Answer Estimate

abbrev pub biweight_result : BiweightCase → Answer Estimate
biweight_result c = biweight full c.minutes c.values c.point

-- each case gives what is expected
abbrev pub AllHold : List BiweightCase → Type 0
AllHold cs = map (λ (c : BiweightCase). biweight_result c) cs ≡ map (λ (c : BiweightCase). c.expected) cs

abbrev asked : List ℕ → List ℕ → ℕ → Answer Estimate → BiweightCase
asked ts vs z a = record { minutes = ts; values = vs; point = z; expected = a }

-- left, right, weight, sum, value
abbrev pub row : ℕ → ℕ → ℕ → ℕ → ℕ → Answer Estimate
row l r w s v = given (record { left = l; right = r; weight = w; sum = s; value = v })

abbrev pub is_report : ℕ → ℕ → Answer Estimate
is_report n p = refused (record { number = n; place = p })

-- one reading of value 7 at this minute, for mark 1,000
abbrev one : ℕ → Answer Estimate → BiweightCase
one t = asked (t ∷ []) (7 ∷ []) 1000

abbrev pub biweight_cases : List BiweightCase
biweight_cases =
    -- at the distances 0, 1, 719, 720 and 721, behind the mark and before it
    one 1000 (row 0 1 268738560000 1881169920000 7)
    ∷ one 1001 (row 0 1 268737523201 1881162662407 7)
    ∷ one 999 (row 0 1 268737523201 1881162662407 7)
    ∷ one 1719 (row 0 1 2070721 14495047 7)
    ∷ one 281 (row 0 1 2070721 14495047 7)
    ∷ one 1720 (row 0 1 0 0 missing)
    ∷ one 280 (row 0 1 0 0 missing)
    ∷ one 1721 (row 0 0 0 0 missing)
    ∷ one 279 (row 1 1 0 0 missing)
    -- marks whose window begins below 0
    ∷ asked (720 ∷ []) (7 ∷ []) 0 (row 0 1 0 0 missing)
    ∷ asked (0 ∷ []) (9 ∷ []) 719 (row 0 1 2070721 18636489 9)
    ∷ asked (0 ∷ 719 ∷ 720 ∷ 721 ∷ []) (9 ∷ 7 ∷ 5 ∷ 3 ∷ []) 0 (row 0 3 268740630721 2418661535047 9)
    ∷ asked [] [] 5 (row 0 0 0 0 missing)
    -- marks whose window ends at 65,535 or behind it, which 16 bits do not hold
    ∷ asked (65535 ∷ []) (7 ∷ []) 65535 (row 0 1 268738560000 1881169920000 7)
    ∷ asked (65535 ∷ []) (7 ∷ []) 64816 (row 0 1 2070721 14495047 7)
    ∷ asked (65535 ∷ []) (7 ∷ []) 64815 (row 0 1 0 0 missing)
    -- the readings of SPECIFICATION 7.9: four within the window, and a mark behind them all
    ∷ asked (10 ∷ 20 ∷ 20 ∷ 35 ∷ []) (40 ∷ 60 ∷ 80 ∷ 20 ∷ []) 20 (row 0 4 1074617340625 53738900612500 50)
    ∷ asked (10 ∷ 20 ∷ 20 ∷ 35 ∷ []) (40 ∷ 60 ∷ 80 ∷ 20 ∷ []) 756 (row 4 4 0 0 missing)
    ∷ asked (10 ∷ 20 ∷ 20 ∷ 35 ∷ []) (40 ∷ 60 ∷ 80 ∷ 20 ∷ []) 755 (row 3 4 0 0 missing)
    -- a half to the even neighbour, over an odd number and over an even one
    ∷ asked (9 ∷ 9 ∷ []) (2 ∷ 3 ∷ []) 9 (row 0 2 537477120000 1343692800000 2)
    ∷ asked (9 ∷ 9 ∷ []) (1 ∷ 2 ∷ []) 9 (row 0 2 537477120000 806215680000 2)
    ∷ asked (9 ∷ 9 ∷ []) (65534 ∷ 65535 ∷ []) 9 (row 0 2 537477120000 35223294320640000 65534)
    -- a half of as many readings as there may be: twice its sum does not fit in 64 bits
    ∷ asked (replicate 1024 9) (replicate 512 65534 ++ replicate 512 65535) 9 (row 0 1024 275188285440000 18034326692167680000 65534)
    -- a hair beside the half: the nearer reading weighs more
    ∷ asked (9 ∷ 10 ∷ []) (2 ∷ 3 ∷ []) 10 (row 0 2 537476083201 1343690726402 3)
    ∷ asked (9 ∷ 10 ∷ []) (3 ∷ 2 ∷ []) 10 (row 0 2 537476083201 1343689689603 2)
    -- 8, 6, 4, each with the faults of those behind it; 1,025 readings are one too many
    ∷ asked (2 ∷ 1 ∷ []) (1 ∷ []) 0 (is_report 8 0)
    ∷ asked [] (1 ∷ []) 0 (is_report 8 0)
    ∷ asked (replicate 1025 0) (replicate 1026 0) 0 (is_report 8 0)
    ∷ asked (1 ∷ replicate 1024 0) (replicate 1025 0) 0 (is_report 6 0)
    ∷ asked (2 ∷ 1 ∷ []) (1 ∷ 1 ∷ []) 0 (is_report 4 1)
    ∷ asked (1 ∷ 2 ∷ 1 ∷ 0 ∷ []) (1 ∷ 1 ∷ 1 ∷ 1 ∷ []) 0 (is_report 4 2)
    ∷ []

-- The preview's cases, computed, and previews of another shape than the code's, each shut out on a concrete input.
use Prim.Native.Nat.{ℕ}
use mathlib.Core.Path.{◌≡◌, refl, ap}
use mathlib.Core.List.{List, [], ◌∷◌}
use native.Mathlib.Omega.{arith}
use lib.ListN.{get_or, replicate, take}
use Rattle.meanings.specs.Limits.{full, preview}
use Rattle.meanings.specs.Lists.{distance}
use Rattle.meanings.specs.Reports.{Answer, given, refused}
use Rattle.meanings.specs.Estimate.{estimate, left_of, right_of, kernel, weight_of, sum_of, value_of, rounded}
use Rattle.meanings.specs.Running.{advance, moved}
use Rattle.meanings.specs.Calls.{smooth, smooth_rows}
use Rattle.meanings.specs.Cases.{AllHold}
use Rattle.laws.specs.rows.PreviewCases.{sevens, preview_cases}

pub preview_cases_hold : AllHold preview_cases
unfolding smooth smooth_rows estimate left_of right_of kernel distance weight_of sum_of value_of rounded advance moved
preview_cases_hold = refl

-- one number of an answer: the report's, and of an accepted sweep one that no report has
seen : Answer ℕ → ℕ
seen (given n) = 100
seen (refused f) = f.number

-- both limits exchanged
pub no_limits_exchanged : ¬ ((ts vs zs hs rs : List ℕ) → smooth preview ts vs zs hs rs ≡ smooth (record { samples = 64; points = 256 }) ts vs zs hs rs)
unfolding smooth seen
no_limits_exchanged f =
    let n : ◌≡◌ {A = ℕ} 100 6 = ap seen (f (sevens 65) (sevens 65) (0 ∷ []) (1 ∷ []) (sevens 5)) in
    omega arith

-- as many readings as the full sweep takes
pub no_full_limit_of_readings : ¬ ((ts vs zs hs rs : List ℕ) → smooth preview ts vs zs hs rs ≡ smooth (record { samples = 1024; points = 64 }) ts vs zs hs rs)
unfolding smooth seen
no_full_limit_of_readings f =
    let n : ◌≡◌ {A = ℕ} 6 7 = ap seen (f (8 ∷ sevens 256) (sevens 257) [] [] []) in
    omega arith

-- 64 marks refused
pub no_sixty_four_refused : ¬ (smooth preview [] [] (replicate 64 0) (replicate 64 1) (sevens 320) ≡ refused (record { number = 6; place = 0 }))
unfolding smooth seen
no_sixty_four_refused e = let n : ◌≡◌ {A = ℕ} 100 6 = ap seen e in omega arith

-- of 65 marks the first 64 drawn
pub no_front_drawn : ¬ ((ts vs zs hs rs : List ℕ) → smooth preview ts vs zs hs rs ≡ smooth preview ts vs (take 64 zs) (take 64 hs) (take 320 rs))
unfolding smooth seen
no_front_drawn f = let n : ◌≡◌ {A = ℕ} 6 100 = ap seen (f [] [] (replicate 65 0) (replicate 65 1) (sevens 325)) in omega arith

-- 6 looked at before 8, and 7 before 6
pub six_not_before_eight : ¬ (smooth preview (sevens 257) (sevens 256) (0 ∷ []) (1 ∷ []) (sevens 5) ≡ refused (record { number = 6; place = 0 }))
unfolding smooth seen
six_not_before_eight e = let n : ◌≡◌ {A = ℕ} 8 6 = ap seen e in omega arith

pub seven_not_before_six : ¬ (smooth preview (sevens 257) (sevens 257) [] [] [] ≡ refused (record { number = 7; place = 0 }))
unfolding smooth seen
seven_not_before_six e = let n : ◌≡◌ {A = ℕ} 6 7 = ap seen e in omega arith

-- the full sweep's rows written where the preview refuses
pub no_rows_before_a_refusal : ¬ ((ts vs zs hs rs : List ℕ) → smooth_rows preview ts vs zs hs rs ≡ smooth_rows full ts vs zs hs rs)
unfolding smooth_rows estimate left_of right_of kernel distance weight_of sum_of value_of rounded
no_rows_before_a_refusal f =
    let n : ◌≡◌ {A = ℕ} 7 0 = ap (λ (r : List ℕ). get_or r 0 0) (f [] [] (replicate 65 0) (replicate 65 1) (sevens 325)) in
    omega arith

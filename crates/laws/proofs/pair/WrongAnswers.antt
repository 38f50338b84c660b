-- Wrong programs of another shape than the code's: on these tanks their answers are none that the contracts allow.
use Prim.Native.Nat.{ℕ, ◌+◌, ◌*◌}
use Rattle.meanings.specs.declared.pair.Parting.{Parting}
use mathlib.Core.Path.{◌≡◌, sym, ap, ◌∙◌}
use mathlib.Core.List.{List, [], ◌∷◌}
use Rattle.std.specs.Prelude.{Option, None, Some}
use native.Mathlib.Omega.{arith}
use lib.ListN.{get_or}
use Rattle.meanings.specs.Limits.{full}
use Rattle.meanings.specs.Reports.{Answer, given, refused}
use Rattle.meanings.specs.declared.pair.Tank.{Tank}
use Rattle.meanings.specs.declared.pair.Tank.TheVariants.{First, Second}
use Rattle.meanings.specs.pair.Comparison.{of_tank, compare, compare_run}
use Rattle.meanings.proofs.PairCases.{missing_is_higher, values_decide, first_difference, second_tank}

-- position and tank, or report and place, of an answer as one number
abbrev seen : Answer (Option Parting) → ℕ
seen (given (Some p)) = of_tank p.higher p.position (1000 + p.position)
seen (given None) = 2000
seen (refused e) = 3000 + 100 * e.number + e.place

abbrev is_report : ℕ → ℕ → Answer (Option Parting)
is_report n p = refused (record { number = n; place = p })

-- one that goes on to the last differing mark, where the other tank is higher
pub no_last_difference :
    ¬ (compare full (1 ∷ 3 ∷ 5 ∷ []) (5 ∷ 7 ∷ 3 ∷ []) (1 ∷ 3 ∷ 5 ∷ []) (5 ∷ 6 ∷ 4 ∷ []) (1 ∷ 3 ∷ 5 ∷ []) (1 ∷ 1 ∷ 1 ∷ [])
    ≡ given (Some (record { position = 2; higher = Second })))
no_last_difference e = let z : ◌≡◌ {A = ℕ} 1 1002 = ap seen (sym first_difference.0 ∙ e) in omega arith

-- one that hands back the window of mark 0
pub no_window_of_mark_0 :
    ¬ (compare_run full (1 ∷ 3 ∷ 5 ∷ []) (5 ∷ 7 ∷ 3 ∷ []) (1 ∷ 3 ∷ 5 ∷ []) (5 ∷ 6 ∷ 4 ∷ []) (1 ∷ 3 ∷ 5 ∷ []) (1 ∷ 1 ∷ 1 ∷ []) ≡ 5 ∷ [])
no_window_of_mark_0 e = let z : ◌≡◌ {A = ℕ} 7 5 = ap (λ (xs : List ℕ). get_or xs 0 0) (sym first_difference.3 ∙ e) in omega arith

-- one that compares rows, and finds 20:60 and the same twice apart; and so one that gives a position where the tanks are alike
pub no_rows_compared : (t : Tank)
    → ¬ (compare full (20 ∷ []) (60 ∷ []) (20 ∷ 20 ∷ []) (60 ∷ 60 ∷ []) (20 ∷ []) (10 ∷ []) ≡ given (Some (record { position = 0; higher = t })))
no_rows_compared First e = let z : ◌≡◌ {A = ℕ} 2000 0 = ap seen (sym values_decide.0.0 ∙ e) in omega arith
no_rows_compared Second e = let z : ◌≡◌ {A = ℕ} 2000 1000 = ap seen (sym values_decide.0.0 ∙ e) in omega arith

-- one for which a missing value is the lowest
pub no_missing_lowest : ¬ (compare full (50 ∷ []) (9 ∷ []) [] [] (50 ∷ []) (1 ∷ []) ≡ given (Some (record { position = 0; higher = First })))
no_missing_lowest e = let z : ◌≡◌ {A = ℕ} 1000 0 = ap seen (sym missing_is_higher.0.0 ∙ e) in omega arith

-- one that looks at the second tank before the marks' order, their half widths or their edges
pub no_second_tank_before_5 : ¬ (compare full (3 ∷ []) (1 ∷ []) (3 ∷ 2 ∷ []) (1 ∷ []) (7 ∷ 6 ∷ []) (1 ∷ 1 ∷ []) ≡ is_report 16 0)
no_second_tank_before_5 e = let z : ◌≡◌ {A = ℕ} 3501 4600 = ap seen (sym second_tank.2.0 ∙ e) in omega arith

pub no_second_tank_before_9 : ¬ (compare full (3 ∷ []) (1 ∷ []) (3 ∷ 2 ∷ []) (1 ∷ []) (7 ∷ 7 ∷ []) (1 ∷ 0 ∷ []) ≡ is_report 16 0)
no_second_tank_before_9 e = let z : ◌≡◌ {A = ℕ} 3901 4600 = ap seen (sym second_tank.3.0 ∙ e) in omega arith

pub no_second_tank_before_10 : ¬ (compare full (3 ∷ []) (1 ∷ []) (3 ∷ 2 ∷ []) (1 ∷ []) (7 ∷ 7 ∷ []) (1 ∷ 9 ∷ []) ≡ is_report 16 0)
no_second_tank_before_10 e = let z : ◌≡◌ {A = ℕ} 4001 4600 = ap seen (sym second_tank.4.0 ∙ e) in omega arith

-- one that tells the second tank's fault by its own number, and one that tells 16 at 0 for a reading that is early
pub no_report_of_its_own : ¬ (compare full (3 ∷ []) (1 ∷ []) (1 ∷ 1 ∷ 5 ∷ 4 ∷ []) (1 ∷ 1 ∷ 1 ∷ 1 ∷ []) (7 ∷ []) (1 ∷ []) ≡ is_report 4 3)
no_report_of_its_own e = let z : ◌≡◌ {A = ℕ} 4603 3403 = ap seen (sym second_tank.1.0 ∙ e) in omega arith

pub no_early_reading_at_0 : ¬ (compare full (3 ∷ []) (1 ∷ []) (1 ∷ 1 ∷ 5 ∷ 4 ∷ []) (1 ∷ 1 ∷ 1 ∷ 1 ∷ []) (7 ∷ []) (1 ∷ []) ≡ is_report 16 0)
no_early_reading_at_0 e = let z : ◌≡◌ {A = ℕ} 4603 4600 = ap seen (sym second_tank.1.0 ∙ e) in omega arith

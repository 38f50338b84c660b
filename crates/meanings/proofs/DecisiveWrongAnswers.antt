-- Wrong programs of another shape than the code, each shut out on a concrete input: what it would answer is not what the meaning says.
use Prim.Native.Nat.{ℕ}
use mathlib.Core.Path.{◌≡◌, ap}
use mathlib.Core.List.{[], ◌∷◌}
use Rattle.std.specs.Prelude.{Option, None, Some}
use native.Mathlib.Omega.{arith}
use Rattle.meanings.specs.Limits.{full}
use Rattle.meanings.specs.Lists.{distance}
use Rattle.meanings.specs.Reports.{Answer, given, refused}
use Rattle.meanings.specs.Estimate.{estimate, left_of, right_of, kernel, weight_of, sum_of, value_of, rounded}
use Rattle.meanings.specs.decisive.Decisive.{verdict, decides, decisive}
use Rattle.meanings.specs.decisive.Cases.{at, nobody}

-- the number that tells such answers apart: the position, 1,000 for none, 2,000 for a report
seen : Answer (Option ℕ) → ℕ
seen (given None) = 1000
seen (given (Some i)) = i
seen (refused e) = 2000

abbrev sheet : ℕ → ℕ → ℕ → Answer (Option ℕ)
sheet = decisive full (10 ∷ 20 ∷ 20 ∷ 35 ∷ []) (40 ∷ 60 ∷ 80 ∷ 20 ∷ [])

-- two readings of minute 10 and value 40, asked there
abbrev twice : ℕ → Answer (Option ℕ)
twice = decisive full (10 ∷ 10 ∷ []) (40 ∷ 40 ∷ []) 10 5

-- the position counted from left: two readings lie before the window
pub not_counted_from_left : ¬ (decisive full (0 ∷ 1 ∷ 50 ∷ []) (9 ∷ 9 ∷ 4 ∷ []) 50 5 4 ≡ at 0)
unfolding decisive decides verdict estimate left_of right_of kernel distance weight_of sum_of value_of rounded seen
not_counted_from_left e = let n : ◌≡◌ {A = ℕ} 2 0 = ap seen e in omega arith

-- the reading with the highest value
pub not_the_highest : ¬ (sheet 20 10 70 ≡ at 2)
unfolding decisive decides verdict estimate left_of right_of kernel distance weight_of sum_of value_of rounded seen
not_the_highest e = let n : ◌≡◌ {A = ℕ} 1 2 = ap seen e in omega arith

-- the heaviest reading: at 25 those of minute 20 weigh 200, that of minute 35 weighs 125
pub not_the_heaviest : ¬ (sheet 25 15 65 ≡ at 1)
unfolding decisive decides verdict estimate left_of right_of kernel distance weight_of sum_of value_of rounded seen
not_the_heaviest e = let n : ◌≡◌ {A = ℕ} 3 1 = ap seen e in omega arith

-- only changes from low enough to not: 70 is over 60, and 60 is not
pub not_only_from_yes_to_no : ¬ (sheet 20 10 60 ≡ nobody)
unfolding decisive decides verdict estimate left_of right_of kernel distance weight_of sum_of value_of rounded seen
not_only_from_yes_to_no e = let n : ◌≡◌ {A = ℕ} 2 1000 = ap seen e in omega arith

-- the value set to 0 and its weight kept: 40 and 30 for 80 and 60
pub not_the_value_as_zero : ¬ (sheet 20 10 59 ≡ at 1)
unfolding decisive decides verdict estimate left_of right_of kernel distance weight_of sum_of value_of rounded seen
not_the_value_as_zero e = let n : ◌≡◌ {A = ℕ} 1000 1 = ap seen e in omega arith

-- all readings of one minute removed together
pub not_all_of_one_minute : ¬ (twice 40 ≡ at 0)
unfolding decisive decides verdict estimate left_of right_of kernel distance weight_of sum_of value_of rounded seen
not_all_of_one_minute e = let n : ◌≡◌ {A = ℕ} 1000 0 = ap seen e in omega arith

-- removals added up: without both there is no value
pub not_removals_added_up : ¬ (twice 40 ≡ at 1)
unfolding decisive decides verdict estimate left_of right_of kernel distance weight_of sum_of value_of rounded seen
not_removals_added_up e = let n : ◌≡◌ {A = ℕ} 1000 1 = ap seen e in omega arith

-- the run's last reading skipped
pub not_without_the_last : ¬ (decisive full (0 ∷ 1 ∷ 2 ∷ []) (9 ∷ 9 ∷ 0 ∷ []) 1 9 6 ≡ nobody)
unfolding decisive decides verdict estimate left_of right_of kernel distance weight_of sum_of value_of rounded seen
not_without_the_last e = let n : ◌≡◌ {A = ℕ} 2 1000 = ap seen e in omega arith

-- a quotient without rounding: 8 / 3 would be 2, and without the first 3; by products 8, 6 and 5 are all over twice their weights
pub not_without_rounding : ¬ (decisive full (0 ∷ 0 ∷ 0 ∷ []) (2 ∷ 3 ∷ 3 ∷ []) 0 1 2 ≡ at 0)
unfolding decisive decides verdict estimate left_of right_of kernel distance weight_of sum_of value_of rounded seen
not_without_rounding e = let n : ◌≡◌ {A = ℕ} 1 0 = ap seen e in omega arith

pub not_by_products : ¬ (decisive full (0 ∷ 0 ∷ 0 ∷ []) (2 ∷ 3 ∷ 3 ∷ []) 0 1 2 ≡ nobody)
unfolding decisive decides verdict estimate left_of right_of kernel distance weight_of sum_of value_of rounded seen
not_by_products e = let n : ◌≡◌ {A = ℕ} 1 1000 = ap seen e in omega arith

-- what is missing taken as at or below: 40 is over 39, and without the one reading there is no value
pub not_missing_as_low : ¬ (decisive full (10 ∷ []) (40 ∷ []) 10 5 39 ≡ at 0)
unfolding decisive decides verdict estimate left_of right_of kernel distance weight_of sum_of value_of rounded seen
not_missing_as_low e = let n : ◌≡◌ {A = ℕ} 1000 0 = ap seen e in omega arith

-- none whenever the value is low enough
pub not_none_where_low : ¬ (sheet 20 10 70 ≡ nobody)
unfolding decisive decides verdict estimate left_of right_of kernel distance weight_of sum_of value_of rounded seen
not_none_where_low e = let n : ◌≡◌ {A = ℕ} 1 1000 = ap seen e in omega arith

-- one fixed answer
pub no_fixed_answer : (a : Answer (Option ℕ)) → ¬ ((limit : ℕ) → sheet 20 10 limit ≡ a)
unfolding decisive decides verdict estimate left_of right_of kernel distance weight_of sum_of value_of rounded seen
no_fixed_answer a f =
    let first : 2 ≡ seen a = ap seen (f 60) in
    let second : 1 ≡ seen a = ap seen (f 70) in
    omega arith

-- Wrong programs of another shape than the code, each shut out on a concrete input: what it would answer is not what the meaning says.
use Prim.Native.Nat.{ℕ}
use Rattle.meanings.specs.declared.limit.Located.{Located}
use mathlib.Core.Path.{◌≡◌, ap}
use mathlib.Core.List.{[], ◌∷◌}
use Rattle.std.specs.Prelude.{Option, None, Some}
use native.Mathlib.Omega.{arith}
use Rattle.meanings.specs.Limits.{full}
use Rattle.meanings.specs.Lists.{distance}
use Rattle.meanings.specs.Reports.{Answer, given, refused}
use Rattle.meanings.specs.Estimate.{estimate, left_of, right_of, kernel, weight_of, sum_of, value_of, rounded}
use Rattle.meanings.specs.Running.{moved, advance}
use Rattle.meanings.specs.limit.Crossing.{low_at, first_at_most}
use Rattle.meanings.specs.limit.Cases.{at}

-- the numbers that tell such answers apart: the position, or 1,000 for none; the passes; of a report both 2,000
place : Answer Located → ℕ
place (given l) = or_none l.position
  where
    or_none : Option ℕ → ℕ
    or_none None = 1000
    or_none (Some k) = k
place (refused e) = 2000

passed : Answer Located → ℕ
passed (given l) = l.passes
passed (refused e) = 2000

abbrev sheet : ℕ → Answer Located
sheet = first_at_most full (10 ∷ 20 ∷ 20 ∷ 35 ∷ []) (40 ∷ 60 ∷ 80 ∷ 20 ∷ []) (20 ∷ 25 ∷ 60 ∷ []) (10 ∷ 15 ∷ 20 ∷ [])

-- the last mark that is low enough instead of the first
pub not_the_last_mark : ¬ (sheet 70 ≡ at 1 4)
unfolding first_at_most low_at estimate left_of right_of kernel distance weight_of sum_of value_of rounded moved advance place
not_the_last_mark e = let n : ◌≡◌ {A = ℕ} 0 1 = ap place e in omega arith

-- the passes of the whole sweep beside a position
pub not_all_passes : ¬ (sheet 58 ≡ at 1 8)
unfolding first_at_most low_at estimate left_of right_of kernel distance weight_of sum_of value_of rounded moved advance passed
not_all_passes e = let n : ◌≡◌ {A = ℕ} 4 8 = ap passed e in omega arith

-- the passes without the answering mark's step
pub not_passes_before : ¬ (sheet 58 ≡ at 1 3)
unfolding first_at_most low_at estimate left_of right_of kernel distance weight_of sum_of value_of rounded moved advance passed
not_passes_before e = let n : ◌≡◌ {A = ℕ} 4 3 = ap passed e in omega arith

-- the value of the mark before: mark 2 has none of its own, and mark 1 has 58
pub not_the_mark_before : ¬ (sheet 58 ≡ at 2 8)
unfolding first_at_most low_at estimate left_of right_of kernel distance weight_of sum_of value_of rounded moved advance place
not_the_mark_before e = let n : ◌≡◌ {A = ℕ} 1 2 = ap place e in omega arith

-- a missing value taken as 0
pub not_missing_as_zero : ¬ (first_at_most full (50 ∷ []) (9 ∷ []) (0 ∷ 100 ∷ []) (1 ∷ 1 ∷ []) 65535 ≡ at 0 0)
unfolding first_at_most low_at estimate left_of right_of kernel distance weight_of sum_of value_of rounded moved advance place
not_missing_as_zero e = let n : ◌≡◌ {A = ℕ} 1000 0 = ap place e in omega arith

-- checks only up to the mark that answers: the edge goes back at the last one
pub not_checked_to_the_answer : ¬ (first_at_most full (7 ∷ []) (1 ∷ []) (7 ∷ 7 ∷ 7 ∷ []) (9 ∷ 9 ∷ 8 ∷ []) 65535 ≡ at 0 1)
unfolding first_at_most low_at estimate left_of right_of kernel distance weight_of sum_of value_of rounded moved advance place
not_checked_to_the_answer e = let n : ◌≡◌ {A = ℕ} 2000 0 = ap place e in omega arith

-- one fixed answer
pub no_fixed_answer : (a : Answer Located) → ¬ ((limit : ℕ) → sheet limit ≡ a)
unfolding first_at_most low_at estimate left_of right_of kernel distance weight_of sum_of value_of rounded moved advance place
no_fixed_answer a f =
    let first : 0 ≡ place a = ap place (f 70) in
    let second : 1 ≡ place a = ap place (f 58) in
    omega arith

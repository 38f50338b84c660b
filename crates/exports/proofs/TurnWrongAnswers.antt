-- Wrong exports of another shape than the code, each shut out by its answer to one input.
use Prim.Native.Nat.{ℕ}
use mathlib.Core.Path.{◌≡◌, ap}
use mathlib.Core.List.{List, [], ◌∷◌}
use native.Mathlib.Omega.{arith}
use lib.ListN.{get_or, replicate}
use Rattle.meanings.specs.declared.RunningSums.{RunningSums}
use Rattle.meanings.specs.Estimate.{left_of, right_of}
use Rattle.meanings.specs.Lists.{distance}
use Rattle.meanings.specs.Reports.{Answer}
use Rattle.meanings.specs.Turn.{turned, turn_answer}
use Rattle.meanings.specs.Codes.{answered, no_detail}
use Rattle.exports.specs.Answers.{sized, stored, record_length, record_numbers, record_of}

-- a record of eight numbers, as before it had passes
pub no_turn_of_eight_numbers : (a : Answer RunningSums) → ¬ (0 ≡ answered no_detail (sized {B = ℕ} record_length (replicate 8 0) a))
unfolding sized
no_turn_of_eight_numbers a q = let z : ◌≡◌ {A = ℕ} 0 8 = q in omega arith

-- a record of passes 4 on positions 0 to 1 of two readings, turned to the second
abbrev before : List ℕ
before = 0 ∷ 1 ∷ 1 ∷ 5 ∷ 25 ∷ 2 ∷ 10 ∷ 50 ∷ 4 ∷ []

abbrev after : ℕ → ℕ → List ℕ
after z h = stored record_numbers (sized record_length before (turn_answer (5 ∷ 9 ∷ []) (2 ∷ 3 ∷ []) (record_of before) z h)) before

-- the lent record left as it was by an accepted turn
pub no_record_left : ¬ (after 9 1 ≡ before)
unfolding sized turn_answer turned left_of right_of distance
no_record_left q = let z : ◌≡◌ {A = ℕ} 1 0 = ap (λ (xs : List ℕ). get_or xs 0 0) q in omega arith

-- the moved record stored on a refusal
pub no_record_moved : ¬ (after 9 0 ≡ after 9 1)
unfolding sized turn_answer turned left_of right_of distance
no_record_moved q = let z : ◌≡◌ {A = ℕ} 0 1 = ap (λ (xs : List ℕ). get_or xs 0 0) q in omega arith

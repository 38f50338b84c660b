-- Wrong turns of another shape than the code, each shut out on one input: what the call must answer, or leave in the lent record, is something else.
use Prim.Native.Nat.{ℕ, ◌+◌, ◌-◌, ◌^◌}
use mathlib.Core.Path.{◌≡◌, ap}
use mathlib.Core.List.{List, [], ◌∷◌}
use Rattle.std.specs.Prelude.{Option, None, Some}
use native.Mathlib.Omega.{arith}
use Rattle.meanings.specs.declared.RunningSums.{RunningSums}
use Rattle.meanings.specs.Estimate.{left_of, right_of}
use Rattle.meanings.specs.Lists.{distance}
use Rattle.meanings.specs.Reports.{Fault}
use Rattle.meanings.specs.Running.{plus, moved}
use Rattle.meanings.specs.Cases.{is_sums, is_counted}
use Rattle.meanings.specs.Turn.{turned, turn_refusal, turn_record}

abbrev minutes : List ℕ
minutes = 10 ∷ 20 ∷ 20 ∷ 35 ∷ []

abbrev values : List ℕ
values = 40 ∷ 60 ∷ 80 ∷ 20 ∷ []

-- on the two readings at 20, after a step
abbrev inner : RunningSums
inner = is_counted 1 3 (is_sums 2 40 800 140 2800 56000) 4

-- the lent record left as it was by an accepted turn
pub no_record_left : ¬ (turn_record minutes values inner 20 15 ≡ inner)
unfolding turn_record turned left_of right_of distance
no_record_left e = let n : ◌≡◌ {A = ℕ} 0 1 = ap (λ (r : RunningSums). r.left) e in omega arith

-- the moved record stored on a refusal, before 9 is seen
pub no_record_moved : ¬ (turn_record minutes values inner 60 0 ≡ turned minutes values inner 60 0)
unfolding turn_record turned left_of right_of distance
no_record_moved e = let n : ◌≡◌ {A = ℕ} 1 4 = ap (λ (r : RunningSums). r.left) e in omega arith

-- a step in the turn's place, which does not go back
pub no_step_for_a_turn : ¬ (turn_record minutes values inner 20 15 ≡ moved minutes values inner 20 15)
unfolding turn_record turned moved left_of right_of distance
no_step_for_a_turn e = let n : ◌≡◌ {A = ℕ} 0 1 = ap (λ (r : RunningSums). r.left) e in omega arith

-- the change of left plus right as distance: to a wider window it is 0
pub no_distance_of_the_sum : ¬ ((turn_record minutes values inner 20 15).passes ≡ plus 64 4 (distance (1 + 3) (0 + 4)))
unfolding turn_record turned left_of right_of distance
no_distance_of_the_sum e = let n : ◌≡◌ {A = ℕ} 6 4 = e in omega arith

-- passes that stop at the greatest number
pub no_passes_saturated : ¬ ((turn_record minutes values (is_counted 1 3 (is_sums 7 0 0 0 0 0) (2 ^ 64 - 1)) 20 15).passes ≡ 2 ^ 64 - 1)
unfolding turn_record turned left_of right_of distance
no_passes_saturated e = let n : ◌≡◌ {A = ℕ} 1 (2 ^ 64 - 1) = e in omega arith

-- the record looked at before the order of the readings
abbrev answer_number : Option Fault → ℕ
answer_number (Some f) = f.number
answer_number None = 0

pub eleven_not_before_four : ¬ (turn_refusal (5 ∷ 4 ∷ []) (1 ∷ 2 ∷ []) (is_counted 1 0 (is_sums 0 0 0 0 0 0) 0) 1 ≡ Some (record { number = 11; place = 0 }))
eleven_not_before_four e = let n : ◌≡◌ {A = ℕ} 4 11 = ap answer_number e in omega arith

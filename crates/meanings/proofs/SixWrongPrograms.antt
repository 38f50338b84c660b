-- The six wrong programs of SPECIFICATION 8.13, the likeliest first. Each answers so for every input; what is proved is that the meaning does
-- not, and the inputs that tell them apart are accepted ones.
use Prim.Native.Nat.{ℕ, zero, suc}
use mathlib.Core.Path.{◌≡◌, refl, ap}
use mathlib.Core.Bool.{Bool, true, false}
use mathlib.Core.List.{List, [], ◌∷◌, ◌++◌}
use Rattle.std.specs.Prelude.{Option, None, Some}
use native.Mathlib.Omega.{arith}
use lib.ListN.{length, get_or, take, replicate}
use Rattle.meanings.specs.declared.Estimate.{Estimate}
use Rattle.meanings.specs.declared.PowerSums.{PowerSums}
use Rattle.meanings.specs.declared.RunningSums.{RunningSums}
use Rattle.meanings.specs.Bytes.{ascii}
use Rattle.meanings.specs.Lists.{pick, distance}
use Rattle.meanings.specs.Limits.{full}
use Rattle.meanings.specs.Moves.{Move, moves}
use Rattle.meanings.specs.Reports.{Fault, Answer, given, refused, first_of, read_checks}
use Rattle.meanings.specs.Estimate.{estimate, left_of, right_of, kernel, weight_of, sum_of, value_of, rounded, missing}
use Rattle.meanings.specs.Published.{range_sum}
use Rattle.meanings.specs.Running.{moved, moved_to, fresh, advance}
use Rattle.meanings.specs.Claim.{last_accepted, window_direct, record_after}
use Rattle.meanings.specs.Sheet.{read_sheet}
use Rattle.meanings.specs.Calls.{evaluate_refusal, evaluate, smooth_refusal, smooth, smooth_rows, read}

-- 1. A step that takes in all that is left at the first mark, lets go of nothing, and so idles after.
abbrev summing_all : List ℕ → List ℕ → RunningSums → RunningSums
summing_all ts vs r = moved_to ts vs r r.left (length ts)

-- readings of which the window at the first mark holds all three and that at the second only the last
abbrev three_minutes : List ℕ
three_minutes = 1 ∷ 5 ∷ 9 ∷ []

abbrev three_values : List ℕ
three_values = 10 ∷ 20 ∷ 30 ∷ []

abbrev two_steps : List Move
two_steps = moves (5 ∷ 12 ∷ []) (4 ∷ 4 ∷ [])

-- its record after each mark
abbrev all_at_first : RunningSums
all_at_first = summing_all three_minutes three_values fresh

abbrev all_at_second : RunningSums
all_at_second = summing_all three_minutes three_values all_at_first

-- the first mark does not tell it from the step
pub summing_all_fits_the_first_mark : record_after three_minutes three_values (take 1 two_steps) ≡ all_at_first
unfolding advance moved distance
summing_all_fits_the_first_mark = refl

-- at the second it idles
pub summing_all_idles : all_at_second ≡ all_at_first
unfolding distance
summing_all_idles = refl

-- which is not the step's record, since the left edge stays at 0
pub no_summing_all_at_the_first_mark : ¬ (record_after three_minutes three_values two_steps ≡ all_at_second)
unfolding advance moved distance
no_summing_all_at_the_first_mark e = let n : ◌≡◌ {A = ℕ} 2 0 = ap (λ (r : RunningSums). r.left) e in omega arith

-- nor are its sums the direct ones of demand 3
pub no_sums_of_all : ¬ (all_at_second.sums ≡ window_direct three_minutes three_values (last_accepted three_minutes three_values two_steps))
unfolding range_sum
no_sums_of_all e = let n : ◌≡◌ {A = ℕ} 3 1 = ap (λ (s : PowerSums). s.s00) e in omega arith

-- whatever record a step makes at the first mark, it is not the record after each later one
pub no_idling_after_the_first_mark : (made : List ℕ → List ℕ → Move → RunningSums)
    → ¬ ((ts vs : List ℕ) (m : Move) (ms : List Move) → record_after ts vs (m ∷ ms) ≡ made ts vs m)
unfolding advance moved distance
no_idling_after_the_first_mark made f =
    let m : Move = record { point = 5; bandwidth = 4 } in
    let n : Move = record { point = 12; bandwidth = 4 } in
    let first : 0 ≡ (made three_minutes three_values m).left = ap (λ (r : RunningSums). r.left) (f three_minutes three_values m []) in
    let second : 2 ≡ (made three_minutes three_values m).left = ap (λ (r : RunningSums). r.left) (f three_minutes three_values m (n ∷ [])) in
    omega arith

-- 2. Passes invented: what a sweep answers, as one number.
abbrev passes_seen : Answer ℕ → ℕ
passes_seen (given n) = n
passes_seen (refused f) = 0

-- made up of values, marks and half widths, as a fixed number or one by their lengths is: the minutes count
pub no_passes_invented : (made_up : List ℕ → List ℕ → List ℕ → ℕ)
    → ¬ ((ts vs zs hs rs : List ℕ) → smooth_refusal full ts vs zs hs rs ≡ None → smooth full ts vs zs hs rs ≡ given (made_up vs zs hs))
unfolding smooth advance moved distance
no_passes_invented made_up f =
    let inside : 1 ≡ made_up (7 ∷ []) (5 ∷ []) (1 ∷ [])
    = ap passes_seen (f (5 ∷ []) (7 ∷ []) (5 ∷ []) (1 ∷ []) (replicate 5 0) refl) in
    let behind : 0 ≡ made_up (7 ∷ []) (5 ∷ []) (1 ∷ [])
    = ap passes_seen (f (9 ∷ []) (7 ∷ []) (5 ∷ []) (1 ∷ []) (replicate 5 0) refl) in
    omega arith

-- made up of the readings and the number of marks: the marks count
pub no_passes_invented_from_the_readings : (made_up : List ℕ → List ℕ → ℕ → ℕ)
    → ¬ ((ts vs zs hs rs : List ℕ) → smooth_refusal full ts vs zs hs rs ≡ None → smooth full ts vs zs hs rs ≡ given (made_up ts vs (length zs)))
unfolding smooth advance moved distance
no_passes_invented_from_the_readings made_up f =
    let inside : 1 ≡ made_up (5 ∷ []) (7 ∷ []) 1
    = ap passes_seen (f (5 ∷ []) (7 ∷ []) (5 ∷ []) (1 ∷ []) (replicate 5 0) refl) in
    let before : 0 ≡ made_up (5 ∷ []) (7 ∷ []) 1
    = ap passes_seen (f (5 ∷ []) (7 ∷ []) (0 ∷ []) (1 ∷ []) (replicate 5 0) refl) in
    omega arith

-- 3. "Missing" claimed unseen: the value of an answer, of a report 0.
abbrev value_seen : Answer Estimate → ℕ
value_seen (given e) = e.value
value_seen (refused f) = 0

-- of every row
pub no_missing_unseen : ¬ ((ts vs : List ℕ) (z h : ℕ) → evaluate_refusal full ts vs h ≡ None → value_seen (evaluate full ts vs z h) ≡ missing)
unfolding evaluate estimate left_of right_of kernel distance weight_of sum_of value_of rounded
no_missing_unseen f = let n : ◌≡◌ {A = ℕ} 40 65536 = f (20 ∷ []) (40 ∷ []) 20 10 refl in omega arith

-- by anything but the weight: values, mark, half width, left and right are the same of 20:40 at mark 20 and of 10:40 on its window's edge
pub no_missing_by_all_but_the_weight : (claims : List ℕ → ℕ → ℕ → ℕ → ℕ → Bool)
    → ¬ ((ts vs : List ℕ) (z h : ℕ) → evaluate_refusal full ts vs h ≡ None
    → value_seen (evaluate full ts vs z h)
    ≡ pick (claims vs z h (left_of ts z h) (right_of ts z h)) missing (rounded (sum_of ts vs z h) (weight_of ts z h)))
unfolding evaluate estimate left_of right_of kernel distance weight_of sum_of value_of rounded
no_missing_by_all_but_the_weight claims f =
    by (claims (40 ∷ []) 20 10 0 1) (f (20 ∷ []) (40 ∷ []) 20 10 refl) (f (10 ∷ []) (40 ∷ []) 20 10 refl)
  where
    by : (b : Bool) → ◌≡◌ {A = ℕ} 40 (pick b 65536 40) → ◌≡◌ {A = ℕ} 65536 (pick b 65536 0) → ⊥
    by true present lacking = let n : ◌≡◌ {A = ℕ} 40 65536 = present in omega arith
    by false present lacking = let n : ◌≡◌ {A = ℕ} 65536 0 = lacking in omega arith

-- 4. One fixed row, or one fixed report: one number of an answer, the row's right or the report's number.
abbrev right_seen : Answer Estimate → ℕ
right_seen (given e) = e.right
right_seen (refused f) = f.number

pub no_fixed_answer : (a : Answer Estimate) → ¬ ((ts vs : List ℕ) (z h : ℕ) → evaluate full ts vs z h ≡ a)
unfolding evaluate estimate left_of right_of kernel distance weight_of sum_of value_of rounded
no_fixed_answer a f =
    let empty : 0 ≡ right_seen a = ap right_seen (f [] [] 5 1) in
    let one : 1 ≡ right_seen a = ap right_seen (f (0 ∷ []) (50 ∷ []) 3 10) in
    omega arith

-- where the question is accepted
pub no_fixed_row : (e : Estimate) → ¬ ((ts vs : List ℕ) (z h : ℕ) → evaluate_refusal full ts vs h ≡ None → evaluate full ts vs z h ≡ given e)
unfolding evaluate estimate left_of right_of kernel distance weight_of sum_of value_of rounded
no_fixed_row e f =
    let empty : 0 ≡ e.right = ap right_seen (f [] [] 5 1 refl) in
    let one : 1 ≡ e.right = ap right_seen (f (0 ∷ []) (50 ∷ []) 3 10 refl) in
    omega arith

-- and in the sweep, the same numbers for each mark
abbrev each_mark : List ℕ → ℕ → List ℕ
each_mark row zero = []
each_mark row (suc n) = row ++ each_mark row n

pub no_fixed_row_in_the_sweep : (row : List ℕ)
    → ¬ ((ts vs zs hs rs : List ℕ) → smooth_refusal full ts vs zs hs rs ≡ None → smooth_rows full ts vs zs hs rs ≡ each_mark row (length zs))
unfolding smooth_rows estimate left_of right_of kernel distance weight_of sum_of value_of rounded
no_fixed_row_in_the_sweep row f =
    let empty : 0 ≡ get_or (each_mark row 1) 1 0
    = ap (λ (r : List ℕ). get_or r 1 0) (f [] [] (5 ∷ []) (1 ∷ []) (replicate 5 0) refl) in
    let one : 1 ≡ get_or (each_mark row 1) 1 0
    = ap (λ (r : List ℕ). get_or r 1 0) (f (0 ∷ []) (50 ∷ []) (3 ∷ []) (10 ∷ []) (replicate 5 0) refl) in
    omega arith

-- 5. A sweep that leaves its rows as they were.
pub no_rows_untouched : ¬ ((ts vs zs hs rs : List ℕ) → smooth_refusal full ts vs zs hs rs ≡ None → smooth_rows full ts vs zs hs rs ≡ rs)
unfolding smooth_rows estimate left_of right_of kernel distance weight_of sum_of value_of rounded
no_rows_untouched f =
    let n : ◌≡◌ {A = ℕ} 65536 7 = ap (λ (r : List ℕ). get_or r 4 0) (f [] [] (5 ∷ []) (1 ∷ []) (replicate 5 7) refl) in omega arith

-- 6. A reader that reports a fault each time.
pub no_fault_each_time :
    ¬ ((s ts vs zs hs : List ℕ) → first_of (read_checks full (length ts) (length vs) (length zs) (length hs)) ≡ None
    → (f : Fault) × (read full s ts vs zs hs ≡ refused f))
unfolding read read_sheet
no_fault_each_time h =
    let e = (h (ascii "mark,half\n1,1\n\nminute,inj,vdk\n") (replicate 1024 7) (replicate 1024 7) (replicate 512 7) (replicate 512 7) refl).1 in
    let z : ◌≡◌ {A = ℕ} 0 1 = cc in
    omega arith

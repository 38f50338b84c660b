-- Wrong programs, each shut out on a concrete input: what it would answer is not what the meaning says. Those of SPECIFICATION 8.13 are in
-- SixWrongPrograms.antt.
use Prim.Native.Nat.{ℕ, ◌+◌, ◌*◌, ◌<◌}
use mathlib.Core.Path.{◌≡◌, ap}
use mathlib.Core.List.{List, [], ◌∷◌}
use Rattle.std.specs.Prelude.{Option, None, Some}
use native.Mathlib.Omega.{arith}
use lib.ListN.{length, get_or}
use Rattle.meanings.specs.declared.Estimate.{Estimate}
use Rattle.meanings.specs.declared.Report.TheVariants.{TooLong, TooMany}
use Rattle.meanings.specs.Lists.{distance}
use Rattle.meanings.specs.Limits.{full}
use Rattle.meanings.specs.Moves.{Move}
use Rattle.meanings.specs.Reports.{Answer, given, refused, number}
use Rattle.meanings.specs.Estimate.{estimate, left_of, right_of, kernel, weight_of, sum_of, value_of, rounded}
use Rattle.meanings.specs.Published.{◌≈◌, regression_above, regression_below, range_sum}
use Rattle.meanings.specs.PublishedRow.{PublishedRow}
use Rattle.meanings.specs.Claim.{NotBelow, last_accepted}
use Rattle.meanings.specs.Codes.{code, answered, answer_of, no_detail}
use Rattle.meanings.specs.Calls.{evaluate, window, smooth, smooth_rows, fill_points}

-- one number of an answer: the row's right or the report's number
seen : Answer Estimate → ℕ
seen (given e) = e.right
seen (refused f) = f.number

-- report 9 looked at before report 4
pub nine_not_before_four : ¬ (evaluate full (5 ∷ 4 ∷ []) (1 ∷ 2 ∷ []) 0 0 ≡ refused (record { number = 9; place = 0 }))
unfolding evaluate estimate left_of right_of kernel distance weight_of sum_of value_of rounded seen
nine_not_before_four e = let n : ◌≡◌ {A = ℕ} 4 9 = ap seen e in omega arith

-- a row whose window lies behind all readings, with the edges, or the sum, made up
pub no_edges_made_up : ¬ PublishedRow (10 ∷ 20 ∷ []) (1 ∷ 2 ∷ []) 100 1 (record { left = 0; right = 0; weight = 0; sum = 77; value = 65536 })
no_edges_made_up p = let before = (p.left_is 0 (omega arith)).1 (omega arith) in omega arith

pub no_sum_made_up : ¬ PublishedRow (10 ∷ 20 ∷ []) (1 ∷ 2 ∷ []) 100 1 (record { left = 2; right = 2; weight = 0; sum = 77; value = 65536 })
unfolding regression_above distance
no_sum_made_up p = let above = p.above_is.cross in omega arith

-- a run without its last reading
pub no_run_one_short : ¬ (window full (10 ∷ 20 ∷ []) (4 ∷ 5 ∷ []) 15 5 ≡ 4 ∷ [])
unfolding window left_of right_of
no_run_one_short e = let n : ◌≡◌ {A = ℕ} 2 1 = ap length e in omega arith

-- one number of a sweep's answer: its passes or the report's number
answer_number : Answer ℕ → ℕ
answer_number (given n) = n
answer_number (refused f) = f.number

-- a refusal that has written a row
pub no_row_written_on_refusal : ¬ (smooth_rows full [] [] (100 ∷ 101 ∷ []) (10 ∷ 12 ∷ []) (7 ∷ 7 ∷ 7 ∷ 7 ∷ 7 ∷ 7 ∷ 7 ∷ 7 ∷ 7 ∷ 7 ∷ [])
    ≡ 0 ∷ 0 ∷ 0 ∷ 0 ∷ 65536 ∷ 7 ∷ 7 ∷ 7 ∷ 7 ∷ 7 ∷ [])
unfolding smooth_rows
no_row_written_on_refusal e = let n : ◌≡◌ {A = ℕ} 7 65536 = ap (λ (r : List ℕ). get_or r 4 0) e in omega arith

-- the value column from the row before
pub no_value_from_the_row_before : ¬ (smooth_rows full (0 ∷ []) (50 ∷ []) (0 ∷ 100 ∷ []) (10 ∷ 10 ∷ []) (7 ∷ 7 ∷ 7 ∷ 7 ∷ 7 ∷ 7 ∷ 7 ∷ 7 ∷ 7 ∷ 7 ∷ [])
    ≡ 0 ∷ 1 ∷ 100 ∷ 5000 ∷ 50 ∷ 1 ∷ 1 ∷ 0 ∷ 0 ∷ 50 ∷ [])
unfolding smooth_rows estimate left_of right_of kernel distance weight_of sum_of value_of rounded
no_value_from_the_row_before e = let n : ◌≡◌ {A = ℕ} 65536 50 = ap (λ (r : List ℕ). get_or r 9 0) e in omega arith

-- a half upward in the sweep, whatever the question at one mark does
pub no_half_upward_in_the_sweep : ¬ (smooth_rows full (0 ∷ 0 ∷ []) (2 ∷ 3 ∷ []) (0 ∷ []) (1 ∷ []) (7 ∷ 7 ∷ 7 ∷ 7 ∷ 7 ∷ []) ≡ 0 ∷ 2 ∷ 2 ∷ 5 ∷ 3 ∷ [])
unfolding smooth_rows estimate left_of right_of kernel distance weight_of sum_of value_of rounded
no_half_upward_in_the_sweep e = let n : ◌≡◌ {A = ℕ} 2 3 = ap (λ (r : List ℕ). get_or r 4 0) e in omega arith

-- report 5 looked at before report 4
pub five_not_before_four : ¬ (smooth full (5 ∷ 4 ∷ []) (1 ∷ 2 ∷ []) (1 ∷ 0 ∷ []) (1 ∷ 1 ∷ []) (7 ∷ 7 ∷ 7 ∷ 7 ∷ 7 ∷ 7 ∷ 7 ∷ 7 ∷ 7 ∷ 7 ∷ [])
    ≡ refused (record { number = 5; place = 1 }))
unfolding smooth answer_number
five_not_before_four e = let n : ◌≡◌ {A = ℕ} 4 5 = ap answer_number e in omega arith

-- a refusal that has filled the first mark
pub no_point_filled_on_refusal : ¬ (fill_points full 65535 1 0 (7 ∷ 7 ∷ []) (7 ∷ 7 ∷ []) ≡ 65535 ∷ 7 ∷ [])
unfolding fill_points
no_point_filled_on_refusal e = let n : ◌≡◌ {A = ℕ} 7 65535 = ap (λ (r : List ℕ). get_or r 0 0) e in omega arith

-- The published row, with an edge open, the mark left out of its sums, or the constant of the uniform kernel.

-- the reading on the left edge held to lie before the window
pub no_left_edge_open : ¬ PublishedRow (10 ∷ []) (40 ∷ []) 20 10 (record { left = 1; right = 1; weight = 0; sum = 0; value = 65536 })
no_left_edge_open p = let before : 10 + 10 < 20 = (p.left_is 0 (omega arith)).0 (omega arith) in omega arith

-- the reading on the right edge held to lie behind it
pub no_right_edge_open : ¬ PublishedRow (30 ∷ []) (40 ∷ []) 20 10 (record { left = 0; right = 0; weight = 0; sum = 0; value = 65536 })
no_right_edge_open p = let within : 0 < 0 = (p.right_is 0 (omega arith)).1 (omega arith) in omega arith

-- the half width for the mark in the weight by sums: 10² + 2 × 10 × 10 − 5² − 10²
pub no_weight_without_the_mark : ¬ PublishedRow (10 ∷ []) (1 ∷ []) 5 10 (record { left = 0; right = 1; weight = 175; sum = 175; value = 1 })
unfolding range_sum
no_weight_without_the_mark p = let n : ◌≡◌ {A = ℕ} 300 200 = p.weight_by_sums in omega arith

-- the weight for the sum in the published numerator, which is 2100 / 4000 of the one reading of value 7 at the mark
sums_apart : ¬ (◌≡◌ {A = ℕ} 8400000 924000)
sums_apart e = omega arith

pub no_weight_for_the_sum : ¬ PublishedRow (20 ∷ []) (7 ∷ []) 20 10 (record { left = 0; right = 1; weight = 700; sum = 77; value = 0 })
unfolding regression_above distance
no_weight_for_the_sum p = sums_apart p.above_is.cross

-- 1/2 for 3/4: 1/10 × 1/2 of the one reading at the mark
pub no_uniform_constant : ¬ (regression_below (20 ∷ []) 20 10 ≈ record { num = 1; den = 20 })
unfolding regression_below distance
no_uniform_constant e = let n = e.cross in omega arith

-- Demand 3, of steps over 5:1.

-- a left edge that may fall while the right one does not: from 5 to 15 to 4 to 16
pub no_left_edge_back : ¬ NotBelow (Some (record { point = 10; bandwidth = 5 })) (record { point = 10; bandwidth = 6 })
no_left_edge_back p = omega (arith, p.0)

-- a refused step taken for the last accepted one; of a step its mark is seen
abbrev point_seen : Option Move → ℕ
point_seen None = 0
point_seen (Some m) = m.point

pub no_refused_step_accepted :
    ¬ (last_accepted (5 ∷ []) (1 ∷ []) (record { point = 5; bandwidth = 4 } ∷ record { point = 9; bandwidth = 0 } ∷ [])
    ≡ Some (record { point = 9; bandwidth = 0 }))
no_refused_step_accepted e = let n : ◌≡◌ {A = ℕ} 5 9 = ap point_seen e in omega arith

-- Numbers of reports and of answers.

-- "no marks" for "crowded"
pub no_reports_exchanged : ¬ (number TooMany ≡ 7)
no_reports_exchanged e = let n : ◌≡◌ {A = ℕ} 6 7 = e in omega arith

-- reports counted from 0
pub no_report_numbered_0 : ¬ (number TooLong ≡ 0)
no_report_numbered_0 e = let n : ◌≡◌ {A = ℕ} 1 0 = e in omega arith

-- 255 as the number of an accepted call
pub no_accepted_call_as_255 : ¬ (answered {A = Unit} no_detail (given tt) ≡ 255)
no_accepted_call_as_255 e = let n : ◌≡◌ {A = ℕ} 0 255 = e in omega arith

-- the number in units, and the place as the rest
pub no_place_below_the_unit : ¬ (code (record { number = 10; place = 16 }) ≡ 256 * 10 + 16)
no_place_below_the_unit e = let n : ◌≡◌ {A = ℕ} 4106 2576 = e in omega arith

-- a unit that reports reach: 14 at 0 told as 1 at 1
pub no_unit_of_13 : ¬ (answer_of (code (record { number = 14; place = 0 })) ≡ refused (record { number = 1; place = 1 }))
unfolding answer_number
no_unit_of_13 e = let n : ◌≡◌ {A = ℕ} 14 1 = ap answer_number e in omega arith

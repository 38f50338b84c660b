-- Clauses that none of the calls meets: each is a clause of a promise, changed in one place and stated in the words of the meanings, and is shut out on a
-- concrete input. Three more are shut out where the meaning is: rows left as they were by `no_rows_untouched` of crates/meanings/proofs/SixWrongPrograms.antt,
-- a record left so by `no_record_left` of crates/regression/proofs/WrongTurns.antt, and 6 for 8 over the limits of the preview by
-- `six_not_before_eight` of crates/laws/proofs/rows/Previews.antt.
use Prim.Native.Nat.{ℕ, zero, suc, ◌+◌, ◌*◌, ◌%◌, ◌^◌, ◌≤◌, ◌<◌}
use mathlib.Core.Path.{◌≡◌, refl, sym, ap, ◌∙◌}
use mathlib.Core.Bool.{true, false, true≢false}
use mathlib.Core.Logic.{◌↔◌, inl, inr}
use mathlib.Core.List.{List, [], ◌∷◌}
use Rattle.std.specs.Prelude.{Option, None, Some}
use native.Mathlib.Omega.{arith}
use lib.Dec.{eqb}
use lib.ListN.{length, get_or, take, replicate, length-replicate, get_or-replicate}
use lib.Seq.{length-take-le}
use Rattle.meanings.specs.declared.Estimate.{Estimate}
use Rattle.meanings.specs.declared.RunningSums.{RunningSums}
use Rattle.meanings.specs.declared.ranges.RangeEstimate.{RangeEstimate}
use Rattle.meanings.specs.Bytes.{ascii, feed}
use Rattle.meanings.specs.Lists.{AtMost, Ordered, distance}
use Rattle.meanings.specs.Limits.{full, preview, max_u16, row_width, max_sheet, max_output}
use Rattle.meanings.specs.Moves.{Move, moves}
use Rattle.meanings.specs.Reports.{Fault, given, refused}
use Rattle.meanings.specs.Estimate.{estimate, left_of, right_of, kernel, weight_of, sum_of, value_of, rounded, missing, rows}
use Rattle.meanings.specs.Published.{regression_above}
use Rattle.meanings.specs.PublishedRow.{PublishedRow}
use Rattle.meanings.specs.Running.{six, fresh, advance, moved, after, passes, record_row}
use Rattle.meanings.specs.Claim.{refusal}
use Rattle.meanings.specs.Turn.{Motion, turn, turned, turn_record, after_motions}
use Rattle.meanings.specs.Sheet.{Outcome, read_sheet}
use Rattle.meanings.specs.Output.{decimal, decimal_with, refusal_text, program}
use Rattle.meanings.specs.SheetForm.{no_point_header, too_long}
use Rattle.meanings.specs.Calls.{window, smooth, fill, fill_points, read, read_values}
use Rattle.meanings.specs.biweight.Biweight.{biweight_bandwidth}
use Rattle.meanings.specs.boxes.Boxes.{Axis, minute_axis, temperature_axis, cuts, strip, strip_of, inside, gathered, one, cell_of, cell}
use Rattle.meanings.specs.decisive.Decisive.{verdict, decides, decisive}
use Rattle.meanings.specs.doubles.Doubles.{handed, HadBack}
use Rattle.meanings.specs.neighbours.Neighbours.{kth_distance, neighbour_bandwidths, neighbours, rows_then}
use Rattle.meanings.specs.ranges.Ranges.{range_estimate, smooth_ranges}
use Rattle.meanings.specs.ranges.RangeLaws.{LiesWithin}
use Rattle.meanings.specs.ranges.RangeSheet.{sheet_front, read_either}
use Rattle.meanings.specs.ranges.RangeCalls.{read_ranges, range_front, lows_of}
use Rattle.meanings.specs.ranges.RangeOutput.{range_curve_text, either_text, either_program, write_either, write_either_buffer}
use Rattle.meanings.proofs.Checks.{no_decrease_ordered}
use Rattle.meanings.proofs.Having.{handed_had_back, had_back_once}
use Rattle.laws.specs.biweight.PublishedRow.{PublishedBiweight}
use Rattle.laws.specs.boxes.Windows.{first_strip, end_strip}
use Rattle.laws.specs.ranges.RangeForm.{NamesRanges, EitherRefused, as_plain}
use Rattle.laws.specs.rows.AmongReadings.{Among}
use Rattle.laws.proofs.boxes.Sums.{total_ones, gathered_ext}
use Rattle.laws.proofs.ranges.EitherForms.{refused_form_is_read, one_report}
use Rattle.text.specs.Table.{stored_row}
use Rattle.promises.specs.conditions.Conditions.{RefusedExactly, FirstFault, OutOfRange, EdgeFallsAt, evaluate_conditions, smooth_conditions}
use Rattle.promises.specs.ranges.OverRanges.{high_row, stored_range_row}
use Rattle.promises.specs.doubles.Doubles.{HoldsWindow}
use Rattle.promises.proofs.ConditionsCases.{second_falls, none_falls_before_the_second}

-- the number of a report, 0 of none
abbrev told : Option Fault → ℕ
told None = 0
told (Some f) = f.number

-- ---- passes and rows of a sweep

-- a window jumps over the only reading, which is taken in and let go: two passes
pub not_one_pass_a_reading : ¬ ((ts vs zs hs : List ℕ) → passes ts vs fresh (moves zs hs) ≤ 1 * length ts)
unfolding advance moved distance
not_one_pass_a_reading f = let l : 2 ≤ 1 = f (50 ∷ []) (9 ∷ []) (0 ∷ 100 ∷ []) (1 ∷ 1 ∷ []) in omega arith

pub not_one_pass_a_range : ¬ ((ts ls us zs hs rs : List ℕ) (n : ℕ) → smooth_ranges full ts ls us zs hs rs ≡ given n → n ≤ length ts)
unfolding smooth_ranges advance moved distance
not_one_pass_a_range f = let l : 2 ≤ 1 = f (50 ∷ []) (9 ∷ []) (9 ∷ []) (0 ∷ 100 ∷ []) (1 ∷ 1 ∷ []) (replicate 14 7) 2 refl in omega arith

-- behind the last mark's row there is none: not that of the record
pub no_row_behind_the_last_mark : ¬ ((ts vs zs hs : List ℕ) (k : ℕ) → k ≤ length zs
    → stored_row (rows ts vs zs hs (length zs)) k
    ≡ record_row (after ts vs fresh (moves (take (suc k) zs) (take (suc k) hs))) (get_or zs k 0) (get_or hs k 0))
unfolding estimate left_of right_of kernel distance weight_of sum_of value_of rounded record_row advance moved
no_row_behind_the_last_mark f =
    let e : ◌≡◌ {A = ℕ} 0 1 = ap (λ (e : Estimate). e.right) (f (0 ∷ []) (50 ∷ []) (3 ∷ []) (10 ∷ []) 1 (omega arith)) in omega arith

-- not one with a weight
pub no_weight_behind_the_last_mark : ¬ ((ts vs zs : List ℕ) (k : ℕ) (hs rs : List ℕ) → neighbours full ts vs zs k hs rs ≡ given tt
    → (i : ℕ) → i ≤ length zs → 0 < (stored_row (rows_then full ts vs zs k hs rs) i).weight)
unfolding neighbours rows_then kth_distance distance estimate left_of right_of kernel weight_of sum_of value_of rounded
no_weight_behind_the_last_mark f =
    let l : 0 < 0 = f (5 ∷ []) (1 ∷ []) (5 ∷ []) 1 (9 ∷ []) (replicate 5 0) refl 1 (omega arith) in omega arith

-- and of what stands behind the rows of two lists nothing is known
pub nothing_within_behind_the_last_mark : ¬ ((rs rs' : List ℕ) (points : ℕ)
    → ((k : ℕ) → k < points → LiesWithin (stored_row rs k) (stored_range_row rs' k)) → (k : ℕ) → k ≤ points
    → LiesWithin (stored_row rs k) (stored_range_row rs' k))
nothing_within_behind_the_last_mark f =
    let e : ◌≡◌ {A = ℕ} 1 0 = (f (1 ∷ []) [] 0 (λ k l. absurd (omega arith)) 0 (omega arith)).left in omega arith

-- the preview goes by its own limits: 257 readings and no mark get 6, and by the full ones 7
pub not_refused_by_the_full_limits : ¬ ((ts vs zs hs rs : List ℕ)
    → RefusedExactly (refusal (smooth preview ts vs zs hs rs)) (FirstFault (smooth_conditions full ts vs zs hs (length rs))))
unfolding smooth
not_refused_by_the_full_limits f =
    let e = ((f (replicate 257 7) (replicate 257 7) [] [] []).refused 7 0).1
    (inr (λ q a. a.0 (refl, refl, refl), inr (λ q a. omega arith, inl (refl, (refl, refl), λ q l a. omega arith)))) in
    let n : ◌≡◌ {A = ℕ} 6 7 = ap told e in
    omega arith

-- ---- one row

-- a row with a missing value has no weight, wherever its window ends
pub no_missing_value_among_readings : ¬ ((ts vs : List ℕ) (z h : ℕ) → ¬ ((estimate ts vs z h).right ≡ missing) → Among ts vs z h (estimate ts vs z h))
unfolding estimate left_of right_of kernel distance weight_of sum_of value_of rounded
no_missing_value_among_readings f = let l : 0 < 0 = (f [] [] 5 1 (λ e. omega arith)).weight_above_zero in omega arith

-- the run begins at left, not at the first reading
pub no_run_from_the_first_reading : ¬ ((ts vs : List ℕ) (z : ℕ) → window full ts vs z biweight_bandwidth ≡ take (right_of ts z biweight_bandwidth) vs)
unfolding window left_of right_of
no_run_from_the_first_reading f =
    let n : ◌≡◌ {A = ℕ} 5 4 = ap (λ (r : List ℕ). get_or r 0 0) (f (0 ∷ 1000 ∷ []) (4 ∷ 5 ∷ []) 1000) in omega arith

-- the row that the list held before the call is not the published one
pub no_row_held_before : ¬ ((ts vs : List ℕ) (z : ℕ) (row : List ℕ) → length row ≡ row_width
    → PublishedBiweight ts vs z biweight_bandwidth (stored_row row 0))
no_row_held_before f = let l : 7 ≤ 0 = (f [] [] 5 (7 ∷ 7 ∷ 7 ∷ 7 ∷ 7 ∷ []) refl).right_length in omega arith

-- ---- ranges: one reading from 0 to 2, at the mark

pub no_highs_published_as_lows : ¬ ((ts ls us : List ℕ) (z h : ℕ) → PublishedRow ts ls z h (high_row (range_estimate ts ls us z h)))
unfolding range_estimate estimate left_of right_of kernel distance weight_of sum_of value_of rounded regression_above
no_highs_published_as_lows f = let above = (f (5 ∷ []) (0 ∷ []) (2 ∷ []) 5 1).above_is.cross in omega arith

pub no_high_value_among_lows : ¬ ((ts ls us : List ℕ) (z h : ℕ) → ¬ ((range_estimate ts ls us z h).value.high ≡ missing)
    → Among ts ls z h (high_row (range_estimate ts ls us z h)))
unfolding range_estimate estimate left_of right_of kernel distance weight_of sum_of value_of rounded
no_high_value_among_lows f =
    let b = (f (5 ∷ []) (0 ∷ []) (2 ∷ []) 5 1 (λ e. omega arith)).between in
    let e : b.highest.position ≡ 0 = omega (arith, b.highest.weighs.within) in
    let reached = rw e at b.highest.reached in
    let most = b.at_most in
    omega arith

-- the number had back from the high sum's doubles is not the low sum
abbrev one_to_two : RangeEstimate
one_to_two = record { left = 0; right = 1; weight = 1; sum = record { low = 1; high = 2 }; value = record { low = 1; high = 2 } }

pub no_high_sum_told_as_the_low : ¬ ((r : RangeEstimate) → ¬ (r.weight ≡ 0) → HadBack (handed r.weight r.sum.high) r.sum.low)
no_high_sum_told_as_the_low f =
    let low = f one_to_two (λ e. omega arith) in
    let e : ◌≡◌ {A = ℕ} 1 2 = had_back_once (handed 1 2) 1 2 low (handed_had_back 1 2 (omega arith) (λ e. omega arith)) in
    omega arith

-- ---- records

-- weight without what is subtracted in the minute's square: 1 for 2
pub no_row_that_subtracts_nothing : ¬ ((r : RunningSums) (z h : ℕ)
    → ((record_row r z h).weight + r.sums.s20) % 2 ^ 64 ≡ (h * h * r.sums.s00 + 2 * z * r.sums.s10) % 2 ^ 64)
unfolding record_row
no_row_that_subtracts_nothing f =
    let e : ◌≡◌ {A = ℕ} 2 3 = f (record { left = 0; right = 1; sums = six (λ p q. 1); passes = 1 }) 1 1 in omega arith

-- the record's row at another half width than the step's
pub no_row_at_another_half_width : ¬ ((ts vs : List ℕ) (z h : ℕ)
    → estimate ts vs z h ≡ record_row (after ts vs fresh (moves (z ∷ []) (h ∷ []))) z (suc h))
unfolding estimate left_of right_of kernel distance weight_of sum_of value_of rounded record_row advance moved
no_row_at_another_half_width f =
    let e : ◌≡◌ {A = ℕ} 91 112 = ap (λ (e : Estimate). e.weight) (f (0 ∷ []) (50 ∷ []) 3 10) in omega arith

-- calls after a turn begin with the turned record, not with the one before
pub no_turned_record_dropped : ¬ ((ts vs : List ℕ) (r : RunningSums) (m : Move) (ms : List Motion)
    → after_motions ts vs r (turn m ∷ ms) ≡ after_motions ts vs r ms)
unfolding turn_record turned left_of right_of distance
no_turned_record_dropped f =
    let n : ◌≡◌ {A = ℕ} 1 0 = ap (λ (r : RunningSums). r.right) (f (10 ∷ []) (40 ∷ []) fresh (record { point = 10; bandwidth = 5 }) []) in omega arith

-- after a turn and a step the record holds the step's window, not the turn's
pub no_window_of_the_turn_after_a_step : ¬ ((ts vs : List ℕ) (m n : Move)
    → HoldsWindow ts m.point m.bandwidth (after ts vs (turn_record ts vs fresh m.point m.bandwidth) (n ∷ [])))
unfolding turn_record turned left_of right_of distance advance moved
no_window_of_the_turn_after_a_step f =
    let e : ◌≡◌ {A = ℕ} 2 1 =
    (f (10 ∷ 20 ∷ []) (4 ∷ 5 ∷ []) (record { point = 10; bandwidth = 1 }) (record { point = 20; bandwidth = 1 })).right_is in
    omega arith

-- ---- filled lists

-- the first mark is the first, not one spacing further
pub no_marks_from_the_second : ¬ ((z₀ spacing preset : ℕ) (zs hs : List ℕ) (k : ℕ) → fill full z₀ spacing preset zs hs ≡ given tt → k < length zs
    → get_or (fill_points full z₀ spacing preset zs hs) k 0 ≡ z₀ + suc k * spacing)
unfolding fill fill_points
no_marks_from_the_second f = let e : ◌≡◌ {A = ℕ} 5 15 = f 5 10 0 (7 ∷ []) (7 ∷ []) 0 refl (omega arith) in omega arith

-- half widths by neighbours: one of 65,536 is reached
only : (x m : ℕ) → x ≤ m → AtMost m (x ∷ [])
only x m l zero k = l
only x m l (suc i) k = absurd (omega arith)

pub no_half_width_of_16_bits : ¬ ((ts zs : List ℕ) (k : ℕ) → AtMost max_u16 ts → AtMost max_u16 zs → 1 ≤ k → k ≤ length ts → (p : ℕ) → p < length zs
    → ¬ OutOfRange max_u16 (get_or (neighbour_bandwidths ts zs k) p 0))
unfolding kth_distance distance
no_half_width_of_16_bits f =
    f (0 ∷ []) (65535 ∷ []) 1 (only 0 max_u16 (omega arith)) (only 65535 max_u16 (omega arith)) (omega arith) (omega arith) 0 (omega arith)
    (inr (omega arith))

-- with marks out of order an edge goes back, though the readings are in order
pub no_order_of_the_readings_alone : ¬ ((ts zs : List ℕ) (k : ℕ) → 1 ≤ k → k ≤ length ts → Ordered ts → (p : ℕ)
    → ¬ EdgeFallsAt zs (neighbour_bandwidths ts zs k) p)
unfolding kth_distance distance
no_order_of_the_readings_alone f =
    f (0 ∷ []) (10 ∷ 0 ∷ []) 1 (omega arith) (omega arith) (no_decrease_ordered (0 ∷ []) refl) 1
    (record { before = 0; next = refl; within = omega arith; falls = inr (omega arith) })

-- ---- the reading that decides

-- the named reading itself is one without which the answer changes
pub no_named_reading_that_keeps : ¬ ((ts vs : List ℕ) (z h limit i : ℕ) → decisive full ts vs z h limit ≡ given (Some i) → (j : ℕ) → j ≤ i
    → decides ts vs z h limit j ≡ false)
unfolding decisive decides verdict estimate left_of right_of kernel distance weight_of sum_of value_of rounded
no_named_reading_that_keeps f =
    true≢false (f (10 ∷ 20 ∷ 20 ∷ 35 ∷ []) (40 ∷ 60 ∷ 80 ∷ 20 ∷ []) 20 10 60 2 refl 2 (omega arith))

-- values that fall are no fault, while minutes do not
pub no_order_of_the_values : ¬ ((ts vs : List ℕ) (z h limit : ℕ)
    → RefusedExactly (refusal (decisive full ts vs z h limit)) (FirstFault (evaluate_conditions vs ts h)))
unfolding decisive
no_order_of_the_values f =
    let e = ((f (1 ∷ 2 ∷ []) (5 ∷ 4 ∷ []) 1 1 3).refused 4 1).1
    (inr (λ q a. a.0 refl, inr (λ q a. omega arith, inl (refl, second_falls, none_falls_before_the_second (5 ∷ 4 ∷ []))))) in
    let n : ◌≡◌ {A = ℕ} 0 4 = ap told e in
    omega arith

-- ---- minute and temperature together

-- n readings in one place, in the window of the only mark each way: all are in cell 66
abbrev crowd_minutes : ℕ → Axis
crowd_minutes n = minute_axis (replicate n 7) (7 ∷ []) (1 ∷ [])

abbrev crowd_temperatures : ℕ → Axis
crowd_temperatures n = temperature_axis (replicate n 7) (7 ∷ []) (1 ∷ [])

in_cell_66 : (n i : ℕ) → i < n → eqb (cell_of (crowd_minutes n) (crowd_temperatures n) i) 66 ≡ true
unfolding strip cuts
in_cell_66 n i l = rw (get_or-replicate {A = ℕ} n i 7 0 l) refl

cell_of_all : (n : ℕ) → cell (crowd_minutes n) (crowd_temperatures n) one n 66 ≡ n
unfolding cell gathered
cell_of_all n = gathered_ext _ (λ i. true) one n (in_cell_66 n) ∙ total_ones 0 n

pub no_cells_of_1023_readings : ¬ ((A B : Axis) (c : ℕ) → length A.samples ≤ 1024 → cell A B one (length A.samples) c ≤ 1023)
no_cells_of_1023_readings f =
    let l = f (crowd_minutes 1024) (crowd_temperatures 1024) 66 (omega arith) in
    let e = cell_of_all 1024 in
    omega arith

-- a reading in the end strip lies behind the window
pub no_window_with_its_end_strip : ¬ ((A : Axis) (k i : ℕ) → k < length A.points
    → (inside A k i ≡ true) ↔ ((first_strip A k ≤ strip_of A i) × (strip_of A i ≤ end_strip A k)))
unfolding first_strip end_strip strip cuts distance
no_window_with_its_end_strip f =
    true≢false (sym ((f (minute_axis (30 ∷ []) (10 ∷ []) (5 ∷ [])) 0 0 (omega arith)).1 (omega arith, omega arith)))

-- ---- sheets

-- bytes that do not begin with an m have no header line
no_heading : (s : List ℕ) → length s ≤ max_sheet → ¬ (get_or s 0 0 ≡ 109) → EitherRefused full s 2 0
no_heading s l k =
    as_plain 2 0 (λ n. k (ap (λ (t : List ℕ). get_or t 0 0) n.printed)) (no_point_header l (λ e b. k (ap (λ (t : List ℕ). get_or t 0 0) b.1)))

overlong : (s : List ℕ) → max_sheet < length s → EitherRefused full s 1 max_sheet
overlong s l = as_plain 1 max_sheet (λ n. let m = n.short in omega arith) (too_long l)

-- so many bytes
bytes : (n : ℕ) → (s : List ℕ) × (length s ≡ n)
bytes n = (replicate n 7, length-replicate n 7)

-- its first 32,768 bytes do not tell that a sheet is longer
cut_is_no_sheet : (r : List ℕ) → length r ≡ max_sheet → ¬ (either_program (7 ∷ r) ≡ either_program (take max_sheet (7 ∷ r)))
unfolding either_program refusal_text decimal decimal_with
cut_is_no_sheet r l e =
    let long = ap either_text (refused_form_is_read full (7 ∷ r) 1 max_sheet (overlong (7 ∷ r) (omega arith))) in
    let n = length-take-le max_sheet (7 ∷ r) (omega arith) in
    let short = ap either_text (refused_form_is_read full (take max_sheet (7 ∷ r)) 2 0 (no_heading _ (omega arith) (λ e. omega arith))) in
    let b : ◌≡◌ {A = ℕ} 49 50 = ap (λ (t : List ℕ). get_or t 14 0) (sym long ∙ e ∙ short) in
    omega arith

pub no_longest_sheet_cut : ¬ ((s : List ℕ) → either_program s ≡ either_program (take max_sheet s))
no_longest_sheet_cut f = let r = bytes max_sheet in cut_is_no_sheet r.0 r.1 (f (7 ∷ r.0))

-- a sheet at the front of a buffer is not the whole buffer, which is longer than any sheet
pub no_sheet_of_the_whole_buffer : ¬ ((buf : List ℕ) (n k p : ℕ) → length buf ≡ max_output → EitherRefused full (take n buf) k p
    → EitherRefused full buf k p)
no_sheet_of_the_whole_buffer f =
    let b = bytes max_output in
    let l = b.1 in
    let whole = f b.0 0 2 0 l (no_heading [] (omega arith) (λ e. omega arith)) in
    let e = one_report full b.0 2 0 1 max_sheet whole (overlong b.0 (omega arith)) in
    omega (arith, e.0)

-- a refused text leaves its buffer
pub no_buffer_emptied_on_a_refusal : ¬ ((s out : List ℕ) (e : Fault) → write_either s out ≡ refused e → write_either_buffer s out ≡ [])
unfolding write_either write_either_buffer
no_buffer_emptied_on_a_refusal f =
    let n : ◌≡◌ {A = ℕ} 1 0 = ap length (f [] (7 ∷ []) (record { number = 8; place = 0 }) refl) in omega arith

-- a sheet of ranges without readings
abbrev range_sheet : List ℕ
range_sheet = ascii "mark,half\n1,1\n\nminute,inj,low,high\n"

names_ranges : NamesRanges full range_sheet
unfolding decimal decimal_with
names_ranges = record {
  header_ending = feed;
  point_lines = record { content = record { point = 1; bandwidth = 1 }; ending = feed } ∷ [];
  empty_line_ending = feed;
  range_header_ending = feed;
  behind = [];
  printed = refl;
  short = omega arith;
  some_point = omega arith;
  fit_points = omega arith;
}

-- it is printed with its header line of nine names, and the reader of plain sheets refuses it
pub no_range_sheet_printed_as_a_plain_one : ¬ ((s : List ℕ) → NamesRanges full s → either_program s ≡ program s)
unfolding either_program read_either sheet_front range_curve_text program read_sheet refusal_text
no_range_sheet_printed_as_a_plain_one f =
    let n : ◌≡◌ {A = ℕ} 109 114 = ap (λ (t : List ℕ). get_or t 0 0) (f range_sheet names_ranges) in omega arith

-- with 2, not with 3
number_of : Outcome → ℕ
number_of (given c) = 0
number_of (refused e) = e.number

pub no_range_sheet_refused_as_malformed : ¬ (read_sheet full range_sheet ≡ refused (record { number = 3; place = 15 }))
unfolding read_sheet number_of
no_range_sheet_refused_as_malformed e = let n : ◌≡◌ {A = ℕ} 2 3 = ap number_of e in omega arith

-- both readers leave what stands behind the values that they store: lists that differ there differ afterwards
pub no_rests_alike : ¬ ((s ts ls us vs zs hs : List ℕ) → range_front (read_ranges full s ts ls us zs hs) lows_of ls ≡ read_values (read full s ts vs zs hs) vs)
unfolding read_ranges read_either sheet_front read read_sheet
no_rests_alike f =
    let n : ◌≡◌ {A = ℕ} 7 8 =
    ap (λ (r : List ℕ). get_or r 0 0)
    (f (ascii "mark,half\n1,1\n\nminute,inj,vdk\n") (replicate 1024 7) (replicate 1024 7) (replicate 1024 7) (replicate 1024 8) (replicate 512 7)
    (replicate 512 7)) in
    omega arith

-- What is written for a sheet of either kind: a plain one's text is the one it had, and no text has more than 44,113 bytes. A mark's line over ranges
-- has at most 86: those of a plain line, and a sum of 18 digits and a value of 5 more with a comma before each.
use Prim.Native.Nat.{ℕ, zero, suc, ◌*◌, ◌≤◌, ◌<◌}
use mathlib.Core.Path.{◌≡◌, refl, sym, ap, ◌∙◌}
use mathlib.Core.Logic.{◌⊎◌, inl, inr}
use mathlib.Core.Bool.{false}
use mathlib.Core.List.{List}
use native.Mathlib.Nat.{le_refl}
use native.Mathlib.Omega.{arith}
use borrow.Author.Tests.{ltb-false}
use lib.Dec.{ltb, eqb}
use lib.ListN.{length, get_or, length-append}
use Rattle.meanings.specs.Limits.{full, max_u16, max_bandwidth, max_output}
use Rattle.meanings.specs.Moves.{moves}
use Rattle.meanings.specs.Reports.{Fault, Answer, given, refused, bad_bandwidth}
use Rattle.meanings.specs.Estimate.{WithinLimits, left_of, right_of, weight_of, sum_of, value_of, estimate}
use Rattle.meanings.specs.Running.{fresh, passes}
use Rattle.meanings.specs.Sheet.{next_place, Outcome, read_sheet}
use Rattle.meanings.specs.Output.{refusal_text, outcome_text, program}
use Rattle.meanings.proofs.Bounds.{weight_bound, sum_bound}
use Rattle.meanings.proofs.Checks.{or_false}
use Rattle.meanings.proofs.Passes.{passes_at_most_twice}
use Rattle.meanings.proofs.Window.{left_at_most_right, right_at_most_length}
use Rattle.laws.proofs.text.Numbers.{decimal_length}
use Rattle.laws.proofs.output.CurveLines.{value_text_fits, value_at_most_missing}
use Rattle.laws.proofs.output.OutputFits.{program_fits}
use Rattle.meanings.specs.ranges.Ranges.{range_estimate}
use Rattle.meanings.specs.declared.ranges.Kind.TheVariants.{Ranges}
use Rattle.meanings.specs.ranges.RangeSheet.{range_header, Readings, no_readings, RangeContents, read_readings, range_contents, read_either}
use Rattle.meanings.specs.ranges.EitherKind.{doubled, and_then, RangesNamed, RangesRefused, EitherKind, plain, of_ranges}
use Rattle.meanings.proofs.ReadingLines.{read_readings_over}
use Rattle.meanings.specs.ranges.RangeOutput.{range_curve_line, range_curve_lines, range_curve_text, either_text, either_program}
use Rattle.laws.proofs.ranges.EitherReader.{either_of, either_kind}
use Rattle.laws.proofs.ranges.RangePlaces.{either_refusal_small}
use Rattle.laws.proofs.ranges.RangesSwept.{AcceptedRanges, accepted_ranges}

-- a plain sheet's text is the one it had, accepted or refused
same_text : (o : Outcome) → either_text (doubled o) ≡ outcome_text o
same_text (given c) = refl
same_text (refused e) = refl

pub plain_text_stays : (s : List ℕ) → read_either full s ≡ doubled (read_sheet full s) → either_program s ≡ program s
unfolding either_program program
plain_text_stays s e = ap either_text e ∙ same_text (read_sheet full s)

range_line_fits : (ts ls us : List ℕ) (z h : ℕ) → WithinLimits ts ls h → WithinLimits ts us h → z ≤ max_u16
    → length (range_curve_line z h (range_estimate ts ls us z h)) ≤ 86
unfolding range_estimate estimate
range_line_fits ts ls us z h f g l =
    let r = right_at_most_length ts z h in
    let point = decimal_length z 4 (omega arith) in
    let bandwidth = decimal_length h 4 (omega arith) in
    let left = decimal_length (left_of ts z h) 3 (omega (arith, left_at_most_right ts z h)) in
    let right = decimal_length (right_of ts z h) 3 (omega arith) in
    let weight = decimal_length (weight_of ts z h) 12 (omega (arith, weight_bound ts ls z h f.few f.bandwidth)) in
    let low = decimal_length (sum_of ts ls z h) 17 (omega (arith, sum_bound ts ls z h f)) in
    let high = decimal_length (sum_of ts us z h) 17 (omega (arith, sum_bound ts us z h g)) in
    let lowest = value_text_fits (value_of (sum_of ts ls z h) (weight_of ts z h)) (value_at_most_missing ts ls z h f) in
    let highest = value_text_fits (value_of (sum_of ts us z h) (weight_of ts z h)) (value_at_most_missing ts us z h g) in
    simp length-append (omega arith)

-- a half width that is not refused is not over the greatest
over_false : (h : ℕ) → bad_bandwidth h ≡ false → ltb max_bandwidth h ≡ false
over_false h e = (or_false (eqb h 0) (ltb max_bandwidth h) e).1

module _ (c : RangeContents) (a : AcceptedRanges full c) where
  width_small : (n : ℕ) → n < length c.points → get_or c.bandwidths n 0 ≤ max_bandwidth
  width_small n l =
      ltb-false max_bandwidth (get_or c.bandwidths n 0) (over_false (get_or c.bandwidths n 0) (a.marks.widths n (omega (arith, a.marks.even))))

  mark_line_fits : (n : ℕ) → n < length c.points
      → length
      (range_curve_line (get_or c.points n 0) (get_or c.bandwidths n 0)
      (range_estimate c.minutes c.lows c.highs (get_or c.points n 0) (get_or c.bandwidths n 0)))
      ≤ 86
  mark_line_fits n l =
      range_line_fits c.minutes c.lows c.highs _ _
      (record { even = a.even_lows; few = a.few; values = a.small_lows; bandwidth = width_small n l })
      (record { even = a.even_highs; few = a.few; values = a.small_highs; bandwidth = width_small n l }) (a.marks.small n l)

  lines_fit : (n : ℕ) → n ≤ length c.points → length (range_curve_lines c n) ≤ 86 * n
  lines_fit zero l = omega arith
  lines_fit (suc n) l =
      let before = lines_fit n (omega arith) in
      let one = mark_line_fits n l in
      rw length-append (omega arith)

  pub range_text_fits : length (range_curve_text c) ≤ max_output
  unfolding range_curve_text
  range_text_fits =
      let n = passes c.minutes c.lows fresh (moves c.points c.bandwidths) in
      let lines = lines_fit (length c.points) (le_refl _) in
      let few = a.marks.few in
      let kept = decimal_length (length c.minutes) 3 (omega (arith, a.few)) in
      let total = decimal_length n 3 (omega (arith, a.few, passes_at_most_twice c.minutes c.lows (moves c.points c.bandwidths))) in
      simp length-append (omega arith)

-- a refusal of either kind has at most 23 bytes
refusal_fits : (s : List ℕ) (e : Fault) → read_either full s ≡ refused e → length (refusal_text e) ≤ 23
unfolding refusal_text
refusal_fits s e q =
    let f = either_refusal_small full s e q in
    let n = decimal_length e.number 1 (omega (arith, f.number_small)) in
    let p = decimal_length e.place 4 (omega (arith, f.place_small)) in
    simp length-append (omega arith)

-- a sheet with ranges has the text over ranges, or is refused
ranges_fit : (s : List ℕ) → RangesNamed full s → length (either_program s) ≤ max_output
unfolding either_program
ranges_fit s w = by (read_readings full Ranges (next_place w.front.place range_header w.ending) no_readings w.behind given) (over ∙ sym from_names)
  where
    from_names : read_either full s ≡ read_readings full Ranges (next_place w.front.place range_header w.ending) no_readings w.behind
        (λ r. given (range_contents Ranges w.front r))
    from_names = either_of full s (given w.front) w.before ∙ rw w.named

    over : and_then (read_readings full Ranges (next_place w.front.place range_header w.ending) no_readings w.behind given)
        (λ r. given (range_contents Ranges w.front r))
        ≡ read_readings full Ranges (next_place w.front.place range_header w.ending) no_readings w.behind
        (λ r. given (range_contents Ranges w.front r))
    over =
        read_readings_over (λ a. and_then a (λ r. given (range_contents Ranges w.front r))) (λ e. refl) full Ranges _ no_readings w.behind
        given _ (λ r. refl)

    by : (a : Answer Readings) → and_then a (λ r. given (range_contents Ranges w.front r)) ≡ read_either full s
        → length (either_text (read_either full s)) ≤ max_output
    by (given r) h = rw (← h) (range_text_fits (range_contents Ranges w.front r) (accepted_ranges full s _ (sym h)))
    by (refused e) h = rw (← h) (let l = refusal_fits s e (sym h) in omega arith)

-- no sheet's text is longer than the bound
pub either_program_fits : (s : List ℕ) → length (either_program s) ≤ max_output
either_program_fits s = by (either_kind full s)
  where
    by : EitherKind full s → length (either_program s) ≤ max_output
    by (plain e) = rw (plain_text_stays s e) (let l = program_fits s in omega arith)
    by (of_ranges r) = ranges_fit s r.ranges

-- a plain sheet's text, or the header line is that of ranges
pub plain_or_ranges : (s : List ℕ) → (either_program s ≡ program s) ⊎ RangesRefused full s
plain_or_ranges s = by (either_kind full s)
  where
    by : EitherKind full s → (either_program s ≡ program s) ⊎ RangesRefused full s
    by (plain e) = inl (plain_text_stays s e)
    by (of_ranges r) = inr r

-- The program. Each list of bytes is a sheet of some lists or is refused, never both and in one way only; the reader's meaning goes with it,
-- so what is written is the curve of those lists or that refusal. An accepted sheet's lists are accepted by the sweep and at each mark.
use Prim.Native.Nat.{ℕ, suc, ◌*◌, ◌≤◌, ◌<◌}
use Rattle.std.specs.Prelude.{Result}
use Rattle.meanings.specs.declared.Refusal.{Refusal}
use Rattle.meanings.specs.Calls.{answer_of}
use mathlib.Core.Path.{◌≡◌, refl, sym, ap, ◌∙◌}
use mathlib.Core.Logic.{◌⊎◌, inl, inr}
use mathlib.Core.List.{List, ◌++◌}
use Rattle.std.specs.Prelude.{Option, None, Some}
use native.Mathlib.Nat.{le_refl}
use native.Mathlib.Omega.{arith}
use borrow.Author.Tests.{ltb-false}
use lib.ListN.{length, get_or, drop, replicate, length-append, length-replicate}
use Rattle.meanings.specs.Lists.{AtMost}
use Rattle.meanings.specs.Limits.{full, max_u16, row_width, max_output, max_plain_output}
use Rattle.meanings.specs.Moves.{moves}
use Rattle.meanings.specs.Reports.{Fault, Answer, given, refused, first_of, buffer_checks}
use Rattle.meanings.specs.Estimate.{estimate}
use Rattle.meanings.specs.PublishedRow.{PublishedRow}
use Rattle.meanings.specs.Running.{fresh, passes}
use Rattle.meanings.specs.Claim.{refusal}
use Rattle.meanings.specs.Sheet.{Contents, or_next}
use Rattle.meanings.specs.SheetForm.{IsSheet}
use Rattle.meanings.specs.Output.{curve_text, refusal_text}
use Rattle.meanings.specs.Calls.{smooth, write_refusal_text, refusal_buffer}
use Rattle.meanings.proofs.PublishedRows.{published_row}
use Rattle.meanings.proofs.Checks.{same_limits, differ_same, steps_ordered, bandwidth_in_range}
use Rattle.meanings.proofs.SmoothLog.{smooth_passes}
use Rattle.meanings.proofs.Passes.{passes_at_most_twice}
use Rattle.laws.proofs.text.Numbers.{decimal_length}
use Rattle.laws.proofs.sheet.Printed.{printed_is_read}
use Rattle.laws.proofs.output.AcceptedSheet.{AcceptedContents, accepted_contents}
use Rattle.laws.proofs.output.CurveLines.{curve_lines_fit}
use Rattle.meanings.specs.ranges.RangeSheet.{RangeContents, read_either}
use Rattle.meanings.specs.ranges.EitherKind.{doubled_contents}
use Rattle.meanings.specs.ranges.RangeOutput.{range_curve_text, either_text, either_program, text_size, text_front, write_either, write_either_buffer}
use Rattle.laws.proofs.ranges.RangesSwept.{AcceptedRanges, accepted_ranges}
use Rattle.laws.proofs.ranges.RangeText.{either_program_fits}
use Rattle.laws.specs.ranges.RangeForm.{IsRangeSheet, EitherSheet, plain_sheet, range_sheet, EitherRefused}
use Rattle.laws.proofs.ranges.EitherForms.{form_is_read, refused_form_is_read, read_is_form, read_is_refused_form, never_both, one_report}
use Rattle.text.specs.SheetText.{PlainAccepted}
use Rattle.text.proofs.Texts.{accepted_as_plain}
use Rattle.promises.specs.Calls.{RefusalTextCall}
use Rattle.promises.specs.Demands.{log_passes, Draws, Refuses, ProgramHolds}
use Rattle.promises.proofs.EitherSheets.{either_program_front, plain_program}

-- what is written goes by what the reader makes of the sheet
program_goes_by : (s : List ℕ) (o : Answer RangeContents) → read_either full s ≡ o → either_program s ≡ either_text o
unfolding either_program
program_goes_by s o e = ap either_text e

draws : (s : List ℕ) (c : RangeContents) → EitherSheet full s c → Draws s c
unfolding smooth
draws s c i = record {
  sheet = i;
  text = program_goes_by s (given c) read;
  low_rows = row c.lows a.even_lows a.small_lows;
  high_rows = row c.highs a.even_highs a.small_highs;
  passes_are = p.0;
  passes_most = p.1;
}
  where
    read : read_either full s ≡ given c
    read = form_is_read full s c i

    a : AcceptedRanges full c
    a = accepted_ranges full s c read

    -- of the lowest values, and of the highest
    row : (vs : List ℕ) → length c.minutes ≡ length vs → AtMost max_u16 vs → (k : ℕ) → k < length c.points
        → PublishedRow c.minutes vs (get_or c.points k 0) (get_or c.bandwidths k 0)
        (estimate c.minutes vs (get_or c.points k 0) (get_or c.bandwidths k 0))
    row vs even small k l =
        let b = bandwidth_in_range (get_or c.bandwidths k 0) (a.marks.widths k (omega (arith, a.marks.even))) in
        published_row c.minutes vs _ _ small
        (record {
          even = even;
          few = a.few;
          ordered = steps_ordered c.minutes (λ j m. ltb-false _ _ (a.rising (suc j) m));
          positive = b.0;
          bandwidth = b.1;
        })

    swept : PlainAccepted c.minutes c.lows c.points c.bandwidths
    swept = accepted_as_plain c.kind _ _ c.highs _ _ (record { sheet = s; accepted = read })

    p : (passes c.minutes c.lows fresh (moves c.points c.bandwidths) ≡ log_passes c.minutes c.lows (moves c.points c.bandwidths))
        × (passes c.minutes c.lows fresh (moves c.points c.bandwidths) ≤ 2 * length c.minutes)
    p =
        let rs : List ℕ = replicate (row_width * length c.points) 0 in
        smooth_passes full (same_limits full) c.minutes c.lows c.points c.bandwidths a.small_minutes a.small_lows rs _
        (rw (swept.swept rs (length-replicate (row_width * length c.points) 0)))

refuses : (s : List ℕ) (n p : ℕ) → EitherRefused full s n p → Refuses s n p
refuses s n p r = record { condition = r; text = program_goes_by s (refused (record { number = n; place = p })) (refused_form_is_read full s n p r) }

plain_text : (s : List ℕ) (c : Contents) → IsSheet full s c → either_program s ≡ curve_text c
plain_text s c i = program_goes_by s (given (doubled_contents c)) (form_is_read full s (doubled_contents c) (plain_sheet c i))

-- 36 bytes for the names, 61 for each of 512 marks, 1 for the empty line, 12 for the names of the totals and 10 for these
plain_lines_fit : (c : Contents) → AcceptedContents c → length (curve_text c) ≤ max_plain_output
unfolding curve_text
plain_lines_fit c a =
    let lines = curve_lines_fit c a (length c.points) (le_refl _) in
    let kept = decimal_length (length c.minutes) 3 (omega arith) in
    let twice = passes_at_most_twice c.minutes c.values (moves c.points c.bandwidths) in
    let total = decimal_length (passes c.minutes c.values fresh (moves c.points c.bandwidths)) 3 (omega (arith, twice)) in
    simp length-append (omega arith)

plain_fits : (s : List ℕ) (c : Contents) → IsSheet full s c → length (either_program s) ≤ max_plain_output
plain_fits s c i = rw (plain_text s c i) (plain_lines_fit c (accepted_contents s c (printed_is_read full s c i)))

range_text : (s : List ℕ) (c : RangeContents) → IsRangeSheet full s c → either_program s ≡ range_curve_text c
range_text s c i = program_goes_by s (given c) (form_is_read full s c (range_sheet c i)) ∙ rw i.kind

-- the buffer of an accepted sheet, whatever the buffer's own check says
curve_in_front : (s out out' : List ℕ) (k : ℕ) (f : Option Fault) (o : Answer RangeContents) → read_either full s ≡ o → given k ≡ text_size (or_next f o)
    → out' ≡ text_front (or_next f o) out → (k ≡ length (either_program s)) × (out' ≡ either_program s ++ drop (length (either_program s)) out)
curve_in_front s out out' k None (given c) r a b = rw (program_goes_by s (given c) r) (cc, b)
curve_in_front s out out' k None (refused e) r a b = let z : ◌≡◌ {A = ℕ} 0 1 = cc in absurd (omega arith)
curve_in_front s out out' k (Some e) o r a b = let z : ◌≡◌ {A = ℕ} 0 1 = cc in absurd (omega arith)

pub text_in_front : (s out : List ℕ) (k : ℕ) (out' : List ℕ) → given k ≡ write_either s out → out' ≡ write_either_buffer s out
    → (k ≡ length (either_program s)) × (out' ≡ either_program s ++ drop (length (either_program s)) out)
unfolding write_either write_either_buffer
text_in_front s out k out' a b = curve_in_front s out out' k (first_of (buffer_checks (length out))) (read_either full s) refl a b

-- a refused sheet in a buffer of the right length: the sheet's refusal, and the buffer as it was
refused_sheet : (s out out' : List ℕ) (f : Fault) (o : Answer RangeContents) → read_either full s ≡ o → refusal (text_size o) ≡ Some f
    → out' ≡ text_front o out → (either_program s ≡ refusal_text f) × (out' ≡ out)
refused_sheet s out out' f (given c) r a b = let z : ◌≡◌ {A = ℕ} 0 1 = cc in absurd (omega arith)
refused_sheet s out out' f (refused e) r a b = let q : e ≡ f = cc in (program_goes_by s (refused e) r ∙ ap refusal_text q, b)

refusal_in_front : (s out out' out'' : List ℕ) (f : Fault) (a b : Result ℕ Refusal) → length out ≡ max_output → answer_of a ≡ write_either s out
    → out' ≡ write_either_buffer s out → refusal (answer_of a) ≡ Some f → RefusalTextCall f.number f.place out' b out''
    → (answer_of b ≡ given (length (either_program s))) × (out'' ≡ either_program s ++ drop (length (either_program s)) out)
unfolding write_either write_either_buffer write_refusal_text refusal_buffer
refusal_in_front s out out' out'' f a b l answer text q d =
    let e = differ_same (length out) max_output l in
    let t = rw e at answer in
    let r = refused_sheet s out out' f (read_either full s) refl (sym (ap refusal t) ∙ q) (rw e at text) in
    let m = differ_same (length out') max_output (ap length r.1 ∙ l) in
    rw (r.0, ← r.1) (rw m at d.ensured.0, rw m at d.ensured.1)

pub program_holds : (s : List ℕ) → ProgramHolds s
program_holds s = record {
  one_of_two = by (read_either full s) refl;
  each_sheet = draws s;
  each_report = refuses s;
  not_both = never_both full s;
  one_contents = λ c d a b. let e = sym (form_is_read full s c a) ∙ form_is_read full s d b in cc;
  one_report = one_report full s;
  plain_text = plain_text s;
  range_text = range_text s;
  as_before = plain_program s;
  front = either_program_front s;
  fits = either_program_fits s;
  plain_fits = plain_fits s;
  by_curve = λ out out' k c. text_in_front s out k out' c.ensured.0 c.ensured.1;
  by_refusal = λ out out' out'' f a b l c. refusal_in_front s out out' out'' f a b l c.ensured.0 c.ensured.1;
  by_curve_over = λ buf buf' n k e c. text_in_front s buf k buf' (rw e at c.ensured.0) (rw e at c.ensured.1);
  by_refusal_over = λ buf buf' buf'' n f a b e l c. refusal_in_front s buf buf' buf'' f a b l (rw e at c.ensured.0) (rw e at c.ensured.1);
}
  where
    by : (o : Answer RangeContents) → read_either full s ≡ o → ((c : RangeContents) × Draws s c) ⊎ ((n : ℕ) × ((p : ℕ) × Refuses s n p))
    by (given c) e = inl (c, draws s c (read_is_form full s c e))
    by (refused f) e = inr (f.number, (f.place, refuses s f.number f.place (read_is_refused_form full s f.number f.place e)))

-- Every case of SPECIFICATION 7.6, 7.9 and 7.10 and every case of our own holds of the meanings: both sides are computed. Two of our own have
-- as many readings as there may be, all equal, and their rows are computed by the law of equal readings instead of reading by reading; of an
-- overlong sheet and of a text's buffer the length alone is looked at.
use Prim.Native.Nat.{ℕ, zero, suc, ◌-◌, ◌^◌}
use mathlib.Core.Path.{◌≡◌, refl, ap}
use mathlib.Core.List.{List, [], ◌∷◌, ◌++◌}
use Rattle.std.specs.Prelude.{Option}
use native.Mathlib.Omega.{arith}
use lib.ListN.{length, take, drop, length-replicate}
use Rattle.meanings.specs.Cases.{Case, Result, AllHold, estimated, outcome, holds, is_report}
use Rattle.meanings.specs.Document.{document_cases}
use Rattle.meanings.specs.OwnCases.{own_cases, one_point_cases, step_cases, smooth_cases, fill_cases, sheet_cases, text_cases}
use Rattle.meanings.specs.OwnCases.{too_long_cases, too_many, record_cases, rounding_cases, line_ending_cases, turn_cases, buffer}
use Rattle.meanings.specs.OwnCases.{empty_sheet, refused_sheet}
use Rattle.meanings.specs.Calls.{evaluate, window, window_start, smooth, smooth_rows, fill, fill_points, fill_bandwidths, read, curve_size}
use Rattle.meanings.specs.Calls.{filled_front, write, write_buffer, write_refusal_text, refusal_buffer}
use Rattle.meanings.specs.Estimate.{estimate, left_of, right_of, kernel, weight_of, sum_of, value_of, rounded}
use Rattle.meanings.specs.Limits.{full, max_output}
use Rattle.meanings.specs.Lists.{distance}
use Rattle.meanings.specs.Output.{program, curve_text, refusal_text, decimal, decimal_with}
use Rattle.meanings.specs.Reports.{Fault, first_of, buffer_checks, unless, accepted_or}
use Rattle.meanings.specs.Running.{advance, moved, record_row}
use Rattle.meanings.specs.Sheet.{lines, read_lines, read_sheet, or_next}
use Rattle.meanings.specs.Turn.{turned, turn_record}
use Rattle.meanings.proofs.EqualSamples.{equal_samples}

pub document_cases_hold : AllHold document_cases
unfolding evaluate smooth smooth_rows estimate left_of right_of kernel distance weight_of sum_of value_of rounded program curve_text refusal_text
    decimal decimal_with advance moved read_sheet
document_cases_hold = refl

-- the same as AllHold, under a name by which antt finds the cases
record Held (cs : List Case) : Type 0 where
  hold : AllHold cs

both : (cs ds : List Case) → AllHold cs → AllHold ds → AllHold (cs ++ ds)
both [] ds a b = b
both (c ∷ cs) ds a b = let r : _ = both cs ds (cc) b in cc

then : (cs : List Case) {ds : List Case} → AllHold cs → Held ds → Held (cs ++ ds)
then cs {ds} a b = record { hold = both cs ds a b.hold }

-- a list of cases in two parts
joined : (n : ℕ) (cs : List Case) → AllHold (take n cs) → AllHold (drop n cs) → AllHold cs
joined zero cs a b = b
joined (suc n) [] a b = refl
joined (suc n) (c ∷ cs) a b = let r : _ = joined n cs (cc) b in cc

before_the_largest : AllHold (take 7 one_point_cases)
unfolding evaluate window window_start estimate left_of right_of kernel distance weight_of sum_of value_of rounded
before_the_largest = refl

-- the greatest weight and sum
the_largest : AllHold (take 1 (drop 7 one_point_cases))
unfolding kernel distance value_of rounded
the_largest = ap (λ a. estimated a ∷ []) (equal_samples 1024 65535 65535 65535 65536 (omega arith) (omega arith) (omega arith) (omega arith, omega arith))

between_both : AllHold (take 4 (drop 8 one_point_cases))
unfolding evaluate
between_both = refl

-- as many readings as there may be
the_longest : AllHold (take 1 (drop 12 one_point_cases))
unfolding kernel distance value_of rounded
the_longest = ap (λ a. estimated a ∷ []) (equal_samples 1024 3 4 3 1 (omega arith) (omega arith) (omega arith) (omega arith, omega arith))

behind_the_longest : AllHold (drop 13 one_point_cases)
unfolding evaluate window window_start estimate left_of right_of kernel distance weight_of sum_of value_of rounded
behind_the_longest = refl

one_point_cases_hold : AllHold one_point_cases
one_point_cases_hold =
    joined 7 one_point_cases before_the_largest
    (joined 1 (drop 7 one_point_cases) the_largest
    (joined 4 (drop 8 one_point_cases) between_both (joined 1 (drop 12 one_point_cases) the_longest behind_the_longest)))

step_cases_hold : AllHold step_cases
unfolding advance moved distance
step_cases_hold = refl

smooth_cases_hold : AllHold smooth_cases
unfolding smooth smooth_rows estimate left_of right_of kernel distance weight_of sum_of value_of rounded advance moved
smooth_cases_hold = refl

fill_cases_hold : AllHold fill_cases
unfolding fill fill_points fill_bandwidths
fill_cases_hold = refl

too_long_cases_hold : (s : List ℕ) → length s ≡ 32769 → AllHold (too_long_cases s)
unfolding read_sheet
too_long_cases_hold s e = ap (λ n. outcome (read_lines full n (lines s)) ∷ []) e

sheet_cases_hold : AllHold sheet_cases
unfolding read estimate left_of right_of kernel distance weight_of sum_of value_of rounded program curve_text refusal_text decimal decimal_with advance
    moved read_sheet
sheet_cases_hold = refl

record_cases_hold : AllHold record_cases
unfolding value_of rounded record_row
record_cases_hold = refl

rounding_cases_hold : AllHold rounding_cases
unfolding evaluate smooth smooth_rows estimate left_of right_of kernel distance weight_of sum_of value_of rounded program curve_text refusal_text
    decimal decimal_with advance moved record_row read_sheet
rounding_cases_hold = refl

line_ending_cases_hold : AllHold line_ending_cases
unfolding estimate left_of right_of kernel distance weight_of sum_of value_of rounded program curve_text refusal_text decimal decimal_with advance
    moved read_sheet
line_ending_cases_hold = refl

turn_cases_hold : AllHold turn_cases
unfolding left_of right_of advance moved distance turned turn_record
turn_cases_hold = refl

-- Texts, into any buffer of the right length, and with a byte more.
module _ (b : List ℕ) where
  -- what becomes of a curve and of a refusal's text, by what the buffer is refused for
  abbrev curve_by : List ℕ → List ℕ → Option Fault → Result
  curve_by s out r = holds (curve_size (or_next r (read_sheet full s))) (filled_front (or_next r (read_sheet full s)) curve_text out)

  abbrev refusal_by : ℕ → ℕ → List ℕ → Option Fault → Result
  refusal_by n p out r =
      let t = refusal_text (record { number = n; place = p }) in
      holds (unless r (length t)) (accepted_or r (t ++ drop (length t) out) out)

  -- all of them, by the buffer's length
  abbrev texts_by : ℕ → List Result
  texts_by n =
      let fits = first_of (buffer_checks n) in
      let longer = first_of (buffer_checks (suc n)) in
      curve_by empty_sheet b fits
      ∷ curve_by refused_sheet b fits
      ∷ curve_by empty_sheet (7 ∷ b) longer
      ∷ holds (is_report 8 0) []
      ∷ refusal_by 10 16 b fits
      ∷ refusal_by 0 (2 ^ 64 - 1) b fits
      ∷ refusal_by 10 16 (7 ∷ b) longer
      ∷ holds (is_report 8 0) (7 ∷ 7 ∷ 7 ∷ [])
      ∷ []

  text_cases_hold : length b ≡ max_output → AllHold (text_cases b)
  unfolding write write_buffer write_refusal_text refusal_buffer refusal_text decimal decimal_with read_sheet curve_text estimate left_of right_of
      kernel distance weight_of sum_of value_of rounded advance moved
  text_cases_hold e = ap texts_by e

all_held : Held own_cases
all_held =
    then one_point_cases one_point_cases_hold
    (then step_cases step_cases_hold
    (then smooth_cases smooth_cases_hold
    (then fill_cases fill_cases_hold
    (then (too_long_cases (too_many 10)) (too_long_cases_hold (too_many 10) (length-replicate {A = ℕ} 32769 10))
    (then (too_long_cases (too_many 13)) (too_long_cases_hold (too_many 13) (length-replicate {A = ℕ} 32769 13))
    (then sheet_cases sheet_cases_hold
    (then (text_cases buffer) (text_cases_hold buffer (length-replicate {A = ℕ} max_output 7))
    (then record_cases record_cases_hold
    (then rounding_cases rounding_cases_hold
    (then line_ending_cases line_ending_cases_hold (record { hold = turn_cases_hold })))))))))))

pub own_cases_hold : AllHold own_cases
own_cases_hold = all_held.hold

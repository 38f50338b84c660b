-- The kept readings are those of the lines with an inj over 2, in order: a line is kept or left out by its own inj alone, and the kept lines
-- of one list after another are those of the one after those of the other.
use Prim.Native.Nat.{ℕ, suc, ◌≤◌, ◌<◌}
use mathlib.Core.Path.{◌≡◌, refl, ap, ◌∙◌}
use mathlib.Core.Bool.{Bool, true, false}
use mathlib.Core.List.{List, [], ◌∷◌, ◌++◌, map}
use borrow.Author.Tests.{ltb-true, lt-ltb, le-ltb}
use lib.Dec.{ltb}
use lib.ListN.{length, length-map}
use Rattle.meanings.specs.Lists.{pick, count}
use Rattle.meanings.specs.Limits.{full}
use Rattle.meanings.specs.Bytes.{LineEnding}
use Rattle.meanings.specs.Sheet.{EvaluationPoint}
use Rattle.meanings.specs.Reports.{given}
use Rattle.meanings.specs.Sheet.{Injection, kept, Contents, read_sheet}
use Rattle.meanings.specs.SheetForm.{Ended, without_endings, print_sheet, kept_of, Each}
use Rattle.laws.proofs.sheet.LineOrder.{minutes_of, values_of}
use Rattle.laws.proofs.sheet.Outcomes.{read_is_printed}

pub line_over_two_is_kept : (j : Injection) → 2 < j.injection → kept_of (j ∷ []) ≡ j ∷ []
line_over_two_is_kept j l = rw (lt-ltb 2 j.injection l)

pub line_up_to_two_is_left_out : (j : Injection) → j.injection ≤ 2 → kept_of (j ∷ []) ≡ []
line_up_to_two_is_left_out j l = rw (le-ltb 2 j.injection l)

pub kept_of_both : (js ks : List Injection) → kept_of (js ++ ks) ≡ kept_of js ++ kept_of ks
kept_of_both [] ks = refl
kept_of_both (j ∷ js) ks = by (kept j) (kept_of_both js ks)
  where
    by : (b : Bool) → kept_of (js ++ ks) ≡ kept_of js ++ kept_of ks
        → pick b (j ∷ kept_of (js ++ ks)) (kept_of (js ++ ks)) ≡ pick b (j ∷ kept_of js) (kept_of js) ++ kept_of ks
    by true h = ap (λ (r : List Injection). j ∷ r) h
    by false h = h

abbrev pub OverTwo : Injection → Type 0
OverTwo j = 2 < j.injection

kept_are_over_two : (js : List Injection) → Each OverTwo (kept_of js)
kept_are_over_two [] = tt
kept_are_over_two (j ∷ js) = by (kept j) refl (kept_are_over_two js)
  where
    by : (b : Bool) → kept j ≡ b → Each OverTwo (kept_of js) → Each OverTwo (pick b (j ∷ kept_of js) (kept_of js))
    by true e h = (ltb-true 2 j.injection e, h)
    by false e h = h

-- how many lines have an inj over 2
abbrev pub over_two : List Injection → ℕ
over_two js = count (ltb 2) (map (λ (j : Injection). j.injection) js)

kept_are_all_over_two : (js : List Injection) → length (kept_of js) ≡ over_two js
kept_are_all_over_two [] = refl
kept_are_all_over_two (j ∷ js) = by (kept j) (kept_are_all_over_two js)
  where
    by : (b : Bool) → length (kept_of js) ≡ over_two js
        → length (pick b (j ∷ kept_of js) (kept_of js)) ≡ pick b (suc (over_two js)) (over_two js)
    by true h = ap suc h
    by false h = h

-- what the reader keeps of a sheet that it accepts
pub record KeptReadings (s : List ℕ) (c : Contents) : Type 0 where
  pub header_ending : LineEnding
  pub mark_lines : List (Ended EvaluationPoint)
  pub empty_line_ending : LineEnding
  pub second_header_ending : LineEnding
  pub reading_lines : List (Ended Injection)
  pub printed : s ≡ print_sheet header_ending mark_lines empty_line_ending second_header_ending reading_lines
  pub minutes : c.minutes ≡ minutes_of (kept_of (without_endings reading_lines))
  pub values : c.values ≡ values_of (kept_of (without_endings reading_lines))
  pub only : Each OverTwo (kept_of (without_endings reading_lines))
  pub all : length c.minutes ≡ over_two (without_endings reading_lines)

pub kept_are_those_over_two : (s : List ℕ) (c : Contents) → read_sheet full s ≡ given c → KeptReadings s c
kept_are_those_over_two s c e =
    let i = read_is_printed full s c e in
    let js = without_endings i.sample_lines in
    record {
      header_ending = i.header_ending;
      mark_lines = i.point_lines;
      empty_line_ending = i.empty_line_ending;
      second_header_ending = i.sample_header_ending;
      reading_lines = i.sample_lines;
      printed = i.printed;
      minutes = i.minutes;
      values = i.values;
      only = kept_are_over_two js;
      all = ap length i.minutes ∙ length-map (kept_of js) (λ (j : Injection). j.minute) ∙ kept_are_all_over_two js;
    }

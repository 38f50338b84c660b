-- The plain sheet of a sheet with ranges has its marks and minutes, and the lows as values: line by line the same numbers without the last, so no line
-- has a fault and none is longer. Where each range is one value, lows and highs are one list.
use Prim.Native.Nat.{ℕ, ◌≤◌}
use mathlib.Core.Path.{◌≡◌, refl, sym, ap, ◌∙◌}
use mathlib.Core.Bool.{Bool, true, false}
use mathlib.Core.List.{List, [], ◌∷◌, ◌++◌, map}
use native.Mathlib.Omega.{arith}
use lib.ListN.{length, length-append}
use Rattle.meanings.specs.declared.Limits.{Limits}
use Rattle.meanings.specs.Lists.{pick}
use Rattle.meanings.specs.Limits.{max_sheet}
use Rattle.meanings.specs.Bytes.{ending_bytes, sample_header}
use Rattle.meanings.specs.Sheet.{Injection}
use Rattle.meanings.specs.SheetForm.{Ended, without_endings, sample_text, print_sample, print_samples, empty_front, kept_of, SampleForm, Neighbours, Each}
use Rattle.meanings.specs.SheetForm.{IsSheet}
use Rattle.meanings.specs.SheetForm as plain
use Rattle.meanings.specs.ranges.RangeSheet.{range_header, RangeInjection, kept_range, RangeContents}
use Rattle.meanings.specs.ranges.RangeOutput.{plain_contents}
use Rattle.laws.specs.ranges.RangeForm.{range_text, print_range, print_ranges, range_head, kept_ranges, RangeForm, MinuteOrder, IsRangeSheet}
use Rattle.laws.specs.ranges.RangeForm.{low_line, low_sheet, EqualEnds}

abbrev low_lines : List (Ended RangeInjection) → List (Ended Injection)
low_lines js = map (λ (l : Ended RangeInjection). low_line l) js

text_shorter : (j : RangeInjection) → length (sample_text (record { minute = j.minute; injection = j.injection; value = j.low })) ≤ length (range_text j)
text_shorter j = simp length-append (omega arith)

lines_shorter : (js : List (Ended RangeInjection)) → length (print_samples (low_lines js)) ≤ length (print_ranges js)
lines_shorter [] = omega arith
lines_shorter (l ∷ js) =
    let t = text_shorter l.content in
    let r = lines_shorter js in
    let a = length-append (print_sample (low_line l)) (print_samples (low_lines js)) in
    let b = length-append (sample_text (low_line l).content) (ending_bytes l.ending) in
    let c = length-append (print_range l) (print_ranges js) in
    let d = length-append (range_text l.content) (ending_bytes l.ending) in
    omega arith

forms : (js : List (Ended RangeInjection)) → Each RangeForm (without_endings js) → Each SampleForm (without_endings (low_lines js))
forms [] f = tt
forms (l ∷ js) f = (
  record {
    minute_range = f.0.minute_range;
    injection_low = f.0.injection_low;
    injection_high = f.0.injection_high;
    value_range = f.0.low_range;
  },
  forms js f.1,
)

order : (js : List (Ended RangeInjection)) → Neighbours MinuteOrder (without_endings js) → Neighbours plain.MinuteOrder (without_endings (low_lines js))
order [] n = tt
order (a ∷ []) n = tt
order (a ∷ b ∷ js) n = (n.0, order (b ∷ js) n.1)

-- what is taken of the kept readings
kept : {A : Type 0} (g : Injection → A) (h : RangeInjection → A)
    → ((j : RangeInjection) → g (record { minute = j.minute; injection = j.injection; value = j.low }) ≡ h j) → (js : List (Ended RangeInjection))
    → map g (kept_of (without_endings (low_lines js))) ≡ map h (kept_ranges (without_endings js))
kept g h e [] = refl
kept {A} g h e (l ∷ js) = by (kept_range l.content) (kept g h e js)
  where
    j : Injection
    j = record { minute = l.content.minute; injection = l.content.injection; value = l.content.low }

    by : (b : Bool) → map g (kept_of (without_endings (low_lines js))) ≡ map h (kept_ranges (without_endings js))
        → map g (pick b (j ∷ kept_of (without_endings (low_lines js))) (kept_of (without_endings (low_lines js))))
        ≡ map h (pick b (l.content ∷ kept_ranges (without_endings js)) (kept_ranges (without_endings js)))
    by true r = ap (λ (x : A). x ∷ map g (kept_of (without_endings (low_lines js)))) (e l.content) ∙ ap (λ (t : List A). h l.content ∷ t) r
    by false r = r

kept_count : (js : List (Ended RangeInjection)) → length (kept_of (without_endings (low_lines js))) ≡ length (kept_ranges (without_endings js))
kept_count [] = refl
kept_count (l ∷ js) = by (kept_range l.content) (kept_count js)
  where
    j : Injection
    j = record { minute = l.content.minute; injection = l.content.injection; value = l.content.low }

    by : (b : Bool) → length (kept_of (without_endings (low_lines js))) ≡ length (kept_ranges (without_endings js))
        → length (pick b (j ∷ kept_of (without_endings (low_lines js))) (kept_of (without_endings (low_lines js))))
        ≡ length (pick b (l.content ∷ kept_ranges (without_endings js)) (kept_ranges (without_endings js)))
    by true r = omega arith
    by false r = r

-- a shorter header line before shorter lines
shorter : (front ending : List ℕ) (js : List (Ended RangeInjection)) (s : List ℕ) → s ≡ (front ++ (range_header ++ ending)) ++ print_ranges js
    → length s ≤ max_sheet → length ((front ++ (sample_header ++ ending)) ++ print_samples (low_lines js)) ≤ max_sheet
shorter front ending js s e l =
    let r = lines_shorter js in
    let a = length-append (front ++ (range_header ++ ending)) (print_ranges js) in
    let b = length-append front (range_header ++ ending) in
    let c = length-append range_header ending in
    let a' = length-append (front ++ (sample_header ++ ending)) (print_samples (low_lines js)) in
    let b' = length-append front (sample_header ++ ending) in
    let c' = length-append sample_header ending in
    omega (arith, ap length e)

pub low_sheet_is_sheet : (L : Limits) (s : List ℕ) (c : RangeContents) (i : IsRangeSheet L s c)
    → IsSheet L (low_sheet i.front i.range_lines) (plain_contents c)
low_sheet_is_sheet L s c i =
    let n = i.front in
    let js = i.range_lines in
    let front = empty_front n.header_ending n.point_lines n.empty_line_ending in
    record {
      header_ending = n.header_ending;
      point_lines = n.point_lines;
      empty_line_ending = n.empty_line_ending;
      sample_header_ending = n.range_header_ending;
      sample_lines = low_lines js;
      printed = refl;
      short =
          shorter front (ending_bytes n.range_header_ending) js s
          (n.printed ∙ ap (λ (t : List ℕ). (front ++ range_head n.range_header_ending) ++ t) i.lines_printed) n.short;
      some_point = n.some_point;
      fit_points = n.fit_points;
      fit_samples = record {
        forms = forms js i.fit_ranges.forms;
        order = order js i.fit_ranges.order;
        few = let k = kept_count js in let f = i.fit_ranges.few in omega arith;
      };
      points = i.points;
      bandwidths = i.bandwidths;
      minutes = i.minutes ∙ sym (kept (λ (j : Injection). j.minute) (λ (j : RangeInjection). j.minute) (λ j. refl) js);
      values = i.lows ∙ sym (kept (λ (j : Injection). j.value) (λ (j : RangeInjection). j.low) (λ j. refl) js);
    }

-- ranges of one value each
pub equal_ends : (L : Limits) (s : List ℕ) (c : RangeContents) (i : IsRangeSheet L s c) → Each EqualEnds (without_endings i.range_lines) → c.lows ≡ c.highs
equal_ends L s c i e = i.lows ∙ by (without_endings i.range_lines) e ∙ sym i.highs
  where
    by : (js : List RangeInjection) → Each EqualEnds js
        → map (λ (j : RangeInjection). j.low) (kept_ranges js) ≡ map (λ (j : RangeInjection). j.high) (kept_ranges js)
    by [] e = refl
    by (j ∷ js) e = one (kept_range j) (by js e.1)
      where
        one : (b : Bool) → map (λ (j : RangeInjection). j.low) (kept_ranges js) ≡ map (λ (j : RangeInjection). j.high) (kept_ranges js)
            → map (λ (j : RangeInjection). j.low) (pick b (j ∷ kept_ranges js) (kept_ranges js))
            ≡ map (λ (j : RangeInjection). j.high) (pick b (j ∷ kept_ranges js) (kept_ranges js))
        one true r =
            ap (λ (x : ℕ). x ∷ map (λ (j : RangeInjection). j.low) (kept_ranges js)) e.0 ∙ ap (λ (t : List ℕ). j.high ∷ t) r
        one false r = r

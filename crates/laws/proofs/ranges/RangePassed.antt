-- The reader comes to the byte after faultless reading lines with what these lines say, whatever stands there; and there it refuses a line that is
-- none with 3, and a line with a fault with that fault.
use Prim.Native.Nat.{ℕ, ◌+◌, ◌≤◌}
use mathlib.Core.Path.{◌≡◌, refl, ap, ◌∙◌}
use mathlib.Core.List.{List, [], ◌∷◌, ◌++◌, append_assoc, append-nil}
use Rattle.std.specs.Prelude.{Option, None, Some}
use native.Mathlib.Omega.{arith}
use lib.ListN.{length, length-append}
use Rattle.meanings.specs.declared.Limits.{Limits}
use Rattle.meanings.specs.Bytes.{LineEnding, ending_bytes}
use Rattle.meanings.specs.Reports.{Fault, Answer, refused, first_of}
use Rattle.meanings.specs.Sheet.{Lines, end, unended, line, lines, next_place, refused_at}
use Rattle.meanings.specs.SheetForm.{Ended, without_endings, Neighbours, Each, Begins}
use Rattle.laws.proofs.text.Texts.{no_lines}
use Rattle.meanings.specs.declared.ranges.Kind.TheVariants.{Ranges}
use Rattle.meanings.specs.ranges.RangeSheet.{RangeInjection, range_line, reading_checks, Readings, with_line, with_reading, read_readings}
use Rattle.laws.specs.ranges.RangeForm.{range_text, print_range, print_ranges, kept_ranges, RangeForm, MinuteOrder, NotCrossed}
use Rattle.laws.proofs.ranges.RangeLines.{range_line_of_text, lines_of_range, range_begins}
use Rattle.laws.proofs.ranges.RangeOrder.{minutes_of, readings_of, readings_more, range_checks_none}

-- the place behind a printed line
pub line_length : (p : ℕ) (t : List ℕ) (d : LineEnding) (s : List ℕ) → next_place p t d + length s ≡ p + length ((t ++ ending_bytes d) ++ s)
line_length p t d s = omega (arith, length-append t (ending_bytes d), length-append (t ++ ending_bytes d) s)

module _ {A : Type 0} (L : Limits) (next : Readings → Answer A) where
  -- the reader at byte p after the reading lines js
  abbrev pub after_ranges : ℕ → List RangeInjection → Lines → Answer A
  after_ranges p js ls = read_readings L Ranges p (readings_of js) ls next

  one_range : (p : ℕ) (js : List RangeInjection) (t : List ℕ) (d : LineEnding) (j : RangeInjection) (ls : Lines) → range_line t ≡ Some j
      → first_of (reading_checks L p (minutes_of js) (length (minutes_of (kept_ranges js))) j) ≡ None
      → after_ranges p js (line t d ls) ≡ after_ranges (next_place p t d) (js ++ j ∷ []) ls
  one_range p js t d j ls e f = step ∙ ap (λ (r : Readings). read_readings L Ranges (next_place p t d) r ls next) (readings_more js j)
    where
      step : after_ranges p js (line t d ls) ≡ read_readings L Ranges (next_place p t d) (with_line (readings_of js) j) ls next
      step = rw (e, f)

  pub ranges_passed : (p : ℕ) (js : List RangeInjection) (ks : List (Ended RangeInjection)) (s : List ℕ) → Each RangeForm (without_endings ks)
      → Neighbours MinuteOrder (js ++ without_endings ks) → Each NotCrossed (without_endings ks) → length (kept_ranges (js ++ without_endings ks)) ≤ L.samples
      → after_ranges p js (lines (print_ranges ks ++ s)) ≡ after_ranges (p + length (print_ranges ks)) (js ++ without_endings ks) (lines s)
  ranges_passed p js [] s f n u few = let e : p + 0 ≡ p = omega arith in rw (append-nil js, e)
  ranges_passed p js (l ∷ ks) s f n u few =
      let j = l.content in
      let t = range_text j in
      let q = next_place p t l.ending in
      let e : (js ++ j ∷ []) ++ without_endings ks ≡ js ++ j ∷ without_endings ks = append_assoc js (j ∷ []) (without_endings ks) in
      ap (λ (t : List ℕ). after_ranges p js (lines t)) (append_assoc (print_range l) (print_ranges ks) s)
      ∙ ap (after_ranges p js) (lines_of_range l (print_ranges ks ++ s))
      ∙ one_range p js t l.ending j (lines (print_ranges ks ++ s)) (range_line_of_text j f.0)
      (range_checks_none L p js j (without_endings ks) n u.0 few)
      ∙ ranges_passed q (js ++ j ∷ []) ks s f.1 (rw e n) u.1 (rw e few)
      ∙ ap (λ (t : List RangeInjection). after_ranges (q + length (print_ranges ks)) t (lines s)) e
      ∙ ap (λ (q : ℕ). after_ranges q (js ++ j ∷ without_endings ks) (lines s)) (line_length p t l.ending (print_ranges ks))

  pub no_range_refused : (p : ℕ) (js : List RangeInjection) (b : ℕ) (rest : List ℕ)
      → ((j : Ended RangeInjection) → RangeForm j.content → ¬ Begins (print_range j) (b ∷ rest))
      → after_ranges p js (lines (b ∷ rest)) ≡ refused_at p 3
  no_range_refused p js b rest w = by (lines (b ∷ rest)) refl
    where
      by : (ls : Lines) → lines (b ∷ rest) ≡ ls → after_ranges p js ls ≡ refused_at p 3
      by end g = let e = no_lines (b ∷ rest) g in let z : ◌≡◌ {A = ℕ} 0 1 = cc in absurd (omega arith)
      by (unended t) g = refl
      by (line t d ls) g = read (range_line t) refl
        where
          read : (x : Option RangeInjection) → range_line t ≡ x
              → with_reading L p (readings_of js) x (λ r. read_readings L Ranges (next_place p t d) r ls next) ≡ refused_at p 3
          read None e = refl
          read (Some j) e =
              let o = range_begins (b ∷ rest) t d ls j g e in
              absurd (w (record { content = j; ending = d }) o.0 (o.1.0, o.1.1.0))

  pub faulty_range_refused : (p : ℕ) (js : List RangeInjection) (j : Ended RangeInjection) (r : List ℕ) (f : Fault) → RangeForm j.content
      → first_of (reading_checks L p (minutes_of js) (length (minutes_of (kept_ranges js))) j.content) ≡ Some f
      → after_ranges p js (lines (print_range j ++ r)) ≡ refused f
  faulty_range_refused p js j r f k e =
      ap (after_ranges p js) (lines_of_range j r) ∙ rw (range_line_of_text j.content k, e)

-- Every list of bytes is the sheet of some lists or is refused, in the second reading's own words: line by line, a line is one of fit lists,
-- or has a fault, or is no such line.
use Prim.Native.Nat.{ℕ, ◌≤◌}
use mathlib.Core.Path.{◌≡◌, refl, sym, ap, ◌∙◌}
use mathlib.Core.Logic.{◌⊎◌, inl, inr}
use mathlib.Core.Bool.{Bool, true, false}
use mathlib.Core.List.{List, [], ◌∷◌, ◌++◌, append_assoc, append-nil, map-append}
use Rattle.std.specs.Prelude.{Option, None, Some}
use native.Mathlib.Omega.{arith}
use borrow.Author.Tests.{ltb-true, ltb-false}
use lib.Dec.{ltb}
use lib.ListN.{length}
use Rattle.meanings.specs.declared.Limits.{Limits}
use Rattle.meanings.specs.Limits.{max_sheet}
use Rattle.meanings.specs.Bytes.{LineEnding, ending_bytes, point_header, sample_header}
use Rattle.meanings.specs.Sheet.{EvaluationPoint}
use Rattle.meanings.specs.Reports.{Fault, first_of}
use Rattle.meanings.specs.Sheet.{Lines, end, unended, line, lines, point_line, Injection, sample_line, Contents, point_checks, sample_checks}
use Rattle.meanings.specs.SheetForm.{Ended, without_endings, print_point, print_sample, point_head, print_front, sample_head, sample_front, print_sheet}
use Rattle.meanings.specs.SheetForm.{kept_of, FitPoints, FitSamples, IsSheet, Begins, Refused, too_long, no_point_header, no_empty_line}
use Rattle.meanings.specs.SheetForm.{malformed_point, faulty_point, no_point, no_sample_header, malformed_sample, faulty_sample}
use Rattle.laws.proofs.text.Texts.{no_lines, first_line}
use Rattle.laws.proofs.sheet.ValueLines.{no_point_begins, no_sample_begins}
use Rattle.laws.proofs.sheet.LineOrder.{minutes_of, values_of, points_of, bandwidths_of, sample_fits, point_fits}
use Rattle.laws.proofs.sheet.Headers.{BeginsLine, BeginsNoLine, point_header_line, sample_header_line, lines_of_empty_line, header_there}
use Rattle.laws.proofs.sheet.PointFaults.{point_fault_of_check}
use Rattle.laws.proofs.sheet.PointLines.{unread_no_point, point_begins, one_point_more}
use Rattle.laws.proofs.sheet.SampleFaults.{sample_fault_of_check}
use Rattle.laws.proofs.sheet.SampleLines.{unread_no_sample, sample_begins, one_sample_more}

pub data Decided (L : Limits) (s : List ℕ) : Type 0 where
  accepted : (c : Contents) → IsSheet L s c → Decided L s
  faulted : (n p : ℕ) → Refused L s n p → Decided L s

module _ (L : Limits) (s : List ℕ) (short : length s ≤ max_sheet) where
  -- the lines up to the reading lines
  module _ (e : LineEnding) (ms : List (Ended EvaluationPoint)) (fit : FitPoints L (without_endings ms)) (few : 1 ≤ length (without_endings ms))
      (d f : LineEnding) where
    -- after the reading lines js, with the line t next and the lines after it decided
    sample_decided : (js : List (Ended Injection)) (b : ℕ) (rest t : List ℕ) (i : LineEnding) (ls : Lines) → FitSamples L (without_endings js)
        → s ≡ print_sheet e ms d f js ++ b ∷ rest → lines (b ∷ rest) ≡ line t i ls
        → ((j : Ended Injection) (r : List ℕ) → FitSamples L (without_endings (js ++ j ∷ [])) → s ≡ print_sheet e ms d f (js ++ j ∷ []) ++ r → lines r ≡ ls
        → Decided L s)
        → Decided L s
    sample_decided js b rest t i ls g q h k = by (sample_line t) refl
      where
        checked : (j : Injection) → sample_line t ≡ Some j → (x : Option Fault)
            → first_of (sample_checks L 0 (minutes_of (without_endings js)) (length (minutes_of (kept_of (without_endings js)))) j) ≡ x → Decided L s
        checked j y None c =
            let a = sample_begins (b ∷ rest) t i ls j h y in
            let l : Ended Injection = record { content = j; ending = i } in
            k l a.1.0 (rw (map-append (λ (l : Ended Injection). l.content) js (l ∷ [])) (sample_fits L 0 (without_endings js) j g a.0 c))
            (one_sample_more (sample_front e ms d f) s js l a.1.0 (q ∙ ap (λ (r : List ℕ). print_sheet e ms d f js ++ r) a.1.1.0))
            a.1.1.1
        checked j y (Some x) c =
            let a = sample_begins (b ∷ rest) t i ls j h y in
            let l : Ended Injection = record { content = j; ending = i } in
            faulted _ _
            (faulty_sample short e ms fit few d f js g l a.0 (
              a.1.0,
              q ∙ ap (λ (r : List ℕ). print_sheet e ms d f js ++ r) a.1.1.0
                  ∙ sym (append_assoc (print_sheet e ms d f js) (print_sample l) a.1.0),
            ) (sample_fault_of_check L 0 (without_endings js) j x g.order c))

        by : (x : Option Injection) → sample_line t ≡ x → Decided L s
        by None y = faulted _ _ (malformed_sample short e ms fit few d f js g b rest q (unread_no_sample (b ∷ rest) t i ls h y))
        by (Some j) y = checked j y (first_of (sample_checks L 0 (minutes_of (without_endings js)) (length (minutes_of (kept_of (without_endings js)))) j)) refl

    samples_decided : (js : List (Ended Injection)) (ls : Lines) (r : List ℕ) → FitSamples L (without_endings js) → s ≡ print_sheet e ms d f js ++ r
        → lines r ≡ ls → Decided L s
    samples_decided js end r g q h =
        accepted
        (record {
          minutes = minutes_of (kept_of (without_endings js));
          values = values_of (kept_of (without_endings js));
          points = points_of (without_endings ms);
          bandwidths = bandwidths_of (without_endings ms);
        })
        (record {
          header_ending = e;
          point_lines = ms;
          empty_line_ending = d;
          sample_header_ending = f;
          sample_lines = js;
          printed = rw (no_lines r h) at q ∙ append-nil (print_sheet e ms d f js);
          short = short;
          some_point = few;
          fit_points = fit;
          fit_samples = g;
          points = refl;
          bandwidths = refl;
          minutes = refl;
          values = refl;
        })
    samples_decided js (unended t) [] g q h = let z : ◌≡◌ {A = ℕ} 0 1 = cc in absurd (omega arith)
    samples_decided js (unended t) (b ∷ rest) g q h =
        faulted _ _ (malformed_sample short e ms fit few d f js g b rest q (no_sample_begins (b ∷ rest) t h))
    samples_decided js (line t i ls) [] g q h = let z : ◌≡◌ {A = ℕ} 0 1 = cc in absurd (omega arith)
    samples_decided js (line t i ls) (b ∷ rest) g q h =
        sample_decided js b rest t i ls g q h (λ j r g' q' h'. samples_decided (js ++ j ∷ []) ls r g' q' h')

  -- at the empty line
  end_decided : (e : LineEnding) (ms : List (Ended EvaluationPoint)) (d : LineEnding) (r : List ℕ) → FitPoints L (without_endings ms)
      → s ≡ print_front e ms ++ (ending_bytes d ++ r) → Decided L s
  end_decided e [] d r fit q =
      faulted _ _
      (no_point short e d (
        r,
        q ∙ ap (λ (t : List ℕ). t ++ (ending_bytes d ++ r)) (append-nil (point_head e)) ∙ sym (append_assoc (point_head e) (ending_bytes d) r),
      ))
  end_decided e (m ∷ ms) d r fit q = by (header_there sample_header r sample_header_line)
    where
      front : List ℕ
      front = print_front e (m ∷ ms)

      at_header : s ≡ (front ++ ending_bytes d) ++ r
      at_header = q ∙ sym (append_assoc front (ending_bytes d) r)

      by : BeginsLine sample_header r ⊎ BeginsNoLine sample_header r → Decided L s
      by (inl (f, b)) =
          samples_decided e (m ∷ ms) fit (omega arith) d f [] (lines b.0) b.0 (record { forms = tt; order = tt; few = omega arith })
          (at_header ∙ ap (λ (t : List ℕ). (front ++ ending_bytes d) ++ t) b.1
          ∙ sym (append_assoc (front ++ ending_bytes d) (sample_head f) b.0)
          ∙ ap (λ (t : List ℕ). t ++ b.0) (sym (append-nil (sample_front e (m ∷ ms) d f))))
          refl
      by (inr n) = faulted _ _ (no_sample_header short e (m ∷ ms) fit (omega arith) d r at_header n)

  -- after the mark lines ms, with the line that begins with c next and the lines after it decided
  point_decided : (e : LineEnding) (ms : List (Ended EvaluationPoint)) (b : ℕ) (rest : List ℕ) (c : ℕ) (t : List ℕ) (i : LineEnding) (ls : Lines)
      → FitPoints L (without_endings ms) → s ≡ print_front e ms ++ b ∷ rest → lines (b ∷ rest) ≡ line (c ∷ t) i ls
      → ((m : Ended EvaluationPoint) (r : List ℕ) → FitPoints L (without_endings (ms ++ m ∷ [])) → s ≡ print_front e (ms ++ m ∷ []) ++ r → lines r ≡ ls
      → Decided L s)
      → Decided L s
  point_decided e ms b rest c t i ls g q h k = by (point_line (c ∷ t)) refl
    where
      checked : (m : EvaluationPoint) → point_line (c ∷ t) ≡ Some m → (x : Option Fault)
          → first_of (point_checks L 0 (points_of (without_endings ms)) (bandwidths_of (without_endings ms)) m) ≡ x → Decided L s
      checked m y None d =
          let a = point_begins (b ∷ rest) (c ∷ t) i ls m h y in
          let l : Ended EvaluationPoint = record { content = m; ending = i } in
          k l a.1.0 (rw (map-append (λ (l : Ended EvaluationPoint). l.content) ms (l ∷ [])) (point_fits L 0 (without_endings ms) m g a.0 d))
          (one_point_more (point_head e) s ms l a.1.0 (q ∙ ap (λ (r : List ℕ). print_front e ms ++ r) a.1.1.0))
          a.1.1.1
      checked m y (Some f) d =
          let a = point_begins (b ∷ rest) (c ∷ t) i ls m h y in
          let l : Ended EvaluationPoint = record { content = m; ending = i } in
          faulted _ _
          (faulty_point short e ms g l a.0 (
            a.1.0,
            q ∙ ap (λ (r : List ℕ). print_front e ms ++ r) a.1.1.0 ∙ sym (append_assoc (print_front e ms) (print_point l) a.1.0),
          ) (point_fault_of_check L 0 (without_endings ms) m f g.order d))

      by : (x : Option EvaluationPoint) → point_line (c ∷ t) ≡ x → Decided L s
      by None y =
          faulted _ _
          (malformed_point short e ms g b rest q
          (λ d (z : Begins (ending_bytes d) (b ∷ rest)).
          let o = sym h ∙ lines_of_empty_line (b ∷ rest) d z in let z : ◌≡◌ {A = ℕ} 0 1 = cc in omega arith)
          (unread_no_point (b ∷ rest) (c ∷ t) i ls h y))
      by (Some m) y = checked m y (first_of (point_checks L 0 (points_of (without_endings ms)) (bandwidths_of (without_endings ms)) m)) refl

  points_decided : (e : LineEnding) (ms : List (Ended EvaluationPoint)) (ls : Lines) (r : List ℕ) → FitPoints L (without_endings ms) → s ≡ print_front e ms ++ r
      → lines r ≡ ls → Decided L s
  points_decided e ms end r g q h = faulted _ _ (no_empty_line short e ms g (rw (no_lines r h) at q ∙ append-nil (print_front e ms)))
  points_decided e ms (unended t) [] g q h = let z : ◌≡◌ {A = ℕ} 0 1 = cc in absurd (omega arith)
  points_decided e ms (unended t) (b ∷ rest) g q h =
      faulted _ _
      (malformed_point short e ms g b rest q
      (λ d (z : Begins (ending_bytes d) (b ∷ rest)).
      let o = sym h ∙ lines_of_empty_line (b ∷ rest) d z in let z : ◌≡◌ {A = ℕ} 0 1 = cc in omega arith)
      (no_point_begins (b ∷ rest) t h))
  points_decided e ms (line [] d ls) r g q h =
      let i = first_line r [] d ls h in
      end_decided e ms d i.0 g (q ∙ ap (λ (r : List ℕ). print_front e ms ++ r) i.1.0)
  points_decided e ms (line (c ∷ t) i ls) [] g q h = let z : ◌≡◌ {A = ℕ} 0 1 = cc in absurd (omega arith)
  points_decided e ms (line (c ∷ t) i ls) (b ∷ rest) g q h =
      point_decided e ms b rest c t i ls g q h (λ m r g' q' h'. points_decided e (ms ++ m ∷ []) ls r g' q' h')

pub decided : (L : Limits) (s : List ℕ) → Decided L s
decided L s = by (ltb max_sheet (length s)) refl
  where
    named : length s ≤ max_sheet → BeginsLine point_header s ⊎ BeginsNoLine point_header s → Decided L s
    named l (inl (e, b)) =
        points_decided L s l e [] (lines b.0) b.0 (record { forms = tt; ranges = tt; order = tt; few = omega arith })
        (b.1 ∙ ap (λ (t : List ℕ). t ++ b.0) (sym (append-nil (point_head e)))) refl
    named l (inr n) = faulted _ _ (no_point_header l n)

    by : (d : Bool) → ltb max_sheet (length s) ≡ d → Decided L s
    by true e = faulted _ _ (too_long (ltb-true max_sheet (length s) e))
    by false e = named (ltb-false max_sheet (length s) e) (header_there point_header s point_header_line)

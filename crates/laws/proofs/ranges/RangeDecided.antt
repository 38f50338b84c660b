-- Behind the header line of ranges every list of bytes is the print of fit lines or is refused, in the second reading's own words: line by line, a line
-- is fit, or has a fault, or is no such line.
use Prim.Native.Nat.{ℕ}
use mathlib.Core.Path.{◌≡◌, refl, sym, ap, ◌∙◌}
use mathlib.Core.List.{List, [], ◌∷◌, ◌++◌, append_assoc, append-nil, map-append}
use Rattle.std.specs.Prelude.{Option, None, Some}
use native.Mathlib.Omega.{arith}
use lib.ListN.{length}
use Rattle.meanings.specs.declared.Limits.{Limits}
use Rattle.meanings.specs.Bytes.{LineEnding}
use Rattle.meanings.specs.Reports.{Fault, first_of}
use Rattle.meanings.specs.Sheet.{Lines, end, unended, line, lines}
use Rattle.meanings.specs.SheetForm.{Ended, without_endings}
use Rattle.laws.proofs.text.Texts.{no_lines}
use Rattle.laws.proofs.sheet.LineOrder.{points_of, bandwidths_of}
use Rattle.meanings.specs.declared.ranges.Kind.TheVariants.{Ranges}
use Rattle.meanings.specs.ranges.RangeSheet.{RangeInjection, range_line, reading_checks, RangeContents}
use Rattle.laws.specs.ranges.RangeForm.{print_range, print_ranges, kept_ranges, FitRanges, NamesRanges, IsRangeSheet, RangeRefused}
use Rattle.laws.specs.ranges.RangeForm.{malformed_range, faulty_range}
use Rattle.laws.proofs.ranges.RangeLines.{no_range_begins, unread_no_range, range_begins}
use Rattle.laws.proofs.ranges.RangeOrder.{minutes_of, lows_of, highs_of, range_fits, fault_of_check}

pub data RangeDecided (L : Limits) (s : List ℕ) (n : NamesRanges L s) : Type 0 where
  accepted : (c : RangeContents) → IsRangeSheet L s c → RangeDecided L s n
  faulted : (r p : ℕ) → RangeRefused L s n r p → RangeDecided L s n

print_more : (js : List (Ended RangeInjection)) (j : Ended RangeInjection) → print_ranges (js ++ j ∷ []) ≡ print_ranges js ++ print_range j
print_more [] j = append-nil (print_range j)
print_more (a ∷ js) j =
    ap (λ (t : List ℕ). print_range a ++ t) (print_more js j) ∙ sym (append_assoc (print_range a) (print_ranges js) (print_range j))

one_more : (s : List ℕ) (js : List (Ended RangeInjection)) (j : Ended RangeInjection) (r : List ℕ) → s ≡ print_ranges js ++ (print_range j ++ r)
    → s ≡ print_ranges (js ++ j ∷ []) ++ r
one_more s js j r e =
    e ∙ sym (append_assoc (print_ranges js) (print_range j) r) ∙ ap (λ (t : List ℕ). t ++ r) (sym (print_more js j))

module _ (L : Limits) (s : List ℕ) (n : NamesRanges L s) where
  -- after the reading lines js, with the line t next and the lines after it decided
  line_decided : (js : List (Ended RangeInjection)) (b : ℕ) (rest t : List ℕ) (i : LineEnding) (ls : Lines) → FitRanges L (without_endings js)
      → n.behind ≡ print_ranges js ++ b ∷ rest → lines (b ∷ rest) ≡ line t i ls
      → ((j : Ended RangeInjection) (r : List ℕ) → FitRanges L (without_endings (js ++ j ∷ [])) → n.behind ≡ print_ranges (js ++ j ∷ []) ++ r → lines r ≡ ls
      → RangeDecided L s n)
      → RangeDecided L s n
  line_decided js b rest t i ls g q h k = by (range_line t) refl
    where
      checked : (j : RangeInjection) → range_line t ≡ Some j → (x : Option Fault)
          → first_of (reading_checks L 0 (minutes_of (without_endings js)) (length (minutes_of (kept_ranges (without_endings js)))) j) ≡ x → RangeDecided L s n
      checked j y None c =
          let a = range_begins (b ∷ rest) t i ls j h y in
          let l : Ended RangeInjection = record { content = j; ending = i } in
          k l a.1.0 (rw (map-append (λ (l : Ended RangeInjection). l.content) js (l ∷ [])) (range_fits L 0 (without_endings js) j g a.0 c))
          (one_more n.behind js l a.1.0 (q ∙ ap (λ (r : List ℕ). print_ranges js ++ r) a.1.1.0))
          a.1.1.1
      checked j y (Some x) c =
          let a = range_begins (b ∷ rest) t i ls j h y in
          let l : Ended RangeInjection = record { content = j; ending = i } in
          faulted _ _
          (faulty_range js g l a.0 (
            a.1.0,
            q ∙ ap (λ (r : List ℕ). print_ranges js ++ r) a.1.1.0 ∙ sym (append_assoc (print_ranges js) (print_range l) a.1.0),
          ) (fault_of_check L 0 (without_endings js) j x g.order c))

      by : (x : Option RangeInjection) → range_line t ≡ x → RangeDecided L s n
      by None y = faulted _ _ (malformed_range js g b rest q (unread_no_range (b ∷ rest) t i ls h y))
      by (Some j) y =
          checked j y
          (first_of (reading_checks L 0 (minutes_of (without_endings js)) (length (minutes_of (kept_ranges (without_endings js)))) j)) refl

  lines_decided : (js : List (Ended RangeInjection)) (ls : Lines) (r : List ℕ) → FitRanges L (without_endings js) → n.behind ≡ print_ranges js ++ r
      → lines r ≡ ls → RangeDecided L s n
  lines_decided js end r g q h =
      accepted
      (record {
        kind = Ranges;
        minutes = minutes_of (kept_ranges (without_endings js));
        lows = lows_of (kept_ranges (without_endings js));
        highs = highs_of (kept_ranges (without_endings js));
        points = points_of (without_endings n.point_lines);
        bandwidths = bandwidths_of (without_endings n.point_lines);
      })
      (record {
        front = n;
        range_lines = js;
        lines_printed = rw (no_lines r h) at q ∙ append-nil (print_ranges js);
        fit_ranges = g;
        kind = refl;
        minutes = refl;
        lows = refl;
        highs = refl;
        points = refl;
        bandwidths = refl;
      })
  lines_decided js (unended t) [] g q h = let z : ◌≡◌ {A = ℕ} 0 1 = cc in absurd (omega arith)
  lines_decided js (unended t) (b ∷ rest) g q h = faulted _ _ (malformed_range js g b rest q (no_range_begins (b ∷ rest) t h))
  lines_decided js (line t i ls) [] g q h = let z : ◌≡◌ {A = ℕ} 0 1 = cc in absurd (omega arith)
  lines_decided js (line t i ls) (b ∷ rest) g q h =
      line_decided js b rest t i ls g q h (λ j r g' q' h'. lines_decided (js ++ j ∷ []) ls r g' q' h')

  pub range_decided : RangeDecided L s n
  range_decided =
      lines_decided [] (lines n.behind) n.behind (record { forms = tt; order = tt; uncrossed = tt; few = omega arith }) refl refl

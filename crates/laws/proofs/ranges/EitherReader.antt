-- With the plain header line the reader of both kinds does line by line what the reader of plain sheets does, each value standing as low and high,
-- which no check of crossed ranges finds. With the header line of ranges the other reader stops there.
use Prim.Native.Nat.{ℕ}
use mathlib.Core.Path.{◌≡◌, refl, sym, ap, ◌∙◌}
use mathlib.Core.Bool.{Bool, true, false}
use mathlib.Core.List.{List, [], ◌∷◌, ◌++◌}
use Rattle.std.specs.Prelude.{Option, None, Some}
use native.Mathlib.Nat.{le_refl}
use borrow.Author.Tests.{le-ltb}
use lib.ListN.{length}
use Rattle.meanings.specs.declared.Limits.{Limits}
use Rattle.meanings.specs.Bytes.{LineEnding, sample_header}
use Rattle.meanings.specs.Reports.{Fault, Answer, given, refused, first_of}
use Rattle.meanings.specs.Sheet.{Lines, end, unended, line, next_place, same, or_next, Injection, kept, add_kept, sample_line, sample_checks}
use Rattle.meanings.specs.Sheet.{with_sample, read_samples, Outcome, read_sheet}
use Rattle.laws.proofs.sheet.Headers.{same_true}
use Rattle.meanings.specs.declared.ranges.Kind.TheVariants.{Plain}
use Rattle.meanings.specs.ranges.RangeSheet.{Front, sheet_front, range_header, standing_twice, Readings, with_reading, read_readings}
use Rattle.meanings.specs.ranges.RangeSheet.{range_contents, RangeContents, read_either_from, read_either}
use Rattle.meanings.specs.ranges.EitherKind.{doubled, and_then, EitherKind, plain, of_ranges}
use Rattle.meanings.proofs.Fronts.{front_then, plain_from, plain_is_front}

-- the readings of plain lines
abbrev twice : List ℕ → List ℕ → List ℕ → Readings
twice all ts vs = record { all = all; minutes = ts; lows = vs; highs = vs }

-- a plain line's value is not below itself
one_line : (L : Limits) (p : ℕ) (all ts vs : List ℕ) (o : Option Injection) (next : List ℕ → List ℕ → List ℕ → Outcome)
    (next' : Readings → Answer RangeContents)
    → ((ms xs ys : List ℕ) → doubled (next ms xs ys) ≡ next' (twice ms xs ys))
    → doubled (with_sample L p all ts vs o next) ≡ with_reading L p (twice all ts vs) (standing_twice o) next'
one_line L p all ts vs None next next' h = refl
one_line L p all ts vs (Some j) next next' h = rw (le-ltb j.value j.value (le_refl _)) (by (first_of (sample_checks L p all (length ts) j)))
  where
    by : (o : Option Fault)
        → doubled (or_next o (next (all ++ j.minute ∷ []) (add_kept (kept j) j.minute ts) (add_kept (kept j) j.value vs)))
        ≡ or_next o (next' (twice (all ++ j.minute ∷ []) (add_kept (kept j) j.minute ts) (add_kept (kept j) j.value vs)))
    by None = h _ _ _
    by (Some e) = refl

plain_readings : (L : Limits) (f : Front) (p : ℕ) (all ts vs : List ℕ) (ls : Lines)
    → doubled (read_samples L f.points f.bandwidths p all ts vs ls)
    ≡ read_readings L Plain p (twice all ts vs) ls (λ r. given (range_contents Plain f r))
plain_readings L f p all ts vs end = refl
plain_readings L f p all ts vs (unended t) = refl
plain_readings L f p all ts vs (line t e ls) =
    one_line L p all ts vs (sample_line t) _ _ (λ ms xs ys. plain_readings L f (next_place p t e) ms xs ys ls)

-- from the second header line on
data FromNames (L : Limits) (f : Front) : Type 0 where
  alike : read_either_from L f ≡ doubled (plain_from L f) → FromNames L f
  named : (e : LineEnding) (ls : Lines) → f.rest ≡ line range_header e ls → FromNames L f

from_names : (L : Limits) (f : Front) → FromNames L f
from_names L f = by f.rest refl
  where
    by_names : (t : List ℕ) (e : LineEnding) (ls : Lines) → f.rest ≡ line t e ls → (b : Bool) → same t sample_header ≡ b
        → (d : Bool) → same t range_header ≡ d → FromNames L f
    by_names t e ls g true h d k = alike (rw (g, h) (sym (plain_readings L f (next_place f.place t e) [] [] [] ls)))
    by_names t e ls g false h true k = named e ls (g ∙ ap (λ (t : List ℕ). line t e ls) (same_true t range_header k))
    by_names t e ls g false h false k = alike (rw (g, h, k))

    by : (r : Lines) → f.rest ≡ r → FromNames L f
    by end g = alike (rw g)
    by (unended t) g = alike (rw g)
    by (line t e ls) g = by_names t e ls g (same t sample_header) refl (same t range_header) refl

-- what both readers say of a sheet, from its front
module _ (L : Limits) (s : List ℕ) where
  pub either_of : (a : Answer Front) → sheet_front L s given ≡ a → read_either L s ≡ and_then a (read_either_from L)
  unfolding read_either
  either_of a e = sym (front_then L s (read_either_from L)) ∙ ap (λ (x : Answer Front). and_then x (read_either_from L)) e

  pub plain_of : (a : Answer Front) → sheet_front L s given ≡ a → read_sheet L s ≡ and_then a (plain_from L)
  plain_of a e = plain_is_front L s ∙ sym (front_then L s (plain_from L)) ∙ ap (λ (x : Answer Front). and_then x (plain_from L)) e

  pub either_kind : EitherKind L s
  either_kind = by (sheet_front L s given) refl
    where
      from : (f : Front) → sheet_front L s given ≡ given f → FromNames L f → EitherKind L s
      from f e (alike h) = plain (either_of (given f) e ∙ h ∙ ap doubled (sym (plain_of (given f) e)))
      from f e (named d ls g) =
          of_ranges
          (record {
            ranges = record { front = f; ending = d; behind = ls; before = e; named = g };
            heading = plain_of (given f) e ∙ rw g;
          })

      by : (a : Answer Front) → sheet_front L s given ≡ a → EitherKind L s
      by (given f) e = from f e (from_names L f)
      by (refused x) e = plain (either_of (refused x) e ∙ ap doubled (sym (plain_of (refused x) e)))

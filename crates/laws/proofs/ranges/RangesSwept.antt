-- What the reader of both kinds accepts the sweep over ranges accepts: none of its checks holds of the lists of an accepted sheet.
use Prim.Native.Nat.{ℕ, ◌*◌, ◌≤◌, ◌<◌}
use mathlib.Core.Path.{◌≡◌, refl, sym, ◌∙◌}
use mathlib.Core.Bool.{Bool, true, false}
use mathlib.Core.List.{List}
use Rattle.std.specs.Prelude.{None}
use native.Mathlib.Omega.{arith}
use borrow.Author.Tests.{le-ltb, ne_eqb}
use lib.ListN.{length, get_or}
use Rattle.meanings.specs.declared.Limits.{Limits}
use Rattle.meanings.specs.Lists.{pick, AtMost}
use Rattle.meanings.specs.Limits.{full, max_u16}
use Rattle.meanings.specs.Bytes.{sample_header}
use Rattle.meanings.specs.Moves.{moves}
use Rattle.meanings.specs.Reports.{Answer, given, refused, decreases, bad_bandwidth, edge_decreases}
use Rattle.meanings.specs.Running.{fresh, passes}
use Rattle.meanings.specs.Sheet.{Lines, end, unended, line, next_place, same, refused_at}
use Rattle.meanings.proofs.Checks.{differ_same}
use Rattle.meanings.proofs.Search.{none_lowest}
use Rattle.meanings.specs.declared.ranges.Kind.{Kind}
use Rattle.meanings.specs.declared.ranges.Kind.TheVariants.{Plain, Ranges}
use Rattle.meanings.specs.ranges.Ranges.{range_row_width, range_rows, crossed, range_refusal, smooth_ranges, smooth_ranges_rows}
use Rattle.meanings.specs.ranges.RangeSheet.{Front, sheet_front, range_header, Readings, no_readings, read_readings, second_header, range_contents}
use Rattle.meanings.specs.ranges.RangeSheet.{RangeContents, read_either_from, read_either}
use Rattle.meanings.specs.ranges.EitherKind.{and_then}
use Rattle.meanings.proofs.ReadingLines.{read_readings_over}
use Rattle.laws.proofs.ranges.EitherReader.{either_of}
use Rattle.laws.proofs.ranges.FitFronts.{FitMarks, FitFront, front_is_fit}
use Rattle.laws.proofs.ranges.FitReadings.{FitReadings, readings_are_fit}

pub record AcceptedRanges (L : Limits) (c : RangeContents) : Type 0 where
  pub even_lows : length c.minutes ≡ length c.lows
  pub even_highs : length c.minutes ≡ length c.highs
  pub few : length c.minutes ≤ L.samples
  pub small_minutes : AtMost max_u16 c.minutes
  pub small_lows : AtMost max_u16 c.lows
  pub small_highs : AtMost max_u16 c.highs
  pub rising : (k : ℕ) → k < length c.minutes → decreases c.minutes k ≡ false
  pub uncrossed : (k : ℕ) → k < length c.lows → crossed c.lows c.highs k ≡ false
  pub marks : FitMarks L c.points c.bandwidths
  pub some_mark : 1 ≤ length c.points

fit_parts : (L : Limits) (k : Kind) (f : Front) (r : Readings) → FitFront L f → FitReadings L r → AcceptedRanges L (range_contents k f r)
fit_parts L k f r a b =
    record {
      even_lows = b.even_lows;
      even_highs = b.even_highs;
      few = b.few;
      small_minutes = b.small_minutes;
      small_lows = b.small_lows;
      small_highs = b.small_highs;
      rising = b.rising;
      uncrossed = b.uncrossed;
      marks = a.marks;
      some_mark = a.some_mark;
    }

module _ (L : Limits) (c : RangeContents) (f : Front) (front : FitFront L f) where
  -- the reading lines of either kind
  of_lines : (k : Kind) (p : ℕ) (ls : Lines) → read_readings L k p no_readings ls (λ r. given (range_contents k f r)) ≡ given c → AcceptedRanges L c
  of_lines k p ls h = by (read_readings L k p no_readings ls given) refl (over ∙ h)
    where
      over : and_then (read_readings L k p no_readings ls given) (λ r. given (range_contents k f r))
          ≡ read_readings L k p no_readings ls (λ r. given (range_contents k f r))
      over = read_readings_over (λ a. and_then a (λ r. given (range_contents k f r))) (λ e. refl) L k p no_readings ls given _ (λ r. refl)

      by : (a : Answer Readings) → read_readings L k p no_readings ls given ≡ a → and_then a (λ r. given (range_contents k f r)) ≡ given c
          → AcceptedRanges L c
      by (given r) e h =
          let q : ◌≡◌ {A = RangeContents} (range_contents k f r) c = cc in
          rw (← q) (fit_parts L k f r front (readings_are_fit L k p ls r e))
      by (refused x) e h = let z : ◌≡◌ {A = ℕ} 0 1 = cc in absurd (omega arith)

  of_names : (p : ℕ) (ls : Lines)
      → second_header p ls (λ k p ls. read_readings L k p no_readings ls (λ r. given (range_contents k f r))) ≡ given c → AcceptedRanges L c
  of_names p end h = let z : ◌≡◌ {A = ℕ} 0 1 = cc in absurd (omega arith)
  of_names p (unended t) h = let z : ◌≡◌ {A = ℕ} 0 1 = cc in absurd (omega arith)
  of_names p (line t e ls) h = by (same t sample_header) (same t range_header) h
    where
      by : (b d : Bool)
          → pick b (read_readings L Plain (next_place p t e) no_readings ls (λ r. given (range_contents Plain f r)))
          (pick d (read_readings L Ranges (next_place p t e) no_readings ls (λ r. given (range_contents Ranges f r))) (refused_at p 2))
          ≡ given c → AcceptedRanges L c
      by true d h = of_lines Plain (next_place p t e) ls h
      by false true h = of_lines Ranges (next_place p t e) ls h
      by false false h = let z : ◌≡◌ {A = ℕ} 0 1 = cc in absurd (omega arith)

pub accepted_ranges : (L : Limits) (s : List ℕ) (c : RangeContents) → read_either L s ≡ given c → AcceptedRanges L c
accepted_ranges L s c h = by (sheet_front L s given) refl
  where
    by : (a : Answer Front) → sheet_front L s given ≡ a → AcceptedRanges L c
    by (given f) e = of_names L c f (front_is_fit L s f e) f.place f.rest (sym (either_of L s (given f) e) ∙ h)
    by (refused x) e =
        let q : and_then (refused x) (read_either_from L) ≡ given c = sym (either_of L s (refused x) e) ∙ h in
        let z : ◌≡◌ {A = ℕ} 0 1 = cc in absurd (omega arith)

contents_are_swept : (c : RangeContents) → AcceptedRanges full c → (rs : List ℕ) → length rs ≡ range_row_width * length c.points
    → range_refusal full c.minutes c.lows c.highs c.points c.bandwidths rs ≡ None
contents_are_swept c a rs seven =
    rw (
      differ_same _ _ a.even_lows,
      differ_same _ _ a.marks.even,
      differ_same _ _ a.even_highs,
      differ_same _ _ seven,
      le-ltb full.samples (length c.minutes) a.few,
      le-ltb full.points (length c.points) a.marks.few,
      ne_eqb (length c.points) 0 (λ e. omega (arith, a.some_mark)),
      none_lowest (decreases c.minutes) (length c.minutes) a.rising,
      none_lowest (crossed c.lows c.highs) (length c.lows) a.uncrossed,
      none_lowest (decreases c.points) (length c.points) a.marks.rising,
      none_lowest (λ k. bad_bandwidth (get_or c.bandwidths k 0)) (length c.bandwidths) a.marks.widths,
      none_lowest (edge_decreases c.points c.bandwidths) (length c.points) a.marks.edges,
    )

module _ (s : List ℕ) (c : RangeContents) (e : read_either full s ≡ given c) (rs : List ℕ) (seven : length rs ≡ range_row_width * length c.points) where
  pub accepted_sheet_is_swept : range_refusal full c.minutes c.lows c.highs c.points c.bandwidths rs ≡ None
  accepted_sheet_is_swept = contents_are_swept c (accepted_ranges full s c e) rs seven

  -- the sweep answers with its passes
  pub accepted_sheet_has_passes :
      smooth_ranges full c.minutes c.lows c.highs c.points c.bandwidths rs
      ≡ given (passes c.minutes c.lows fresh (moves c.points c.bandwidths))
  unfolding smooth_ranges
  accepted_sheet_has_passes = rw accepted_sheet_is_swept

  -- and hands out the rows of all marks
  pub accepted_sheet_has_rows :
      smooth_ranges_rows full c.minutes c.lows c.highs c.points c.bandwidths rs
      ≡ range_rows c.minutes c.lows c.highs c.points c.bandwidths (length c.points)
  unfolding smooth_ranges_rows
  accepted_sheet_has_rows = rw accepted_sheet_is_swept

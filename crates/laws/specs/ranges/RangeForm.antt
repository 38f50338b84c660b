-- A second reading of sheets of both kinds, which parses nothing. A plain sheet, and a sheet that is refused before its second header line or there, is
-- what crates/meanings/specs/SheetForm.antt says. New are the lines behind the header line of ranges: a sheet of given lists is what they print to,
-- and a refusal says which lines stand before its place and what is wrong with the line there.
use Rattle.std.specs.Prelude.{ℕ, ◌≤◌, ◌<◌, ◌≡◌, List, [], ◌∷◌, ◌++◌, map, length}
use Rattle.meanings.specs.Lists.{pick}
use Rattle.meanings.specs.declared.Limits.{Limits}
use Rattle.meanings.specs.Limits.{max_u16, max_sheet}
use Rattle.meanings.specs.Bytes.{LineEnding, ending_bytes, comma}
use Rattle.meanings.specs.Sheet.{EvaluationPoint, Injection, Contents}
use Rattle.meanings.specs.SheetForm.{Ended, without_endings, empty_front, print_sheet, Neighbours, Each, FitPoints, IsSheet, Begins, Refused}
use Rattle.meanings.specs.Output.{decimal}
use Rattle.meanings.specs.declared.ranges.Kind.TheVariants.{Ranges}
use Rattle.meanings.specs.ranges.RangeSheet.{range_header, RangeInjection, kept_range, RangeContents}
use Rattle.meanings.specs.ranges.EitherKind.{doubled_contents}

-- the text of a reading with its range, and its line
abbrev pub range_text : RangeInjection → List ℕ
range_text j =
    decimal j.minute ++ comma ∷ (decimal j.injection ++ comma ∷ (decimal j.low ++ comma ∷ decimal j.high))

abbrev pub print_range : Ended RangeInjection → List ℕ
print_range l = range_text l.content ++ ending_bytes l.ending

abbrev pub print_ranges : List (Ended RangeInjection) → List ℕ
print_ranges [] = []
print_ranges (l ∷ ls) = print_range l ++ print_ranges ls

-- the header line of ranges with the ending f, behind the empty line with the ending d
abbrev pub range_head : LineEnding → List ℕ
range_head f = range_header ++ ending_bytes f

abbrev pub range_front : LineEnding → List (Ended EvaluationPoint) → LineEnding → LineEnding → List ℕ
range_front e ms d f = empty_front e ms d ++ range_head f

-- the readings that are kept: those with an inj over 2
abbrev pub kept_ranges : List RangeInjection → List RangeInjection
kept_ranges [] = []
kept_ranges (j ∷ js) = pick (kept_range j) (j ∷ kept_ranges js) (kept_ranges js)

-- a reading line of right form and range
pub record RangeForm (j : RangeInjection) : Type 0 where
  pub minute_range : j.minute ≤ max_u16
  pub injection_low : 1 ≤ j.injection
  pub injection_high : j.injection ≤ max_u16
  pub low_range : j.low ≤ max_u16
  pub high_range : j.high ≤ max_u16

abbrev pub MinuteOrder : RangeInjection → RangeInjection → Type 0
MinuteOrder j j' = j.minute ≤ j'.minute

-- the ends of a range do not cross
abbrev pub NotCrossed : RangeInjection → Type 0
NotCrossed j = j.low ≤ j.high

-- reading lines without a fault, dropped ones included
pub record FitRanges (L : Limits) (js : List RangeInjection) : Type 0 where
  pub forms : Each RangeForm js
  pub order : Neighbours MinuteOrder js
  pub uncrossed : Each NotCrossed js
  pub few : length (kept_ranges js) ≤ L.samples

-- the sheet s is one of ranges: up to its second header line, which is that of ranges, it has no fault
pub record NamesRanges (L : Limits) (s : List ℕ) : Type 0 where
  pub header_ending : LineEnding
  pub point_lines : List (Ended EvaluationPoint)
  pub empty_line_ending : LineEnding
  pub range_header_ending : LineEnding
  -- the bytes behind that line
  pub behind : List ℕ
  pub printed : s ≡ range_front header_ending point_lines empty_line_ending range_header_ending ++ behind
  pub short : length s ≤ max_sheet
  pub some_point : 1 ≤ length (without_endings point_lines)
  pub fit_points : FitPoints L (without_endings point_lines)

-- such a sheet up to the reading lines js, these included
abbrev pub printed_to : {L : Limits} {s : List ℕ} → NamesRanges L s → List (Ended RangeInjection) → List ℕ
printed_to n js = range_front n.header_ending n.point_lines n.empty_line_ending n.range_header_ending ++ print_ranges js

-- s is the sheet with ranges of these lists
pub record IsRangeSheet (L : Limits) (s : List ℕ) (c : RangeContents) : Type 0 where
  pub front : NamesRanges L s
  pub range_lines : List (Ended RangeInjection)
  pub lines_printed : front.behind ≡ print_ranges range_lines
  pub fit_ranges : FitRanges L (without_endings range_lines)
  pub kind : c.kind ≡ Ranges
  pub minutes : c.minutes ≡ map (λ (j : RangeInjection). j.minute) (kept_ranges (without_endings range_lines))
  pub lows : c.lows ≡ map (λ (j : RangeInjection). j.low) (kept_ranges (without_endings range_lines))
  pub highs : c.highs ≡ map (λ (j : RangeInjection). j.high) (kept_ranges (without_endings range_lines))
  pub points : c.points ≡ map (λ (m : EvaluationPoint). m.point) (without_endings front.point_lines)
  pub bandwidths : c.bandwidths ≡ map (λ (m : EvaluationPoint). m.bandwidth) (without_endings front.point_lines)

-- what is wrong with a reading line j after the faultless lines js, in the order in which it is looked at; kept or not
pub data RangeFault (L : Limits) (js : List RangeInjection) (j : RangeInjection) : ℕ → Type 0 where
  out_of_order : (before : List RangeInjection) (j₀ : RangeInjection) → js ≡ before ++ j₀ ∷ [] → j.minute < j₀.minute → RangeFault L js j 4
  crossed : Neighbours MinuteOrder (js ++ j ∷ []) → j.high < j.low → RangeFault L js j 15
  too_many : Neighbours MinuteOrder (js ++ j ∷ []) → NotCrossed j → 2 < j.injection → L.samples ≤ length (kept_ranges js) → RangeFault L js j 6

-- the sheet with ranges s is refused with a report at a place behind its header line of ranges: the reading lines before the place are faultless,
-- and the line there has the report's condition and no earlier one
pub data RangeRefused (L : Limits) (s : List ℕ) (n : NamesRanges L s) : ℕ → ℕ → Type 0 where
  malformed_range : (js : List (Ended RangeInjection)) → FitRanges L (without_endings js) → (b : ℕ) (rest : List ℕ)
      → n.behind ≡ print_ranges js ++ b ∷ rest
      → ((j : Ended RangeInjection) → RangeForm j.content → ¬ Begins (print_range j) (b ∷ rest))
      → RangeRefused L s n 3 (length (printed_to n js))
  faulty_range : (js : List (Ended RangeInjection)) → FitRanges L (without_endings js) → (j : Ended RangeInjection) → RangeForm j.content
      → Begins (print_ranges js ++ print_range j) n.behind → {r : ℕ} → RangeFault L (without_endings js) j.content r
      → RangeRefused L s n r (length (printed_to n js))

-- the plain sheet of the same marks, readings and line endings, with the lows as its values
abbrev pub low_line : Ended RangeInjection → Ended Injection
low_line l = record {
  content = record { minute = l.content.minute; injection = l.content.injection; value = l.content.low };
  ending = l.ending;
}

abbrev pub low_sheet : {L : Limits} {s : List ℕ} → NamesRanges L s → List (Ended RangeInjection) → List ℕ
low_sheet n js =
    print_sheet n.header_ending n.point_lines n.empty_line_ending n.range_header_ending (map (λ (l : Ended RangeInjection). low_line l) js)

-- a range of one value
abbrev pub EqualEnds : RangeInjection → Type 0
EqualEnds j = j.low ≡ j.high

-- s is a sheet of either kind of these lists: of a plain one each value stands as low and high
pub data EitherSheet (L : Limits) (s : List ℕ) : RangeContents → Type 0 where
  plain_sheet : (c : Contents) → IsSheet L s c → EitherSheet L s (doubled_contents c)
  range_sheet : (c : RangeContents) → IsRangeSheet L s c → EitherSheet L s c

-- a sheet is refused as a plain one is, unless it is one of ranges; then for one of its reading lines
pub data EitherRefused (L : Limits) (s : List ℕ) : ℕ → ℕ → Type 0 where
  as_plain : (n p : ℕ) → ¬ NamesRanges L s → Refused L s n p → EitherRefused L s n p
  for_a_range : (n p : ℕ) (names : NamesRanges L s) → RangeRefused L s names n p → EitherRefused L s n p

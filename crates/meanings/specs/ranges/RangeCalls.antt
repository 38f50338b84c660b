-- The whole outcome of the reader of both kinds: its answer, and what each lent list holds at exit, for every input. On a refusal a lent list
-- holds what it held.
use Rattle.std.specs.Prelude.{ℕ, ◌||◌, List, [], ◌∷◌, ◌++◌, length, drop}
use Rattle.meanings.specs.declared.ranges.RangeCounts.{RangeCounts}
use Rattle.meanings.specs.declared.Limits.{Limits}
use Rattle.meanings.specs.Reports.{Answer, given, refused, Check, check, at, first_of, differ}
use Rattle.meanings.specs.Sheet.{or_next}
use Rattle.meanings.specs.declared.ranges.Kind.{Kind}
use Rattle.meanings.specs.ranges.RangeSheet.{RangeContents, read_either}

-- report 8: the lists of minutes, lows, highs, marks and half widths, by their lengths
abbrev pub read_range_checks : Limits → ℕ → ℕ → ℕ → ℕ → ℕ → List Check
read_range_checks L a b c d e =
    check 8
    (at 0 (differ a L.samples || differ b L.samples || differ c L.samples || differ d L.points || differ e L.points))
    ∷ []

-- what the reader makes of a sheet with five lent lists
unfoldable pub read_ranges : Limits → List ℕ → List ℕ → List ℕ → List ℕ → List ℕ → List ℕ → Answer RangeContents
read_ranges L s ts ls us zs hs =
    or_next (first_of (read_range_checks L (length ts) (length ls) (length us) (length zs) (length hs))) (read_either L s)

abbrev pub range_counts : Answer RangeContents → Answer RangeCounts
range_counts (refused e) = refused e
range_counts (given c) = given (record { samples = length c.minutes; points = length c.points; kind = c.kind })

-- a lent list at exit: the used part in front of its untouched tail, or all of what it held
abbrev pub range_front : Answer RangeContents → (RangeContents → List ℕ) → List ℕ → List ℕ
range_front (refused e) part xs = xs
range_front (given c) part xs = part c ++ drop (length (part c)) xs

-- the five lists of an accepted sheet
abbrev pub minutes_of : RangeContents → List ℕ
minutes_of c = c.minutes

abbrev pub lows_of : RangeContents → List ℕ
lows_of c = c.lows

abbrev pub highs_of : RangeContents → List ℕ
highs_of c = c.highs

abbrev pub points_of : RangeContents → List ℕ
points_of c = c.points

abbrev pub bandwidths_of : RangeContents → List ℕ
bandwidths_of c = c.bandwidths

-- What the reader of both kinds has to do with the reader of specs/Sheet.antt: of every list of bytes it says the same, a value standing as low
-- and high, but where the second header line is the one of ranges; and there the other reader refuses that line.
use Rattle.std.specs.Prelude.{ℕ, ◌≡◌, List}
use Rattle.meanings.specs.declared.Limits.{Limits}
use Rattle.meanings.specs.Bytes.{LineEnding}
use Rattle.meanings.specs.Reports.{Answer, given, refused}
use Rattle.meanings.specs.Sheet.{Lines, line, Contents, Outcome, refused_at, read_sheet}
use Rattle.meanings.specs.declared.ranges.Kind.TheVariants.{Plain}
use Rattle.meanings.specs.ranges.RangeSheet.{Front, sheet_front, RangeContents, range_header, read_either}

-- the lists of a plain sheet, each value as low and high
abbrev pub doubled_contents : Contents → RangeContents
doubled_contents c = record {
  kind = Plain;
  minutes = c.minutes;
  lows = c.values;
  highs = c.values;
  points = c.points;
  bandwidths = c.bandwidths;
}

-- accepted or refused alike
abbrev pub doubled : Outcome → Answer RangeContents
doubled (given c) = given (doubled_contents c)
doubled (refused e) = refused e

-- an answer, and then what follows
abbrev pub and_then : {A B : Type 0} → Answer A → (A → Answer B) → Answer B
and_then (given a) next = next a
and_then (refused e) next = refused e

-- the second header line is the one of ranges
pub record RangesNamed (L : Limits) (s : List ℕ) : Type 0 where
  pub front : Front
  pub ending : LineEnding
  pub behind : Lines
  pub before : sheet_front L s given ≡ given front
  pub named : front.rest ≡ line range_header ending behind

-- such a sheet, which the reader of plain ones refuses there
pub record RangesRefused (L : Limits) (s : List ℕ) : Type 0 where
  pub ranges : RangesNamed L s
  pub heading : read_sheet L s ≡ refused_at ranges.front.place 2

-- every sheet is one or the other
pub data EitherKind (L : Limits) (s : List ℕ) : Type 0 where
  plain : read_either L s ≡ doubled (read_sheet L s) → EitherKind L s
  of_ranges : RangesRefused L s → EitherKind L s

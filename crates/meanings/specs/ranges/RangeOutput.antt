-- SPECIFICATION, "Ranges": what the program writes for a sheet of either kind, as a function from any list of bytes to a list of bytes.
use Rattle.std.specs.Prelude.{ℕ, zero, suc, List, [], ◌∷◌, ◌++◌, length, get_or}
use Rattle.meanings.specs.Limits.{full}
use Rattle.meanings.specs.Bytes.{ascii, line_feed, totals_header}
use Rattle.meanings.specs.Moves.{moves}
use Rattle.meanings.specs.Reports.{Answer, given, refused}
use Rattle.meanings.specs.Running.{fresh, passes}
use Rattle.meanings.specs.Sheet.{Contents, or_next}
use Rattle.meanings.specs.Calls.{buffer_refusal}
use Rattle.meanings.specs.Output.{decimal, text_line, value_text, curve_text, refusal_text}
use Rattle.meanings.specs.declared.ranges.Kind.{Kind}
use Rattle.meanings.specs.declared.ranges.Kind.TheVariants.{Plain, Ranges}
use Rattle.meanings.specs.declared.ranges.RangeEstimate.{RangeEstimate}
use Rattle.meanings.specs.ranges.Ranges.{range_estimate}
use Rattle.meanings.specs.ranges.RangeSheet.{RangeContents, read_either}
use Rattle.meanings.specs.ranges.RangeCalls.{range_front}

-- the header line over rows of ranges
abbrev pub range_curve_header : List ℕ
range_curve_header = ascii "mark,half,left,right,weight,sumlow,sumhigh,vdklow,vdkhigh"

-- a mark's line: mark, half width and the row; both values are `-` where they are missing
abbrev pub range_curve_line : ℕ → ℕ → RangeEstimate → List ℕ
range_curve_line z h e =
    text_line (decimal z)
    (decimal h
    ∷ decimal e.left
    ∷ decimal e.right
    ∷ decimal e.weight
    ∷ decimal e.sum.low
    ∷ decimal e.sum.high
    ∷ value_text e.value.low
    ∷ value_text e.value.high
    ∷ [])

-- the lines of the first n marks
abbrev pub range_curve_lines : RangeContents → ℕ → List ℕ
range_curve_lines c zero = []
range_curve_lines c (suc n) =
    range_curve_lines c n
    ++ range_curve_line (get_or c.points n 0) (get_or c.bandwidths n 0)
    (range_estimate c.minutes c.lows c.highs (get_or c.points n 0) (get_or c.bandwidths n 0))

-- the curve, then kept readings and passes as for plain sheets
unfoldable pub range_curve_text : RangeContents → List ℕ
range_curve_text c =
    text_line range_curve_header []
    ++ range_curve_lines c (length c.points)
    ++ line_feed
    ∷ text_line totals_header []
    ++ text_line (decimal (length c.minutes))
    (decimal (passes c.minutes c.lows fresh (moves c.points c.bandwidths)) ∷ [])

-- the lists of a plain sheet, whose lows are its values
abbrev pub plain_contents : RangeContents → Contents
plain_contents c = record { minutes = c.minutes; values = c.lows; points = c.points; bandwidths = c.bandwidths }

-- the text by the kind
abbrev pub text_of_kind : Kind → RangeContents → List ℕ
text_of_kind Plain c = curve_text (plain_contents c)
text_of_kind Ranges c = range_curve_text c

abbrev pub contents_text : RangeContents → List ℕ
contents_text c = text_of_kind c.kind c

abbrev pub either_text : Answer RangeContents → List ℕ
either_text (refused e) = refusal_text e
either_text (given c) = contents_text c

-- what is written for the bytes that are read
unfoldable pub either_program : List ℕ → List ℕ
either_program s = either_text (read_either full s)

-- how many bytes are written, or the report
abbrev pub text_size : Answer RangeContents → Answer ℕ
text_size (refused e) = refused e
text_size (given c) = given (length (contents_text c))

-- a buffer at exit: the text in front of its untouched rest, or all of what it held
abbrev pub text_front : Answer RangeContents → List ℕ → List ℕ
text_front a out = range_front a contents_text out

-- the curve of a sheet in a lent buffer: its length, or the report of the buffer, else that of the sheet
unfoldable pub write_either : List ℕ → List ℕ → Answer ℕ
write_either s out = text_size (or_next (buffer_refusal out) (read_either full s))

-- and the buffer at exit
unfoldable pub write_either_buffer : List ℕ → List ℕ → List ℕ
write_either_buffer s out = text_front (or_next (buffer_refusal out) (read_either full s)) out

-- The text of a curve over ranges from lists: marks, half widths and the flat list of rows. With the rows of a sweep it is the text of the meanings,
-- by the law table_text_is_curve.
use Rattle.std.specs.Prelude.{ℕ, ◌+◌, ◌*◌, List, length, get_or}
use Rattle.meanings.specs.Limits.{full}
use Rattle.meanings.specs.Reports.{Answer, given, accepted_or}
use Rattle.meanings.specs.Sheet.{or_next}
use Rattle.meanings.specs.Calls.{buffer_refusal}
use Rattle.meanings.specs.declared.ranges.RangeEstimate.{RangeEstimate}
use Rattle.meanings.specs.declared.ranges.Kind.TheVariants.{Ranges}
use Rattle.meanings.specs.ranges.Ranges.{range_row_width, range_refusal, smooth_ranges_rows}
use Rattle.meanings.specs.ranges.RangeSheet.{RangeContents}
use Rattle.meanings.specs.ranges.RangeOutput.{range_curve_header, range_curve_line}
use Rattle.text.specs.Whole.{lines_of, whole_text}

-- the row of mark k
abbrev pub stored_range_row : List ℕ → ℕ → RangeEstimate
stored_range_row rs k =
    record {
      left = get_or rs (range_row_width * k) 0;
      right = get_or rs (range_row_width * k + 1) 0;
      weight = get_or rs (range_row_width * k + 2) 0;
      sum = record { low = get_or rs (range_row_width * k + 3) 0; high = get_or rs (range_row_width * k + 4) 0 };
      value = record { low = get_or rs (range_row_width * k + 5) 0; high = get_or rs (range_row_width * k + 6) 0 };
    }

-- the line of mark k, and the lines of the first n marks
abbrev pub range_mark_line : List ℕ → List ℕ → List ℕ → ℕ → List ℕ
range_mark_line zs hs rs k = range_curve_line (get_or zs k 0) (get_or hs k 0) (stored_range_row rs k)

abbrev pub range_table_lines : List ℕ → List ℕ → List ℕ → ℕ → List ℕ
range_table_lines zs hs rs = lines_of (range_mark_line zs hs rs)

-- the whole text, then kept readings and passes
abbrev pub range_table_text : List ℕ → List ℕ → List ℕ → ℕ → ℕ → List ℕ
range_table_text zs hs rs = whole_text range_curve_header (range_table_lines zs hs rs (length zs))

-- five lists as the contents of a sheet with ranges
abbrev pub ranges_of : List ℕ → List ℕ → List ℕ → List ℕ → List ℕ → RangeContents
ranges_of ts ls us zs hs = record { kind = Ranges; minutes = ts; lows = ls; highs = us; points = zs; bandwidths = hs }

-- what the lists give, with rs lent for the rows and out for the text: the report of the buffer's length, else that of the sweep, else themselves
unfoldable pub ranges_swept : List ℕ → List ℕ → List ℕ → List ℕ → List ℕ → List ℕ → List ℕ → Answer RangeContents
ranges_swept ts ls us zs hs rs out =
    or_next (buffer_refusal out) (or_next (range_refusal full ts ls us zs hs rs) (given (ranges_of ts ls us zs hs)))

-- and the rows at exit
unfoldable pub ranges_rows : List ℕ → List ℕ → List ℕ → List ℕ → List ℕ → List ℕ → List ℕ → List ℕ
ranges_rows ts ls us zs hs rs out = accepted_or (buffer_refusal out) (smooth_ranges_rows full ts ls us zs hs rs) rs

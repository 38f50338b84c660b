-- The curve's text from lists: marks, half widths and the flat list of rows. With the rows of a sweep it is the curve of the meanings, by the
-- law table_is_curve.
use Rattle.std.specs.Prelude.{ℕ, ◌+◌, ◌*◌, List, length, get_or}
use Rattle.meanings.specs.declared.Estimate.{Estimate}
use Rattle.meanings.specs.Bytes.{curve_header}
use Rattle.meanings.specs.Limits.{full, row_width}
use Rattle.meanings.specs.Reports.{given, accepted_or}
use Rattle.meanings.specs.Sheet.{Contents, Outcome, or_next}
use Rattle.meanings.specs.Calls.{smooth_refusal, smooth_rows, buffer_refusal}
use Rattle.meanings.specs.Output.{curve_line, curve_text}
use Rattle.text.specs.Whole.{lines_of, whole_text}

-- the row of mark k
abbrev pub stored_row : List ℕ → ℕ → Estimate
stored_row rs k =
    record {
      left = get_or rs (row_width * k) 0;
      right = get_or rs (row_width * k + 1) 0;
      weight = get_or rs (row_width * k + 2) 0;
      sum = get_or rs (row_width * k + 3) 0;
      value = get_or rs (row_width * k + 4) 0;
    }

-- the line of mark k, and the lines of the first n marks
abbrev pub mark_line : List ℕ → List ℕ → List ℕ → ℕ → List ℕ
mark_line zs hs rs k = curve_line (get_or zs k 0) (get_or hs k 0) (stored_row rs k)

abbrev pub table_lines : List ℕ → List ℕ → List ℕ → ℕ → List ℕ
table_lines zs hs rs = lines_of (mark_line zs hs rs)

-- the whole text, then kept readings and passes
abbrev pub table_text : List ℕ → List ℕ → List ℕ → ℕ → ℕ → List ℕ
table_text zs hs rs = whole_text curve_header (table_lines zs hs rs (length zs))

-- four lists as the contents of a sheet, and their curve
abbrev pub contents_of : List ℕ → List ℕ → List ℕ → List ℕ → Contents
contents_of ts vs zs hs = record { minutes = ts; values = vs; points = zs; bandwidths = hs }

abbrev pub curve_of : List ℕ → List ℕ → List ℕ → List ℕ → List ℕ
curve_of ts vs zs hs = curve_text (contents_of ts vs zs hs)

-- what the lists give, with rs lent for the rows and out for the text: the report of the buffer's length, else that of the sweep, else themselves
unfoldable pub lists_swept : List ℕ → List ℕ → List ℕ → List ℕ → List ℕ → List ℕ → Outcome
lists_swept ts vs zs hs rs out = or_next (buffer_refusal out) (or_next (smooth_refusal full ts vs zs hs rs) (given (contents_of ts vs zs hs)))

-- and the rows at exit
unfoldable pub lists_rows : List ℕ → List ℕ → List ℕ → List ℕ → List ℕ → List ℕ → List ℕ
lists_rows ts vs zs hs rs out = accepted_or (buffer_refusal out) (smooth_rows full ts vs zs hs rs) rs

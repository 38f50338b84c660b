-- A curve's text from its lines, for both kinds of curve.
use Rattle.std.specs.Prelude.{ℕ, zero, suc, List, [], ◌∷◌, ◌++◌}
use Rattle.meanings.specs.Bytes.{line_feed, totals_header}
use Rattle.meanings.specs.Output.{decimal, text_line}

-- the lines of the first n marks, with the line of each
abbrev pub lines_of : (ℕ → List ℕ) → ℕ → List ℕ
lines_of line zero = []
lines_of line (suc n) = lines_of line n ++ line n

-- the header line, the lines of the marks, and behind an empty line kept readings and passes
unfoldable pub whole_text : List ℕ → List ℕ → ℕ → ℕ → List ℕ
whole_text names lines kept passes =
    text_line names [] ++ lines ++ line_feed ∷ text_line totals_header [] ++ text_line (decimal kept) (decimal passes ∷ [])

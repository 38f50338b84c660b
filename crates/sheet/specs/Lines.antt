-- What the functions over lines say: where the line at a byte ends, where the next line feed stands, and where the text before it ends.
use Rattle.std.specs.Prelude.{ℕ, ◌+◌, ◌-◌, ◌&&◌, List, ltb, eqb, length, get_or, drop}
use Rattle.std.specs.Prelude.{Option, None, Some}
use Rattle.meanings.specs.Lists.{pick, first}
use Rattle.meanings.specs.Bytes.{line_feed, carriage_return}
use Rattle.meanings.specs.Sheet.{Lines, end, unended, line, lines, next_place}
use Rattle.sheet.specs.declared.lines.Line.{Line}

-- the first of the lines, which begins at byte p, if a line ending is behind its text
abbrev pub first_end : ℕ → Lines → Option Line
first_end p end = None
first_end p (unended t) = None
first_end p (line t e ls) = Some (record { end = p + length t; next = next_place p t e })

-- the line that begins at byte p of the sheet
unfoldable pub line_at : List ℕ → ℕ → Option Line
line_at s p = first_end p (lines (drop p s))

-- the first line feed of the sheet from byte p on, if there is one
abbrev pub feed_within : List ℕ → ℕ → Option ℕ
feed_within s k = pick (ltb k (length s)) (Some k) None

unfoldable pub feed_from : List ℕ → ℕ → Option ℕ
feed_from s p = feed_within s (first (λ k. eqb (get_or s k 0) line_feed) p (length s - p))

-- where the text of the line from byte p to the line feed at byte k ends: at the line feed, or at a carriage return of the line directly
-- before it
unfoldable pub text_before : List ℕ → ℕ → ℕ → ℕ
text_before s p k = pick (ltb p k && eqb (get_or s (k - 1) 0) carriage_return) (k - 1) k

-- What the reader made of a sheet before a carriage return could belong to a line's ending: the same of its lines, which a line feed alone
-- ended. This stands here for one law, that a sheet in which no carriage return stands directly before a line feed has the outcome it had.
use Rattle.std.specs.Prelude.{ℕ, ◌≡◌, List, [], ◌∷◌, eqb, length}
use Rattle.meanings.specs.Lists.{pick}
use Rattle.meanings.specs.declared.Limits.{Limits}
use Rattle.meanings.specs.Bytes.{line_feed, carriage_return, feed}
use Rattle.meanings.specs.Sheet.{Lines, end, line, with_text_byte, Outcome, read_lines}
use Rattle.meanings.specs.SheetForm.{Neighbours}

abbrev pub feed_lines : List ℕ → Lines
feed_lines [] = end
feed_lines (b ∷ bs) = pick (eqb b line_feed) (line [] feed (feed_lines bs)) (with_text_byte b (feed_lines bs))

unfoldable pub read_feed_sheet : Limits → List ℕ → Outcome
read_feed_sheet L s = read_lines L (length s) (feed_lines s)

-- no carriage return stands directly before a line feed
abbrev pub NoReturnFeed : List ℕ → Type 0
NoReturnFeed s = Neighbours (λ (a b : ℕ). ¬ ((a ≡ carriage_return) × (b ≡ line_feed))) s

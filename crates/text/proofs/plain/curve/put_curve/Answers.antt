-- The header line, the lines of the marks, the empty line with the second header line, and the line of totals, each right behind the last.
-- Tried on the function, the law does not close this.
use Rattle.text.proofs.Whole.{whole_put}
use Rattle.text.proofs.plain.curve.put_curve.Goals as goal

pub returns : goal.returns
returns c = search (whole_put, c.in_ok-lines.was, c.in_ok-empty.was, c.in_ok-totals.was, c.in_ok-put_pair_line.was)

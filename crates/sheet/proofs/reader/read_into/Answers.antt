-- The sheet is read into the reader's own lists, and the lent ones are written only once it is accepted: the used parts to their fronts.
-- A refusal writes nothing, so the lent lists are then as they were.
use Rattle.std.proofs.lemmas.Result.{err_from_is_err_and}
use Rattle.sheet.proofs.ReaderScans.{reading_refused, reading_used}
use borrow.Author.Rules.{rules}
use Rattle.sheet.proofs.reader.read_into.Goals as goal

pub returns-in_err-used : goal.returns-in_err-used
returns-in_err-used c =
    let e = err_from_is_err_and c.from_residual.result c.from_residual.ensures.1 in
    rw (e.1, e.2) (reading_refused c.in_err-used.ensures.scanned)

pub returns : goal.returns
returns c = reading_used c.in_ok-used.ensures.scanned c.in_ok-used.ensures.lengths (search rules) (search rules) (search rules) (search rules)

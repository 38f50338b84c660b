-- The sheet is read into the function's own lists before anything is stored, so what is written over it is its own text.
use borrow.Author.Rules.{rules}
use Rattle.text.proofs.UsedParts.{sheet_written}
use Rattle.text.proofs.over_sheet.sheet_text_over.Goals as goal

pub returns : goal.returns
returns c = sheet_written c.in_ok-used.ensures.scanned (search rules) c.lists_text.ensures

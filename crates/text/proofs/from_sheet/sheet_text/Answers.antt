-- An accepted sheet's used parts are written by its kind.
use borrow.Author.Rules.{rules}
use Rattle.text.proofs.UsedParts.{sheet_written}
use Rattle.text.proofs.from_sheet.sheet_text.Goals as goal

pub returns : goal.returns
returns c = sheet_written c.in_ok-used.ensures.scanned (search rules) c.lists_text.ensures

-- The lists have the lengths that the scan asks.
use borrow.Author.Rules.{rules}
use Rattle.sheet.proofs.ScanScans.{scanned_of_call}
use Rattle.sheet.proofs.scan.SheetLists.scan.Goals as goal

pub returns-clause-scanned : goal.returns-clause-scanned
returns-clause-scanned c = scanned_of_call (search rules) c.scan_sheet.ensures

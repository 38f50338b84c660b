-- Quotient and remainder tell whether the list is so many numbers a mark long.
-- A width of 0 has neither, and then only the empty list fits.
use Rattle.checks.proofs.RowCounts.{rows_remainder}
use Rattle.checks.proofs.uneven_rows.Goals as goal

pub returns-then-rows-width-ne0 : goal.returns-then-rows-width-ne0
returns-then-rows-width-ne0 c = search rows_remainder

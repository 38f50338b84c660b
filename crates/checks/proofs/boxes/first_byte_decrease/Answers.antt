-- The lowest decrease: at each turn no position below i decreases.
-- So the first that does is the lowest, and at the end there is none.
use Rattle.checks.proofs.Decreases.{decrease_found, no_decrease}
use Rattle.checks.proofs.boxes.first_byte_decrease.Goals as goal

pub returns-then-xs-i : goal.returns-then-xs-i
returns-then-xs-i c = search decrease_found

pub returns : goal.returns
returns c = search no_decrease

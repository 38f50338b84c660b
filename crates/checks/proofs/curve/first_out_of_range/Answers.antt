-- The lowest half width out of range: at each turn none below i is.
-- So the first that is found is the lowest, and at the end there is none.
use Rattle.checks.proofs.CurveSearches.{bad_found, none_bad}
use Rattle.checks.proofs.curve.first_out_of_range.Goals as goal

pub returns-then-outside : goal.returns-then-outside
returns-then-outside c = search bad_found

pub returns : goal.returns
returns c = search none_bad

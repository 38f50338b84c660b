-- The lowest crossed range: at each turn none below i is crossed.
-- So the first that is found is the lowest, and at the end there is none.
use Rattle.checks.proofs.RangesSearches.{none_crossed_yet, crossed_found, none_crossed_goes_on, none_crossed}
use Rattle.checks.proofs.ranges.first_crossed.Goals as goal

pub loop-i-init : goal.loop-i-init
loop-i-init c = search none_crossed_yet

pub loop-i-preserved : goal.loop-i-preserved
loop-i-preserved c = search none_crossed_goes_on

pub returns-then-ranges-i : goal.returns-then-ranges-i
returns-then-ranges-i c = search crossed_found

pub returns : goal.returns
returns c = search none_crossed

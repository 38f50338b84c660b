-- Each turn keeps the invariant of Searching: a mark whose values agree is one more of those before; the first whose values differ is the parting.
use Rattle.regression.proofs.StepSweeping.{default_fresh}
use Rattle.questions.proofs.PairSearching.{search_begins, parts_here, alike_goes_on, alike_throughout}
use Rattle.questions.proofs.pair.parted.Goals as goal

pub loop-k-init : goal.loop-k-init
loop-k-init c = search (search_begins, default_fresh)

pub returns-then-unlike : goal.returns-then-unlike
returns-then-unlike c = search parts_here

pub loop-k-preserved : goal.loop-k-preserved
loop-k-preserved c = search alike_goes_on

pub returns : goal.returns
returns c = search alike_throughout

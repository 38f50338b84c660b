-- At each turn the first hit from `from` on is the first hit from i on.
use Rattle.regression.proofs.Laws.{search_goes_on}
use Rattle.regression.proofs.estimator.edges.first_from.Goals as goal

pub loop-i-preserved : goal.loop-i-preserved
loop-i-preserved c = search search_goes_on

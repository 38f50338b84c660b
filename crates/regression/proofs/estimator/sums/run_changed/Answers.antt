-- One reading more makes the next run.
use Rattle.regression.proofs.Laws.{run_grows}
use Rattle.regression.proofs.estimator.sums.run_changed.Goals as goal

pub loop-i-preserved : goal.loop-i-preserved
loop-i-preserved g c = search run_grows

-- Each turn keeps the invariant of RowList: the step lands on its mark's window, and the row of that stands behind the rows before.
-- The edges of the last record are the passes.
use Rattle.regression.proofs.StepSweeping.{default_fresh}
use Rattle.regression.proofs.RowList.{smoothed_begins, passes_fit, smoothed_goes_on, edges_are_passes}
use Rattle.regression.proofs.sweep.smooth_rows.Goals as goal

pub loop-k-init : goal.loop-k-init
loop-k-init c = search (smoothed_begins, default_fresh)

pub loop-k-preserved : goal.loop-k-preserved
loop-k-preserved c = search smoothed_goes_on

pub returns-clause-value : goal.returns-clause-value
returns-clause-value c = search edges_are_passes

pub overflow_add-result : goal.overflow_add-result
overflow_add-result c = search passes_fit

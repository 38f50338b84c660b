-- Each turn keeps the invariant of Sweeping: both records land on the mark's window, and the row that they make stands behind the rows before.
-- The edges of the last records are the passes.
use Rattle.regression.proofs.RangesSweeping.{passes_fit, sweep_goes_on}
use Rattle.regression.proofs.RangesSweeping.{both_accepted, edges_are_passes}
use Rattle.regression.proofs.ranges.sweep_rows.Goals as goal

pub loop-k-preserved : goal.loop-k-preserved
loop-k-preserved c =
    sweep_goes_on c.loop-k.invariant c.loop-k-test.true c.both_move-running.ensures c.both_row.ensures c.put_range_row.ensures

pub returns-clause-value : goal.returns-clause-value
returns-clause-value c = search edges_are_passes

pub overflow_add-result : goal.overflow_add-result
overflow_add-result c = search passes_fit

pub both_move-running-requires : goal.both_move-running-requires
both_move-running-requires c = search both_accepted

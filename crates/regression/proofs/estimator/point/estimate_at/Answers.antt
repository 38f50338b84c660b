-- The sums that are taken in from zero at the window's edges are the window's sums, and the row of a record of these is the meaning's row.
-- Accepted readings are few and ordered, and their type keeps them to 16 bits.
use Rattle.regression.proofs.Rows.{span_run_within, row_of_span}
use Rattle.regression.proofs.estimator.point.estimate_at.Goals as goal

pub returns : goal.returns
returns c = search row_of_span

pub run_changed-sums-requires : goal.run_changed-sums-requires
run_changed-sums-requires c = search span_run_within

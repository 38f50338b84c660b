-- The right edge is searched for first, and the left one up to it. Each finds its place within the list, whatever record came in, and the
-- sums take in and let go what lies between; each edge adds its way to the passes.
use Rattle.regression.proofs.Moves.{six_parts_move}
use Rattle.regression.proofs.Searches.{left_starts_within, inserted_within, evicted_within}
use Rattle.regression.proofs.estimator.step.moved.Goals as goal

pub returns : goal.returns
returns c = search six_parts_move

pub first_from-left-requires : goal.first_from-left-requires
first_from-left-requires c = search left_starts_within

pub run_changed-taken-requires : goal.run_changed-taken-requires
run_changed-taken-requires c = search inserted_within

pub run_changed-sums-requires : goal.run_changed-sums-requires
run_changed-sums-requires c = search evicted_within

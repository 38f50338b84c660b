-- The part is cut out of the higher tank's values at its row's edges, which lie within them.
-- With both laws in `using(..)` the check does not close this goal: it speaks of a lent list that is chosen of two.
use Rattle.questions.proofs.Answers.{higher_within, values_of}
use Rattle.questions.proofs.pair.compare_run.Goals as goal

pub slice_bounds-result-end-in-Ok-Some : goal.slice_bounds-result-end-in-Ok-Some
slice_bounds-result-end-in-Ok-Some c = search (higher_within, values_of)

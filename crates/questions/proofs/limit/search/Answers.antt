-- Each turn keeps the invariant of Searching: a mark that is not low enough is one more of those before; the first that is, is the answer.
use Rattle.regression.proofs.StepSweeping.{default_fresh}
use Rattle.questions.proofs.LimitSearching.{search_begins, here, goes_on, nowhere, passes_fit, next_passes_fit}
use Rattle.questions.proofs.limit.search.Goals as goal

pub loop-k-init : goal.loop-k-init
loop-k-init c = search (search_begins, default_fresh)

pub returns-then-at_or_below : goal.returns-then-at_or_below
returns-then-at_or_below c = search here

pub loop-k-preserved : goal.loop-k-preserved
loop-k-preserved c = search goes_on

pub returns : goal.returns
returns c = search nowhere

pub overflow_add-result : goal.overflow_add-result
overflow_add-result c = search (next_passes_fit, passes_fit)

pub overflow_add-result-2 : goal.overflow_add-result-2
overflow_add-result-2 c = search passes_fit

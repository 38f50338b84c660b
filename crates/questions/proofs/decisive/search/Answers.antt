-- A reading that does not decide is one more of those before; the first that does is the answer. What is taken out stands in weight and sum.
use Rattle.questions.proofs.Removing.{search_begins, here, goes_on, nobody}
use Rattle.questions.proofs.Removing.{weight_holds, term_fits, sum_holds}
use Rattle.questions.proofs.decisive.search.Goals as goal

pub loop-i-init : goal.loop-i-init
loop-i-init c = search search_begins

pub returns-then-rest-low : goal.returns-then-rest-low
returns-then-rest-low c = search (here, c.if-rest-low.true, c.is_low-rest.ensures)

pub loop-i-preserved : goal.loop-i-preserved
loop-i-preserved c = search (goes_on, c.if-rest-low.false, c.is_low-rest.ensures)

pub returns : goal.returns
returns c = search nobody

pub overflow_sub-run : goal.overflow_sub-run
overflow_sub-run c = search weight_holds

pub overflow_mul-k : goal.overflow_mul-k
overflow_mul-k c = search term_fits

pub overflow_sub-run-in-loop-i : goal.overflow_sub-run-in-loop-i
overflow_sub-run-in-loop-i c = search sum_holds

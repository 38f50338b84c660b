-- Each turn adds one reading's terms; at the window's right edge they are weight and sum of the row.
use Rattle.questions.proofs.Adding.{total_begins, total_goes_on, run_ends, weight_fits, term_fits, sum_fits}
use Rattle.questions.proofs.decisive.add_run.Goals as goal

pub loop-i-init : goal.loop-i-init
loop-i-init c = search total_begins

pub loop-i-preserved : goal.loop-i-preserved
loop-i-preserved c = search total_goes_on

pub returns : goal.returns
returns c = search run_ends

pub overflow_add-weight : goal.overflow_add-weight
overflow_add-weight c = search weight_fits

pub overflow_mul-sum : goal.overflow_mul-sum
overflow_mul-sum c = search term_fits

pub overflow_add-sum : goal.overflow_add-sum
overflow_add-sum c = search sum_fits

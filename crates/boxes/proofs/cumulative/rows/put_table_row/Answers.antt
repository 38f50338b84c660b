-- Each turn adds a cell to the running sum, and stores the number above with it. The rules tell of an array that each of its
-- numbers fits its type.
use borrow.Author.Rules.{rules}
use Rattle.boxes.proofs.CumulativeFilling.{row_goes_on, running_fits, number_fits}
use Rattle.boxes.proofs.cumulative.rows.put_table_row.Goals as goal

pub loop-b-preserved : goal.loop-b-preserved
loop-b-preserved c = row_goes_on c.loop-b.invariant c.loop-b-test.true

pub overflow_add-row-in-loop-b : goal.overflow_add-row-in-loop-b
overflow_add-row-in-loop-b c = running_fits c.loop-b.invariant (λ i. search rules) c.loop-b-test.true

pub overflow_add-table-in-loop-b-3 : goal.overflow_add-table-in-loop-b-3
overflow_add-table-in-loop-b-3 c = number_fits c.loop-b.invariant (λ i. search rules) c.loop-b-test.true

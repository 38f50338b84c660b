-- The first number, a comma with each number and value behind it, and a line feed: each fits, and is stored right behind the last.
use Rattle.text.proofs.LinesLines.{number_first, numbers_begin, number_fits, numbers_go_on}
use Rattle.text.proofs.LinesLines.{values_begin, value_fits, values_go_on, end_fits, line_stored}
use Rattle.text.proofs.lines.parts.put_whole_line.Goals as goal

pub put_decimal-end-requires : goal.put_decimal-end-requires
put_decimal-end-requires c = search number_first

pub loop-n-init : goal.loop-n-init
loop-n-init c = search numbers_begin

pub put_after_comma-end-requires : goal.put_after_comma-end-requires
put_after_comma-end-requires c = number_fits c.loop-n.invariant c.loop-n-test.true

pub loop-n-preserved : goal.loop-n-preserved
loop-n-preserved c = search numbers_go_on

pub loop-v-init : goal.loop-v-init
loop-v-init c = search values_begin

pub put_value_after_comma-end-requires : goal.put_value_after_comma-end-requires
put_value_after_comma-end-requires c = value_fits c.loop-v.invariant c.loop-v-test.true

pub loop-v-preserved : goal.loop-v-preserved
loop-v-preserved c = search values_go_on

pub put_byte-requires : goal.put_byte-requires
put_byte-requires c = end_fits c.loop-v.invariant c.loop-v-test.false

pub returns : goal.returns
returns c = search line_stored

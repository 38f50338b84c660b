-- 65536 is the value that means missing; any other is written as a number.
use Rattle.text.proofs.Values.{dash_fits, dash_stored, value_fits, value_stored}
use Rattle.text.proofs.lines.parts.put_value.Goals as goal

pub put_byte-requires : goal.put_byte-requires
put_byte-requires c = search dash_fits

pub returns-then-v-eq65536 : goal.returns-then-v-eq65536
returns-then-v-eq65536 c = search dash_stored

pub put_decimal-requires : goal.put_decimal-requires
put_decimal-requires c = search value_fits

pub returns : goal.returns
returns c = search value_stored

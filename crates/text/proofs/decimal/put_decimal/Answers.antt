-- Without its last eight digits a number below 10 to the 16 has eight at most; any other one has four at most without its last sixteen.
use native.Mathlib.Omega.{arith}
use Rattle.text.proofs.NumberParts.{before_eight_fits, eight_last_fit, eight_last_stored}
use Rattle.text.proofs.NumberParts.{before_sixteen_fits, sixteen_begin, sixteen_go_on, sixteen_stored}
use Rattle.text.proofs.decimal.put_decimal.Goals as goal

pub put_medium-last-requires : goal.put_medium-last-requires
put_medium-last-requires c = (omega arith, search before_eight_fits)

pub put_eight-requires : goal.put_eight-requires
put_eight-requires c = (omega arith, search eight_last_fit)

pub returns-then-n-lt10000000000000000 : goal.returns-then-n-lt10000000000000000
returns-then-n-lt10000000000000000 c = search eight_last_stored

pub put_short-middle-requires : goal.put_short-middle-requires
put_short-middle-requires c = (omega arith, search before_sixteen_fits)

pub put_eight-requires-2 : goal.put_eight-requires-2
put_eight-requires-2 c = (omega arith, search sixteen_begin)

pub put_eight-requires-3 : goal.put_eight-requires-3
put_eight-requires-3 c = (omega arith, search sixteen_go_on)

pub returns : goal.returns
returns c = search sixteen_stored

-- The first four digits, and the other four behind them.
use native.Mathlib.Omega.{arith}
use Rattle.text.proofs.NumberParts.{eight_begin, eight_go_on, eight_stored}
use Rattle.text.proofs.decimal.put_eight.Goals as goal

pub put_four-middle-requires : goal.put_four-middle-requires
put_four-middle-requires c = (omega arith, search eight_begin)

pub put_four-requires : goal.put_four-requires
put_four-requires c = (omega arith, search eight_go_on)

pub returns : goal.returns
returns c = search eight_stored

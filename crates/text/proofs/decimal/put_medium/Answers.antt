-- From 10,000 on, the number without its last four digits has four at most, and these four stand behind it.
use native.Mathlib.Omega.{arith}
use Rattle.text.proofs.NumberParts.{before_four_fits, four_last_fit, four_last_stored}
use Rattle.text.proofs.decimal.put_medium.Goals as goal

pub put_short-last-requires : goal.put_short-last-requires
put_short-last-requires c = (omega arith, search before_four_fits)

pub put_four-requires : goal.put_four-requires
put_four-requires c = (omega arith, search four_last_fit)

pub returns : goal.returns
returns c = search four_last_stored

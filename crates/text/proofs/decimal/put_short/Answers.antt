-- A number has as many digits as the first power of ten above it says: one, two, one and two behind it, or four.
use native.Mathlib.Omega.{arith}
use borrow.Author.Rules.{rules}
use Rattle.text.proofs.Digits.{digit_fits}
use Rattle.text.proofs.NumberParts.{digit_stored, of_two_fits, of_two_stored, of_four_fits, of_four_stored, three_go_on, three_stored}
use Rattle.text.proofs.decimal.put_short.Goals as goal

pub put-requires : goal.put-requires
put-requires c = search digit_fits

pub returns-then-n-lt10 : goal.returns-then-n-lt10
returns-then-n-lt10 c = search digit_stored

pub put_two-requires : goal.put_two-requires
put_two-requires c = (search rules, search of_two_fits)

pub returns-then-n-lt100 : goal.returns-then-n-lt100
returns-then-n-lt100 c = search of_two_stored

pub put-second-requires : goal.put-second-requires
put-second-requires c = search digit_fits

pub put_two-requires-then-n-lt1000 : goal.put_two-requires-then-n-lt1000
put_two-requires-then-n-lt1000 c = (omega arith, search three_go_on)

pub returns-then-n-lt1000 : goal.returns-then-n-lt1000
returns-then-n-lt1000 c = search three_stored

pub put_four-requires : goal.put_four-requires
put_four-requires c = (search rules, search of_four_fits)

pub returns : goal.returns
returns c = search of_four_stored

-- The bytes of the word are the four digits.
use Rattle.text.proofs.NumberParts.{four_fit, four_stored}
use Rattle.text.proofs.decimal.put_four.Goals as goal

pub put-requires : goal.put-requires
put-requires c = search four_fit

pub returns : goal.returns
returns c = search four_stored

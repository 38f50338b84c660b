-- A power of ten below a number says how many digits it has; 0 has one.
use Rattle.text.proofs.Digits.{digits_of_power}
use Rattle.text.proofs.RoomLaws.{zero_size}
use Rattle.text.proofs.decimal.decimal_size.Goals as goal

pub returns-then-n-eq0-clause-value : goal.returns-then-n-eq0-clause-value
returns-then-n-eq0-clause-value c = search zero_size

pub returns-clause-value : goal.returns-clause-value
returns-clause-value c = search digits_of_power

-- At each turn the bytes passed are digits, which say the value modulo 2^32. A byte that is neither digit nor comma shows that there is no number; at
-- the comma or the end the digits are the whole part.
use Rattle.std.proofs.Common.{◌≡◌, length}
use Rattle.sheet.proofs.FieldsLaws.{Passed}
use Rattle.sheet.proofs.fields.number_at.Given as goal

abbrev pub invariant-loop-at : goal.invariant-loop-at
invariant-loop-at l = Passed l.text l.from l.at l.value × (l.end ≡ length l.text)

-- At each turn the numbers before this one are read, and the others are those of the parts that follow.
use Rattle.sheet.proofs.Parts.{Read}
use Rattle.sheet.proofs.fields.numbers.Given as goal

abbrev pub invariant-loop-number : goal.invariant-loop-number
invariant-loop-number g l = Read l.text g.row.N l.number-index l.from l.number-items

-- The number ends within the text, so the byte behind its comma is a place.
use Rattle.std.proofs.Common.{arith}
use Rattle.sheet.proofs.Parts.{number_holds}
use Rattle.sheet.proofs.fields.numbers.Goals as goal

pub overflow_add-from : goal.overflow_add-from
overflow_add-from g c = let h = number_holds c.in_ok-field.ensures in record { fits = omega arith }

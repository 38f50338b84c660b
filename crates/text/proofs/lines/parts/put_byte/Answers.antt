-- One store at byte `at` is the text of that one byte.
use Rattle.text.proofs.Writing.{byte_stored}
use Rattle.text.proofs.lines.parts.put_byte.Goals as goal

pub returns : goal.returns
returns c = search byte_stored

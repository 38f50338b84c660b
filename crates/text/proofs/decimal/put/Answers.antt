-- The text is copied over as many bytes.
use Rattle.text.proofs.Writing.{copy_stored}
use Rattle.text.proofs.decimal.put.Goals as goal

pub returns : goal.returns
returns c = search copy_stored

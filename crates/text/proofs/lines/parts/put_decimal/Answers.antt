-- The number fits, so it is stored.
use Rattle.text.proofs.RoomLaws.{is_some, put_is_stored}
use Rattle.text.proofs.lines.parts.put_decimal.Goals as goal

pub unwrap-requires : goal.unwrap-requires
unwrap-requires c = search is_some

pub returns : goal.returns
returns c = search put_is_stored

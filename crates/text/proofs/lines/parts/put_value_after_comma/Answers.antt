-- The value begins behind the comma.
use Rattle.text.proofs.LinesLines.{comma_first, behind_comma, after_comma}
use Rattle.text.proofs.lines.parts.put_value_after_comma.Goals as goal

pub put_byte-begin-requires : goal.put_byte-begin-requires
put_byte-begin-requires c = search comma_first

pub put_value-requires : goal.put_value-requires
put_value-requires c = search behind_comma

pub returns : goal.returns
returns c = search after_comma

-- A refusal's place is small, so its code is that of the turn's answer.
use Rattle.exports.proofs.Turns.{turn_refused}
use Rattle.exports.proofs.turn.tankcurve_turn.Goals as goal

pub returns-in-Err-clause-value : goal.returns-in-Err-clause-value
returns-in-Err-clause-value c = search (turn_refused, c.in-Ok.ensures)

-- What the move of the edges asks holds where the check finds nothing.
use Rattle.regression.proofs.Windows.{turn_accepted}
use Rattle.regression.proofs.turn.turn.Goals as goal

pub turned_record-requires : goal.turned_record-requires
turned_record-requires c = search (turn_accepted, c.in_ok-turn_fault.was)

-- Both edges come to the window's, and their sums together have gained the new run and lost the old one.
use Rattle.regression.proofs.Windows.{turned_so}
use Rattle.regression.proofs.turn.window.turned_record.Goals as goal

pub returns : goal.returns
returns c = search turned_so

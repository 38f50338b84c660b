-- Every check is made before the first row is stored, so where there is none the lists are accepted.
use Rattle.regression.proofs.SweepVerdicts.{smooth_accepted}
use Rattle.regression.proofs.sweep.smooth_under.Goals as goal

pub smooth_rows-requires : goal.smooth_rows-requires
smooth_rows-requires c = search (smooth_accepted, c.in_ok-smooth_fault.was)

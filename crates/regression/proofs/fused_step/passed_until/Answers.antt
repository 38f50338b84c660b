-- A reading that is passed joins the sums; the first minute of at least `bound` ends the way.
use Rattle.regression.proofs.FusedStepPassing.{passing_goes_on, passing_stops}
use Rattle.regression.proofs.fused_step.passed_until.Goals as goal

pub returns-then-bound-readings : goal.returns-then-bound-readings
returns-then-bound-readings g c = search passing_stops

pub loop-i-preserved : goal.loop-i-preserved
loop-i-preserved g c = search passing_goes_on

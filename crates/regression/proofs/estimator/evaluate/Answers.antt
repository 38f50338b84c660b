-- Where the check finds nothing the readings are accepted.
use Rattle.regression.proofs.EstimatorVerdicts.{evaluate_accepted}
use Rattle.regression.proofs.estimator.evaluate.Goals as goal

pub estimate_at-requires : goal.estimate_at-requires
estimate_at-requires c = search (evaluate_accepted, c.in_ok-evaluate_fault.was)

-- Of the two readings at the ends of the run the further one is the k-th nearest; which one that is, the sum of their minutes tells.
use Rattle.questions.proofs.Starts.{first_is_bandwidth, last_is_bandwidth}
use Rattle.questions.proofs.neighbours.nearest.bandwidth_from.Goals as goal

pub returns-then-first-last : goal.returns-then-first-last
returns-then-first-last c = search first_is_bandwidth

pub returns : goal.returns
returns c = search last_is_bandwidth

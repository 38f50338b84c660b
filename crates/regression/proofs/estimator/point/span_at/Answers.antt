-- For ordered minutes both searches find the row's edges. Of three unsigned numbers of at most 32 bits no sum wraps 64.
use Rattle.regression.proofs.Searches.{span_found}
use Rattle.regression.proofs.estimator.point.span_at.Goals as goal

pub returns : goal.returns
returns c = search span_found

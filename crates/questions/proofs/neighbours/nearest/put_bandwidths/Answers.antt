-- Each turn stores one half width more behind those before, and hands the start on: marks are in order, so the next one passes every start that
-- this one has passed.
use Rattle.questions.proofs.Starts.{stores_go_on, stores_end}
use Rattle.questions.proofs.neighbours.nearest.put_bandwidths.Goals as goal

pub loop-i-preserved : goal.loop-i-preserved
loop-i-preserved c = search stores_go_on

pub returns : goal.returns
returns c = search stores_end

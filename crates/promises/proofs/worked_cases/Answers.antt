-- The statement has its proof already.
use Rattle.promises.proofs.Promises.{worked_cases}
use Rattle.promises.proofs.worked_cases.Goals as goal

pub returns : goal.returns
returns c = worked_cases

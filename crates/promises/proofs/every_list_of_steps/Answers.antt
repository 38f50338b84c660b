-- The statement has its proof already.
use Rattle.meanings.proofs.Claim.{demand_3}
use Rattle.promises.proofs.every_list_of_steps.Goals as goal

pub returns : goal.returns
returns c = demand_3

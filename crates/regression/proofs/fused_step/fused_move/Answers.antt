-- The right edge goes its way first, and the left one up to it; each adds its way to the passes.
use Rattle.regression.proofs.FusedStepPassing.{left_way_within, both_ways_move}
use Rattle.regression.proofs.fused_step.fused_move.Goals as goal

pub returns : goal.returns
returns c = search both_ways_move

pub passed_until-left-requires : goal.passed_until-left-requires
passed_until-left-requires c = search left_way_within

-- Every check is made before the first step; lists that none refuses are searched.
use Rattle.questions.proofs.Answers.{tanks_accepted}
use Rattle.questions.proofs.pair.part.Goals as goal

pub parted-requires : goal.parted-requires
parted-requires c = search (tanks_accepted, c.in_ok-compare_fault.was)

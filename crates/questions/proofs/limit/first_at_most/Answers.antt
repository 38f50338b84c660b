-- Every check is made before the first step; lists that none refuses are searched.
use Rattle.questions.proofs.LimitSearching.{lists_accepted}
use Rattle.questions.proofs.limit.first_at_most.Goals as goal

pub search-requires : goal.search-requires
search-requires c = search (lists_accepted, c.in_ok-curve_fault.was)

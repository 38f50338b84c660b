-- Every check of the question at one mark is made first; lists that none refuses are searched.
use Rattle.questions.proofs.Removing.{lists_accepted}
use Rattle.questions.proofs.decisive.decisive_sample.Goals as goal

pub search-requires : goal.search-requires
search-requires c = search (lists_accepted, c.in_ok-evaluate_fault.was)

-- Where the check finds nothing the readings are accepted.
use Rattle.questions.proofs.Rows.{readings_accepted}
use Rattle.questions.proofs.biweight.biweight.Goals as goal

pub row_at-requires : goal.row_at-requires
row_at-requires c = search (readings_accepted, c.in_ok-series_fault.was)

-- The searches find right and left; what is weighed between them, and its rounded quotient, make the row.
use Rattle.questions.proofs.Rows.{run_short, row_made}
use Rattle.questions.proofs.biweight.row_at.Goals as goal

pub returns : goal.returns
returns c = search row_made

pub weigh-weighed-requires : goal.weigh-weighed-requires
weigh-weighed-requires c = search run_short

-- The test is computed here, over all entries.
use mathlib.Core.Path.{refl}
use Rattle.questions.proofs.Table.{table_by_test}
use Rattle.questions.proofs.biweight_table.biweight_weights.Goals as goal

pub returns : goal.returns
returns c = table_by_test _ refl refl

-- What an edge's way says that is searched and summed at once.
use Rattle.std.specs.Prelude.{ℕ, List}
use Rattle.meanings.specs.declared.PowerSums.{PowerSums}
use Rattle.regression.specs.Rows.{FoundFrom, RunJoined}
use Rattle.arithmetic.specs.declared.sums.Edge.{Edge}

-- e stands at the first position from a up to b whose minute is at least m, else at b, and each of the six sums s, joined by op with its terms over
-- the readings that were passed, makes e's
pub record PassedUntil (op : ℕ → ℕ → ℕ) (s : PowerSums) (ts vs : List ℕ) (a b m : ℕ) (e : Edge PowerSums) : Type 0 where
  pub stops : FoundFrom ts a b m e.at
  pub joined : RunJoined op s ts vs a e.at e.sums

-- What a step of both records asks and says.
use Rattle.std.specs.Prelude.{ℕ, ◌≡◌, List}
use Rattle.meanings.specs.Running.{moved}
use Rattle.meanings.proofs.Checks.{AdvanceAccepted}
use Rattle.regression.specs.Rows.{RunWithin, FoundFrom, RunJoined}
use Rattle.arithmetic.specs.declared.ranges.BothRecord.{BothRecord}
use Rattle.arithmetic.specs.declared.ranges.BothSums.{BothSums}
use Rattle.arithmetic.specs.Both.{low_sums, high_sums, low_record, high_record}
use Rattle.arithmetic.specs.declared.sums.Edge.{Edge}

-- positions from a up to b of three lists
pub record RangesWithin (ts ls us : List ℕ) (a b : ℕ) : Type 0 where
  pub low : RunWithin ts ls a b
  pub high : RunWithin ts us a b

-- e stands at the first position from a up to b whose minute is at least m, else at b, and the sums s, joined by op with the terms over the readings
-- that were passed, make e's, of the lows and of the highs
pub record BothPassed (op : ℕ → ℕ → ℕ) (s : BothSums) (ts ls us : List ℕ) (a b m : ℕ) (e : Edge BothSums) : Type 0 where
  pub stops : FoundFrom ts a b m e.at
  pub low : RunJoined op (low_sums s) ts ls a e.at (low_sums e.sums)
  pub high : RunJoined op (high_sums s) ts us a e.at (high_sums e.sums)

-- a step is accepted of either record
pub record BothAccepted (ts ls us : List ℕ) (left right h : ℕ) : Type 0 where
  pub low : AdvanceAccepted ts ls left right h
  pub high : AdvanceAccepted ts us left right h

-- r' has either record after such a step
pub record BothMoved (ts ls us : List ℕ) (r : BothRecord) (z h : ℕ) (r' : BothRecord) : Type 0 where
  pub low : low_record r' ≡ moved ts ls (low_record r) z h
  pub high : high_record r' ≡ moved ts us (high_record r) z h

-- What the functions under the call say.
use Rattle.std.specs.Prelude.{ℕ, ◌≤◌, ◌<◌, ◌≡◌, Bool, List, length, get_or}
use Rattle.std.specs.Prelude.{Option}
use Rattle.meanings.specs.Estimate.{kernel, weight_of, sum_of, value_of}
use Rattle.meanings.specs.limit.Threshold.{at_or_below}
use Rattle.meanings.specs.decisive.Decisive.{first_decisive}
use Rattle.questions.specs.declared.decisive.Run.{Run}

-- weight and sum of the mark's row, and bounds outside of which no reading has weight
pub record IsRun (ts vs : List ℕ) (z h : ℕ) (r : Run) : Type 0 where
  pub before : (j : ℕ) → j < r.left → j < length ts → kernel z h (get_or ts j 0) ≡ 0
  pub behind : (j : ℕ) → r.right ≤ j → j < length ts → kernel z h (get_or ts j 0) ≡ 0
  pub within : r.right ≤ length ts
  pub weight_is : r.weight ≡ weight_of ts z h
  pub sum_is : r.sum ≡ sum_of ts vs z h

-- b says whether a row with this weight and sum is low enough
pub record IsLow (weight sum limit : ℕ) (b : Bool) : Type 0 where
  pub tested : b ≡ at_or_below limit weight (value_of sum weight)

-- c is what accepted lists answer
pub record Searched (ts vs : List ℕ) (z h limit : ℕ) (c : Option ℕ) : Type 0 where
  pub answer : c ≡ first_decisive ts vs z h limit

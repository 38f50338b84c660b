-- What the estimator's own functions ask and say: searches, spans and six sums.
use Rattle.std.specs.Prelude.{ℕ, ◌-◌, ◌≤◌, ◌≡◌, List, leb, length, get_or, ◌<◌}
use Rattle.meanings.specs.declared.PowerSums.{PowerSums}
use Rattle.meanings.specs.Lists.{first}
use Rattle.meanings.specs.Running.{six, sum_at, power_sum}
use Rattle.meanings.specs.Estimate.{left_of, right_of}
use Rattle.regression.specs.declared.estimator.point.Span.{Span}

-- positions from a up to b of one list, or of two
pub record Within (ts : List ℕ) (a b : ℕ) : Type 0 where
  pub ordered : a ≤ b
  pub inside : b ≤ length ts

pub record RunWithin (ts vs : List ℕ) (a b : ℕ) : Type 0 where
  pub minutes : Within ts a b
  pub values : Within vs a b

-- r is the first position from a up to b whose minute is at least m, else b
pub record FoundFrom (ts : List ℕ) (a b m r : ℕ) : Type 0 where
  pub found : r ≡ first (λ i. leb m (get_or ts i 0)) a (b - a)

-- each of the six sums s, joined by op with its terms over the readings from a up to b, makes r
pub record RunJoined (op : ℕ → ℕ → ℕ) (s : PowerSums) (ts vs : List ℕ) (a b : ℕ) (r : PowerSums) : Type 0 where
  pub sums : r ≡ six (λ p q. op (sum_at s p q) (power_sum ts vs a (b - a) p q))

-- s is the run of the window at z
pub record IsSpan (ts : List ℕ) (z h : ℕ) (s : Span) : Type 0 where
  pub left_is : s.left ≡ left_of ts z h
  pub right_is : s.right ≡ right_of ts z h

-- every number of a list fits 16 bits
pub record Of16Bits (xs : List ℕ) : Type 0 where
  pub fits : (i : ℕ) → get_or xs i 0 < 65536

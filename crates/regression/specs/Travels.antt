-- What the turn's own functions ask and say: where an edge stands among ordered minutes, and six sums that go with it.
use Rattle.std.specs.Prelude.{ℕ, ◌+◌, ◌-◌, ◌%◌, ◌^◌, ◌≤◌, ◌<◌, ◌≡◌, List, length, get_or}
use Rattle.meanings.specs.Running.{sum_at, power_sum}
use Rattle.meanings.specs.declared.PowerSums.{PowerSums}
use Rattle.arithmetic.specs.declared.sums.Edge.{Edge}

-- an edge among readings of equal number
pub record Among (ts vs : List ℕ) (at : ℕ) : Type 0 where
  pub even : length ts ≡ length vs
  pub inside : at ≤ length ts

-- a and b leave the same remainder by 2^w
pub record Alike (w a b : ℕ) : Type 0 where
  pub remainders : a % 2 ^ w ≡ b % 2 ^ w

-- r is s with u more and v less, modulo 2^w
pub record Settles (w s u v r : ℕ) : Type 0 where
  pub below : r < 2 ^ w
  pub settled : Alike w (r + v) (s + u)

-- from e to f the six sums have gained what lies before f and lost what lies before e
pub record Carried (ts vs : List ℕ) (e f : Edge PowerSums) : Type 0 where
  pub each : (p q : ℕ) → p ≤ 2 → q ≤ 1
      → Settles 64 (sum_at e.sums p q) (power_sum ts vs 0 f.at p q) (power_sum ts vs 0 e.at p q) (sum_at f.sums p q)

-- an edge among them where the minute, if there is one, is at least m
pub record Reaches (ts vs : List ℕ) (m at : ℕ) : Type 0 where
  pub among : Among ts vs at
  pub reached : at < length ts → m ≤ get_or ts at 0

-- e carried to such an edge f
pub record Raised (ts vs : List ℕ) (m : ℕ) (e f : Edge PowerSums) : Type 0 where
  pub reaches : Reaches ts vs m f.at
  pub carried : Carried ts vs e f

-- and the minute before it, if there is one, is below m
pub record Lowered (ts vs : List ℕ) (m : ℕ) (e f : Edge PowerSums) : Type 0 where
  pub raised : Raised ts vs m e f
  pub before : 0 < f.at → get_or ts (f.at - 1) 0 < m

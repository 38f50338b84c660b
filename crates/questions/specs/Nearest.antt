-- What the functions under the call ask and say. ts are ordered minutes, z a mark, k is K; a start is the position of the first of k readings in
-- a row.
use Rattle.std.specs.Prelude.{ℕ, ◌+◌, ◌*◌, ◌≤◌, ◌<◌, ◌≡◌, List, length, get_or}
use Rattle.meanings.specs.Lists.{Ordered}
use Rattle.meanings.specs.neighbours.Neighbours.{neighbour_bandwidth}

-- at every start before a the sum of its minute and of the one behind its run is below twice z
pub record StartsPassed (ts : List ℕ) (k z a : ℕ) : Type 0 where
  pub low : 1 ≤ k
  pub ordered : Ordered ts
  pub room : a + k ≤ length ts
  pub below : (i : ℕ) → i < a → get_or ts i 0 + get_or ts (i + k) 0 < 2 * z

-- and at a it is not, where a reading stands behind the run: no readings are nearer to z than the k from a on
pub record NearestFrom (ts : List ℕ) (k z a : ℕ) : Type 0 where
  pub passed : StartsPassed ts k z a
  pub stays : a + k < length ts → 2 * z ≤ get_or ts a 0 + get_or ts (a + k) 0

-- h is the half width of z
pub record IsBandwidth (ts : List ℕ) (z k h : ℕ) : Type 0 where
  pub is : h ≡ neighbour_bandwidth ts z k

-- lists that half widths can be filled into
pub record Fillable (ts zs : List ℕ) (k : ℕ) (hs : List ℕ) : Type 0 where
  pub low : 1 ≤ k
  pub high : k ≤ length ts
  pub ordered : Ordered ts
  pub ordered_points : Ordered zs
  pub even : length zs ≡ length hs

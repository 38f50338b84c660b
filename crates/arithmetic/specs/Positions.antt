-- Positions among minutes: the place that halving finds in every list, and what holds of it in an ordered one.
use Rattle.std.specs.Prelude.{ℕ, zero, suc, ◌+◌, ◌-◌, ◌/◌, ◌≤◌, ◌<◌, List, [], ◌∷◌, length, get_or, nat_lt, if◌then◌else◌}
use Rattle.meanings.specs.Lists.{Ordered}

-- b if the minute at position i is below m, else a
abbrev pub if_below : List ℕ → ℕ → ℕ → ℕ → ℕ → ℕ
if_below ts m i b a = if nat_lt (get_or ts i 0) m then b else a

-- the position that halving leaves of the k positions from a on, in at most n turns. A turn looks at the minute at a + k / 2: if it is below m the turns
-- go on from there, else from a, with k - k / 2 positions. They end when one position is left.
unfoldable pub position_left : List ℕ → ℕ → ℕ → ℕ → ℕ → ℕ
position_left ts m zero a k = a
position_left ts m (suc n) a k = if nat_lt 1 k then position_left ts m n (if_below ts m (a + k / 2) (a + k / 2) a) (k - k / 2) else a

-- the place of m among minutes in any order. Halving leaves one position of all: the place is after it if its minute is below m, else at it.
unfoldable pub halving_place : List ℕ → ℕ → ℕ
halving_place [] m = 0
halving_place (t ∷ ts) m =
    let a = position_left (t ∷ ts) m (length (t ∷ ts)) 0 (length (t ∷ ts)) in
    if_below (t ∷ ts) m a (a + 1) a

-- among ordered minutes every one before position r is below m, and none from r on
pub record FirstAtLeast (ts : List ℕ) (m r : ℕ) : Type 0 where
  pub within : r ≤ length ts
  pub below : Ordered ts → (i : ℕ) → i < r → get_or ts i 0 < m
  pub rest : Ordered ts → (i : ℕ) → r ≤ i → i < length ts → m ≤ get_or ts i 0

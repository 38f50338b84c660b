-- What a step is fed besides the readings, and the steps of a sweep.
use Rattle.std.specs.Prelude.{ℕ, List, [], ◌∷◌}

-- a mark and a half width
pub record Move : Type 0 where
  pub point : ℕ
  pub bandwidth : ℕ

-- one step per mark
abbrev pub moves : List ℕ → List ℕ → List Move
moves [] hs = []
moves (z ∷ zs) [] = []
moves (z ∷ zs) (h ∷ hs) = record { point = z; bandwidth = h } ∷ moves zs hs

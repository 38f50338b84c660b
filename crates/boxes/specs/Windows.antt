-- What is said of windows. zs are marks with half widths hs, s is what cuts are moved up by, ds are the cuts; ws holds for each mark the strip that
-- its window begins with, and the one behind it.
use Rattle.std.specs.Prelude.{ℕ, ◌≤◌, ◌<◌, ◌≡◌, List, length, get_or}
use Rattle.meanings.specs.declared.boxes.Window.{Window}
use Rattle.meanings.specs.boxes.Boxes.{left_cut, right_cut}
use Rattle.meanings.specs.boxes.Lent.{firsts, ends}
use Rattle.boxes.specs.Cuts.{Place}

-- each mark has a half width, and room for its window
pub record Roomy (zs hs : List ℕ) (ws : List Window) : Type 0 where
  pub even : length zs ≤ length hs
  pub windows : length zs ≤ length ws

-- both places of each mark; what stands behind them is as it was
pub record WindowsPut (zs hs : List ℕ) (s : ℕ) (ds : List ℕ) (ws₀ ws : List Window) : Type 0 where
  pub lent : length ws ≡ length ws₀
  pub first : (k : ℕ) → k < length zs → Place ds (length ds) (left_cut s (get_or zs k 0) (get_or hs k 0)) (get_or (firsts ws) k 0)
  pub end : (k : ℕ) → k < length zs → Place ds (length ds) (right_cut s (get_or zs k 0) (get_or hs k 0)) (get_or (ends ws) k 0)
  pub rest : (k : ℕ) (w : Window) → length zs ≤ k → get_or ws k w ≡ get_or ws₀ k w

-- of lists that are too short nothing is stored
pub record WindowsTried (zs hs : List ℕ) (s : ℕ) (ds : List ℕ) (ws₀ ws : List Window) : Type 0 where
  pub put : Roomy zs hs ws₀ → WindowsPut zs hs s ds ws₀ ws
  pub left : ¬ Roomy zs hs ws₀ → ws ≡ ws₀

-- The grid and the edges of a window on one mark: 20 with half width 10.
use mathlib.Core.Path.{◌≡◌, refl}
use mathlib.Core.Bool.{false}
use mathlib.Core.List.{[], ◌∷◌}
use Rattle.meanings.specs.boxes.Boxes.{minute_axis, cuts}
use Rattle.laws.specs.boxes.Published.{rising_cuts, grid_point}
use Rattle.laws.specs.boxes.Windows.{below_left_edge}

-- the first cut is the left edge 10, moved up by 65,537, and the first point of the grid lies 1 below it
pub grid_point_is_below_the_cut : grid_point (minute_axis [] (20 ∷ []) (10 ∷ [])) 1 ≡ 65546
unfolding rising_cuts cuts
grid_point_is_below_the_cut = refl

-- a reading on the left edge does not lie below it
pub left_edge_is_not_below_itself : below_left_edge (minute_axis (10 ∷ []) (20 ∷ []) (10 ∷ [])) 0 0 ≡ false
left_edge_is_not_below_itself = refl

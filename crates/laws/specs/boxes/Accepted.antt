-- What lists satisfy that no check of the call refuses; b, c and s are the lengths of the lists of boxes, cell counts and cell sums.
use Rattle.std.specs.Prelude.{ℕ, ◌*◌, ◌≤◌, ◌<◌, ◌≡◌, List, length}
use Rattle.meanings.specs.Lists.{Ordered}
use Rattle.meanings.specs.boxes.Boxes.{Axis, cells}
use Rattle.laws.specs.boxes.Windows.{Narrow}

pub record BoxesAccepted (A B : Axis) (vs : List ℕ) (b c s : ℕ) : Type 0 where
  pub even : length A.samples ≡ length B.samples
  pub even_values : length A.samples ≡ length vs
  pub even_points : length A.points ≡ length A.bandwidths
  pub even_others : length B.points ≡ length B.bandwidths
  pub places : b ≡ 2 * length A.points * length B.points
  pub counts : c ≡ cells
  pub sums : s ≡ cells
  pub few : length A.samples ≤ 1024
  pub some_point : 0 < length A.points
  pub some_other : 0 < length B.points
  pub ordered_points : Ordered A.points
  pub ordered_others : Ordered B.points
  pub narrow : Narrow A
  pub narrow_other : Narrow B

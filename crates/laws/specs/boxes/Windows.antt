-- A mark's window by strips and by its edges, in one direction.
use Rattle.std.specs.Prelude.{ℕ, ◌+◌, ◌≤◌, ◌<◌, Bool, ltb, leb, length, get_or}
use Rattle.meanings.specs.boxes.Boxes.{Axis, shift, left_cut, right_cut, cuts, strip}

-- the strips of mark k's window: from that of its left cut up to but without that of its right one
unfoldable pub first_strip : Axis → ℕ → ℕ
first_strip A k = strip (cuts A) (left_cut (shift A) (get_or A.points k 0) (get_or A.bandwidths k 0))

unfoldable pub end_strip : Axis → ℕ → ℕ
end_strip A k = strip (cuts A) (right_cut (shift A) (get_or A.points k 0) (get_or A.bandwidths k 0))

-- the inequalities of (18), of reading i and mark k: x ≤ z + h, and x < z − h as x + h < z
abbrev pub to_right_edge : Axis → ℕ → ℕ → Bool
to_right_edge A k i = leb (get_or A.samples i 0) (get_or A.points k 0 + get_or A.bandwidths k 0)

abbrev pub below_left_edge : Axis → ℕ → ℕ → Bool
below_left_edge A k i = ltb (get_or A.samples i 0 + get_or A.bandwidths k 0) (get_or A.points k 0)

-- a direction with no more marks than the call takes, and half widths within its limit
pub record Narrow (A : Axis) : Type 0 where
  pub few : length A.points ≤ 32
  pub within : (k : ℕ) → k < length A.points → get_or A.bandwidths k 0 ≤ A.widest

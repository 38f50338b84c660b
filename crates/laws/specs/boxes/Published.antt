-- N. Langrené and X. Warin, "Fast multivariate empirical cumulative distribution function with connection to kernel density estimation" (2021), in
-- two dimensions: the local sums (4), without their factor 1/N, at the grid of the distinct cuts less 1 in each direction; and the uniform kernel
-- (13) with its density estimator (17), as exact fractions over N readings.
use Rattle.std.specs.Prelude.{ℕ, zero, suc, ◌+◌, ◌-◌, Bool, true, ◌&&◌, List, ltb, leb, length, get_or}
use Rattle.meanings.specs.Lists.{pick, distance}
use Rattle.meanings.specs.Published.{Fraction, whole, ◌⊗◌, sum_all}
use Rattle.meanings.specs.neighbours.Neighbours.{sorted}
use Rattle.meanings.specs.boxes.Boxes.{Axis, shift, cuts, distinct, gathered}

-- the distinct cuts from the smallest to the greatest
unfoldable pub rising_cuts : List ℕ → List ℕ
rising_cuts cs = sorted (distinct cs)

-- a direction's grid has M points, z_1 to z_M: so many distinct cuts
abbrev pub grid_size : Axis → ℕ
grid_size A = length (rising_cuts (cuts A))

-- z_j, for j from 1 to M: a cut less 1
abbrev pub grid_point : Axis → ℕ → ℕ
grid_point A zero = 0
grid_point A (suc a) = get_or (rising_cuts (cuts A)) a 0 - 1

-- z_(j − 1) < x, where z_0 is −∞
abbrev pub above_grid : Axis → ℕ → ℕ → Bool
above_grid A zero x = true
above_grid A (suc zero) x = true
above_grid A (suc (suc a)) x = ltb (grid_point A (suc a)) x

-- x ≤ z_j, where z_(M + 1) is ∞
abbrev pub to_grid : Axis → ℕ → ℕ → Bool
to_grid A j x = pick (leb j (grid_size A)) (leb x (grid_point A j)) true

-- where reading i lies on the grid
abbrev pub place : Axis → ℕ → ℕ
place A i = get_or A.samples i 0 + shift A

-- (4) at j₁ and j₂, from 1 to M + 1 each, without 1/N
unfoldable pub local_sum : Axis → Axis → (ℕ → ℕ) → ℕ → ℕ → ℕ → ℕ
local_sum A B y n j₁ j₂ = gathered
    (λ i. (above_grid A j₁ (place A i) && to_grid A j₁ (place A i)) && (above_grid B j₂ (place B i) && to_grid B j₂ (place B i)))
    y
    n

-- (13) at |u|
abbrev pub uniform : Fraction → Fraction
uniform u = pick (leb u.num u.den) (record { num = 1; den = 2 }) (whole 0)

-- 1/h K((x − z) / h), for reading i and mark k of a direction
abbrev pub scaled_uniform : Axis → ℕ → ℕ → Fraction
scaled_uniform A k i =
    record { num = 1; den = get_or A.bandwidths k 0 }
    ⊗ uniform (record { num = distance (get_or A.samples i 0) (get_or A.points k 0); den = get_or A.bandwidths k 0 })

-- (17) with weights w, at minute mark j and temperature mark k
unfoldable pub uniform_density : Axis → Axis → (ℕ → ℕ) → ℕ → ℕ → ℕ → Fraction
uniform_density A B w n j k =
    record { num = 1; den = n } ⊗ sum_all (λ i. whole (w i) ⊗ (scaled_uniform A j i ⊗ scaled_uniform B k i)) n

-- Inside the window the weight h² − (minute − z)² cuts nothing off at 0, and its square opens into powers of the minute: with d the distance
-- of t and z, one of them is the other plus d.
use Prim.Native.Nat.{ℕ, ◌+◌, ◌*◌, ◌≤◌}
use mathlib.Core.Path.{◌≡◌}
use native.Mathlib.Nat.{mul-le-mul}
use native.Mathlib.Omega.{arith}
use native.Mathlib.Decide.{dec_le}
use Rattle.meanings.specs.Lists.{distance}
use Rattle.meanings.specs.Estimate.{Inside, kernel}

-- of two numbers d apart: d² + 2 a b = a² + b²
square_opens : (a b d : ℕ) → b ≡ a + d → d * d + 2 * (a * b) ≡ a * a + b * b
square_opens a b d e = rw e (omega arith)

pub distance_square : (t z : ℕ) → distance t z * distance t z + 2 * (z * t) ≡ z * z + t * t
unfolding distance
distance_square t z = by (dec_le t z)
  where
    by : Dec (t ≤ z) → distance t z * distance t z + 2 * (z * t) ≡ z * z + t * t
    by (yes h) = omega (arith, square_opens t z (distance t z) (omega arith))
    by (no h) = omega (arith, square_opens z t (distance t z) (omega arith))

pub distance_inside : (z h t : ℕ) → Inside z h t → distance t z ≤ h
unfolding distance
distance_inside z h t w = omega arith

pub kernel_exact : (z h t : ℕ) → Inside z h t → kernel z h t + distance t z * distance t z ≡ h * h
unfolding kernel
kernel_exact z h t w = let s = mul-le-mul (distance_inside z h t w) (distance_inside z h t w) in omega arith

pub kernel_at_most : (z h t : ℕ) → kernel z h t ≤ h * h
unfolding kernel
kernel_at_most z h t = omega arith

-- The square of a difference modulo 2^64 is that of the distance: where the difference wraps, it and the distance are 2^64 together, and their squares
-- leave the same remainder. A half width of 32 bits has a square of 64.
use Prim.Native.Nat.{ℕ, ◌+◌, ◌-◌, ◌*◌, ◌%◌, ◌^◌, ◌≤◌, ◌<◌}
use mathlib.Core.Path.{◌≡◌, ap, ◌∙◌}
use native.Mathlib.Decide.{dec_lt, dec_le}
use native.Mathlib.Nat.{mul-le-mul, mod-eq_of_lt}
use native.Mathlib.Omega.{arith}
use lib.Arith.{digits_mod}
use Rattle.meanings.specs.Lists.{distance}
use Rattle.meanings.specs.Estimate.{kernel}
use Rattle.meanings.proofs.Kernels.{kernel_outside, squares_differ, kernel_product}

pub square_fits : (h : ℕ) → h < 2 ^ 32 → h * h < 2 ^ 64
square_fits h small =
    let m : h ≤ 4294967295 = omega arith in
    let q = mul-le-mul m m in
    omega arith

-- d + e and d are the modulus together
square_of_rest : (d e n : ℕ) → d + e + d ≡ n → d * d < n → (d + e) * (d + e) % n ≡ d * d
square_of_rest d e n both small =
    let s : (d + e) * (d + e) ≡ e * (d + e + d) + d * d = omega arith in
    ap (λ (x : ℕ). x % n) (s ∙ ap (λ (x : ℕ). e * x + d * d) both) ∙ digits_mod e small

-- the difference modulo 2^64
abbrev difference : ℕ → ℕ → ℕ
difference t z = (t + (2 ^ 64 - z)) % 2 ^ 64

square_from_above : (t z : ℕ) → t < 2 ^ 16 → z ≤ t → difference t z * difference t z % 2 ^ 64 ≡ distance t z * distance t z
unfolding distance
square_from_above t z a l =
    let d : difference t z ≡ t - z = omega arith in
    let e : t - z ≡ distance t z = omega arith in
    let s = square_fits (t - z) (omega arith) in
    rw d (mod-eq_of_lt s ∙ ap (λ (x : ℕ). x * x) e)

square_from_below : (t z : ℕ) → z < 2 ^ 16 → t < z → difference t z * difference t z % 2 ^ 64 ≡ distance t z * distance t z
unfolding distance
square_from_below t z b l =
    let rest : ℕ = 2 ^ 64 - 2 * (z - t) in
    let d : difference t z ≡ z - t + rest = omega arith in
    let e : z - t ≡ distance t z = omega arith in
    rw d (square_of_rest (z - t) rest (2 ^ 64) (omega arith) (square_fits (z - t) (omega arith)) ∙ ap (λ (x : ℕ). x * x) e)

square_is : (t z : ℕ) → t < 2 ^ 16 → z < 2 ^ 16 → difference t z * difference t z % 2 ^ 64 ≡ distance t z * distance t z
square_is t z a b = by (dec_lt t z)
  where
    by : Dec (t < z) → difference t z * difference t z % 2 ^ 64 ≡ distance t z * distance t z
    by (yes l) = square_from_below t z b l
    by (no l) = square_from_above t z a (omega arith)

-- from the window's edge on both are 0, inside it both are the product (h − d)(h + d)
squares_are_kernel : (t z h : ℕ) → h * h - distance t z * distance t z ≡ kernel z h t
squares_are_kernel t z h = by (dec_le h (distance t z))
  where
    by : Dec (h ≤ distance t z) → h * h - distance t z * distance t z ≡ kernel z h t
    by (yes l) = let s = mul-le-mul l l in rw (kernel_outside z h t l) (omega arith)
    by (no l) =
        let m : distance t z ≤ h = omega arith in
        let s = squares_differ h (distance t z) m in
        rw (kernel_product z h t m) (omega arith)

pub weight_is_kernel : (t z h : ℕ) → t < 2 ^ 16 → z < 2 ^ 16 → h * h - difference t z * difference t z % 2 ^ 64 ≡ kernel z h t
weight_is_kernel t z h a b = ap (λ (x : ℕ). h * h - x) (square_is t z a b) ∙ squares_are_kernel t z h

-- Inside the window h² − d² is the product (h − d)(h + d); from its edge on the kernel is 0.
use Prim.Native.Nat.{ℕ, ◌+◌, ◌-◌, ◌*◌, ◌≤◌}
use mathlib.Core.Path.{◌≡◌, sym, ap, ◌∙◌}
use native.Mathlib.Nat.{mul-le-mul}
use native.Mathlib.Omega.{arith}
use Rattle.meanings.specs.Lists.{distance}
use Rattle.meanings.specs.Estimate.{kernel}

pub kernel_outside : (z h t : ℕ) → h ≤ distance t z → kernel z h t ≡ 0
unfolding kernel
kernel_outside z h t l = let s = mul-le-mul l l in omega arith

-- with d + e for h
factors : (d e : ℕ) → e * (d + e + d) + d * d ≡ (d + e) * (d + e)
factors d e = omega arith

pub squares_differ : (h d : ℕ) → d ≤ h → (h - d) * (h + d) + d * d ≡ h * h
squares_differ h d l =
    let s : d + (h - d) ≡ h = omega arith in
    ap (λ (x : ℕ). (h - d) * (x + d) + d * d) (sym s) ∙ factors d (h - d) ∙ ap (λ (x : ℕ). x * x) s

pub kernel_product : (z h t : ℕ) → distance t z ≤ h → kernel z h t ≡ (h - distance t z) * (h + distance t z)
unfolding kernel
kernel_product z h t l = let s = squares_differ h (distance t z) l in omega arith

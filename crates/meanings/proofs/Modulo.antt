-- Sum and difference modulo 2^w: the difference is the one number below 2^w that gives the first number back when the second is added. So a
-- difference below 2^w is had exactly, whatever wrapped on the way.
use Prim.Native.Nat.{ℕ, ◌+◌, ◌-◌, ◌*◌, ◌/◌, ◌%◌, ◌^◌, ◌<◌}
use mathlib.Core.Path.{◌≡◌, ◌∙◌, ap}
use native.Mathlib.Nat.{mod-add-mod, mod-lt, mod-eq_of_lt, div-add-mod, add-mul-mod_self_left}
use native.Mathlib.Omega.{arith}
use lib.Pow.{pow_pos}
use Rattle.meanings.specs.Running.{minus, combined}

module _ (w a b : ℕ) where
  pub minus_below : minus w a b < 2 ^ w
  minus_below = mod-lt _ (pow_pos w)

  pub minus_undone : (minus w a b + b) % 2 ^ w ≡ a % 2 ^ w
  minus_undone = mod-add-mod _ _ _ ∙ ap (λ (n : ℕ). n % 2 ^ w) whole ∙ add-mul-mod_self_left a (2 ^ w) (b / 2 ^ w + 1)
    where
      whole : a + (2 ^ w - b % 2 ^ w) + b ≡ a + 2 ^ w * (b / 2 ^ w + 1)
      whole = let d = div-add-mod b (2 ^ w) in let l = mod-lt b (pow_pos w) in omega arith

pub minus_exact : (w x b r : ℕ) → r + b ≡ x → r < 2 ^ w → minus w (x % 2 ^ w) b ≡ r
minus_exact w x b r e l = mod-add-mod x _ _ ∙ ap (λ (n : ℕ). n % 2 ^ w) whole ∙ add-mul-mod_self_left r (2 ^ w) (b / 2 ^ w + 1) ∙ mod-eq_of_lt l
  where
    whole : x + (2 ^ w - b % 2 ^ w) ≡ r + 2 ^ w * (b / 2 ^ w + 1)
    whole = let d = div-add-mod b (2 ^ w) in let m = mod-lt b (pow_pos w) in omega arith

pub combined_exact : (w z h a b c r : ℕ) → r + z * z * a + c ≡ h * h * a + 2 * z * b → r < 2 ^ w → combined w z h a b c ≡ r
combined_exact w z h a b c r e l = minus_exact w (h * h * a + 2 * z * b) (z * z * a + c) r (omega arith) l

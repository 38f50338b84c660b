-- One reading's terms are its products of powers of minute and value.
use Rattle.std.proofs.Common.{◌≡◌, ℕ, ◌*◌, ◌^◌, one-mul, mul-one}
use native.Mathlib.Nat.{pow-zero}
use Rattle.meanings.specs.Running.{six}
use Rattle.meanings.proofs.Moments.{power_one, power_two}

pub sample_terms : (t v : ℕ) → record { s00 = 1; s10 = t; s20 = t * t; s01 = v; s11 = t * v; s21 = t * t * v } ≡ six (λ p q. t ^ p * v ^ q)
sample_terms t v = rw (pow-zero t, pow-zero v, power_one t, power_one v, power_two t, one-mul v, mul-one t, mul-one (t * t))

-- Below 2^53, and at whole multiples of 2^32 below 2^64, rounding to a double changes nothing.
use Prim.Native.Nat.{ℕ, ◌+◌, ◌*◌, ◌/◌, ◌^◌, ◌≤◌, ◌<◌}
use mathlib.Core.Path.{◌≡◌, sym, ap, ◌∙◌}
use mathlib.Core.Bool.{false}
use native.Mathlib.Nat.{mul_assoc, mul-one, zero-lt-suc, lt_of_lt_of_le}
use native.Mathlib.Omega.{arith}
use lib.Pow.{pow-add, shl_lt, pow_mono}
use lib.Dec.{lit≤}
use lib.Ieee.{binary64, of_int, low}
use lib.Ieee.Exact.{round_exact}
use lib.Ieee.Back.{round_whole}
use Rattle.meanings.specs.doubles.Doubles.{double, one_limit, low_unit, low_of, high_of, Exactly}

pub small_exact : (n : ℕ) → n ≤ one_limit → Exactly (double n) n
unfolding of_int
small_exact n l = round_whole binary64 false n l

-- q × 2^32 has as many digits as q before its zeros
pub multiple_exact : (q : ℕ) → q < 2 ^ 32 → Exactly (double (q * low_unit)) (q * low_unit)
unfolding of_int
multiple_exact q l =
    round_exact binary64 false (q * low_unit) 1 q (32 + low binary64) (zero-lt-suc 0) (omega arith)
    (lt_of_lt_of_le (shl_lt 32 (32 + low binary64) l) (pow_mono {i = 32 + (32 + low binary64)} {j = low binary64 + 1024} (lit≤ tt)))
    (mul_assoc q (2 ^ 32) (2 ^ low binary64) ∙ ap (λ (x : ℕ). q * x) (sym (pow-add 2 32 (low binary64))) ∙ sym (mul-one (q * 2 ^ (32 + low binary64))))

-- the two parts
pub low_below : (n : ℕ) → low_of n < low_unit
low_below n = omega arith

pub high_multiple : (n : ℕ) → high_of n ≡ n / low_unit * low_unit
high_multiple n = omega arith

pub parts_together : (n : ℕ) → n ≡ n / low_unit * low_unit + low_of n
parts_together n = omega arith

pub low_exact : (n : ℕ) → Exactly (double (low_of n)) (low_of n)
low_exact n = small_exact (low_of n) (omega arith)

pub high_exact : (n : ℕ) → n < 2 ^ 64 → Exactly (double (high_of n)) (n / low_unit * low_unit)
high_exact n l = rw (high_multiple n) (multiple_exact (n / low_unit) (omega arith))

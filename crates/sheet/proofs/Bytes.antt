-- Bytes as one number, from the low end: the first byte is the remainder by 256, and the others are the quotient.
use Rattle.std.proofs.Common.{◌≡◌, ℕ, zero, suc, ◌+◌, ◌*◌, ◌/◌, ◌%◌, ◌^◌, ◌<◌, sym, refl, ◌∙◌, mul_assoc, div-lt_iff_lt-mul, pow-suc, zero-add, div-one, arith}
use native.Mathlib.Nat.{pow-succ', div-div-eq-div-mul}
use lib.Pow.{high, low}
use Rattle.sheet.specs.Words.{word, byte}

-- each of n numbers is a byte
abbrev pub Bytes : (ℕ → ℕ) → ℕ → Type 0
Bytes d n = (k : ℕ) → k < n → d k < 256

word_end : (d : ℕ → ℕ) (n : ℕ) → word d (suc n) ≡ word d n + d n * 256 ^ n
unfolding word
word_end d n = rw (zero-add n)

pub word_none : (d : ℕ → ℕ) → word d 0 ≡ 0
unfolding word
word_none d = refl

pub word_step : (d : ℕ → ℕ) (n : ℕ) → word d (suc n) ≡ word (λ k. d (suc k)) n * 256 + d 0
word_step d zero = rw (word_end d 0, word_none d, word_none (λ k. d (suc k))) (omega arith)
word_step d (suc n) =
    let p : d (suc n) * 256 ^ suc n ≡ d (suc n) * 256 ^ n * 256 = rw (pow-suc 256 n) (sym (mul_assoc (d (suc n)) (256 ^ n) 256)) in
    omega (arith, word_end d (suc n), word_end (λ k. d (suc k)) n, word_step d n, p)

byte_zero : (w : ℕ) → byte w 0 ≡ w % 256
unfolding byte
byte_zero w = rw (div-one w)

byte_step : (w k : ℕ) → byte w (suc k) ≡ byte (w / 256) k
unfolding byte
byte_step w k = rw (pow-succ' 256 k, ← div-div-eq-div-mul w 256 (256 ^ k))

pub byte_small : (w k : ℕ) → byte w k < 256
unfolding byte
byte_small w k = omega arith

-- a number below 256 to the n is that of its n bytes
pub word_of_bytes : (n w : ℕ) → w < 256 ^ n → word (byte w) n ≡ w
word_of_bytes zero w l = word_none (byte w) ∙ omega arith
word_of_bytes (suc n) w l =
    let q : w / 256 < 256 ^ n = (div-lt_iff_lt-mul {k = 256} {x = w} {y = 256 ^ n} (omega arith)).1 (rw (pow-suc 256 n) at l) in
    rw (word_step (byte w) n, byte_zero w) (simp byte_step (rw (word_of_bytes n (w / 256) q) (omega arith)))

-- and n bytes are those of their number
pub byte_of_word : (n : ℕ) (d : ℕ → ℕ) → Bytes d n → (k : ℕ) → k < n → byte (word d n) k ≡ d k
byte_of_word zero d small k l = absurd (omega arith)
byte_of_word (suc n) d small zero l = rw (word_step d n, byte_zero) (low (word (λ k. d (suc k)) n) 8 (small 0 l))
byte_of_word (suc n) d small (suc k) l =
    rw (word_step d n, byte_step, high (word (λ k. d (suc k)) n) 8 (small 0 (omega arith)))
    (byte_of_word n (λ k. d (suc k)) (λ k m. small (suc k) (omega arith)) k (omega arith))

-- Four digits in one word. Below 100, x × 103 / 1024 is x / 10; in a word that holds two such numbers, 16 bits each, the products do not meet,
-- and four bits hold each tenth.
use Prim.Native.Nat.{ℕ, ◌+◌, ◌*◌, ◌-◌, ◌/◌, ◌%◌, ◌<◌}
use mathlib.Core.Path.{◌≡◌, ◌∙◌}
use mathlib.Core.List.{[], ◌∷◌}
use native.Mathlib.Omega.{arith}
use Rattle.std.specs.Int.{w32, to_le_bytes}
use Rattle.meanings.specs.Bytes.{zero_digit}
use Rattle.text.specs.Digits.{two_digits, four_digits, word}

tenth : (x : ℕ) → x < 100 → x * 103 / 1024 ≡ x / 10
tenth x small = omega arith

-- both tenths at once, and each of them
tenths_of : (a b : ℕ) → (a + b * 65536) * 103 / 1024 ≡ a * 103 / 1024 + b * 6592
tenths_of a b = omega arith

low_tenth : (t b : ℕ) → t < 10 → (t + b * 6592) % 16 ≡ t
low_tenth t b small = omega arith

high_tenth : (t b u r : ℕ) → t < 10 → b * 103 ≡ u * 1024 + r → r < 1024 → u < 10 → (t + b * 6592) / 65536 % 16 ≡ u
high_tenth t b u r small e low few =
    let f : (t + b * 6592) / 65536 ≡ u = omega arith in
    rw f (omega arith)

-- the word of two pairs of digits
pairs_word : (a b t u : ℕ) → a < 100 → b < 100 → t ≡ a / 10 → u ≡ b / 10
    → (a + b * 65536) * 256 + 808464432 - (t + u * 65536) * 2559
    ≡ word ((zero_digit + a / 10) ∷ (zero_digit + a % 10) ∷ (zero_digit + b / 10) ∷ (zero_digit + b % 10) ∷ [])
pairs_word a b t u small small' e f = omega arith

abbrev tenths : ℕ → ℕ
tenths n = (n / 100 + n % 100 * 65536) * 103 / 1024

module _ (n : ℕ) (small : n < 10000) where
  tenths_are : tenths n ≡ n / 100 / 10 + n % 100 * 6592
  tenths_are = tenths_of (n / 100) (n % 100) ∙ rw (tenth (n / 100) (omega arith))

  first_tenth : tenths n % 16 ≡ n / 100 / 10
  first_tenth = rw tenths_are (low_tenth (n / 100 / 10) (n % 100) (omega arith))

  second_tenth : tenths n / 65536 % 16 ≡ n % 100 / 10
  second_tenth =
      let e = tenth (n % 100) (omega arith) in
      rw tenths_are
      (high_tenth (n / 100 / 10) (n % 100) (n % 100 / 10) (n % 100 * 103 % 1024) (omega arith) (omega (arith, e)) (omega arith) (omega arith))

  pub word_of_four : (n / 100 + n % 100 * 65536) * 256 + 808464432 - (tenths n % 16 + tenths n / 65536 % 16 * 65536) * 2559 ≡ word (four_digits n)
  unfolding four_digits two_digits
  word_of_four = pairs_word (n / 100) (n % 100) _ _ (omega arith) (omega arith) first_tenth second_tenth

-- the bytes of a word of four
low_byte : (b v : ℕ) → b < 256 → (b + 256 * v) % 256 ≡ b
low_byte b v l = omega arith

above_one : (b v : ℕ) → b < 256 → (b + 256 * v) / 256 ≡ v
above_one b v l = omega arith

above_two : (a b v : ℕ) → a < 256 → b < 256 → (a + 256 * (b + 256 * v)) / 65536 ≡ v
above_two a b v l m = omega arith

above_three : (a b c v : ℕ) → a < 256 → b < 256 → c < 256 → (a + 256 * (b + 256 * (c + 256 * v))) / 16777216 ≡ v
above_three a b c v l m k = omega arith

bytes_of : (a b c d w : ℕ) → a < 256 → b < 256 → c < 256 → d < 256 → w ≡ word (a ∷ b ∷ c ∷ d ∷ [])
    → (w % 256) ∷ (w / 256 % 256) ∷ (w / 65536 % 256) ∷ (w / 16777216 % 256) ∷ [] ≡ a ∷ b ∷ c ∷ d ∷ []
bytes_of a b c d w l m k h e =
    rw (
      e,
      low_byte a (word (b ∷ c ∷ d ∷ [])) l,
      above_one a (word (b ∷ c ∷ d ∷ [])) l,
      low_byte b (word (c ∷ d ∷ [])) m,
      above_two a b (word (c ∷ d ∷ [])) l m,
      low_byte c (word (d ∷ [])) k,
      above_three a b c (word (d ∷ [])) l m k,
      low_byte d (word []) h,
    )

pub bytes_of_word : (n w : ℕ) → n < 10000 → w ≡ word (four_digits n) → to_le_bytes w32 w ≡ four_digits n
unfolding four_digits two_digits
bytes_of_word n w small e = bytes_of _ _ _ _ w (omega arith) (omega arith) (omega arith) (omega arith) e

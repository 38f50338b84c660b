-- A number is stored in parts, one behind the other: its front, and its last two, four, eight or sixteen digits.
use Prim.Native.Nat.{ℕ, ◌+◌, ◌/◌, ◌%◌, ◌≤◌, ◌<◌}
use mathlib.Core.Path.{◌≡◌, refl, sym, ◌∙◌}
use mathlib.Core.List.{List, [], ◌∷◌, ◌++◌, append_assoc}
use lib.ListN.{length}
use Rattle.std.specs.Int.{w32, to_le_bytes}
use Rattle.meanings.specs.Bytes.{zero_digit}
use Rattle.meanings.specs.Output.{decimal}
use Rattle.laws.proofs.text.Numbers.{decimal_of_digit}
use Rattle.text.specs.Written.{Stored}
use Rattle.text.specs.Digits.{four_digits, eight_digits, two_digits, word}
use Rattle.text.proofs.DigitWords.{bytes_of_word}
use Rattle.text.proofs.Digits.{four_last, eight_last, sixteen_last, of_two, of_three, of_four}
use Rattle.text.proofs.Writing.{rest_of, given_back, first_fits, second_fits, both_stored}

-- four digits, from a word
module _ (n : ℕ) (small : n < 10000) (w : ℕ) (digits : w ≡ word (four_digits n)) (bytes : List ℕ) (of_word : bytes ≡ to_le_bytes w32 w) where
  bytes_are : bytes ≡ four_digits n
  bytes_are = of_word ∙ bytes_of_word n w small digits

  pub four_fit : (out : List ℕ) → length (four_digits n) ≤ length out → length bytes ≤ length out
  four_fit out fits = rw bytes_are fits

  pub four_stored : (out now : List ℕ) (r : ℕ) → Stored out bytes now r → Stored out (four_digits n) now r
  four_stored out now r s = rw (← bytes_are) s

eight_parts : (n : ℕ) → eight_digits n ≡ four_digits (n / 10000) ++ four_digits (n % 10000)
unfolding eight_digits
eight_parts n = refl

-- eight digits
module _ (n : ℕ) (out : List ℕ) (fits : length (eight_digits n) ≤ length out) where
  pub eight_begin : length (four_digits (n / 10000)) ≤ length out
  eight_begin = first_fits out _ _ (four_digits (n % 10000)) fits (eight_parts n)

  module _ (now : List ℕ) (q : ℕ) (front : Stored out (four_digits (n / 10000)) now q) where
    pub eight_go_on : length (four_digits (n % 10000)) ≤ length (rest_of q now)
    eight_go_on = second_fits out _ _ _ fits (eight_parts n) now q front

    pub eight_stored : (rest : List ℕ) (r : ℕ) → Stored (rest_of q now) (four_digits (n % 10000)) rest r
        → Stored out (eight_digits n) (given_back q now rest) (q + r)
    eight_stored rest r back = both_stored out _ _ _ fits (eight_parts n) now q front rest r back

-- a number of one digit, of two, and of four
pub digit_stored : (n : ℕ) → n < 10 → (out now : List ℕ) (r : ℕ) → Stored out ((zero_digit + n) ∷ []) now r → Stored out (decimal n) now r
digit_stored n small out now r s = rw (decimal_of_digit n small) s

module _ (n : ℕ) (low : 10 ≤ n) (high : n < 100) (out : List ℕ) where
  pub of_two_fits : length (decimal n) ≤ length out → length (two_digits n) ≤ length out
  of_two_fits fits = rw (of_two n low high) at fits

  pub of_two_stored : (now : List ℕ) (r : ℕ) → Stored out (two_digits n) now r → Stored out (decimal n) now r
  of_two_stored now r s = rw (of_two n low high) s

module _ (n : ℕ) (low : 1000 ≤ n) (high : n < 10000) (out : List ℕ) where
  pub of_four_fits : length (decimal n) ≤ length out → length (four_digits n) ≤ length out
  of_four_fits fits = rw (of_four n low high) at fits

  pub of_four_stored : (now : List ℕ) (r : ℕ) → Stored out (four_digits n) now r → Stored out (decimal n) now r
  of_four_stored now r s = rw (of_four n low high) s

-- a number of three digits: one, and two behind it
module _ (n : ℕ) (low : 100 ≤ n) (high : n < 1000) (out : List ℕ) (fits : length (decimal n) ≤ length out) where
  module _ (now : List ℕ) (q : ℕ) (front : Stored out ((zero_digit + n / 100) ∷ []) now q) where
    pub three_go_on : length (two_digits (n % 100)) ≤ length (rest_of q now)
    three_go_on = second_fits out _ _ _ fits (of_three n low high) now q front

    pub three_stored : (rest : List ℕ) (r : ℕ) → Stored (rest_of q now) (two_digits (n % 100)) rest r → Stored out (decimal n) (given_back q now rest) (q + r)
    three_stored rest r back = both_stored out _ _ _ fits (of_three n low high) now q front rest r back

-- of five to eight
module _ (n : ℕ) (large : 10000 ≤ n) (out : List ℕ) (fits : length (decimal n) ≤ length out) where
  pub before_four_fits : length (decimal (n / 10000)) ≤ length out
  before_four_fits = first_fits out _ _ (four_digits (n % 10000)) fits (four_last n large)

  module _ (now : List ℕ) (q : ℕ) (front : Stored out (decimal (n / 10000)) now q) where
    pub four_last_fit : length (four_digits (n % 10000)) ≤ length (rest_of q now)
    four_last_fit = second_fits out _ _ _ fits (four_last n large) now q front

    pub four_last_stored : (rest : List ℕ) (r : ℕ) → Stored (rest_of q now) (four_digits (n % 10000)) rest r
        → Stored out (decimal n) (given_back q now rest) (q + r)
    four_last_stored rest r back = both_stored out _ _ _ fits (four_last n large) now q front rest r back

-- of nine to sixteen
module _ (n : ℕ) (large : 100000000 ≤ n) (out : List ℕ) (fits : length (decimal n) ≤ length out) where
  pub before_eight_fits : length (decimal (n / 100000000)) ≤ length out
  before_eight_fits = first_fits out _ _ (eight_digits (n % 100000000)) fits (eight_last n large)

  module _ (now : List ℕ) (q : ℕ) (front : Stored out (decimal (n / 100000000)) now q) where
    pub eight_last_fit : length (eight_digits (n % 100000000)) ≤ length (rest_of q now)
    eight_last_fit = second_fits out _ _ _ fits (eight_last n large) now q front

    pub eight_last_stored : (rest : List ℕ) (r : ℕ) → Stored (rest_of q now) (eight_digits (n % 100000000)) rest r
        → Stored out (decimal n) (given_back q now rest) (q + r)
    eight_last_stored rest r back = both_stored out _ _ _ fits (eight_last n large) now q front rest r back

-- of more
module _ (n : ℕ) (large : 10000000000000000 ≤ n) (out : List ℕ) (fits : length (decimal n) ≤ length out) where
  abbrev front_part : List ℕ
  front_part = decimal (n / 10000000000000000)

  abbrev first_eight : List ℕ
  first_eight = eight_digits (n / 100000000 % 100000000)

  abbrev last_eight : List ℕ
  last_eight = eight_digits (n % 100000000)

  parts : decimal n ≡ (front_part ++ first_eight) ++ last_eight
  parts = sixteen_last n large ∙ sym (append_assoc front_part first_eight last_eight)

  front_two : length (front_part ++ first_eight) ≤ length out
  front_two = first_fits out _ _ last_eight fits parts

  pub before_sixteen_fits : length (decimal (n / 10000000000000000)) ≤ length out
  before_sixteen_fits = first_fits out _ _ first_eight front_two refl

  module _ (out₁ : List ℕ) (q₁ : ℕ) (front : Stored out (decimal (n / 10000000000000000)) out₁ q₁) where
    pub sixteen_begin : length (eight_digits (n / 100000000 % 100000000)) ≤ length (rest_of q₁ out₁)
    sixteen_begin = second_fits out _ _ _ front_two refl out₁ q₁ front

    module _ (rest : List ℕ) (q₂ : ℕ) (first : Stored (rest_of q₁ out₁) (eight_digits (n / 100000000 % 100000000)) rest q₂) where
      two_stored : Stored out (front_part ++ first_eight) (given_back q₁ out₁ rest) (q₁ + q₂)
      two_stored = both_stored out _ _ _ front_two refl out₁ q₁ front rest q₂ first

      pub sixteen_go_on : length (eight_digits (n % 100000000)) ≤ length (rest_of (q₁ + q₂) (given_back q₁ out₁ rest))
      sixteen_go_on = second_fits out _ _ _ fits parts _ _ two_stored

      pub sixteen_stored : (back : List ℕ) (r : ℕ) → Stored (rest_of (q₁ + q₂) (given_back q₁ out₁ rest)) (eight_digits (n % 100000000)) back r
          → Stored out (decimal n) (given_back (q₁ + q₂) (given_back q₁ out₁ rest) back) (q₁ + q₂ + r)
      sixteen_stored back r second = both_stored out _ _ _ fits parts _ _ two_stored back r second

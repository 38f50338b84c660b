-- A number's text: its last two, four or eight digits stand behind those of the number without them.
use Prim.Native.Nat.{ℕ, zero, suc, ◌+◌, ◌*◌, ◌/◌, ◌%◌, ◌^◌, ◌≤◌, ◌<◌}
use mathlib.Core.Path.{◌≡◌, refl, sym, ap, ◌∙◌}
use mathlib.Core.Bool.{Bool, true, false}
use mathlib.Core.List.{List, [], ◌∷◌, ◌++◌, append_assoc}
use native.Mathlib.Nat.{pow-suc}
use native.Mathlib.Omega.{arith}
use borrow.Author.Tests.{le-ltb, ltb-true, ltb-false}
use lib.Dec.{ltb}
use lib.ListN.{length, length-append}
use Rattle.meanings.specs.Bytes.{zero_digit}
use Rattle.meanings.specs.Output.{decimal}
use Rattle.laws.proofs.text.Decimal.{decimal_step}
use Rattle.laws.proofs.text.Numbers.{decimal_of_digit}
use Rattle.text.specs.Digits.{two_digits, four_digits, eight_digits}

decimal_ends : (n : ℕ) → 10 ≤ n → decimal n ≡ decimal (n / 10) ++ (zero_digit + n % 10) ∷ []
decimal_ends n large = decimal_step n ∙ rw (le-ltb n 10 large)

-- the last two digits, four and eight
pub two_last : (n : ℕ) → 100 ≤ n → decimal n ≡ decimal (n / 100) ++ two_digits (n % 100)
unfolding two_digits
two_last n large =
    let a : n / 10 / 10 ≡ n / 100 = omega arith in
    let b : n / 10 % 10 ≡ n % 100 / 10 = omega arith in
    let c : n % 10 ≡ n % 100 % 10 = omega arith in
    decimal_ends n (omega arith)
    ∙ rw (decimal_ends (n / 10) (omega arith), a, b, c, append_assoc (decimal (n / 100)) ((zero_digit + n % 100 / 10) ∷ []))

pub four_last : (n : ℕ) → 10000 ≤ n → decimal n ≡ decimal (n / 10000) ++ four_digits (n % 10000)
unfolding four_digits
four_last n large =
    let a : n / 100 / 100 ≡ n / 10000 = omega arith in
    let b : n / 100 % 100 ≡ n % 10000 / 100 = omega arith in
    let c : n % 100 ≡ n % 10000 % 100 = omega arith in
    two_last n (omega arith)
    ∙ rw (two_last (n / 100) (omega arith), a, b, c, append_assoc (decimal (n / 10000)) (two_digits (n % 10000 / 100)))

pub eight_last : (n : ℕ) → 100000000 ≤ n → decimal n ≡ decimal (n / 100000000) ++ eight_digits (n % 100000000)
unfolding eight_digits
eight_last n large =
    let a : n / 10000 / 10000 ≡ n / 100000000 = omega arith in
    let b : n / 10000 % 10000 ≡ n % 100000000 / 10000 = omega arith in
    let c : n % 10000 ≡ n % 100000000 % 10000 = omega arith in
    four_last n (omega arith)
    ∙ rw (four_last (n / 10000) (omega arith), a, b, c, append_assoc (decimal (n / 100000000)) (four_digits (n % 100000000 / 10000)))

pub sixteen_last : (n : ℕ) → 10000000000000000 ≤ n
    → decimal n ≡ decimal (n / 10000000000000000) ++ (eight_digits (n / 100000000 % 100000000) ++ eight_digits (n % 100000000))
sixteen_last n large =
    let a : n / 100000000 / 100000000 ≡ n / 10000000000000000 = omega arith in
    eight_last n (omega arith)
    ∙ rw (
      eight_last (n / 100000000) (omega arith),
      a,
      append_assoc (decimal (n / 10000000000000000)) (eight_digits (n / 100000000 % 100000000)),
    )

-- numbers of two digits, three and four
pub of_two : (n : ℕ) → 10 ≤ n → n < 100 → decimal n ≡ two_digits n
unfolding two_digits
of_two n low high = decimal_ends n low ∙ rw (decimal_of_digit (n / 10) (omega arith))

pub of_three : (n : ℕ) → 100 ≤ n → n < 1000 → decimal n ≡ (zero_digit + n / 100) ∷ two_digits (n % 100)
of_three n low high = two_last n low ∙ rw (decimal_of_digit (n / 100) (omega arith))

pub of_four : (n : ℕ) → 1000 ≤ n → n < 10000 → decimal n ≡ four_digits n
unfolding four_digits
of_four n low high = two_last n (omega arith) ∙ rw (of_two (n / 100) (omega arith) (omega arith))

positive : (k : ℕ) → 1 ≤ 10 ^ k
positive zero = omega arith
positive (suc k) = omega (arith, pow-suc 10 k, positive k)

-- as many digits as the power of ten below it says, and one more
pub digits_of_power : (k n : ℕ) → 10 ^ k ≤ n → n < 10 * 10 ^ k → k + 1 ≡ length (decimal n)
digits_of_power zero n low high = sym (ap length (decimal_of_digit n (omega (arith, high))))
digits_of_power (suc k) n low high =
    let x : 10 ^ suc k ≡ 10 ^ k * 10 = pow-suc 10 k in
    let t = length-append (decimal (n / 10)) ((zero_digit + n % 10) ∷ []) in
    let d = digits_of_power k (n / 10) (omega (arith, low, x)) (omega (arith, high, x)) in
    omega (arith, ap length (decimal_ends n (omega (arith, low, x, positive k))), t, d)

-- a number has a digit
pub digit_fits : (out : List ℕ) (n : ℕ) → length (decimal n) ≤ length out → 1 ≤ length out
digit_fits out n fits = by (ltb n 10) refl
  where
    by : (b : Bool) → ltb n 10 ≡ b → 1 ≤ length out
    by true e = omega (arith, fits, ap length (decimal_of_digit n (ltb-true n 10 e)))
    by false e =
        let l = length-append (decimal (n / 10)) ((zero_digit + n % 10) ∷ []) in
        omega (arith, fits, ap length (decimal_ends n (ltb-false n 10 e)), l)

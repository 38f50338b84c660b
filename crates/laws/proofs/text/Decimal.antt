-- The decimal digits of a number: the fuel never runs out, since n / 10 lies below n from 10 on, and read as digits they say the number.
use Prim.Native.Nat.{ℕ, zero, suc, ◌+◌, ◌-◌, ◌*◌, ◌/◌, ◌%◌, ◌<◌}
use mathlib.Core.Path.{◌≡◌, refl, ◌∙◌}
use mathlib.Core.Bool.{Bool, true, false}
use mathlib.Core.List.{List, [], ◌∷◌, ◌++◌}
use native.Mathlib.Nat.{not-suc-le-zero}
use native.Mathlib.Omega.{arith}
use borrow.Author.Tests.{ltb-false}
use lib.Dec.{ltb}
use Rattle.meanings.specs.Lists.{pick}
use Rattle.meanings.specs.Bytes.{zero_digit}
use Rattle.meanings.specs.Sheet.{digits_value}
use Rattle.meanings.specs.Output.{decimal, decimal_with}

-- fuel above the number is enough
enough : (f g n : ℕ) → n < f → n < g → decimal_with f n ≡ decimal_with g n
unfolding decimal_with
enough zero g n a b = absurd (not-suc-le-zero a)
enough (suc f) zero n a b = absurd (not-suc-le-zero b)
enough (suc f) (suc g) n a b = by (ltb n 10) refl (enough f g (n / 10))
  where
    by : (t : Bool) → ltb n 10 ≡ t → (n / 10 < f → n / 10 < g → decimal_with f (n / 10) ≡ decimal_with g (n / 10))
        → pick t ((zero_digit + n) ∷ []) (decimal_with f (n / 10) ++ (zero_digit + n % 10) ∷ [])
        ≡ pick t ((zero_digit + n) ∷ []) (decimal_with g (n / 10) ++ (zero_digit + n % 10) ∷ [])
    by true e k = refl
    by false e k = let l = ltb-false n 10 e in rw (k (omega arith) (omega arith))

-- the fuel never runs out: a number below 10 is one digit, and any other is n / 10 with one digit more
pub decimal_step : (n : ℕ) → decimal n ≡ pick (ltb n 10) ((zero_digit + n) ∷ []) (decimal (n / 10) ++ (zero_digit + n % 10) ∷ [])
unfolding decimal decimal_with
decimal_step n = by (ltb n 10) refl
  where
    by : (t : Bool) → ltb n 10 ≡ t
        → pick t ((zero_digit + n) ∷ []) (decimal_with n (n / 10) ++ (zero_digit + n % 10) ∷ [])
        ≡ pick t ((zero_digit + n) ∷ []) (decimal_with (suc (n / 10)) (n / 10) ++ (zero_digit + n % 10) ∷ [])
    by true e = refl
    by false e = let l = ltb-false n 10 e in rw (enough n (suc (n / 10)) (n / 10) (omega arith) (omega arith))

-- one digit more
pub digits_value_append : (m : ℕ) (bs : List ℕ) (b : ℕ) → digits_value m (bs ++ b ∷ []) ≡ digits_value m bs * 10 + (b - zero_digit)
digits_value_append m [] b = refl
digits_value_append m (c ∷ bs) b = digits_value_append (m * 10 + (c - zero_digit)) bs b

digits_value_with : (f n : ℕ) → n < f → digits_value 0 (decimal_with f n) ≡ n
unfolding decimal_with
digits_value_with zero n a = absurd (not-suc-le-zero a)
digits_value_with (suc f) n a = by (ltb n 10) refl (digits_value_with f (n / 10))
  where
    by : (t : Bool) → ltb n 10 ≡ t → (n / 10 < f → digits_value 0 (decimal_with f (n / 10)) ≡ n / 10)
        → digits_value 0 (pick t ((zero_digit + n) ∷ []) (decimal_with f (n / 10) ++ (zero_digit + n % 10) ∷ [])) ≡ n
    by true e k = omega arith
    by false e k =
        let l = ltb-false n 10 e in
        digits_value_append 0 (decimal_with f (n / 10)) (zero_digit + n % 10) ∙ rw (k (omega arith)) (omega arith)

-- the digits of n say n
pub decimal_says : (n : ℕ) → digits_value 0 (decimal n) ≡ n
unfolding decimal
decimal_says n = digits_value_with (suc n) n (omega arith)

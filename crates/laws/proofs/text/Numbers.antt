-- A number below 100000 and its text in decimal say each other: the digits are read as the number, and a text that is read as a number is that
-- number's digits. So a value of the sheet has one text only.
use Prim.Native.Nat.{ℕ, zero, suc, ◌+◌, ◌-◌, ◌*◌, ◌/◌, ◌%◌, ◌^◌, ◌≤◌, ◌<◌}
use mathlib.Core.Path.{◌≡◌, refl, sym, ap, ◌∙◌}
use mathlib.Core.Bool.{Bool, true, false, not, ◌&&◌}
use mathlib.Core.List.{List, [], ◌∷◌, ◌++◌, append_assoc, append-nil}
use Rattle.std.specs.Prelude.{None, Some}
use native.Mathlib.Nat.{not-suc-le-zero, pow-suc, pow-succ', mul_assoc, mul-le-mul_right, pow-le-pow_right}
use native.Mathlib.Omega.{arith}
use borrow.Author.Tests.{ltb-true, ltb-false, leb-true, le-leb, le-ltb, lt-ltb, ne_eqb, eqb-false, not-true}
use lib.Dec.{ltb, leb, eqb}
use lib.ListN.{length, length-append}
use Rattle.meanings.specs.Lists.{pick}
use Rattle.meanings.specs.Bytes.{zero_digit, nine_digit}
use Rattle.meanings.specs.Sheet.{digit, digits, digits_value, plain_front, number_form, parsed}
use Rattle.meanings.specs.Output.{decimal}
use Rattle.laws.proofs.text.Decimal.{decimal_step, decimal_says}

pub and_true_both : (a b : Bool) → (a && b) ≡ true → (a ≡ true) × (b ≡ true)
and_true_both true b e = (refl, e)
and_true_both false b e = let z : ◌≡◌ {A = ℕ} 0 1 = cc in absurd (omega arith)

pub decimal_of_digit : (n : ℕ) → n < 10 → decimal n ≡ (zero_digit + n) ∷ []
decimal_of_digit n l = decimal_step n ∙ rw (lt-ltb n 10 l)

-- a number and one digit more
pub decimal_of_more : (n d : ℕ) → 1 ≤ n → d < 10 → decimal (n * 10 + d) ≡ decimal n ++ (zero_digit + d) ∷ []
decimal_of_more n d p l =
    let q : (n * 10 + d) / 10 ≡ n = omega arith in
    let r : (n * 10 + d) % 10 ≡ d = omega arith in
    decimal_step (n * 10 + d) ∙ rw (le-ltb (n * 10 + d) 10 (omega arith), q, r)

-- what holds of one digit, and of one digit more, holds of every number's text
pub decimal_induction : (P : ℕ → List ℕ → Type 0) → ((d : ℕ) → d < 10 → P d ((zero_digit + d) ∷ []))
    → ((n d : ℕ) → 1 ≤ n → d < 10 → P n (decimal n) → P (n * 10 + d) (decimal n ++ (zero_digit + d) ∷ [])) → (n : ℕ) → P n (decimal n)
decimal_induction P one more n = upto (suc n) n (omega arith)
  where
    upto : (f n : ℕ) → n < f → P n (decimal n)
    upto zero n l = absurd (not-suc-le-zero l)
    upto (suc f) n l = by (ltb n 10) refl (upto f (n / 10))
      where
        by : (t : Bool) → ltb n 10 ≡ t → (n / 10 < f → P (n / 10) (decimal (n / 10))) → P n (decimal n)
        by true e k = rw (decimal_of_digit n (ltb-true n 10 e)) (one n (ltb-true n 10 e))
        by false e k =
            let g = ltb-false n 10 e in
            let s : n / 10 * 10 + n % 10 ≡ n = omega arith in
            let low : n % 10 < 10 = omega arith in
            let h = more (n / 10) (n % 10) (omega arith) low (k (omega arith)) in
            rw (← decimal_of_more (n / 10) (n % 10) (omega arith) low, s) at h

digit_of : (d : ℕ) → d < 10 → digit (zero_digit + d) ≡ true
digit_of d l = rw (le-leb zero_digit (zero_digit + d) (omega arith), le-leb (zero_digit + d) nine_digit (omega arith))

pub digits_more : (t : List ℕ) (b : ℕ) → digits t ≡ true → digit b ≡ true → digits (t ++ b ∷ []) ≡ true
digits_more [] b e h = rw h
digits_more (c ∷ t) b e h =
    let o = and_true_both (digit c) (digits t) e in
    rw (o.0, digits_more t b o.1 h)

-- every byte of a number's text is a digit
pub decimal_digits : (n : ℕ) → digits (decimal n) ≡ true
decimal_digits =
    decimal_induction (λ n t. digits t ≡ true) (λ d l. rw (digit_of d l)) (λ n d p l h. digits_more (decimal n) (zero_digit + d) h (digit_of d l))

-- a number below 10 to the k + 1 has at most k + 1 digits
pub decimal_length : (n k : ℕ) → n < 10 ^ suc k → length (decimal n) ≤ suc k
decimal_length = decimal_induction (λ n t. (k : ℕ) → n < 10 ^ suc k → length t ≤ suc k) (λ d l k h. omega arith) more
  where
    more : (n d : ℕ) → 1 ≤ n → d < 10 → ((k : ℕ) → n < 10 ^ suc k → length (decimal n) ≤ suc k) → (k : ℕ) → n * 10 + d < 10 ^ suc k
        → length (decimal n ++ (zero_digit + d) ∷ []) ≤ suc k
    more n d p l f zero h = absurd (omega arith)
    more n d p l f (suc k) h =
        let g : n < 10 ^ suc k = omega (arith, pow-suc 10 (suc k)) in
        let b = f k g in
        simp length-append (omega arith)

-- the first byte is not a zero
abbrev leads : List ℕ → Bool
leads [] = false
leads (b ∷ bs) = not (eqb b zero_digit)

leads_more : (t : List ℕ) (b : ℕ) → leads t ≡ true → leads (t ++ b ∷ []) ≡ true
leads_more [] b e = let z : ◌≡◌ {A = ℕ} 0 1 = cc in absurd (omega arith)
leads_more (c ∷ t) b e = e

decimal_leads : (n : ℕ) → 1 ≤ n → leads (decimal n) ≡ true
decimal_leads =
    decimal_induction (λ n t. 1 ≤ n → leads t ≡ true)
    (λ d l p. rw (ne_eqb (zero_digit + d) zero_digit (λ e. omega arith)))
    (λ n d p l h q. leads_more (decimal n) (zero_digit + d) (h p))

number_of : (t : List ℕ) → digits t ≡ true → length t ≤ 5 → leads t ≡ true → number_form t ≡ true
number_of [] d l e = e
number_of (b ∷ []) d l e = rw d
number_of (b ∷ c ∷ t) d l e = rw (d, le-leb (length (b ∷ c ∷ t)) 5 l, e)

pub decimal_number_form : (n : ℕ) → n < 100000 → number_form (decimal n) ≡ true
decimal_number_form zero l = rw (decimal_of_digit 0 (omega arith))
decimal_number_form (suc n) l =
    number_of (decimal (suc n)) (decimal_digits (suc n)) (decimal_length (suc n) 4 l) (decimal_leads (suc n) (omega arith))

pub decimal_parsed : (n : ℕ) → n < 100000 → parsed (decimal n) ≡ Some n
decimal_parsed n l = rw (decimal_number_form n l, decimal_says n)

-- digits after a number's text
decimal_of_digits : (m : ℕ) (t : List ℕ) → 1 ≤ m → digits t ≡ true → decimal m ++ t ≡ decimal (digits_value m t)
decimal_of_digits m [] p e = append-nil (decimal m)
decimal_of_digits m (b ∷ t) p e =
    let o = and_true_both (digit b) (digits t) e in
    let r = and_true_both (leb zero_digit b) (leb b nine_digit) o.0 in
    let low = leb-true zero_digit b r.0 in
    let high = leb-true b nine_digit r.1 in
    let s : zero_digit + (b - zero_digit) ≡ b = omega arith in
    let one = decimal_of_more m (b - zero_digit) p (omega arith) in
    let k = decimal_of_digits (m * 10 + (b - zero_digit)) t (omega arith) o.1 in
    sym (append_assoc (decimal m) (b ∷ []) t) ∙ rw (← k, one, s)

-- how large a number its digits can say
pub digits_value_below : (m : ℕ) (t : List ℕ) → digits t ≡ true → digits_value m t < suc m * 10 ^ length t
digits_value_below m [] e = omega arith
digits_value_below m (b ∷ t) e =
    let o = and_true_both (digit b) (digits t) e in
    let r = and_true_both (leb zero_digit b) (leb b nine_digit) o.0 in
    let high = leb-true b nine_digit r.1 in
    let k = digits_value_below (m * 10 + (b - zero_digit)) t o.1 in
    let n : suc (m * 10 + (b - zero_digit)) * 10 ^ length t ≤ (suc m * 10) * 10 ^ length t = mul-le-mul_right (10 ^ length t) (omega arith) in
    rw (pow-succ' 10 (length t), ← mul_assoc (suc m) 10 (10 ^ length t)) (omega arith)

pub parsed_form : (t : List ℕ) (n : ℕ) → parsed t ≡ Some n → (number_form t ≡ true) × (digits_value 0 t ≡ n)
parsed_form t n e = by (number_form t) refl e
  where
    by : (b : Bool) → number_form t ≡ b → pick b (Some (digits_value 0 t)) None ≡ Some n → (number_form t ≡ true) × (digits_value 0 t ≡ n)
    by true f e = (f, cc)
    by false f e = let z : ◌≡◌ {A = ℕ} 0 1 = cc in absurd (omega arith)

-- a first digit m, and digits after it
first_and_rest : (b m : ℕ) (t : List ℕ) → zero_digit + m ≡ b → m < 10 → plain_front b t ≡ true → digits t ≡ true → b ∷ t ≡ decimal (digits_value m t)
first_and_rest b m [] s l p e = sym (decimal_of_digit m l ∙ rw s)
first_and_rest b m (c ∷ t) s l p e =
    let n : b ≡ zero_digit → ⊥ = eqb-false b zero_digit (not-true _ p) in
    rw (decimal_of_digit m l, s) at (decimal_of_digits m (c ∷ t) (omega arith) e)

number_is_decimal : (t : List ℕ) → number_form t ≡ true → (t ≡ decimal (digits_value 0 t)) × (digits_value 0 t < 100000)
number_is_decimal [] e = let z : ◌≡◌ {A = ℕ} 0 1 = cc in absurd (omega arith)
number_is_decimal (b ∷ t) e =
    let p = and_true_both (digits (b ∷ t) && leb (length (b ∷ t)) 5) (plain_front b t) e in
    let o = and_true_both (digits (b ∷ t)) (leb (length (b ∷ t)) 5) p.0 in
    let q = and_true_both (digit b) (digits t) o.0 in
    let r = and_true_both (leb zero_digit b) (leb b nine_digit) q.0 in
    let low = leb-true zero_digit b r.0 in
    let high = leb-true b nine_digit r.1 in
    let few : 10 ^ length (b ∷ t) ≤ 10 ^ 5 = pow-le-pow_right (omega arith) (leb-true (length (b ∷ t)) 5 o.1) in
    let below = digits_value_below 0 (b ∷ t) o.0 in
    (first_and_rest b (0 * 10 + (b - zero_digit)) t (omega arith) (omega arith) p.1 q.1, omega arith)

pub parsed_decimal : (t : List ℕ) (n : ℕ) → parsed t ≡ Some n → (t ≡ decimal n) × (n < 100000)
parsed_decimal t n e =
    let f = parsed_form t n e in
    let d = number_is_decimal t f.0 in
    (d.0 ∙ ap decimal f.1, omega arith)

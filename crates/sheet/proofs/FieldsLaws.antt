-- The number before the next comma. A part with a byte that is no digit is no number, nor is one of more than five bytes. One of one to five digits
-- without a leading zero is the number that they say; five digits say less than 2^32, so the value modulo 2^32 is what they say.
use Rattle.std.proofs.Common.{◌≡◌, ℕ, suc, ◌+◌, ◌-◌, ◌*◌, ◌%◌, ◌^◌, ◌<◌, ◌≤◌, Bool, true, false, ◌&&◌, leb, List, [], ◌∷◌, ◌++◌, length}
use Rattle.std.proofs.Common.{get_or, drop, sym, refl, ap, ◌∙◌, inl, inr, append_assoc, append-nil}
use Rattle.std.proofs.Common.{add-one, arith, length-append, length-drop, drop_of_length-le, drop-cons, eq-eqb, ne_eqb, le-leb}
use Rattle.std.proofs.Common.{Some, None}
use native.Mathlib.Nat.{pow-le-pow_right}
use borrow.Author.Tests.{lt-leb}
use Rattle.std.specs.Char.{IsNotAsciiDigit}
use Rattle.meanings.specs.Bytes.{comma, zero_digit, nine_digit}
use Rattle.meanings.specs.Sheet.{digit, digits, digits_value, number_form}
use Rattle.laws.proofs.text.Decimal.{digits_value_append}
use Rattle.laws.proofs.text.Numbers.{and_true_both, digits_more, digits_value_below}
use Rattle.laws.proofs.text.Texts.{Free, digits_free}
use Rattle.sheet.specs.Fields.{first_part, number_of, field_at}

and_false : (a : Bool) → (a && false) ≡ false
and_false true = refl
and_false false = refl

digit_in_range : (b : ℕ) → zero_digit ≤ b → b ≤ nine_digit → digit b ≡ true
digit_in_range b l h = rw (le-leb zero_digit b l, le-leb b nine_digit h)

below_is_no_digit : (b : ℕ) → b < zero_digit → digit b ≡ false
below_is_no_digit b l = rw (lt-leb zero_digit b l)

above_is_no_digit : (b : ℕ) → nine_digit < b → digit b ≡ false
above_is_no_digit b l = rw (lt-leb b nine_digit l) (and_false (leb zero_digit b))

digits_then_none : (d : List ℕ) (b : ℕ) (r : List ℕ) → digits d ≡ true → digit b ≡ false → digits (d ++ b ∷ r) ≡ false
digits_then_none [] b r e f = rw f
digits_then_none (c ∷ d) b r e f = let o = and_true_both (digit c) (digits d) e in rw o.0 (digits_then_none d b r o.1 f)

no_digits_no_number : (a : List ℕ) → digits a ≡ false → number_form a ≡ false
no_digits_no_number [] e = refl
no_digits_no_number (b ∷ a) e = rw e

over_five_no_number : (a : List ℕ) → 5 < length a → number_form a ≡ false
over_five_no_number [] l = refl
over_five_no_number (b ∷ a) l = rw (lt-leb (length (b ∷ a)) 5 l, and_false (digits (b ∷ a)))

no_bytes_no_number : (d : List ℕ) → length d ≡ 0 → number_form d ≡ false
no_bytes_no_number [] e = refl
no_bytes_no_number (b ∷ d) e = absurd (omega arith)

-- d is the front of a text that begins with x
leading_zero_no_number : (d r u : List ℕ) (x : ℕ) → x ∷ u ≡ d ++ r → 1 < length d → x ≡ zero_digit → number_form d ≡ false
leading_zero_no_number [] r u x e l z = absurd (omega arith)
leading_zero_no_number (b ∷ []) r u x e l z = absurd (omega arith)
leading_zero_no_number (b ∷ c ∷ d) r u x e l z =
    let h : b ≡ zero_digit = cc in
    rw (eq-eqb b zero_digit h) (and_false (digits (b ∷ c ∷ d) && leb (length (b ∷ c ∷ d)) 5))

plain_digits_number : (d r u : List ℕ) (x : ℕ) → x ∷ u ≡ d ++ r → digits d ≡ true → 1 ≤ length d → length d ≤ 5
    → (1 < length d → x ≡ zero_digit → ⊥) → number_form d ≡ true
plain_digits_number [] r u x e f l m n = absurd (omega arith)
plain_digits_number (b ∷ []) r u x e f l m n = rw f
plain_digits_number (b ∷ c ∷ d) r u x e f l m n =
    let h : x ≡ b = cc in
    rw (f, le-leb (length (b ∷ c ∷ d)) 5 m, ne_eqb b zero_digit (λ z. n (omega arith) (h ∙ z)))

first_part_goes_on : (d r : List ℕ) → Free comma d → first_part (d ++ r) ≡ d ++ first_part r
first_part_goes_on [] r f = refl
first_part_goes_on (b ∷ d) r f = rw (f.0, first_part_goes_on d r f.1)

-- the bytes from p up to q are digits, which say v modulo 2^32
pub record Passed (t : List ℕ) (p q v : ℕ) : Type 0 where
  pub front : List ℕ
  pub seen : drop p t ≡ front ++ drop q t
  pub front_digits : digits front ≡ true
  pub front_says : digits_value 0 front % 2 ^ 32 ≡ v
  pub front_length : q ≡ p + length front

module _ {t : List ℕ} {p q v : ℕ} (s : Passed t p q v) where
  passed_field : field_at t p ≡ number_of p (s.front ++ first_part (drop q t))
  unfolding field_at
  passed_field = rw (s.seen, first_part_goes_on s.front (drop q t) (digits_free comma s.front (omega arith) s.front_digits))

  pub passed_inside : ¬ (q ≡ p) → p < length t
  passed_inside n = let h = simp (length-append, length-drop) at (ap length s.seen) in omega (arith, s.front_length)

  passed_first : ¬ (q ≡ p) → get_or t p 0 ∷ drop (suc p) t ≡ s.front ++ drop q t
  passed_first n = sym (drop-cons t p 0 (passed_inside n)) ∙ s.seen

-- one byte more, which is no comma
module _ {t : List ℕ} {p q v : ℕ} (s : Passed t p q v) (l : q < length t) where
  pub passed_goes_on : {d m w : ℕ} → d ≡ get_or t q 0 - zero_digit → zero_digit ≤ get_or t q 0 → get_or t q 0 ≤ nine_digit
      → m ≡ (v * 10) % 2 ^ 32 → w ≡ (m + d) % 2 ^ 32 → Passed t p (q + 1) w
  passed_goes_on e low high em ew = record {
    front = s.front ++ get_or t q 0 ∷ [];
    seen = s.seen ∙ rw (append_assoc, add-one, drop-cons t q 0 l);
    front_digits = digits_more s.front (get_or t q 0) s.front_digits (digit_in_range (get_or t q 0) low high);
    front_says = omega (arith, digits_value_append 0 s.front (get_or t q 0), s.front_says);
    front_length = simp length-append (omega (arith, s.front_length));
  }

  part_goes_on : ¬ (get_or t q 0 ≡ comma) → first_part (drop q t) ≡ get_or t q 0 ∷ first_part (drop (suc q) t)
  part_goes_on n = rw (drop-cons t q 0 l, ne_eqb (get_or t q 0) comma n)

  no_digit_no_number : ¬ (get_or t q 0 ≡ comma) → digit (get_or t q 0) ≡ false → None ≡ field_at t p
  no_digit_no_number n f =
      sym
      (passed_field s
      ∙ rw (part_goes_on n, no_digits_no_number _ (digits_then_none s.front (get_or t q 0) _ s.front_digits f)))

  pub no_digit_here : ¬ (get_or t q 0 ≡ comma) → IsNotAsciiDigit (get_or t q 0) → None ≡ field_at t p
  no_digit_here n (inl low) = no_digit_no_number n (below_is_no_digit (get_or t q 0) low)
  no_digit_here n (inr high) = no_digit_no_number n (above_is_no_digit (get_or t q 0) high)

pub behind_no_number : (t : List ℕ) (p : ℕ) → length t ≤ p → None ≡ field_at t p
unfolding field_at
behind_no_number t p l = rw (drop_of_length-le t l)

-- the part from byte p ends at byte e, and its digits say v; it is empty where e is not behind p
pub record PartEnd (t : List ℕ) (p e v : ℕ) : Type 0 where
  pub none_there : e ≤ p → None ≡ field_at t p
  pub passed : p < e → Passed t p e v
  pub ends : p < e → first_part (drop e t) ≡ []

module _ {t : List ℕ} {p q v : ℕ} (s : Passed t p q v) where
  passed_ends : first_part (drop q t) ≡ [] → field_at t p ≡ number_of p s.front
  passed_ends e = passed_field s ∙ rw (e, append-nil)

  pub part_ends_at_end : length t ≤ q → (p ≤ length t → q ≤ length t) → PartEnd t p (length t) v
  part_ends_at_end l m = record {
    none_there = λ h. behind_no_number t p h;
    passed = λ h. let e : q ≡ length t = omega arith in rw e at s;
    ends = λ h. rw (drop_of_length-le t {i = length t} (omega arith));
  }

  pub part_ends_at_comma : q < length t → get_or t q 0 ≡ comma → PartEnd t p q v
  part_ends_at_comma l e = record {
    none_there = λ h. sym (passed_ends comma_here ∙ rw (no_bytes_no_number s.front (omega (arith, s.front_length))));
    passed = λ h. s;
    ends = λ h. comma_here;
  }
    where
      comma_here : first_part (drop q t) ≡ []
      comma_here = rw (drop-cons t q 0 l, eq-eqb (get_or t q 0) comma e)

module _ {t : List ℕ} {p e v : ℕ} (s : PartEnd t p e v) (n : p < e) where
  pub leading_zero_no_field : 1 < e - p → get_or t p 0 ≡ zero_digit → None ≡ field_at t p
  leading_zero_no_field l z =
      let f = s.passed n in
      let long : 1 < length f.front = omega (arith, f.front_length) in
      sym (passed_ends f (s.ends n) ∙ rw (leading_zero_no_number f.front (drop e t) (drop (suc p) t) (get_or t p 0) (passed_first f (omega arith)) long z))

  pub long_no_field : 5 < e - p → None ≡ field_at t p
  long_no_field l =
      let f = s.passed n in
      sym (passed_ends f (s.ends n) ∙ rw (over_five_no_number f.front (omega (arith, f.front_length))))

  pub plain_number : ¬ (5 < e - p) → (1 < e - p → ¬ (get_or t p 0 ≡ zero_digit)) → Some (record { value = v; end = e }) ≡ field_at t p
  plain_number short plain =
      let f = s.passed n in
      let first = passed_first f (omega arith) in
      let some_byte : 1 ≤ length f.front = omega (arith, f.front_length) in
      let few : length f.front ≤ 5 = omega (arith, f.front_length) in
      let power : 10 ^ length f.front ≤ 10 ^ 5 = pow-le-pow_right (omega arith) few in
      let below = digits_value_below 0 f.front f.front_digits in
      let says : digits_value 0 f.front ≡ v = omega (arith, f.front_says) in
      let front_plain : 1 < length f.front → ¬ (get_or t p 0 ≡ zero_digit) = λ l. plain (omega (arith, f.front_length)) in
      sym
      (passed_ends f (s.ends n)
      ∙ rw (
        plain_digits_number f.front (drop e t) (drop (suc p) t) (get_or t p 0) first f.front_digits some_byte few front_plain,
        says,
        ← f.front_length,
      ))

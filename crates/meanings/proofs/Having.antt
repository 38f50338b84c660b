-- What is handed over is what the second reading says and nothing else, and the number is had back from it.
use Prim.Native.Nat.{ℕ, ◌+◌, ◌-◌, ◌*◌, ◌/◌, ◌^◌, ◌≤◌, ◌<◌, min}
use mathlib.Core.Path.{◌≡◌, refl, sym, ap, ◌∙◌, subst}
use mathlib.Core.Bool.{Bool, true, false, true≢false}
use native.Mathlib.Nat.{mul-one, mul-div_cancel, eq_of_mul-eq-mul_right}
use native.Mathlib.Omega.{arith}
use borrow.Author.Tests.{lt-ltb, le-ltb, eq-eqb, ne_eqb, ltb-true, ltb-false, eqb-true, eqb-false}
use lib.Dec.{T, ltb, eqb}
use lib.IntN.{pos}
use lib.Ieee.{Float, nan, inf, fin, binary64, to_unsigned, fits, up, down}
use lib.Ieee.Fits.{of_int-fits, down_pos}
use lib.Ieee.Back.{whole_unique}
use Rattle.meanings.specs.doubles.Doubles.{Doubles, empty, one, pair, double, handed, one_limit, low_unit, low_of, high_of}
use Rattle.meanings.specs.doubles.Doubles.{Exactly, HadBack, number_of, Parts, HandedOver}
use Rattle.meanings.proofs.Exact.{small_exact, low_below, parts_together, low_exact, high_exact, high_multiple}

-- the cases of the definition, by what is known of weight and number
module _ (w n : ℕ) where
  pub handed_empty : w ≡ 0 → empty ≡ handed w n
  unfolding handed
  handed_empty e = rw (eq-eqb w 0 e)

  pub handed_one : ¬ (w ≡ 0) → n < one_limit → one (double n) ≡ handed w n
  unfolding handed
  handed_one e l = rw (ne_eqb w 0 e, lt-ltb n one_limit l)

  pub handed_pair : ¬ (w ≡ 0) → one_limit ≤ n → pair (double (high_of n)) (double (low_of n)) ≡ handed w n
  unfolding handed
  handed_pair e l = rw (ne_eqb w 0 e, le-ltb n one_limit l)

-- both parts of a number
pub parts_of : (n : ℕ) → n < 2 ^ 64 → Parts (double (high_of n)) (double (low_of n)) n
parts_of n l = record {
  units = n / low_unit;
  rest = low_of n;
  high_is = high_exact n l;
  low_is = low_exact n;
  low_below = low_below n;
  together = parts_together n;
}

-- weight and number decide which of the three it is
data Case (w n : ℕ) : Type 0 where
  no_weight : w ≡ 0 → Case w n
  below : ¬ (w ≡ 0) → n < one_limit → Case w n
  from_on : ¬ (w ≡ 0) → one_limit ≤ n → Case w n

case : (w n : ℕ) → Case w n
case w n = by (eqb w 0) refl (ltb n one_limit) refl
  where
    by : (b : Bool) → eqb w 0 ≡ b → (c : Bool) → ltb n one_limit ≡ c → Case w n
    by true e c f = no_weight (eqb-true w 0 e)
    by false e true f = below (eqb-false w 0 e) (ltb-true n one_limit f)
    by false e false f = from_on (eqb-false w 0 e) (ltb-false n one_limit f)

-- the definition is what the second reading says
pub handed_over : (w n : ℕ) → n < 2 ^ 64 → HandedOver w n (handed w n)
handed_over w n l = by (case w n)
  where
    by : Case w n → HandedOver w n (handed w n)
    by (no_weight e) = subst (HandedOver w n) (handed_empty w n e) e
    by (below e s) = subst (HandedOver w n) (handed_one w n e s) (e, s, (of_int-fits binary64 (pos n), small_exact n (omega arith)))
    by (from_on e s) =
        subst (HandedOver w n) (handed_pair w n e s) (e, s, of_int-fits binary64 (pos (high_of n)), of_int-fits binary64 (pos (low_of n)), parts_of n l)

-- two doubles of the format with one whole value are the same
one_double : (d e : Float) (n : ℕ) → T (fits binary64 d) → T (fits binary64 e) → Exactly d n → Exactly e n → d ≡ e
one_double d e n f g a b = whole_unique binary64 d e false n f g a b

same_parts : (q r n : ℕ) → r < low_unit → n ≡ q * low_unit + r → (q * low_unit ≡ high_of n) × (r ≡ low_of n)
same_parts q r n l e = (omega arith, omega arith)

-- and nothing else is
pub handed_only : (w n : ℕ) → n < 2 ^ 64 → (d : Doubles) → HandedOver w n d → d ≡ handed w n
handed_only w n l empty e = handed_empty w n e
handed_only w n l (one d) o =
    ap one (one_double d (double n) n o.2.0 (of_int-fits binary64 (pos n)) o.2.1 (small_exact n (omega (arith, o.1)))) ∙ handed_one w n o.0 o.1
handed_only w n l (pair high low) o =
    let p = o.4 in
    let s = same_parts p.units p.rest n p.low_below p.together in
    let h : high ≡ double (high_of n) =
    one_double high (double (high_of n)) (p.units * low_unit) o.2 (of_int-fits binary64 (pos (high_of n))) p.high_is
    (subst (λ (k : ℕ). Exactly (double (high_of n)) k) (sym (high_multiple n) ∙ sym s.0) (high_exact n l)) in
    let g : low ≡ double (low_of n) =
    one_double low (double (low_of n)) p.rest o.3 (of_int-fits binary64 (pos (low_of n))) p.low_is
    (subst (λ (k : ℕ). Exactly (double (low_of n)) k) (sym s.1) (low_exact n)) in
    (λ i. pair (h i) (g i)) ∙ handed_pair w n o.0 o.1

-- Having back: a weight, and any number that is 0 where the weight is.
pub handed_had_back : (w n : ℕ) → n < 2 ^ 64 → (w ≡ 0 → n ≡ 0) → HadBack (handed w n) n
handed_had_back w n l zero = by (handed w n) (handed_over w n l)
  where
    by : (d : Doubles) → HandedOver w n d → HadBack d n
    by empty e = zero e
    by (one d) o = o.2.1
    by (pair high low) o =
        let p = o.4 in (p.units * low_unit, p.rest, (p.high_is, p.low_is, p.together))

-- a double has one whole value, and that is what the cast gives
one_value : (d : Float) (n m : ℕ) → Exactly d n → Exactly d m → n ≡ m
one_value nan n m a b = elim a [ ]
one_value (inf s) n m a b = elim a [ ]
one_value (fin t k e) n m a b = eq_of_mul-eq-mul_right (down e) (down_pos e) n m (sym a.1 ∙ b.1)

cast_value : (d : Float) (n : ℕ) → n < 2 ^ 64 → Exactly d n → to_unsigned 64 d ≡ n
unfolding to_unsigned
cast_value nan n l a = elim a [ ]
cast_value (inf s) n l a = elim a [ ]
cast_value (fin true k e) n l a = absurd (true≢false a.0)
cast_value (fin false k e) n l a =
    let whole : k * up e / down e ≡ n =
    ap (λ (x : ℕ). x / down e) (sym (mul-one (k * up e)) ∙ a.1) ∙ mul-div_cancel n (down_pos e) in
    ap (λ (x : ℕ). min x (2 ^ 64 - 1)) whole ∙ omega arith

-- so one number at most is had back
pub had_back_once : (d : Doubles) (n m : ℕ) → HadBack d n → HadBack d m → n ≡ m
had_back_once empty n m a b = a ∙ sym b
had_back_once (one d) n m a b = one_value d n m a b
had_back_once (pair high low) n m (a, b, (p, q, e)) (c, d, (r, s, f)) =
    let g = one_value high a c p r in
    let h = one_value low b d q s in
    omega arith

-- and it is the number that the casts of both parts add up to
pub number_had_back : (d : Doubles) (n : ℕ) → n < 2 ^ 64 → HadBack d n → number_of d ≡ n
number_had_back empty n l e = sym e
number_had_back (one d) n l a = cast_value d n l a
number_had_back (pair high low) n l (a, b, (p, q, e)) =
    let g = cast_value high a (omega arith) p in
    let h = cast_value low b (omega arith) q in
    omega arith

-- of every pair: the high part is a multiple of 2^32, the low part below it, both are exact, and together they are the number
pub pair_parts : (w n : ℕ) → n < 2 ^ 64 → (high low : Float) → handed w n ≡ pair high low → Parts high low n
pair_parts w n l high low e = let o : HandedOver w n (pair high low) = subst (HandedOver w n) e (handed_over w n l) in o.4

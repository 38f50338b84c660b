-- A text's parts are its first part and the parts of what follows its comma. So the numbers of a text are looked for one after another: the first
-- part that is no number, one part too few or one too many shows that it has none of them.
use Prim.Native.Nat.{ℕ, suc, ◌+◌, ◌-◌, ◌≤◌, ◌<◌}
use mathlib.Core.Path.{◌≡◌, refl, sym, ap, ◌∙◌}
use mathlib.Core.Bool.{Bool, true, false}
use mathlib.Core.List.{List, [], ◌∷◌, ◌++◌}
use Rattle.std.proofs.Common.{Option, Some, None, append_assoc, append-nil, length-set, take_all}
use native.Mathlib.Omega.{arith}
use borrow.Author.Tests.{leb-true, leb-false, le-leb, lt-leb}
use lib.Dec.{eqb, leb}
use lib.ListN.{length, take, set, replicate, drop, length-drop}
use lib.Seq.{drop-drop}
use Rattle.std.proofs.lemmas.List.{take_more_set, length-replicate}
use Rattle.meanings.specs.Lists.{pick}
use Rattle.meanings.specs.Bytes.{comma}
use Rattle.meanings.specs.Sheet.{parts, number_form, digits_value, parsed}
use Rattle.sheet.specs.declared.fields.Field.{Field}
use Rattle.sheet.specs.Fields.{first_part, number_of, field_at, with_number, numbers_of}

first_part_within : (u : List ℕ) → length (first_part u) ≤ length u
first_part_within [] = omega arith
first_part_within (b ∷ u) = by (eqb b comma) (first_part_within u)
  where
    by : (k : Bool) → length (first_part u) ≤ length u → length (pick k [] (b ∷ first_part u)) ≤ length (b ∷ u)
    by true l = omega arith
    by false l = omega arith

pub parts_begin : (u : List ℕ) → (ps : List (List ℕ)) × (parts u ≡ first_part u ∷ ps)
parts_begin [] = ([], refl)
parts_begin (b ∷ u) = by (eqb b comma) refl (parts_begin u)
  where
    by : (k : Bool) → eqb b comma ≡ k → (ps : List (List ℕ)) × (parts u ≡ first_part u ∷ ps)
        → (ps : List (List ℕ)) × (parts (b ∷ u) ≡ first_part (b ∷ u) ∷ ps)
    by true f o = (parts u, rw f)
    by false f o = (o.0, rw (f, o.1))

parts_without_comma : (u : List ℕ) → length (first_part u) ≡ length u → parts u ≡ first_part u ∷ []
parts_without_comma [] e = refl
parts_without_comma (b ∷ u) e = by (eqb b comma) refl e (parts_without_comma u)
  where
    by : (k : Bool) → eqb b comma ≡ k → length (pick k [] (b ∷ first_part u)) ≡ length (b ∷ u)
        → (length (first_part u) ≡ length u → parts u ≡ first_part u ∷ []) → parts (b ∷ u) ≡ first_part (b ∷ u) ∷ []
    by true f e o = absurd (omega arith)
    by false f e o = rw (f, o (omega arith))

parts_after_comma : (u : List ℕ) → length (first_part u) < length u → parts u ≡ first_part u ∷ parts (drop (suc (length (first_part u))) u)
parts_after_comma [] l = absurd (omega arith)
parts_after_comma (b ∷ u) l = by (eqb b comma) refl l (parts_after_comma u)
  where
    by : (k : Bool) → eqb b comma ≡ k → length (pick k [] (b ∷ first_part u)) < length (b ∷ u)
        → (length (first_part u) < length u → parts u ≡ first_part u ∷ parts (drop (suc (length (first_part u))) u))
        → parts (b ∷ u) ≡ first_part (b ∷ u) ∷ parts (drop (suc (length (first_part (b ∷ u)))) (b ∷ u))
    by true f l o = rw f
    by false f l o = rw (f, o (omega arith))

some_byte_in_number : (a : List ℕ) → number_form a ≡ true → 1 ≤ length a
some_byte_in_number [] e = let z : ◌≡◌ {A = ℕ} 0 1 = cc in absurd (omega arith)
some_byte_in_number (b ∷ a) e = omega arith

-- the parts from byte p on; behind the text there are none
abbrev pub parts_from : List ℕ → ℕ → List (List ℕ)
parts_from t p = pick (leb p (length t)) (parts (drop p t)) []

-- the part at byte p is the number n, and ends at byte e
pub record Holds (t : List ℕ) (p n e : ℕ) : Type 0 where
  pub part : List ℕ
  pub part_number : parsed part ≡ Some n
  pub begins : p < e
  pub end_inside : e ≤ length t
  pub part_and_others : parts (drop p t) ≡ part ∷ parts_from t (e + 1)

-- the part at byte p is no number
pub record Lacks (t : List ℕ) (p : ℕ) : Type 0 where
  pub part : List ℕ
  pub others : List (List ℕ)
  pub no_number : parsed part ≡ None
  pub part_and_others : parts (drop p t) ≡ part ∷ others

number_there : (t : List ℕ) (p n e : ℕ) → number_form (first_part (drop p t)) ≡ true → digits_value 0 (first_part (drop p t)) ≡ n
    → p + length (first_part (drop p t)) ≡ e → Holds t p n e
number_there t p n e f s i =
    let some_byte = some_byte_in_number (first_part (drop p t)) f in
    let within = simp length-drop at (first_part_within (drop p t)) in
    let next : p + suc (length (first_part (drop p t))) ≡ e + 1 = omega arith in record {
      part = first_part (drop p t);
      part_number = rw (f, s);
      begins = omega arith;
      end_inside = omega arith;
      part_and_others = by (leb (e + 1) (length t)) refl next within;
    }
  where
    by : (k : Bool) → leb (e + 1) (length t) ≡ k → p + suc (length (first_part (drop p t))) ≡ e + 1 → length (first_part (drop p t)) ≤ length t - p
        → parts (drop p t) ≡ first_part (drop p t) ∷ pick k (parts (drop (e + 1) t)) []
    by true k next within = let l = leb-true (e + 1) (length t) k in parts_after_comma (drop p t) (simp length-drop (omega arith)) ∙ rw (drop-drop, next)
    by false k next within = let l = leb-false (e + 1) (length t) k in parts_without_comma (drop p t) (simp length-drop (omega arith))

number_of_some : (p : ℕ) (a : List ℕ) (r : Field) → Some r ≡ number_of p a
    → (number_form a ≡ true) × (digits_value 0 a ≡ r.value) × (p + length a ≡ r.end)
number_of_some p a r h = by (number_form a) refl h
  where
    by : (k : Bool) → number_form a ≡ k → Some r ≡ pick k (Some (record { value = digits_value 0 a; end = p + length a })) None
        → (number_form a ≡ true) × (digits_value 0 a ≡ r.value) × (p + length a ≡ r.end)
    by true f h = (f, cc, cc)
    by false f h = let z : ◌≡◌ {A = ℕ} 0 1 = cc in absurd (omega arith)

number_of_none : (p : ℕ) (a : List ℕ) → None ≡ number_of p a → parsed a ≡ None
number_of_none p a h = by (number_form a) refl h
  where
    by : (k : Bool) → number_form a ≡ k → ◌≡◌ {A = Option Field} None (pick k (Some (record { value = digits_value 0 a; end = p + length a })) None)
        → parsed a ≡ None
    by true f h = let z : ◌≡◌ {A = ℕ} 0 1 = cc in absurd (omega arith)
    by false f h = rw f

pub number_holds : {t : List ℕ} {p : ℕ} {f : Field} → Some f ≡ field_at t p → Holds t p f.value f.end
unfolding field_at
number_holds {t} {p} {f} h =
    let o = number_of_some p (first_part (drop p t)) f h in
    number_there t p f.value f.end o.0 o.1 o.2

pub no_number_lacks : {t : List ℕ} {p : ℕ} → None ≡ field_at t p → Lacks t p
unfolding field_at
no_number_lacks {t} {p} h = record {
  part = first_part (drop p t);
  others = (parts_begin (drop p t)).0;
  no_number = number_of_none p (first_part (drop p t)) h;
  part_and_others = (parts_begin (drop p t)).1;
}

-- numbers in front of those that follow
abbrev pub in_front : List ℕ → Option (List ℕ) → Option (List ℕ)
in_front xs None = None
in_front xs (Some ys) = Some (xs ++ ys)

-- the first i of n numbers stand in xs, and the next part begins at byte p
pub record Read (t : List ℕ) (n i p : ℕ) (xs : List ℕ) : Type 0 where
  pub size : length xs ≡ n
  pub left : numbers_of n (parts t) ≡ in_front (take i xs) (numbers_of (n - i) (parts_from t p))

in_front_one_more : (xs : List ℕ) (i v : ℕ) (r : Option (List ℕ)) → i < length xs
    → in_front (take i xs) (with_number (Some v) r) ≡ in_front (take (i + 1) (set xs i v)) r
in_front_one_more xs i v None l = refl
in_front_one_more xs i v (Some ys) l = ap (λ (zs : List ℕ). Some zs) (rw take_more_set (sym (append_assoc (take i xs) (v ∷ []) ys)))

in_front_none : (xs : List ℕ) (r : Option (List ℕ)) → in_front (take 0 xs) r ≡ r
in_front_none [] None = refl
in_front_none [] (Some ys) = refl
in_front_none (x ∷ xs) None = refl
in_front_none (x ∷ xs) (Some ys) = refl

pub none_read : (t : List ℕ) (n : ℕ) → Read t n 0 0 (replicate n 0)
none_read t n =
    let e : n - 0 ≡ n = omega arith in
    record { size = length-replicate n 0; left = sym (rw (e, le-leb 0 (length t) (omega arith)) (in_front_none (replicate n 0) (numbers_of n (parts t)))) }

module _ {t : List ℕ} {n i p : ℕ} {xs : List ℕ} (r : Read t n i p xs) where
  left_at : (m : ℕ) (ps : List (List ℕ)) → n - i ≡ m → parts_from t p ≡ ps → numbers_of n (parts t) ≡ in_front (take i xs) (numbers_of m ps)
  left_at m ps e f = r.left ∙ rw (e, f)

  pub part_is_no_number : i < n → None ≡ field_at t p → None ≡ numbers_of n (parts t)
  part_is_no_number l h = by (leb p (length t)) refl
    where
      by : (k : Bool) → leb p (length t) ≡ k → None ≡ numbers_of n (parts t)
      by true k =
          let a = no_number_lacks h in
          sym (left_at (suc (n - suc i)) (a.part ∷ a.others) (omega arith) (rw k a.part_and_others) ∙ rw a.no_number)
      by false k = sym (left_at (suc (n - suc i)) [] (omega arith) (rw k))

  pub part_read : {f : Field} → i < n → Some f ≡ field_at t p → Read t n (i + 1) (f.end + 1) (set xs i f.value)
  part_read {f} l h =
      let a = number_holds h in
      record {
        size = length-set xs i f.value ∙ r.size;
        left = left_at (suc (n - (i + 1))) (a.part ∷ parts_from t (f.end + 1)) (omega arith) (rw (le-leb p (length t) (omega arith)) a.part_and_others)
            ∙ rw a.part_number (in_front_one_more xs i f.value _ (omega (arith, r.size)));
      }

  pub parts_left_over : n ≤ i → p ≤ length t → None ≡ numbers_of n (parts t)
  parts_left_over l m =
      let a = parts_begin (drop p t) in
      sym (left_at 0 (first_part (drop p t) ∷ a.0) (omega arith) (rw (le-leb p (length t) m) a.1))

  pub all_read : n ≤ i → length t < p → Some xs ≡ numbers_of n (parts t)
  all_read l m =
      sym
      (left_at 0 [] (omega arith) (rw (lt-leb p (length t) m))
      ∙ ap (λ (zs : List ℕ). Some zs) (append-nil (take i xs) ∙ take_all i xs (omega (arith, r.size))))

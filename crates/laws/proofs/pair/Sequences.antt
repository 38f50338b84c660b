-- Sequences of numbers in the order of their first difference: f is not above g up to n if they agree, or f is below where they first differ.
use Prim.Native.Nat.{ℕ, ◌<◌, zero-le}
use mathlib.Core.Path.{◌≡◌, refl, sym, ◌∙◌}
use mathlib.Core.Logic.{◌⊎◌, inl, inr}
use mathlib.Core.Bool.{Bool, true, false}
use native.Mathlib.Omega.{arith}
use borrow.Author.Tests.{ltb-true, ltb-false}
use lib.Dec.{ltb}
use Rattle.meanings.specs.Lists.{first}
use Rattle.meanings.specs.Reports.{differ}
use Rattle.meanings.proofs.Checks.{differ_false}
use Rattle.meanings.proofs.Search.{IsFirst, first_is_first}

abbrev pub AgreeBelow : (ℕ → ℕ) → (ℕ → ℕ) → ℕ → Type 0
AgreeBelow f g n = (j : ℕ) → j < n → f j ≡ g j

pub data NotAbove (f g : ℕ → ℕ) (n : ℕ) : Type 0 where
  agrees : AgreeBelow f g n → NotAbove f g n
  below : (k : ℕ) → k < n → AgreeBelow f g k → f k < g k → NotAbove f g n

pub differ_apart : (a b : ℕ) → differ a b ≡ true → (a < b) ⊎ (b < a)
differ_apart a b e = by (ltb a b) (ltb b a) refl refl e
  where
    by : (x y : Bool) → ltb a b ≡ x → ltb b a ≡ y → differ a b ≡ true → (a < b) ⊎ (b < a)
    by true y p q d = inl (ltb-true a b p)
    by false true p q d = inr (ltb-true b a q)
    by false false p q d =
        let l = ltb-false a b p in
        let m = ltb-false b a q in
        let z : ◌≡◌ {A = ℕ} 0 1 = cc in
        absurd (omega arith)

-- which of two positions comes first
data Places (k m : ℕ) : Type 0 where
  earlier : k < m → Places k m
  equal : k ≡ m → Places k m
  later : m < k → Places k m

places : (k m : ℕ) → Places k m
places k m = by (ltb k m) (ltb m k) refl refl
  where
    by : (x y : Bool) → ltb k m ≡ x → ltb m k ≡ y → Places k m
    by true y p q = earlier (ltb-true k m p)
    by false true p q = later (ltb-true m k q)
    by false false p q = let l = ltb-false k m p in let r = ltb-false m k q in equal (omega arith)

pub not_above_itself : (f : ℕ → ℕ) (n : ℕ) → NotAbove f f n
not_above_itself f n = agrees (λ j l. refl)

pub not_above_trans : (f g h : ℕ → ℕ) (n : ℕ) → NotAbove f g n → NotAbove g h n → NotAbove f h n
not_above_trans f g h n (agrees p) (agrees q) = agrees (λ j l. p j l ∙ q j l)
not_above_trans f g h n (agrees p) (below k l q b) = below k l (λ j m. p j (omega arith) ∙ q j m) (let e = p k l in omega arith)
not_above_trans f g h n (below k l p b) (agrees q) = below k l (λ j m. p j m ∙ q j (omega arith)) (let e = q k l in omega arith)
not_above_trans f g h n (below k l p b) (below m r q c) = by (places k m)
  where
    by : Places k m → NotAbove f h n
    by (earlier x) = below k l (λ j y. p j y ∙ q j (omega arith)) (let e = q k x in omega arith)
    by (equal x) = below k l (λ j y. p j y ∙ q j (omega arith)) (let e : g k < h k = rw x c in omega arith)
    by (later x) = below m r (λ j y. p j (omega arith) ∙ q j y) (let e = p m x in omega arith)

pub not_above_total : (f g : ℕ → ℕ) (n : ℕ) → NotAbove f g n ⊎ NotAbove g f n
not_above_total f g n = by (ltb r n) refl
  where
    r : ℕ
    r = first (λ j. differ (f j) (g j)) 0 n

    found : IsFirst (λ j. differ (f j) (g j)) 0 n (first (λ j. differ (f j) (g j)) 0 n)
    found = first_is_first (λ j. differ (f j) (g j)) 0 n

    by : (b : Bool) → ltb (first (λ j. differ (f j) (g j)) 0 n) n ≡ b → NotAbove f g n ⊎ NotAbove g f n
    by false e =
        let l = ltb-false (first (λ j. differ (f j) (g j)) 0 n) n e in
        inl (agrees (λ j m. differ_false (f j) (g j) (found.before j zero-le (omega arith))))
    by true e =
        let k = first (λ j. differ (f j) (g j)) 0 n in
        let l = ltb-true (first (λ j. differ (f j) (g j)) 0 n) n e in
        at (differ_apart (f k) (g k) (found.there (omega arith))) l
      where
        at : (f (first (λ j. differ (f j) (g j)) 0 n) < g (first (λ j. differ (f j) (g j)) 0 n))
            ⊎ (g (first (λ j. differ (f j) (g j)) 0 n) < f (first (λ j. differ (f j) (g j)) 0 n))
            → first (λ j. differ (f j) (g j)) 0 n < n → NotAbove f g n ⊎ NotAbove g f n
        at (inl b) l = inl (below _ l (λ j m. differ_false (f j) (g j) (found.before j zero-le m)) b)
        at (inr b) l = inr (below _ l (λ j m. sym (differ_false (f j) (g j) (found.before j zero-le m))) b)

pub not_above_both : (f g : ℕ → ℕ) (n : ℕ) → NotAbove f g n → NotAbove g f n → AgreeBelow f g n
not_above_both f g n (agrees p) q = p
not_above_both f g n (below k l p b) (agrees q) = λ j m. sym (q j m)
not_above_both f g n (below k l p b) (below m r q c) = absurd (by (places k m))
  where
    by : Places k m → ⊥
    by (earlier x) = let e = q k x in omega arith
    by (equal x) = let e : g k < f k = rw x c in omega arith
    by (later x) = let e = p m x in omega arith

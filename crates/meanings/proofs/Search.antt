-- The first position at which a test is true: no earlier one passes, and it passes itself unless the search ran to its end.
use Prim.Native.Nat.{ℕ, zero, suc, ◌+◌, ◌≤◌, ◌<◌, zero-le}
use mathlib.Core.Path.{◌≡◌, refl, sym, ◌∙◌}
use mathlib.Core.Logic.{◌⊎◌, inl, inr}
use mathlib.Core.Bool.{Bool, true, false, true≢false}
use Rattle.std.specs.Prelude.{None, Some}
use native.Mathlib.Nat.{le_refl, eq-or-lt_of_le}
use native.Mathlib.Omega.{arith}
use borrow.Author.Tests.{ltb-true, ltb-false, lt-ltb}
use lib.Dec.{ltb}
use Rattle.meanings.specs.Lists.{pick, first, lowest}

-- r is the first of the n positions from i on at which the test is true, else i + n
pub record IsFirst (p : ℕ → Bool) (i n r : ℕ) : Type 0 where
  pub from : i ≤ r
  pub upto : r ≤ i + n
  pub before : (j : ℕ) → i ≤ j → j < r → p j ≡ false
  pub there : r < i + n → p r ≡ true

pub first_is_first : (p : ℕ → Bool) (i n : ℕ) → IsFirst p i n (first p i n)
first_is_first p i zero = record {
  from = le_refl i;
  upto = omega arith;
  before = λ j a b. absurd (omega arith);
  there = λ l. absurd (omega arith);
}
first_is_first p i (suc n) = by (p i) refl (first_is_first p (suc i) n)
  where
    earlier : p i ≡ false → IsFirst p (suc i) n (first p (suc i) n) → (j : ℕ) → i ≤ j → j < first p (suc i) n → p j ≡ false
    earlier e r j a b = at (eq-or-lt_of_le a)
      where
        at : (i ≡ j) ⊎ (i < j) → p j ≡ false
        at (inl q) = rw (← q) e
        at (inr l) = r.before j l b

    by : (b : Bool) → p i ≡ b → IsFirst p (suc i) n (first p (suc i) n) → IsFirst p i (suc n) (pick b i (first p (suc i) n))
    by true e r = record {
      from = le_refl i;
      upto = omega arith;
      before = λ j a b. absurd (omega arith);
      there = λ l. e;
    }
    by false e r = record {
      from = let f = r.from in omega arith;
      upto = let u = r.upto in omega arith;
      before = earlier e r;
      there = λ l. r.there (omega arith);
    }

-- there is one first position
pub first_unique : (p : ℕ → Bool) (i n r s : ℕ) → IsFirst p i n r → IsFirst p i n s → r ≡ s
first_unique p i n r s a b =
    let x = not_below r s a b in
    let y = not_below s r b a in
    omega arith
  where
    not_below : (r s : ℕ) → IsFirst p i n r → IsFirst p i n s → ¬ (r < s)
    not_below r s a b l =
        true≢false (sym (a.there (let u = b.upto in omega arith)) ∙ b.before r a.from l)

-- the test fails at every position below i
abbrev pub NoneBelow : (ℕ → Bool) → ℕ → Type 0
NoneBelow p i = (j : ℕ) → j < i → p j ≡ false

pub one_more_below : (p : ℕ → Bool) (i : ℕ) → NoneBelow p i → p i ≡ false → NoneBelow p (i + 1)
one_more_below p i f e j l = by (eq-or-lt_of_le (let m : j ≤ i = omega arith in m))
  where
    by : (j ≡ i) ⊎ (j < i) → p j ≡ false
    by (inl q) = rw q e
    by (inr m) = f j m

-- no lowest position: the test fails at all of them
pub lowest_none : (p : ℕ → Bool) (n : ℕ) → lowest p n ≡ None → NoneBelow p n
lowest_none p n e j l = by (ltb (first p 0 n) n) refl e
  where
    by : (b : Bool) → ltb (first p 0 n) n ≡ b → pick b (Some (first p 0 n)) None ≡ None → p j ≡ false
    by true t q = let z : ◌≡◌ {A = ℕ} 0 1 = cc in absurd (omega arith)
    by false t q = (first_is_first p 0 n).before j zero-le (let m = ltb-false (first p 0 n) n t in omega arith)

-- the test fails everywhere: there is no lowest position
pub none_lowest : (p : ℕ → Bool) (n : ℕ) → NoneBelow p n → lowest p n ≡ None
none_lowest p n f = by (ltb (first p 0 n) n) refl
  where
    by : (b : Bool) → ltb (first p 0 n) n ≡ b → pick b (Some (first p 0 n)) None ≡ None
    by true t =
        let m = ltb-true (first p 0 n) n t in
        absurd (true≢false (sym ((first_is_first p 0 n).there (omega arith)) ∙ f (first p 0 n) m))
    by false t = refl

-- a position that passes with none before it is the lowest
pub lowest_at : (p : ℕ → Bool) (n k : ℕ) → k < n → p k ≡ true → NoneBelow p k → lowest p n ≡ Some k
lowest_at p n k l e f = rw (here, lt-ltb k n l)
  where
    here : first p 0 n ≡ k
    here =
        first_unique p 0 n (first p 0 n) k (first_is_first p 0 n)
        (record { from = zero-le; upto = omega arith; before = λ j a b. f j b; there = λ m. e })

-- the lowest position passes, and none before it does
pub lowest_some : (p : ℕ → Bool) (n k : ℕ) → lowest p n ≡ Some k → (k < n) × IsFirst p 0 n k
lowest_some p n k e = by (ltb (first p 0 n) n) refl e
  where
    by : (b : Bool) → ltb (first p 0 n) n ≡ b → pick b (Some (first p 0 n)) None ≡ Some k → (k < n) × IsFirst p 0 n k
    by true t q =
        let h : first p 0 n ≡ k = cc in
        (rw (← h) (ltb-true (first p 0 n) n t), rw (← h) (first_is_first p 0 n))
    by false t q = let z : ◌≡◌ {A = ℕ} 0 1 = cc in absurd (omega arith)

-- Sums over readings and sums over cells change places: each reading weighs in one cell, so a block of cells holds what the readings weigh
-- whose strips lie in it. By induction over the readings, one reading more adding its weight on both sides.
use Prim.Native.Nat.{ℕ, zero, suc, ◌+◌, ◌*◌, ◌≤◌, ◌<◌, zero-le}
use mathlib.Core.Path.{◌≡◌, refl, sym, ap, ◌∙◌}
use mathlib.Core.Bool.{Bool, true, false, ◌&&◌}
use native.Mathlib.Decide.{dec_lt, dec_le, ℕ_discrete}
use native.Mathlib.Nat.{zero-add, add-zero}
use native.Mathlib.Omega.{arith}
use borrow.Author.Tests.{lt-ltb, le-ltb, le-leb, lt-leb, eq-eqb, ne_eqb}
use lib.Dec.{ltb, leb, eqb}
use lib.ListN.{length, get_or}
use Rattle.meanings.specs.Lists.{pick, total}
use Rattle.meanings.proofs.Totals.{total_ext, total_zero}
use Rattle.meanings.specs.boxes.Boxes.{gathered, listed}

-- x is one of the n numbers from a on
abbrev pub among : ℕ → ℕ → ℕ → Bool
among a n x = leb a x && ltb x (a + n)

pub total_plus : (f g : ℕ → ℕ) (a n : ℕ) → total (λ i. f i + g i) a n ≡ total f a n + total g a n
total_plus f g a zero = refl
total_plus f g a (suc n) = omega (arith, total_plus f g a n)

-- one reading more
pub gathered_more : (test : ℕ → Bool) (w : ℕ → ℕ) (n : ℕ) → gathered test w (suc n) ≡ gathered test w n + pick (test n) (w n) 0
unfolding gathered
gathered_more test w n = simp zero-add

pub gathered_none : (test : ℕ → Bool) (w : ℕ → ℕ) → gathered test w 0 ≡ 0
unfolding gathered
gathered_none test w = refl

pub gathered_ext : (p q : ℕ → Bool) (w : ℕ → ℕ) (n : ℕ) → ((i : ℕ) → i < n → p i ≡ q i) → gathered p w n ≡ gathered q w n
unfolding gathered
gathered_ext p q w n same = total_ext _ _ 0 n (λ i l r. ap (λ b. pick b (w i) 0) (same i (omega arith)))

pub total_ones : (a n : ℕ) → total (λ i. 1) a n ≡ n
total_ones a zero = refl
total_ones a (suc n) = omega (arith, total_ones a n)

-- no more than the greatest weight times the number of readings
pub gathered_most : (test : ℕ → Bool) (w : ℕ → ℕ) (m n : ℕ) → ((i : ℕ) → i < n → w i ≤ m) → gathered test w n ≤ n * m
gathered_most test w m zero f = rw (gathered_none test w) zero-le
gathered_most test w m (suc n) f =
    let h = gathered_most test w m n (λ i l. f i (omega arith)) in
    let l = by (test n) (f n (omega arith)) in
    rw (gathered_more test w n) (omega arith)
  where
    by : (b : Bool) → w n ≤ m → pick b (w n) 0 ≤ m
    by true l = l
    by false l = zero-le

-- a weight at one place
pub total_hit : (p v a n : ℕ) → total (λ x. pick (eqb p x) v 0) a n ≡ pick (among a n p) v 0
total_hit p v a zero = by (dec_le a p)
  where
    by : Dec (a ≤ p) → ◌≡◌ {A = ℕ} 0 (pick (leb a p && ltb p (a + 0)) v 0)
    by (yes l) = rw (le-leb a p l, le-ltb p (a + 0) (omega arith)) refl
    by (no l) = rw (lt-leb a p (omega arith)) refl
total_hit p v a (suc n) = by (dec_le a p) (dec_lt p (a + n)) (ℕ_discrete p (a + n)) (total_hit p v a n)
  where
    by : Dec (a ≤ p) → Dec (p < a + n) → Dec (p ≡ a + n) → total (λ x. pick (eqb p x) v 0) a n ≡ pick (among a n p) v 0
        → total (λ x. pick (eqb p x) v 0) a n + pick (eqb p (a + n)) v 0 ≡ pick (among a (suc n) p) v 0
    by (no l) d e h =
        rw (h, lt-leb a p (omega arith), ne_eqb p (a + n) (λ q. omega arith)) refl
    by (yes l) (yes d) e h =
        rw (h, le-leb a p l, lt-ltb p (a + n) d, lt-ltb p (a + suc n) (omega arith), ne_eqb p (a + n) (λ q. omega arith)) (add-zero v)
    by (yes l) (no d) (yes e) h =
        rw (h, le-leb a p l, le-ltb p (a + n) (omega arith), lt-ltb p (a + suc n) (omega arith), eq-eqb p (a + n) e) (zero-add v)
    by (yes l) (no d) (no e) h =
        rw (h, le-leb a p l, le-ltb p (a + n) (omega arith), le-ltb p (a + suc n) (omega arith), ne_eqb p (a + n) e) refl

-- two numbers, the second below width, are told by one
pub pair_by_one_number : (width p q x y : ℕ) → q < width → y < width → eqb (width * p + q) (width * x + y) ≡ eqb p x && eqb q y
pair_by_one_number width p q x y l m = by (ℕ_discrete p x) (ℕ_discrete q y)
  where
    apart : (a b u v : ℕ) → a < b → u < width → width * a + u < width * b + v
    apart a b u v d e = let s : width * (a + 1) ≤ width * b = scaled width (a + 1) b (omega arith) in omega (arith, s, once width a)
      where
        scaled : (w c d : ℕ) → c ≤ d → w * c ≤ w * d
        scaled zero c d l = omega arith
        scaled (suc w) c d l = let h = scaled w c d l in omega (arith, h)

        once : (w c : ℕ) → w * (c + 1) ≡ w * c + w
        once zero c = omega arith
        once (suc w) c = omega (arith, once w c)

    differ : ¬ (p ≡ x) → ¬ (width * p + q ≡ width * x + y)
    differ n e = side (dec_lt p x)
      where
        side : Dec (p < x) → ⊥
        side (yes d) = let h = apart p x q y d l in omega arith
        side (no d) = let h = apart x p y q (omega (arith, n)) m in omega arith

    by : Dec (p ≡ x) → Dec (q ≡ y) → eqb (width * p + q) (width * x + y) ≡ eqb p x && eqb q y
    by (yes e) (yes f) = rw (e, f, eq-eqb x x refl, eq-eqb y y refl) (eq-eqb (width * x + y) (width * x + y) refl)
    by (yes e) (no f) = rw (e, eq-eqb x x refl, ne_eqb q y f) (ne_eqb (width * x + q) (width * x + y) (λ g. f (omega arith)))
    by (no e) f = rw (ne_eqb p x e) (ne_eqb (width * p + q) (width * x + y) (differ e))

-- the same in a block of m × n places
pub block_hit : (width p q v a m b n : ℕ) → q < width → b + n ≤ width
    → total (λ x. total (λ y. pick (eqb (width * p + q) (width * x + y)) v 0) b n) a m ≡ pick (among a m p && among b n q) v 0
block_hit width p q v a m b n l r =
    total_ext _ (λ x. pick (eqb p x) (pick (among b n q) v 0) 0) a m (λ x u o. row x (eqb p x) refl)
    ∙ total_hit p (pick (among b n q) v 0) a m
    ∙ nested (among a m p) (among b n q)
  where
    first_true : (s t o : Bool) → s ≡ (t && o) → t ≡ true → pick s v 0 ≡ pick o v 0
    first_true s t o e f = rw (e, f) refl

    first_false : (s t o : Bool) → s ≡ (t && o) → t ≡ false → pick s v 0 ≡ 0
    first_false s t o e f = rw (e, f) refl

    row : (x : ℕ) (e : Bool) → eqb p x ≡ e
        → total (λ y. pick (eqb (width * p + q) (width * x + y)) v 0) b n ≡ pick e (pick (among b n q) v 0) 0
    row x true e =
        total_ext _ (λ y. pick (eqb q y) v 0) b n (λ y u o. first_true _ _ _ (pair_by_one_number width p q x y l (omega arith)) e)
        ∙ total_hit q v b n
    row x false e = total_zero _ b n (λ y u o. first_false _ _ _ (pair_by_one_number width p q x y l (omega arith)) e)

    nested : (s t : Bool) → pick s (pick t v 0) 0 ≡ pick (s && t) v 0
    nested true t = refl
    nested false t = refl

-- one reading more in every place of a block
module _ (f g : ℕ → ℕ → ℕ) (a m b n : ℕ) where
  block_plus : total (λ x. total (λ y. f x y + g x y) b n) a m ≡ total (λ x. total (λ y. f x y) b n) a m + total (λ x. total (λ y. g x y) b n) a m
  block_plus =
      total_ext _ (λ x. total (λ y. f x y) b n + total (λ y. g x y) b n) a m (λ x u o. total_plus (f x) (g x) b n)
      ∙ total_plus (λ x. total (λ y. f x y) b n) (λ x. total (λ y. g x y) b n) a m

block_ext : (f g : ℕ → ℕ → ℕ) (a m b n : ℕ) → ((x y : ℕ) → f x y ≡ g x y)
    → total (λ x. total (λ y. f x y) b n) a m ≡ total (λ x. total (λ y. g x y) b n) a m
block_ext f g a m b n same = total_ext _ _ a m (λ x u o. total_ext (f x) (g x) b n (λ y s t. same x y))

-- a block of cells holds what the readings with strips P and Q in it weigh
module _ (width : ℕ) (P Q : ℕ → ℕ) (w : ℕ → ℕ) (a m b k : ℕ) (r : b + k ≤ width) where
  pub block_gathered : (n : ℕ) → ((i : ℕ) → i < n → Q i < width)
      → total (λ x. total (λ y. gathered (λ i. eqb (width * P i + Q i) (width * x + y)) w n) b k) a m
      ≡ gathered (λ i. among a m (P i) && among b k (Q i)) w n
  block_gathered zero f =
      total_zero _ a m (λ x u o. total_zero _ b k (λ y s t. gathered_none (λ i. eqb (width * P i + Q i) (width * x + y)) w))
      ∙ sym (gathered_none (λ i. among a m (P i) && among b k (Q i)) w)
  block_gathered (suc n) f =
      block_ext _
      (λ x y. gathered (λ i. eqb (width * P i + Q i) (width * x + y)) w n + pick (eqb (width * P n + Q n) (width * x + y)) (w n) 0) a m b k
      (λ x y. gathered_more (λ i. eqb (width * P i + Q i) (width * x + y)) w n)
      ∙ block_plus (λ x y. gathered (λ i. eqb (width * P i + Q i) (width * x + y)) w n)
      (λ x y. pick (eqb (width * P n + Q n) (width * x + y)) (w n) 0) a m b k
      ∙ (rw (block_gathered n (λ i l. f i (omega arith)), block_hit width (P n) (Q n) (w n) a m b k (f n (omega arith)) r)
      (sym (gathered_more (λ i. among a m (P i) && among b k (Q i)) w n)))

-- every reading weighs in one of the first m places, so these hold all
pub all_gathered : (C : ℕ → ℕ) (w : ℕ → ℕ) (m n : ℕ) → ((i : ℕ) → i < n → C i < m)
    → total (λ c. gathered (λ i. eqb (C i) c) w n) 0 m ≡ total w 0 n
all_gathered C w m zero f = total_zero _ 0 m (λ c u o. gathered_none (λ i. eqb (C i) c) w)
all_gathered C w m (suc n) f =
    total_ext _ (λ c. gathered (λ i. eqb (C i) c) w n + pick (eqb (C n) c) (w n) 0) 0 m (λ c u o. gathered_more (λ i. eqb (C i) c) w n)
    ∙ total_plus (λ c. gathered (λ i. eqb (C i) c) w n) (λ c. pick (eqb (C n) c) (w n) 0) 0 m
    ∙ (rw (all_gathered C w m n (λ i l. f i (omega arith)), total_hit (C n) (w n) 0 m, here, zero-add n) refl)
  where
    here : among 0 m (C n) ≡ true
    here = rw (le-leb 0 (C n) zero-le, lt-ltb (C n) (0 + m) (let l = f n (omega arith) in omega arith)) refl

-- what a listed function holds at a position
pub listed_length : (g : ℕ → ℕ) (a m : ℕ) → length (listed g a m) ≡ m
listed_length g a zero = refl
listed_length g a (suc m) = ap suc (listed_length g (suc a) m)

pub listed_at : (g : ℕ → ℕ) (a m c : ℕ) → c < m → get_or (listed g a m) c 0 ≡ g (a + c)
listed_at g a zero c l = absurd (omega arith)
listed_at g a (suc m) zero l = ap g (sym (add-zero a))
listed_at g a (suc m) (suc c) l = listed_at g (suc a) m c (omega arith) ∙ ap g (omega arith)

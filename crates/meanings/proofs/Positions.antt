-- The book's positions: a test that is true exactly from a up to but without b lists the positions between a and b. So what an accepted
-- step adds is between the old edge and the new one, and taken and let go always hold the positions from 0 up to an edge.
use Prim.Native.Nat.{ℕ, zero, suc, ◌+◌, ◌-◌, ◌≤◌, ◌<◌, min, zero-le, suc-le-suc}
use mathlib.Core.Path.{◌≡◌, refl, sym, ap, ◌∙◌}
use mathlib.Core.Logic.{◌↔◌}
use mathlib.Core.Bool.{Bool, true, false, true≢false, not, ◌||◌}
use mathlib.Core.List.{List, [], ◌∷◌, ◌++◌, append-nil, append_assoc}
use native.Mathlib.Nat.{add-zero, add-suc, add_assoc, sub-zero, le_refl, le_of_lt, min-le_right}
use native.Mathlib.Decide.{dec_lt}
use native.Mathlib.Omega.{arith}
use borrow.Author.Tests.{ltb-true, ltb-false, lt-ltb, le-ltb, eqb-true, eqb-false, not-true}
use lib.Dec.{ltb, eqb}
use lib.ListN.{length, length-append}
use Rattle.meanings.specs.Lists.{pick}
use Rattle.meanings.specs.EventLog.{listed, positions}
use Rattle.meanings.specs.Claim.{positions_from, between}

length_from : (a n : ℕ) → length (positions_from a n) ≡ n
length_from a zero = refl
length_from a (suc n) = rw length-append (omega (arith, length_from a n))

pub length_below : (n : ℕ) → length (between 0 n) ≡ n
length_below n = length_from 0 (n - 0) ∙ sub-zero n

from_joins : (a m n : ℕ) → positions_from a m ++ positions_from (a + m) n ≡ positions_from a (m + n)
from_joins a m zero = rw (append-nil, add-zero)
from_joins a m (suc n) = rw (add-suc, ← (from_joins a m n), append_assoc, add_assoc)

-- neighbouring stretches join
pub between_joins : (a b c : ℕ) → a ≤ b → b ≤ c → between a b ++ between b c ≡ between a c
between_joins a b c l m =
    let n : c - a ≡ (b - a) + (c - b) = omega arith in
    let s : a + (b - a) ≡ b = omega arith in
    sym (rw (n, ← (from_joins a (b - a) (c - b)), s))

listed_append : (i : ℕ) (xs ys : List ℕ) → listed i (xs ++ ys) ≡ (listed i xs || listed i ys)
listed_append i [] ys = refl
listed_append i (x ∷ xs) ys = by (eqb i x) (listed_append i xs ys)
  where
    by : (b : Bool) → listed i (xs ++ ys) ≡ (listed i xs || listed i ys) → (b || listed i (xs ++ ys)) ≡ (b || listed i xs || listed i ys)
    by true e = refl
    by false e = e

listed_below : (i n : ℕ) → listed i (between 0 n) ≡ ltb i n
listed_below i n = rw sub-zero (listed_from n)
  where
    last : (n : ℕ) (b c : Bool) → ltb i n ≡ b → eqb i (0 + n) ≡ c → (b || (c || false)) ≡ ltb i (suc n)
    last n true c d e = sym (lt-ltb i (suc n) (omega (arith, ltb-true i n d)))
    last n false true d e = sym (lt-ltb i (suc n) (omega (arith, eqb-true i (0 + n) e)))
    last n false false d e = sym (le-ltb i (suc n) (let f = ltb-false i n d in let g : i ≡ 0 + n → ⊥ = eqb-false i (0 + n) e in omega arith))

    listed_from : (n : ℕ) → listed i (positions_from 0 n) ≡ ltb i n
    listed_from zero = sym (le-ltb i 0 zero-le)
    listed_from (suc n) = rw (listed_append i (positions_from 0 n) ((0 + n) ∷ []), listed_from n) (last n (ltb i n) (eqb i (0 + n)) refl refl)

-- position i stands in the list from 0 up to but without n exactly if i < n
pub already_listed : (i n : ℕ) → (listed i (between 0 n) ≡ true) ↔ (i < n)
already_listed i n = rw (listed_below i n) (λ e. ltb-true i n e, λ l. lt-ltb i n l)

pub not_yet_listed : (i n : ℕ) → (not (listed i (between 0 n)) ≡ true) ↔ (n ≤ i)
not_yet_listed i n = rw (listed_below i n) (λ e. ltb-false i n (not-true _ e), λ l. ap not (le-ltb i n l))

-- a position below n, of a stretch that ends at b or at n
below_the_cut : (a b i n : ℕ) → i < n → ((a ≤ i) × (i < b)) ↔ ((a ≤ i) × (i < min b n))
below_the_cut a b i n l = (λ w. omega arith, λ w. omega arith)

-- the stretch with its last position, and one without it
cut_last : (a b n : ℕ) → b ≤ suc n → (a ≤ n) × (n < b) → (min b n - a ≡ n - a) × (b - a ≡ suc (n - a)) × (a + (n - a) ≡ n)
cut_last a b n l w = (omega arith, omega arith, omega arith)

cut_nothing : (a b n : ℕ) → b ≤ suc n → ¬ ((a ≤ n) × (n < b)) → min b n - a ≡ b - a
cut_nothing a b n l outside = by (dec_lt n b)
  where
    by : Dec (n < b) → min b n - a ≡ b - a
    by (no q) = omega arith
    by (yes q) = let m : ¬ (a ≤ n) = λ w. outside (w, q) in omega arith

-- a test that is true exactly from a up to but without b
pub positions_between : (p : ℕ → Bool) (a b n : ℕ) → b ≤ n → ((i : ℕ) → i < n → (p i ≡ true) ↔ ((a ≤ i) × (i < b)))
    → positions p n ≡ between a b
positions_between p a b zero l exact = let e : b - a ≡ 0 = omega arith in rw e
positions_between p a b (suc n) l exact =
    by (p n) refl
    (positions_between p a (min b n) n (min-le_right b n)
    (λ i m.
    let e = exact i (le_of_lt (suc-le-suc m)) in
    (λ t. (below_the_cut a b i n m).0 (e.0 t), λ w. e.1 ((below_the_cut a b i n m).1 w))))
  where
    by : (t : Bool) → p n ≡ t → positions p n ≡ between a (min b n) → positions p n ++ pick t (n ∷ []) [] ≡ between a b
    by true e k = let c = cut_last a b n l ((exact n (le_refl (suc n))).0 e) in rw (k, c.0, c.1, c.2)
    by false e k = let f = cut_nothing a b n l (λ w. true≢false (sym ((exact n (le_refl (suc n))).1 w) ∙ e)) in rw (append-nil, k, f)

-- `sorted` is the list in order: nothing falls from one to the next, and every test counts as many of its numbers as of the list's.
use Prim.Native.Nat.{ℕ, zero, suc, ◌≤◌, ◌<◌}
use mathlib.Core.Path.{◌≡◌, refl, ap, ◌∙◌}
use mathlib.Core.Bool.{Bool, true, false}
use mathlib.Core.List.{List, [], ◌∷◌}
use native.Mathlib.Nat.{le_refl, le_trans, le_of_suc-le-suc, not-suc-le-zero}
use native.Mathlib.Omega.{arith}
use borrow.Author.Tests.{ltb-true, ltb-false}
use lib.Dec.{ltb}
use lib.ListN.{length, get_or}
use Rattle.meanings.specs.Lists.{pick, count, distance, Ordered}
use Rattle.meanings.specs.neighbours.Neighbours.{distances, inserted, sorted}

-- none of the list is below x
AllFrom : ℕ → List ℕ → Type 0
AllFrom x [] = Unit
AllFrom x (y ∷ ys) = (x ≤ y) × AllFrom x ys

-- none is below one before it
InOrder : List ℕ → Type 0
InOrder [] = Unit
InOrder (x ∷ xs) = AllFrom x xs × InOrder xs

from_lower : (x y : ℕ) → x ≤ y → (zs : List ℕ) → AllFrom y zs → AllFrom x zs
unfolding AllFrom
from_lower x y l [] a = tt
from_lower x y l (z ∷ zs) a = (le_trans l a.0, from_lower x y l zs a.1)

from_inserted : (x y : ℕ) → y ≤ x → (zs : List ℕ) → AllFrom y zs → AllFrom y (inserted x zs)
unfolding AllFrom
from_inserted x y l [] a = (l, tt)
from_inserted x y l (z ∷ zs) a = by (ltb z x) (from_inserted x y l zs a.1)
  where
    by : (b : Bool) → AllFrom y (inserted x zs) → AllFrom y (pick b (z ∷ inserted x zs) (x ∷ z ∷ zs))
    by true r = (a.0, r)
    by false r = (l, a)

inserted_in_order : (x : ℕ) (ys : List ℕ) → InOrder ys → InOrder (inserted x ys)
unfolding InOrder AllFrom
inserted_in_order x [] o = (tt, tt)
inserted_in_order x (y ∷ ys) o = by (ltb y x) refl (inserted_in_order x ys o.1)
  where
    by : (b : Bool) → ltb y x ≡ b → InOrder (inserted x ys) → InOrder (pick b (y ∷ inserted x ys) (x ∷ y ∷ ys))
    by true e r = (from_inserted x y (let l = ltb-true y x e in omega arith) ys o.0, r)
    by false e r = let l = ltb-false y x e in ((l, from_lower x y l ys o.0), o)

sorted_in_order : (xs : List ℕ) → InOrder (sorted xs)
unfolding InOrder
sorted_in_order [] = tt
sorted_in_order (x ∷ xs) = inserted_in_order x (sorted xs) (sorted_in_order xs)

from_at : (x : ℕ) (ys : List ℕ) → AllFrom x ys → (i : ℕ) → i < length ys → x ≤ get_or ys i 0
unfolding AllFrom
from_at x [] a i l = absurd (not-suc-le-zero l)
from_at x (y ∷ ys) a zero l = a.0
from_at x (y ∷ ys) a (suc i) l = from_at x ys a.1 i (le_of_suc-le-suc l)

in_order_ordered : (xs : List ℕ) → InOrder xs → Ordered xs
unfolding InOrder
in_order_ordered [] o i j a l = absurd (not-suc-le-zero l)
in_order_ordered (x ∷ xs) o zero zero a l = le_refl x
in_order_ordered (x ∷ xs) o zero (suc j) a l = from_at x xs o.0 j (le_of_suc-le-suc l)
in_order_ordered (x ∷ xs) o (suc i) zero a l = absurd (not-suc-le-zero a)
in_order_ordered (x ∷ xs) o (suc i) (suc j) a l = in_order_ordered xs o.1 i j (le_of_suc-le-suc a) (le_of_suc-le-suc l)

pub sorted_is_ordered : (xs : List ℕ) → Ordered (sorted xs)
sorted_is_ordered xs = in_order_ordered (sorted xs) (sorted_in_order xs)

-- each test counts the same
inserted_counts : (p : ℕ → Bool) (x : ℕ) (ys : List ℕ) → count p (inserted x ys) ≡ count p (x ∷ ys)
inserted_counts p x [] = refl
inserted_counts p x (y ∷ ys) = by (ltb y x) (p x) (p y) refl refl (inserted_counts p x ys)
  where
    by : (b u v : Bool) → p x ≡ u → p y ≡ v → count p (inserted x ys) ≡ count p (x ∷ ys)
        → count p (pick b (y ∷ inserted x ys) (x ∷ y ∷ ys)) ≡ count p (x ∷ y ∷ ys)
    by false u v d e r = refl
    by true true true d e r = rw (e, r, d)
    by true true false d e r = rw (e, r, d)
    by true false true d e r = rw (e, r, d)
    by true false false d e r = rw (e, r, d)

pub sorted_counts : (p : ℕ → Bool) (xs : List ℕ) → count p (sorted xs) ≡ count p xs
sorted_counts p [] = refl
sorted_counts p (x ∷ xs) = inserted_counts p x (sorted xs) ∙ ap (λ (n : ℕ). pick (p x) (suc n) n) (sorted_counts p xs)

inserted_length : (x : ℕ) (ys : List ℕ) → length (inserted x ys) ≡ suc (length ys)
inserted_length x [] = refl
inserted_length x (y ∷ ys) = by (ltb y x) (inserted_length x ys)
  where
    by : (b : Bool) → length (inserted x ys) ≡ suc (length ys) → length (pick b (y ∷ inserted x ys) (x ∷ y ∷ ys)) ≡ suc (suc (length ys))
    by true r = ap suc r
    by false r = refl

pub sorted_length : (xs : List ℕ) → length (sorted xs) ≡ length xs
sorted_length [] = refl
sorted_length (x ∷ xs) = inserted_length x (sorted xs) ∙ ap suc (sorted_length xs)

-- distances, as many as readings, counted by their readings
pub distances_length : (ts : List ℕ) (z : ℕ) → length (distances ts z) ≡ length ts
distances_length [] z = refl
distances_length (t ∷ ts) z = ap suc (distances_length ts z)

pub distances_count : (p : ℕ → Bool) (ts : List ℕ) (z : ℕ) → count p (distances ts z) ≡ count (λ t. p (distance t z)) ts
distances_count p [] z = refl
distances_count p (t ∷ ts) z = ap (λ (n : ℕ). pick (p (distance t z)) (suc n) n) (distances_count p ts z)

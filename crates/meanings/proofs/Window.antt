-- For ordered minutes the run is exactly the readings inside the closed window: a test that holds of all smaller minutes holds of a front
-- of an ordered list, so counting the elements that pass finds where the front ends. Left and right are two such counts.
use Prim.Native.Nat.{ℕ, zero, suc, ◌+◌, ◌≤◌, ◌<◌, zero-le, suc-le-suc}
use mathlib.Core.Path.{◌≡◌, refl, sym, ◌∙◌}
use mathlib.Core.Logic.{◌↔◌}
use mathlib.Core.Bool.{Bool, true, false, true≢false}
use mathlib.Core.List.{List, [], ◌∷◌}
use native.Mathlib.Nat.{not-suc-le-zero, le_of_suc-le-suc}
use native.Mathlib.Omega.{arith}
use borrow.Author.Tests.{ltb-true, lt-ltb, leb-true, le-leb}
use lib.Dec.{ltb, leb}
use lib.ListN.{length, get_or}
use Rattle.meanings.specs.Lists.{pick, count, Ordered}
use Rattle.meanings.specs.Estimate.{Inside, left_of, right_of}

-- the test holds of every number below one of which it holds
abbrev DownClosed : (ℕ → Bool) → Type 0
DownClosed p = (a b : ℕ) → a ≤ b → p b ≡ true → p a ≡ true

pub count_at_most_length : (p : ℕ → Bool) (xs : List ℕ) → count p xs ≤ length xs
count_at_most_length p [] = zero-le
count_at_most_length p (x ∷ xs) = by (p x) (count_at_most_length p xs)
  where
    by : (b : Bool) → count p xs ≤ length xs → pick b (suc (count p xs)) (count p xs) ≤ suc (length xs)
    by true h = suc-le-suc h
    by false h = omega arith

-- a test that passes wherever another does counts at least as many
pub count_grows : (p q : ℕ → Bool) → ((x : ℕ) → p x ≡ true → q x ≡ true) → (xs : List ℕ) → count p xs ≤ count q xs
count_grows p q f [] = zero-le
count_grows p q f (x ∷ xs) = by (p x) (q x) (f x) (count_grows p q f xs)
  where
    by : (a b : Bool) → (a ≡ true → b ≡ true) → count p xs ≤ count q xs
        → pick a (suc (count p xs)) (count p xs) ≤ pick b (suc (count q xs)) (count q xs)
    by true true g h = suc-le-suc h
    by true false g h = absurd (true≢false (sym (g refl)))
    by false true g h = omega arith
    by false false g h = h

count_none : (p : ℕ → Bool) (xs : List ℕ) → ((i : ℕ) → i < length xs → p (get_or xs i 0) ≡ false) → count p xs ≡ 0
count_none p [] f = refl
count_none p (x ∷ xs) f = rw (f 0 (suc-le-suc zero-le)) (count_none p xs (λ i l. f (suc i) (suc-le-suc l)))

tail_ordered : (x : ℕ) (xs : List ℕ) → Ordered (x ∷ xs) → Ordered xs
tail_ordered x xs o i j h l = o (suc i) (suc j) (suc-le-suc h) (suc-le-suc l)

-- position i stands before the count exactly if its element passes
pub front_is_counted : (p : ℕ → Bool) → DownClosed p → (xs : List ℕ) → Ordered xs → (i : ℕ) → i < length xs
    → (i < count p xs) ↔ (p (get_or xs i 0) ≡ true)
front_is_counted p d [] o i l = absurd (not-suc-le-zero l)
front_is_counted p d (x ∷ xs) o i l = by (p x) refl i l (front_is_counted p d xs (tail_ordered x xs o))
  where
    none_follow : p x ≡ false → (i : ℕ) → i < suc (length xs) → p (get_or (x ∷ xs) i 0) ≡ false
    none_follow e i l = fails (p (get_or (x ∷ xs) i 0)) refl
      where
        fails : (b : Bool) → p (get_or (x ∷ xs) i 0) ≡ b → b ≡ false
        fails true t = absurd (true≢false (sym (d x (get_or (x ∷ xs) i 0) (o 0 i zero-le l) t) ∙ e))
        fails false t = refl

    by : (b : Bool) → p x ≡ b → (i : ℕ) → i < suc (length xs)
        → ((j : ℕ) → j < length xs → (j < count p xs) ↔ (p (get_or xs j 0) ≡ true))
        → (i < pick b (suc (count p xs)) (count p xs)) ↔ (p (get_or (x ∷ xs) i 0) ≡ true)
    by true e zero l f = (λ h. e, λ h. suc-le-suc zero-le)
    by true e (suc i) l f =
        (λ h. (f i (le_of_suc-le-suc l)).0 (le_of_suc-le-suc h), λ h. suc-le-suc ((f i (le_of_suc-le-suc l)).1 h))
    by false e i l f = (
      λ h. absurd (not-suc-le-zero (rw (count_none p xs (λ j m. none_follow e (suc j) (suc-le-suc m))) at h)),
      λ h. absurd (true≢false (sym h ∙ none_follow e i l)),
    )

pub left_at_most_right : (ts : List ℕ) (z h : ℕ) → left_of ts z h ≤ right_of ts z h
unfolding left_of right_of
left_at_most_right ts z h =
    count_grows (λ t. ltb (t + h) z) (λ t. leb t (z + h)) (λ t e. le-leb t (z + h) (omega (arith, ltb-true (t + h) z e))) ts

pub right_at_most_length : (ts : List ℕ) (z h : ℕ) → right_of ts z h ≤ length ts
unfolding right_of
right_at_most_length ts z h = count_at_most_length (λ t. leb t (z + h)) ts

module _ (ts : List ℕ) (z h : ℕ) (o : Ordered ts) (i : ℕ) (l : i < length ts) where
  -- left passes the readings below the window
  pub before_left : (i < left_of ts z h) ↔ (get_or ts i 0 + h < z)
  unfolding left_of
  before_left = (λ m. ltb-true _ z (counted.0 m), λ m. counted.1 (lt-ltb _ z m))
    where
      counted : (i < left_of ts z h) ↔ (ltb (get_or ts i 0 + h) z ≡ true)
      counted = front_is_counted (λ t. ltb (t + h) z) (λ a b m e. lt-ltb (a + h) z (omega (arith, ltb-true (b + h) z e))) ts o i l

  -- right passes those below it and inside it
  pub before_right : (i < right_of ts z h) ↔ (get_or ts i 0 ≤ z + h)
  unfolding right_of
  before_right = (λ m. leb-true _ (z + h) (counted.0 m), λ m. counted.1 (le-leb _ (z + h) m))
    where
      counted : (i < right_of ts z h) ↔ (leb (get_or ts i 0) (z + h) ≡ true)
      counted = front_is_counted (λ t. leb t (z + h)) (λ a b m e. le-leb a (z + h) (omega (arith, leb-true b (z + h) e))) ts o i l

  -- the run is exactly the readings inside the closed window
  pub run_is_inside : ((left_of ts z h ≤ i) × (i < right_of ts z h)) ↔ Inside z h (get_or ts i 0)
  run_is_inside = (
    λ w. (not_above (λ m. omega (arith, before_left.1 m)), before_right.0 w.1),
    λ w. (not_above (λ m. omega (arith, before_left.0 m)), before_right.1 w.1),
  )
    where
      not_above : {a b : ℕ} → ¬ (a < b) → b ≤ a
      not_above n = omega arith

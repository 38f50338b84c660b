-- Halving, a turn at a time. More turns than there are positions change nothing, and among ordered minutes the place is the first that is at least
-- the bound.
use Prim.Native.Nat.{ℕ, zero, suc, ◌+◌, ◌-◌, ◌/◌, ◌≤◌, ◌<◌}
use mathlib.Core.Path.{◌≡◌, refl, sym, ◌∙◌}
use mathlib.Core.List.{List, [], ◌∷◌}
use native.Mathlib.Decide.{dec_lt}
use native.Mathlib.Nat.{le_refl}
use native.Mathlib.Omega.{arith}
use borrow.Author.Tests.{lt-ltb, le-ltb}
use lib.ListN.{length, get_or}
use Rattle.meanings.specs.Lists.{Ordered}
use Rattle.arithmetic.specs.Positions.{if_below, position_left, halving_place, FirstAtLeast}

-- the position that halving of the whole list leaves
abbrev left_of_all : List ℕ → ℕ → ℕ
left_of_all ts m = position_left ts m (length ts) 0 (length ts)

-- of k positions from a on halving leaves the one that it leaves of the whole list
pub record HalvedTo (ts : List ℕ) (m a k : ℕ) : Type 0 where
  pub some : 0 < k
  pub few : a + k ≤ length ts
  pub left : position_left ts m k a k ≡ left_of_all ts m

-- of ordered minutes those before a are below m, and none from a + k on
record IsParted (ts : List ℕ) (m a k : ℕ) : Type 0 where
  some : 0 < k
  few : a + k ≤ length ts
  below : Ordered ts → (i : ℕ) → i < a → get_or ts i 0 < m
  rest : Ordered ts → (i : ℕ) → a + k ≤ i → i < length ts → m ≤ get_or ts i 0

module _ (ts : List ℕ) (m : ℕ) where
  pass : (i b a : ℕ) → get_or ts i 0 < m → if_below ts m i b a ≡ b
  pass i b a t = rw (lt-ltb (get_or ts i 0) m t) refl

  stay : (i b a : ℕ) → m ≤ get_or ts i 0 → if_below ts m i b a ≡ a
  stay i b a t = rw (le-ltb (get_or ts i 0) m t) refl

  ended : (n a k : ℕ) → k ≤ 1 → position_left ts m n a k ≡ a
  unfolding position_left
  ended zero a k l = refl
  ended (suc n) a k l = rw (le-ltb 1 k l) refl

  turn : (n a k : ℕ) → 1 < k → position_left ts m (suc n) a k ≡ position_left ts m n (if_below ts m (a + k / 2) (a + k / 2) a) (k - k / 2)
  unfolding position_left
  turn n a k l = rw (lt-ltb 1 k l) refl

  enough : (n j a k : ℕ) → k ≤ n → k ≤ j → position_left ts m n a k ≡ position_left ts m j a k
  enough zero j a k p q = ended zero a k (omega arith) ∙ sym (ended j a k (omega arith))
  enough (suc n) zero a k p q = ended (suc n) a k (omega arith) ∙ sym (ended zero a k (omega arith))
  enough (suc n) (suc j) a k p q = by (dec_lt 1 k) (enough n j (if_below ts m (a + k / 2) (a + k / 2) a) (k - k / 2))
    where
      next : ℕ
      next = if_below ts m (a + k / 2) (a + k / 2) a

      by : Dec (1 < k) → (k - k / 2 ≤ n → k - k / 2 ≤ j → position_left ts m n next (k - k / 2) ≡ position_left ts m j next (k - k / 2))
          → position_left ts m (suc n) a k ≡ position_left ts m (suc j) a k
      by (no g) f = ended (suc n) a k (omega arith) ∙ sym (ended (suc j) a k (omega arith))
      by (yes l) f = turn n a k l ∙ f (omega arith) (omega arith) ∙ sym (turn j a k l)

  one_turn : (a k : ℕ) → 1 < k → position_left ts m k a k ≡ position_left ts m (k - k / 2) (if_below ts m (a + k / 2) (a + k / 2) a) (k - k / 2)
  one_turn a k l = enough k (suc k) a k (omega arith) (omega arith) ∙ turn k a k l ∙ enough k (k - k / 2) _ (k - k / 2) (omega arith) (omega arith)

  -- among ordered minutes what is told of the one that is looked at holds of all on its side
  parted_on : (a k : ℕ) → 1 < k → IsParted ts m a k → IsParted ts m (if_below ts m (a + k / 2) (a + k / 2) a) (k - k / 2)
  parted_on a k l p = by (dec_lt (get_or ts (a + k / 2) 0) m)
    where
      by : Dec (get_or ts (a + k / 2) 0 < m) → IsParted ts m (if_below ts m (a + k / 2) (a + k / 2) a) (k - k / 2)
      by (yes t) = rw (pass (a + k / 2) (a + k / 2) a t) (record {
        some = omega arith;
        few = omega (arith, p.few);
        below = λ o i j. omega (arith, o i (a + k / 2) (omega arith) (omega (arith, p.few)));
        rest = λ o i j n. p.rest o i (omega arith) n;
      })
      by (no t) = rw (stay (a + k / 2) (a + k / 2) a (omega arith)) (record {
        some = omega arith;
        few = omega (arith, p.few);
        below = p.below;
        rest = λ o i j n. omega (arith, o (a + k / 2) i (omega arith) n);
      })

  parted_to_one : (n a k : ℕ) → k ≤ n → IsParted ts m a k → IsParted ts m (position_left ts m n a k) 1
  parted_to_one zero a k q p = absurd (omega (arith, p.some))
  parted_to_one (suc n) a k q p = by (dec_lt 1 k) (parted_to_one n (if_below ts m (a + k / 2) (a + k / 2) a) (k - k / 2))
    where
      next : ℕ
      next = if_below ts m (a + k / 2) (a + k / 2) a

      one : ¬ (1 < k) → k ≡ 1
      one g = omega (arith, p.some)

      by : Dec (1 < k) → (k - k / 2 ≤ n → IsParted ts m next (k - k / 2) → IsParted ts m (position_left ts m n next (k - k / 2)) 1)
          → IsParted ts m (position_left ts m (suc n) a k) 1
      by (no g) f = rw (ended (suc n) a k (omega arith)) (rw (one g) at p)
      by (yes l) f = rw (turn n a k l) (f (omega arith) (parted_on a k l p))

  after_one : (a : ℕ) → IsParted ts m a 1 → FirstAtLeast ts m (if_below ts m a (a + 1) a)
  after_one a p = by (dec_lt (get_or ts a 0) m)
    where
      by : Dec (get_or ts a 0 < m) → FirstAtLeast ts m (if_below ts m a (a + 1) a)
      by (yes t) = rw (pass a (a + 1) a t) (record {
        within = p.few;
        below = λ o i j. omega (arith, o i a (omega arith) (omega (arith, p.few)));
        rest = p.rest;
      })
      by (no t) = rw (stay a (a + 1) a (omega arith)) (record {
        within = omega (arith, p.few);
        below = p.below;
        rest = λ o i j n. omega (arith, o a i j n);
      })

pub halving_finds : (ts : List ℕ) (m : ℕ) → FirstAtLeast ts m (halving_place ts m)
unfolding halving_place
halving_finds [] m = record { within = omega arith; below = λ o i l. absurd (omega arith); rest = λ o i g l. absurd (omega arith) }
halving_finds (t ∷ ts) m = after_one (t ∷ ts) m _ (parted_to_one (t ∷ ts) m (length (t ∷ ts)) 0 (length (t ∷ ts)) (le_refl _) (record {
  some = omega arith;
  few = omega arith;
  below = λ o i l. absurd (omega arith);
  rest = λ o i g l. absurd (omega arith);
}))

pub none_found : (ts : List ℕ) (m : ℕ) → length ts ≡ 0 → 0 ≡ halving_place ts m
unfolding halving_place
none_found [] m e = refl
none_found (t ∷ ts) m e = absurd (omega arith)

some_found : (ts : List ℕ) (m : ℕ) → 0 < length ts → halving_place ts m ≡ if_below ts m (left_of_all ts m) (left_of_all ts m + 1) (left_of_all ts m)
unfolding halving_place
some_found [] m l = absurd (omega arith)
some_found (t ∷ ts) m l = refl

pub first_of_none : (ts : List ℕ) (m : ℕ) → length ts ≡ 0 → FirstAtLeast ts m 0
first_of_none ts m e = rw (none_found ts m e) (halving_finds ts m)

pub halving_begins : (ts : List ℕ) (m : ℕ) → ¬ (length ts ≡ 0) → HalvedTo ts m 0 (length ts)
halving_begins ts m n = record { some = omega arith; few = omega arith; left = refl }

module _ {ts : List ℕ} {m a k : ℕ} (h : HalvedTo ts m a k) where
  pub goes_on_after : 1 < k → get_or ts (a + k / 2) 0 < m → HalvedTo ts m (a + k / 2) (k - k / 2)
  goes_on_after l t = record {
    some = omega arith;
    few = omega (arith, h.few);
    left = sym (one_turn ts m a k l ∙ (rw (pass ts m (a + k / 2) (a + k / 2) a t) refl)) ∙ h.left;
  }

  pub goes_on_before : 1 < k → ¬ (get_or ts (a + k / 2) 0 < m) → HalvedTo ts m a (k - k / 2)
  goes_on_before l t = record {
    some = omega arith;
    few = omega (arith, h.few);
    left = sym (one_turn ts m a k l ∙ (rw (stay ts m (a + k / 2) (a + k / 2) a (omega arith)) refl)) ∙ h.left;
  }

  one_left : ¬ (1 < k) → a ≡ left_of_all ts m
  one_left g = sym (ended ts m k a k (omega arith)) ∙ h.left

  place : ¬ (1 < k) → halving_place ts m ≡ if_below ts m a (a + 1) a
  place g = rw (one_left g) (some_found ts m (omega (arith, h.some, h.few)))

  pub ends_after : ¬ (1 < k) → get_or ts a 0 < m → a + 1 ≡ halving_place ts m
  ends_after g t = sym (place g ∙ pass ts m a (a + 1) a t)

  pub ends_at : ¬ (1 < k) → ¬ (get_or ts a 0 < m) → a ≡ halving_place ts m
  ends_at g t = sym (place g ∙ stay ts m a (a + 1) a (omega arith))

  pub first_after : ¬ (1 < k) → get_or ts a 0 < m → FirstAtLeast ts m (a + 1)
  first_after g t = rw (ends_after g t) (halving_finds ts m)

  pub first_at : ¬ (1 < k) → ¬ (get_or ts a 0 < m) → FirstAtLeast ts m a
  first_at g t = rw (ends_at g t) (halving_finds ts m)

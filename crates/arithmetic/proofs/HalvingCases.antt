-- The place that halving finds among minutes that do not rise, told from other places that one may take for it: among ordered minutes each of them is
-- the same.
use Prim.Native.Nat.{ℕ, ◌<◌}
use mathlib.Core.Path.{◌≡◌, refl}
use mathlib.Core.List.{List, [], ◌∷◌}
use native.Mathlib.Omega.{arith}
use lib.Dec.{ltb, leb}
use lib.ListN.{length, get_or}
use Rattle.meanings.specs.Lists.{count, first}
use Rattle.arithmetic.specs.Positions.{position_left, halving_place}

pub among_none : halving_place [] 5 ≡ 0
unfolding halving_place
among_none = refl

-- position 1 is looked at, its minute is below 5, and it is left, so the place is after it. A look at position 0 would give the place 0
pub after_the_last : halving_place (9 ∷ 1 ∷ []) 5 ≡ 2
unfolding halving_place position_left
after_the_last = refl

-- position 1 is looked at twice, and position 0 is left. The last minute below 5 is never looked at: a search from the end would give 3
pub after_the_first : halving_place (1 ∷ 9 ∷ 2 ∷ []) 5 ≡ 1
unfolding halving_place position_left
after_the_first = refl

-- position 2 is looked at and stays, then 3 is looked at. If 2 did not stay, the second look would be at 4, and the place would be 5
pub the_middle_stays : halving_place (1 ∷ 1 ∷ 1 ∷ 9 ∷ 1 ∷ []) 5 ≡ 3
unfolding halving_place position_left
the_middle_stays = refl

-- a minute equal to the bound is not below it, so position 0 is left. If it were passed, the place would be 3
pub before_an_equal_minute : halving_place (9 ∷ 7 ∷ 1 ∷ []) 7 ≡ 0
unfolding halving_place position_left
before_an_equal_minute = refl

-- the first of all positions whose minute is at least the bound
pub no_first_of_all : ¬ ((ts : List ℕ) (m : ℕ) → halving_place ts m ≡ first (λ i. leb m (get_or ts i 0)) 0 (length ts))
unfolding halving_place position_left
no_first_of_all f = let e : ◌≡◌ {A = ℕ} 2 0 = f (9 ∷ 1 ∷ []) 5 in omega arith

-- how many minutes are below the bound
pub no_count_of_those_below : ¬ ((ts : List ℕ) (m : ℕ) → halving_place ts m ≡ count (λ t. ltb t m) ts)
unfolding halving_place position_left
no_count_of_those_below f = let e : ◌≡◌ {A = ℕ} 2 1 = f (9 ∷ 1 ∷ []) 5 in omega arith

-- the place 0 wherever the second minute is below the first
pub no_zero_after_a_fall : ¬ ((t u : ℕ) (ts : List ℕ) (m : ℕ) → u < t → halving_place (t ∷ u ∷ ts) m ≡ 0)
unfolding halving_place position_left
no_zero_after_a_fall f = let e : ◌≡◌ {A = ℕ} 2 0 = f 9 1 [] 5 (omega arith) in omega arith

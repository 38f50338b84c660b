-- Words for lists of numbers that the meanings are written with: choosing, counting, searching, adding up, order.
use Rattle.std.specs.Prelude.{ℕ, zero, suc, ◌+◌, ◌-◌, ◌≤◌, ◌<◌, Bool, true, false, List, [], ◌∷◌, ltb, length, get_or, Option, None, Some}

-- a where the test is true, else b
abbrev pub pick : {A : Type 0} → Bool → A → A → A
pick true a b = a
pick false a b = b

-- how many elements pass the test
abbrev pub count : (ℕ → Bool) → List ℕ → ℕ
count p [] = 0
count p (x ∷ xs) = pick (p x) (suc (count p xs)) (count p xs)

-- the first of the n positions from i on at which the test is true, else i + n
abbrev pub first : (ℕ → Bool) → ℕ → ℕ → ℕ
first p i zero = i
first p i (suc n) = pick (p i) i (first p (suc i) n)

-- the lowest of the positions 0 to n - 1 at which the test is true, if there is one
abbrev pub lowest : (ℕ → Bool) → ℕ → Option ℕ
lowest p n = pick (ltb (first p 0 n) n) (Some (first p 0 n)) None

-- g a + g (a + 1) + .. , n terms
abbrev pub total : (ℕ → ℕ) → ℕ → ℕ → ℕ
total g a zero = 0
total g a (suc n) = total g a n + g (a + n)

-- the distance between two numbers
unfoldable pub distance : ℕ → ℕ → ℕ
distance a b = (a - b) + (b - a)

-- the elements never fall from one to the next
abbrev pub Ordered : List ℕ → Type 0
Ordered xs = (i j : ℕ) → i ≤ j → j < length xs → get_or xs i 0 ≤ get_or xs j 0

-- every element is at most m
abbrev pub AtMost : ℕ → List ℕ → Type 0
AtMost m xs = (i : ℕ) → i < length xs → get_or xs i 0 ≤ m

-- each element is above the one before, the first above low, and none is above high
pub record Rising (low high : ℕ) (xs : List ℕ) : Type 0 where
  pub above : (i : ℕ) → i < length xs → low < get_or xs i 0
  pub below : (i : ℕ) → i < length xs → get_or xs i 0 ≤ high
  pub steps : (i : ℕ) → suc i < length xs → get_or xs i 0 < get_or xs (suc i) 0

-- Readings with any weights: position i of n has the weight w i and the value v i. The lowest and the highest value of those with a weight
-- above zero, and a number between both. The theorem is `mean_among` of proofs/Weighted.antt: the rounded quotient of the total of weight times
-- value by the total of the weights is such a number.
use Rattle.std.specs.Prelude.{ℕ, ◌≤◌, ◌<◌, ◌≡◌}

-- a reading with a weight above zero
pub record Weighs (w : ℕ → ℕ) (n i : ℕ) : Type 0 where
  pub within : i < n
  pub above_zero : 0 < w i

-- such a reading has the value x, and each of them one beyond it or equal, as R says
pub record Extreme (R : ℕ → ℕ → Type 0) (w v : ℕ → ℕ) (n x : ℕ) : Type 0 where
  pub position : ℕ
  pub weighs : Weighs w n position
  pub reached : v position ≡ x
  pub each : (i : ℕ) → Weighs w n i → R x (v i)

abbrev pub Lowest : (ℕ → ℕ) → (ℕ → ℕ) → ℕ → ℕ → Type 0
Lowest w v n x = Extreme (λ a b. a ≤ b) w v n x

abbrev pub Highest : (ℕ → ℕ) → (ℕ → ℕ) → ℕ → ℕ → Type 0
Highest w v n x = Extreme (λ a b. b ≤ a) w v n x

pub record Between (w v : ℕ → ℕ) (n x : ℕ) : Type 0 where
  pub low : ℕ
  pub high : ℕ
  pub lowest : Lowest w v n low
  pub highest : Highest w v n high
  pub at_least : low ≤ x
  pub at_most : x ≤ high

-- What holds of a row over ranges, whatever the values are: they lie in their ranges, and no more is known of them.
use Rattle.std.specs.Prelude.{ℕ, ◌≤◌, ◌<◌, ◌≡◌, ◌↔◌, List, length, get_or}
use Rattle.meanings.specs.declared.Estimate.{Estimate}
use Rattle.meanings.specs.Estimate.{missing}
use Rattle.meanings.specs.declared.ranges.RangeEstimate.{RangeEstimate}

-- vs are values in their ranges: one for each, at least the lowest and at most the highest
pub record Choice (ls us vs : List ℕ) : Type 0 where
  pub lows : length ls ≡ length vs
  pub highs : length us ≡ length vs
  pub at_least : (i : ℕ) → i < length vs → get_or ls i 0 ≤ get_or vs i 0
  pub at_most : (i : ℕ) → i < length vs → get_or vs i 0 ≤ get_or us i 0

-- the plain row e lies within the row r over ranges
pub record LiesWithin (e : Estimate) (r : RangeEstimate) : Type 0 where
  pub left : e.left ≡ r.left
  pub right : e.right ≡ r.right
  pub weight : e.weight ≡ r.weight
  pub sum_at_least : r.sum.low ≤ e.sum
  pub sum_at_most : e.sum ≤ r.sum.high
  pub value_at_least : r.value.low ≤ e.value
  pub value_at_most : e.value ≤ r.value.high

-- and its value is missing exactly where both of those are
pub record MissingTogether (e : Estimate) (r : RangeEstimate) : Type 0 where
  pub low : (e.value ≡ missing) ↔ (r.value.low ≡ missing)
  pub high : (e.value ≡ missing) ↔ (r.value.high ≡ missing)

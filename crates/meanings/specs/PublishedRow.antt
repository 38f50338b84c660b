-- What makes five numbers the published row of an evaluation point z with bandwidth h: the window's edges, and weight and sum as the
-- estimators of the paper of SPECIFICATION 2.10 have them, constant factors apart. At most one row is published; the law one_published_row says so.
use Rattle.std.specs.Prelude.{ℕ, ◌+◌, ◌-◌, ◌*◌, ◌%◌, ◌^◌, ◌≤◌, ◌<◌, ◌≡◌, ◌↔◌, List, length, get_or}
use Rattle.meanings.specs.declared.Estimate.{Estimate}
use Rattle.meanings.specs.Estimate.{Inside, missing}
use Rattle.meanings.specs.Published.{Fraction, ◌⊕◌, ◌≈◌, density, regression_above, regression_below, regression, range_sum}

-- v is s / w to the nearest whole number, a half to the even neighbour: v − 1/2 ≤ s / w ≤ v + 1/2, and where s / w is one of the two ends,
-- another whole number is as near, and v is even
pub record Nearest (s w v : ℕ) : Type 0 where
  pub low : 2 * (v * w) ≤ 2 * s + w
  pub high : 2 * s ≤ 2 * (v * w) + w
  pub low_even : 2 * (v * w) ≡ 2 * s + w → v % 2 ≡ 0
  pub high_even : 2 * s ≡ 2 * (v * w) + w → v % 2 ≡ 0

-- 3 n / (4 h³): what the estimators of bandwidth h make of a whole number n of weight
abbrev pub scaled : ℕ → ℕ → Fraction
scaled h n = record { num = 3 * n; den = 4 * (h * h * h) }

pub record PublishedRow (ts vs : List ℕ) (z h : ℕ) (e : Estimate) : Type 0 where
  -- left: a position lies before it exactly if its minute lies before the window
  pub left_is : (i : ℕ) → i < length ts → (i < e.left) ↔ (get_or ts i 0 + h < z)
  -- right: a position lies before it exactly if its minute does not lie behind the window
  pub right_is : (i : ℕ) → i < length ts → (i < e.right) ↔ (get_or ts i 0 ≤ z + h)
  pub left_right : e.left ≤ e.right
  pub right_length : e.right ≤ length ts
  -- so the run is exactly the readings inside the closed window
  pub run_is : (i : ℕ) → i < length ts → ((e.left ≤ i) × (i < e.right)) ↔ Inside z h (get_or ts i 0)
  -- equation (1): the density is 3 weight / (4 N h³)
  pub density_is : 0 < length ts → density ts z h ≈ record { num = 3 * e.weight; den = 4 * length ts * (h * h * h) }
  -- equation (2): its numerator is 3 sum / (4 h³) and its denominator 3 weight / (4 h³), whatever the weight
  pub above_is : regression_above ts vs z h ≈ scaled h e.sum
  pub below_is : regression_below ts z h ≈ scaled h e.weight
  -- equation (2): where the weight is above 0 the regression is sum / weight
  pub regression_is : 0 < e.weight → regression ts vs z h ≈ record { num = e.sum; den = e.weight }
  -- equation (5), over the sums of equation (6), its negative terms moved across: the estimators' numerator and denominator
  pub above_by_sums : regression_above ts vs z h ⊕ scaled h (z * z * range_sum 0 1 ts vs z h + range_sum 2 1 ts vs z h)
      ≈ scaled h (h * h * range_sum 0 1 ts vs z h + 2 * z * range_sum 1 1 ts vs z h)
  pub below_by_sums : regression_below ts z h ⊕ scaled h (z * z * range_sum 0 0 ts vs z h + range_sum 2 0 ts vs z h)
      ≈ scaled h (h * h * range_sum 0 0 ts vs z h + 2 * z * range_sum 1 0 ts vs z h)
  -- and so sum and weight
  pub sum_by_sums : e.sum + z * z * range_sum 0 1 ts vs z h + range_sum 2 1 ts vs z h
      ≡ h * h * range_sum 0 1 ts vs z h + 2 * z * range_sum 1 1 ts vs z h
  pub weight_by_sums : e.weight + z * z * range_sum 0 0 ts vs z h + range_sum 2 0 ts vs z h
      ≡ h * h * range_sum 0 0 ts vs z h + 2 * z * range_sum 1 0 ts vs z h
  -- the value is sum / weight to the nearest whole number, a half to the even neighbour, and missing exactly if the weight is 0
  pub value_is : 0 < e.weight → Nearest e.sum e.weight e.value
  pub value_missing : (e.value ≡ missing) ↔ (e.weight ≡ 0)
  -- both fit their 64 bits
  pub weight_fits : e.weight ≤ 2 ^ 42
  pub sum_fits : e.sum ≤ 2 ^ 58 - 2 ^ 42

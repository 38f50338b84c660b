-- What makes five numbers the published biweight row of an evaluation point z with bandwidth h: the window's edges, and weight and sum as the
-- estimators with the biweight kernel have them. At most one row is; the law one_published_row says so.
use Rattle.std.specs.Prelude.{ℕ, ◌+◌, ◌≤◌, ◌<◌, ◌≡◌, ◌↔◌, List, length, get_or}
use Rattle.meanings.specs.declared.Estimate.{Estimate}
use Rattle.meanings.specs.Estimate.{Inside, missing}
use Rattle.meanings.specs.PublishedRow.{Nearest}
use Rattle.laws.specs.biweight.BetaKernels.{over, biweight_shape, Estimators}

pub record PublishedBiweight (ts vs : List ℕ) (z h : ℕ) (e : Estimate) : Type 0 where
  -- left: a position lies before it exactly if its minute lies before the window; right: exactly if its minute does not lie behind it
  pub left_is : (i : ℕ) → i < length ts → (i < e.left) ↔ (get_or ts i 0 + h < z)
  pub right_is : (i : ℕ) → i < length ts → (i < e.right) ↔ (get_or ts i 0 ≤ z + h)
  pub left_right : e.left ≤ e.right
  pub right_length : e.right ≤ length ts
  -- so the run is exactly the readings inside the closed window
  pub run_is : (i : ℕ) → i < length ts → ((e.left ≤ i) × (i < e.right)) ↔ Inside z h (get_or ts i 0)
  -- the density is 15 weight / (16 N h⁵), the regression sum / weight, its denominator 0 exactly if the weight is
  pub estimators : Estimators biweight_shape (over 15 16) 2 ts vs z h e.weight e.sum
  -- the value is sum / weight to the nearest whole number, a half to the even neighbour, and missing exactly if the weight is 0
  pub value_is : 0 < e.weight → Nearest e.sum e.weight e.value
  pub value_missing : (e.value ≡ missing) ↔ (e.weight ≡ 0)
  pub sum_with_weight : e.weight ≡ 0 → e.sum ≡ 0

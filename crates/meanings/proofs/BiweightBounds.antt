-- No accepted input overflows: each of at most 1,024 readings adds at most 720⁴ to the weight, and at most 65,535 times that to the sum, which
-- stays below 2^64. So the sum is at most 65,535 times the weight, a present value is at most 65,535, and 65,536 is free to mean missing.
use Prim.Native.Nat.{ℕ, ◌+◌, ◌-◌, ◌*◌, ◌^◌, ◌≤◌, ◌<◌}
use mathlib.Core.Path.{◌≡◌}
use mathlib.Core.Logic.{◌↔◌}
use mathlib.Core.List.{List}
use native.Mathlib.Nat.{le_trans, mul-le-mul, mul-le-mul_left, sub-eq-zero_of_le}
use native.Mathlib.Decide.{ℕ_discrete, dec_lt}
use native.Mathlib.Omega.{arith}
use lib.ListN.{length, get_or}
use Rattle.meanings.specs.Lists.{total, AtMost}
use Rattle.meanings.specs.Limits.{max_u16, full}
use Rattle.meanings.specs.Estimate.{left_of, right_of, value_of, missing}
use Rattle.meanings.proofs.Bounds.{total_at_most, total_at_most_times}
use Rattle.meanings.proofs.Rounding.{rounded_at_most, value_present, value_missing}
use Rattle.meanings.proofs.Window.{right_at_most_length}
use Rattle.meanings.specs.biweight.Biweight.{biweight_bandwidth, biweight_at, biweight_kernel, biweight_weight, biweight_sum, biweight_row}

-- the weight at a distance is that at distance 0 at most, and above 0 exactly below the half width
pub biweight_at_most : (h u : ℕ) → biweight_at h u ≤ h * h * (h * h)
unfolding biweight_at
biweight_at_most h u = let m : h * h - u * u ≤ h * h = omega arith in mul-le-mul m m

pub weighs_near : (h u : ℕ) → (0 < biweight_at h u) ↔ (u < h)
unfolding biweight_at
weighs_near h u = (λ p. by p (dec_lt u h), near)
  where
    by : 0 < (h * h - u * u) * (h * h - u * u) → Dec (u < h) → u < h
    by p (yes l) = l
    by p (no l) =
        let g : h ≤ u = omega arith in
        let z : h * h - u * u ≡ 0 = sub-eq-zero_of_le (mul-le-mul g g) in
        absurd (let q : 0 < 0 = rw z at p in omega arith)

    near : u < h → 0 < (h * h - u * u) * (h * h - u * u)
    near l =
        let s = mul-le-mul l l in
        let k : 1 ≤ h * h - u * u = omega arith in
        let m = mul-le-mul k k in
        omega arith

-- the greatest weight of a row, and the greatest sum
pub record Bounds (ts vs : List ℕ) (z : ℕ) : Type 0 where
  pub weight : biweight_weight ts z biweight_bandwidth ≤ 275188285440000
  pub sum : biweight_sum ts vs z biweight_bandwidth ≤ 18034464286310400000
  pub sum_fits : biweight_sum ts vs z biweight_bandwidth < 2 ^ 64

-- at most 1,024 terms of at most 720⁴
pub few_weights : (g : ℕ → ℕ) (a n : ℕ) → n ≤ 1024 → ((i : ℕ) → i < n → g (a + i) ≤ 268738560000) → total g a n ≤ 275188285440000
few_weights g a n few each = le_trans (total_at_most g 268738560000 a n each) (omega arith)

module _ (ts vs : List ℕ) (z h : ℕ) where
  -- every value is at most 65,535, and so is their weighted mean
  pub sum_at_most_times : length ts ≡ length vs → AtMost max_u16 vs → biweight_sum ts vs z h ≤ biweight_weight ts z h * max_u16
  unfolding biweight_weight biweight_sum
  sum_at_most_times e m =
      total_at_most_times (λ i. biweight_kernel z h (get_or ts i 0) * get_or vs i 0) (λ i. biweight_kernel z h (get_or ts i 0)) max_u16
      (left_of ts z h) _
      (λ i (l : i < right_of ts z h - left_of ts z h).
      mul-le-mul_left (biweight_kernel z h (get_or ts (left_of ts z h + i) 0)) (m (left_of ts z h + i) (let r = right_at_most_length ts z h in omega arith)))

  pub value_bound : length ts ≡ length vs → AtMost max_u16 vs → 0 < biweight_weight ts z h
      → value_of (biweight_sum ts vs z h) (biweight_weight ts z h) ≤ max_u16
  value_bound e m p = rw (value_present _ _ p) (rounded_at_most _ _ max_u16 p (sum_at_most_times e m))

  -- the value is missing exactly if the weight is 0
  pub missing_exactly : length ts ≡ length vs → AtMost max_u16 vs → ((biweight_row ts vs z h).value ≡ missing) ↔ (biweight_weight ts z h ≡ 0)
  unfolding biweight_row
  missing_exactly even m = (λ e. by (ℕ_discrete (biweight_weight ts z h) 0) e, λ e. rw e (value_missing _))
    where
      by : Dec (biweight_weight ts z h ≡ 0) → value_of (biweight_sum ts vs z h) (biweight_weight ts z h) ≡ missing → biweight_weight ts z h ≡ 0
      by (yes q) e = q
      by (no q) e = let v = value_bound even m (omega arith) in omega arith

  -- and then the sum is 0 too
  pub missing_alone : length ts ≡ length vs → AtMost max_u16 vs → biweight_weight ts z h ≡ 0 → biweight_sum ts vs z h ≡ 0
  missing_alone even m e = let s = sum_at_most_times even m in omega arith

pub bounds : (ts vs : List ℕ) (z : ℕ) → length ts ≡ length vs → length ts ≤ full.samples → AtMost max_u16 vs → Bounds ts vs z
unfolding biweight_weight
bounds ts vs z even few m =
    let w = few_weights (λ i. biweight_kernel z biweight_bandwidth (get_or ts i 0)) (left_of ts z biweight_bandwidth)
    (right_of ts z biweight_bandwidth - left_of ts z biweight_bandwidth)
    (let r = right_at_most_length ts z biweight_bandwidth in omega arith) (λ i l. biweight_at_most biweight_bandwidth _) in
    let s = sum_at_most_times ts vs z biweight_bandwidth even m in
    record { weight = w; sum = omega arith; sum_fits = omega arith }

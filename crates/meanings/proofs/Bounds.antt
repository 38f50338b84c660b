-- No accepted input overflows: each of at most 1,024 readings adds at most h² ≤ 2^32 to the weight, and at most 65,535 times that to the
-- sum. So the sum is at most 65,535 times the weight, a present value is at most 65,535, and 65,536 is free to mean missing.
use Prim.Native.Nat.{ℕ, zero, suc, ◌+◌, ◌-◌, ◌*◌, ◌^◌, ◌≤◌, ◌<◌, zero-le}
use mathlib.Core.Path.{◌≡◌}
use mathlib.Core.Logic.{◌↔◌}
use mathlib.Core.List.{List}
use native.Mathlib.Nat.{le_trans, mul-le-mul, mul-le-mul_left}
use native.Mathlib.Decide.{ℕ_discrete}
use native.Mathlib.Omega.{arith}
use lib.ListN.{length, get_or}
use Rattle.meanings.specs.Lists.{total, AtMost}
use Rattle.meanings.specs.Limits.{max_u16, max_bandwidth, full}
use Rattle.meanings.specs.Estimate.{kernel, left_of, right_of, weight_of, sum_of, value_of, estimate, missing, WithinLimits}
use Rattle.meanings.proofs.Kernel.{kernel_at_most}
use Rattle.meanings.proofs.Rounding.{rounded_at_most, value_present, value_missing}
use Rattle.meanings.proofs.Window.{right_at_most_length}

pub total_at_most : (g : ℕ → ℕ) (m a n : ℕ) → ((i : ℕ) → i < n → g (a + i) ≤ m) → total g a n ≤ n * m
total_at_most g m a zero k = zero-le
total_at_most g m a (suc n) k = omega (arith, total_at_most g m a n (λ i l. k i (omega arith)), k n (omega arith))

-- terms of at most m times other terms
pub total_at_most_times : (g f : ℕ → ℕ) (m a n : ℕ) → ((i : ℕ) → i < n → g (a + i) ≤ f (a + i) * m) → total g a n ≤ total f a n * m
total_at_most_times g f m a zero k = zero-le
total_at_most_times g f m a (suc n) k = omega (arith, total_at_most_times g f m a n (λ i l. k i (omega arith)), k n (omega arith))

module _ (ts vs : List ℕ) (z h : ℕ) where
  pub weight_bound : length ts ≤ full.samples → h ≤ max_bandwidth → weight_of ts z h ≤ 2 ^ 42
  unfolding weight_of
  weight_bound few b =
      le_trans (total_at_most (λ i. kernel z h (get_or ts i 0)) (h * h) _ _ (λ i l. kernel_at_most z h (get_or ts (left_of ts z h + i) 0)))
      (le_trans (mul-le-mul (run_at_most) (mul-le-mul b b)) (omega arith))
    where
      run_at_most : right_of ts z h - left_of ts z h ≤ full.samples
      run_at_most = let r = right_at_most_length ts z h in omega arith

  -- every value is at most 65,535, and so is their weighted mean
  pub sum_at_most_times : length ts ≡ length vs → AtMost max_u16 vs → sum_of ts vs z h ≤ weight_of ts z h * max_u16
  unfolding weight_of sum_of
  sum_at_most_times e m =
      total_at_most_times (λ i. kernel z h (get_or ts i 0) * get_or vs i 0) (λ i. kernel z h (get_or ts i 0)) max_u16 (left_of ts z h) _
      (λ i (l : i < right_of ts z h - left_of ts z h).
      mul-le-mul_left (kernel z h (get_or ts (left_of ts z h + i) 0)) (m (left_of ts z h + i) (let r = right_at_most_length ts z h in omega arith)))

  pub sum_bound : WithinLimits ts vs h → sum_of ts vs z h ≤ 2 ^ 58 - 2 ^ 42
  sum_bound f = let w = weight_bound f.few f.bandwidth in let s = sum_at_most_times f.even f.values in omega arith

  pub value_bound : WithinLimits ts vs h → 0 < weight_of ts z h → value_of (sum_of ts vs z h) (weight_of ts z h) ≤ max_u16
  value_bound f p = rw (value_present _ _ p) (rounded_at_most _ _ max_u16 p (sum_at_most_times f.even f.values))

  -- the value is missing exactly if the weight is 0
  pub missing_exactly : WithinLimits ts vs h → ((estimate ts vs z h).value ≡ missing) ↔ (weight_of ts z h ≡ 0)
  unfolding estimate
  missing_exactly f = (λ e. by (ℕ_discrete (weight_of ts z h) 0) e, λ e. rw e (value_missing _))
    where
      by : Dec (weight_of ts z h ≡ 0) → value_of (sum_of ts vs z h) (weight_of ts z h) ≡ missing → weight_of ts z h ≡ 0
      by (yes q) e = q
      by (no q) e = let v = value_bound f (omega arith) in omega arith

  -- and then the sum is 0 too: of a row's five fields only the value can be 65,536 for being missing
  pub missing_alone : WithinLimits ts vs h → weight_of ts z h ≡ 0 → sum_of ts vs z h ≡ 0
  missing_alone f e = let s = sum_at_most_times f.even f.values in omega arith

-- Weight and sum by the six sums (SPECIFICATION 2.13), without negative numbers: each reading inside the window keeps
-- (h² − (t − z)²) + z² + t² = h² + 2 z t, also times its value, and totals keep what their terms keep.
use Prim.Native.Nat.{ℕ, zero, suc, ◌+◌, ◌-◌, ◌*◌, ◌^◌, ◌<◌}
use mathlib.Core.Path.{◌≡◌, ap, ◌∙◌}
use mathlib.Core.List.{List}
use native.Mathlib.Nat.{pow-zero, pow-suc, one-mul}
use native.Mathlib.Omega.{arith}
use lib.ListN.{get_or}
use Rattle.meanings.specs.Lists.{total, Ordered}
use Rattle.meanings.specs.Estimate.{Inside, kernel, left_of, right_of, weight_of, sum_of}
use Rattle.meanings.specs.Running.{window_sum, term}
use Rattle.meanings.proofs.Kernel.{distance_square, kernel_exact}
use Rattle.meanings.proofs.Window.{right_at_most_length, run_is_inside}

-- a linear equation that each term keeps is kept by the totals
pub totals_balance : (f g₀ g₁ g₂ : ℕ → ℕ) (A B C : ℕ) (a n : ℕ)
    → ((i : ℕ) → i < n → f (a + i) + A * g₀ (a + i) + g₂ (a + i) ≡ B * g₀ (a + i) + C * g₁ (a + i))
    → total f a n + A * total g₀ a n + total g₂ a n ≡ B * total g₀ a n + C * total g₁ a n
totals_balance f g₀ g₁ g₂ A B C a zero k = omega arith
totals_balance f g₀ g₁ g₂ A B C a (suc n) k =
    omega (arith, totals_balance f g₀ g₁ g₂ A B C a n (λ i l. k i (omega arith)), k n (omega arith))

pub power_one : (x : ℕ) → x ^ 1 ≡ x
power_one x = pow-suc x 0 ∙ rw (pow-zero x) (one-mul x)

pub power_two : (x : ℕ) → x ^ 2 ≡ x * x
power_two x = pow-suc x 1 ∙ rw (power_one x)

times : (k a b c d v : ℕ) → k + a + b ≡ c + d → k * v + a * v + b * v ≡ c * v + d * v
times k a b c d v e = omega (arith, ap (λ (x : ℕ). x * v) e)

-- one reading, times v: its value, or 1
kernel_opens : (z h t v : ℕ) → Inside z h t
    → kernel z h t * v + z * z * (t ^ 0 * v) + t ^ 2 * v ≡ h * h * (t ^ 0 * v) + 2 * z * (t ^ 1 * v)
kernel_opens z h t v w =
    rw (pow-zero t, power_one t, power_two t, one-mul v)
    (omega (arith, times (kernel z h t) (z * z) (t * t) (h * h) (2 * (z * t)) v balance))
  where
    balance : kernel z h t + z * z + t * t ≡ h * h + 2 * (z * t)
    balance = let e = kernel_exact z h t w in let s = distance_square t z in omega (arith, e, s)

-- what a reading adds to the sums keeps the formula, without its value and with it
counts_open : (z h t v : ℕ) → Inside z h t
    → kernel z h t + z * z * (t ^ 0 * v ^ 0) + t ^ 2 * v ^ 0 ≡ h * h * (t ^ 0 * v ^ 0) + 2 * z * (t ^ 1 * v ^ 0)
counts_open z h t v w = rw (pow-zero v) (omega (arith, kernel_opens z h t 1 w))

values_open : (z h t v : ℕ) → Inside z h t
    → kernel z h t * v + z * z * (t ^ 0 * v ^ 1) + t ^ 2 * v ^ 1 ≡ h * h * (t ^ 0 * v ^ 1) + 2 * z * (t ^ 1 * v ^ 1)
values_open z h t v w = rw (power_one v) (kernel_opens z h t v w)

module _ (ts vs : List ℕ) (z h : ℕ) (o : Ordered ts) where
  -- the run's readings are inside the window
  inside : (i : ℕ) → i < right_of ts z h - left_of ts z h → Inside z h (get_or ts (left_of ts z h + i) 0)
  inside i l =
      (run_is_inside ts z h o (left_of ts z h + i) (let m = right_at_most_length ts z h in omega arith)).0
      (omega arith, omega arith)

  -- weight + z² S0 + S2 = h² S0 + 2 z S1
  pub weight_formula : weight_of ts z h + z * z * window_sum ts vs z h 0 0 + window_sum ts vs z h 2 0
      ≡ h * h * window_sum ts vs z h 0 0 + 2 * z * window_sum ts vs z h 1 0
  unfolding weight_of
  weight_formula =
      totals_balance (λ i. kernel z h (get_or ts i 0)) (term 0 0 ts vs) (term 1 0 ts vs) (term 2 0 ts vs) (z * z) _ (2 * z) (left_of ts z h) _
      (λ i l. counts_open z h _ (get_or vs (left_of ts z h + i) 0) (inside i l))

  -- the same with values
  pub sum_formula : sum_of ts vs z h + z * z * window_sum ts vs z h 0 1 + window_sum ts vs z h 2 1
      ≡ h * h * window_sum ts vs z h 0 1 + 2 * z * window_sum ts vs z h 1 1
  unfolding sum_of
  sum_formula =
      totals_balance (λ i. kernel z h (get_or ts i 0) * get_or vs i 0) (term 0 1 ts vs) (term 1 1 ts vs) (term 2 1 ts vs) (z * z) _ (2 * z) (left_of ts z h) _
      (λ i l. values_open z h _ (get_or vs (left_of ts z h + i) 0) (inside i l))

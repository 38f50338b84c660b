-- The biweight row over equal readings, without going through them: each of n readings inside the window adds the same term. Edges and refusal are
-- those of the question at one mark. So the greatest sum is reached, by as many readings as there may be of the greatest value at the mark.
use Prim.Native.Nat.{ℕ, zero, suc, ◌+◌, ◌*◌, ◌≤◌, ◌<◌}
use mathlib.Core.Path.{◌≡◌, refl, ap, ◌∙◌}
use Rattle.std.specs.Prelude.{None}
use native.Mathlib.Nat.{sub-zero}
use native.Mathlib.Omega.{arith}
use lib.ListN.{get_or, replicate, get_or-replicate}
use Rattle.meanings.specs.declared.Estimate.{Estimate}
use Rattle.meanings.specs.Lists.{distance, total}
use Rattle.meanings.specs.Limits.{full}
use Rattle.meanings.specs.Estimate.{Inside, left_of, right_of, kernel, value_of, rounded, estimate}
use Rattle.meanings.specs.Calls.{evaluate, evaluate_refusal}
use Rattle.meanings.proofs.Checks.{given_accepted}
use Rattle.meanings.proofs.EqualSamples.{equal_samples}
use Rattle.meanings.specs.biweight.Biweight.{biweight_bandwidth, biweight_at, biweight_kernel, biweight_weight, biweight_sum, biweight_row}
use Rattle.meanings.specs.biweight.Biweight.{biweight}
use Rattle.meanings.specs.biweight.Cases.{row}
use Rattle.meanings.proofs.Refusals.{refused_as_evaluate}

total_equal : (g : ℕ → ℕ) (c n : ℕ) → ((i : ℕ) → i < n → g i ≡ c) → total g 0 n ≡ n * c
total_equal g c zero same = omega arith
total_equal g c (suc n) same = omega (arith, total_equal g c n (λ i l. same i (omega arith)), same (0 + n) (omega arith))

module _ (n t v z : ℕ) (few : n ≤ full.samples) (inside : Inside z biweight_bandwidth t) where
  abbrev plain_row : Estimate
  plain_row = record {
    left = 0;
    right = n;
    weight = n * kernel z biweight_bandwidth t;
    sum = n * (kernel z biweight_bandwidth t * v);
    value = value_of (n * (kernel z biweight_bandwidth t * v)) (n * kernel z biweight_bandwidth t);
  }

  plain : (evaluate_refusal full (replicate n t) (replicate n v) biweight_bandwidth ≡ None)
      × (estimate (replicate n t) (replicate n v) z biweight_bandwidth ≡ plain_row)
  unfolding evaluate
  plain =
      given_accepted (evaluate_refusal full (replicate n t) (replicate n v) biweight_bandwidth)
      (estimate (replicate n t) (replicate n v) z biweight_bandwidth) plain_row
      (equal_samples n t v z biweight_bandwidth few (omega arith) (omega arith) inside)

  left_is_0 : left_of (replicate n t) z biweight_bandwidth ≡ 0
  unfolding estimate
  left_is_0 = ap (λ (e : Estimate). e.left) plain.1

  right_is_n : right_of (replicate n t) z biweight_bandwidth ≡ n
  unfolding estimate
  right_is_n = ap (λ (e : Estimate). e.right) plain.1

  weight_is : biweight_weight (replicate n t) z biweight_bandwidth ≡ n * biweight_kernel z biweight_bandwidth t
  unfolding biweight_weight
  weight_is =
      rw (left_is_0, right_is_n, sub-zero n)
      (total_equal _ (biweight_kernel z biweight_bandwidth t) n (λ i l. ap (biweight_kernel z biweight_bandwidth) (get_or-replicate n i t 0 l)))

  sum_is : biweight_sum (replicate n t) (replicate n v) z biweight_bandwidth ≡ n * (biweight_kernel z biweight_bandwidth t * v)
  unfolding biweight_sum
  sum_is =
      rw (left_is_0, right_is_n, sub-zero n)
      (total_equal (λ i. biweight_kernel z biweight_bandwidth (get_or (replicate n t) i 0) * get_or (replicate n v) i 0)
      (biweight_kernel z biweight_bandwidth t * v) n (λ i l. rw (get_or-replicate n i t 0 l, get_or-replicate n i v 0 l)))

  pub equal_readings : biweight full (replicate n t) (replicate n v) z
      ≡ row 0 n (n * biweight_kernel z biweight_bandwidth t) (n * (biweight_kernel z biweight_bandwidth t * v))
      (value_of (n * (biweight_kernel z biweight_bandwidth t * v)) (n * biweight_kernel z biweight_bandwidth t))
  unfolding biweight biweight_row
  equal_readings =
      rw (refused_as_evaluate full (replicate n t) (replicate n v), plain.0, left_is_0, right_is_n, weight_is, sum_is)

-- the greatest weight and the greatest sum are reached
pub greatest_reached : biweight full (replicate 1024 5) (replicate 1024 65535) 5 ≡ row 0 1024 275188285440000 18034464286310400000 65535
unfolding biweight_at value_of rounded distance
greatest_reached = equal_readings 1024 5 65535 5 (omega arith) (omega arith, omega arith) ∙ computed
  where
    computed : row 0 1024 (1024 * biweight_kernel 5 720 5) (1024 * (biweight_kernel 5 720 5 * 65535))
        (value_of (1024 * (biweight_kernel 5 720 5 * 65535)) (1024 * biweight_kernel 5 720 5))
        ≡ row 0 1024 275188285440000 18034464286310400000 65535
    computed = refl

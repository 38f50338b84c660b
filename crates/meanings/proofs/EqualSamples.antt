-- The row over equal readings, without going through them: each of n readings inside the window adds the same term, so a sum over the run
-- is n times one term. The cases of as many readings as there may be are computed from it.
use Prim.Native.Nat.{ℕ, zero, suc, ◌+◌, ◌*◌, ◌≤◌, ◌<◌}
use mathlib.Core.Path.{◌≡◌, refl, ap}
use mathlib.Core.Bool.{Bool, true, false}
use Rattle.std.specs.Prelude.{None}
use native.Mathlib.Nat.{le_refl, sub-zero}
use native.Mathlib.Omega.{arith}
use borrow.Author.Tests.{le-ltb, le-leb, ne_eqb}
use lib.ListN.{get_or, replicate, length-replicate, get_or-replicate}
use Rattle.meanings.specs.Lists.{count, total}
use Rattle.meanings.specs.Limits.{full, max_bandwidth}
use Rattle.meanings.specs.Reports.{given, decreases}
use Rattle.meanings.specs.Estimate.{Inside, estimate, left_of, right_of, kernel, weight_of, sum_of, value_of}
use Rattle.meanings.specs.Calls.{evaluate, evaluate_refusal}
use Rattle.meanings.proofs.Search.{NoneBelow, none_lowest}

count_none : (p : ℕ → Bool) (n t : ℕ) → p t ≡ false → count p (replicate n t) ≡ 0
count_none p zero t e = refl
count_none p (suc n) t e = rw e (count_none p n t e)

count_all : (p : ℕ → Bool) (n t : ℕ) → p t ≡ true → count p (replicate n t) ≡ n
count_all p zero t e = refl
count_all p (suc n) t e = rw e (ap suc (count_all p n t e))

total_equal : (g : ℕ → ℕ) (c n : ℕ) → ((i : ℕ) → i < n → g i ≡ c) → total g 0 n ≡ n * c
total_equal g c zero same = omega arith
total_equal g c (suc n) same = omega (arith, total_equal g c n (λ i l. same i (omega arith)), same (0 + n) (omega arith))

never_decreases : (n t : ℕ) → NoneBelow (decreases (replicate n t)) n
never_decreases n t zero l = refl
never_decreases n t (suc k) l = rw (get_or-replicate n (suc k) t 0 l, get_or-replicate n k t 0 (omega arith)) (le-ltb t t (le_refl t))

module _ (n t v z h : ℕ) (few : n ≤ full.samples) (positive : 0 < h) (bandwidth : h ≤ max_bandwidth) (inside : Inside z h t) where
  accepted : evaluate_refusal full (replicate n t) (replicate n v) h ≡ None
  accepted =
      rw (
        length-replicate n t,
        length-replicate n v,
        le-ltb n n (le_refl n),
        le-ltb full.samples n few,
        none_lowest (decreases (replicate n t)) n (never_decreases n t),
        ne_eqb h 0 (λ e. omega arith),
        le-ltb max_bandwidth h bandwidth,
      )

  left_is_0 : left_of (replicate n t) z h ≡ 0
  unfolding left_of
  left_is_0 = count_none _ n t (le-ltb (t + h) z inside.0)

  right_is_n : right_of (replicate n t) z h ≡ n
  unfolding right_of
  right_is_n = count_all _ n t (le-leb t (z + h) inside.1)

  weight_is : weight_of (replicate n t) z h ≡ n * kernel z h t
  unfolding weight_of
  weight_is =
      rw (left_is_0, right_is_n, sub-zero n)
      (total_equal _ (kernel z h t) n (λ i l. ap (kernel z h) (get_or-replicate n i t 0 l)))

  sum_is : sum_of (replicate n t) (replicate n v) z h ≡ n * (kernel z h t * v)
  unfolding sum_of
  sum_is =
      rw (left_is_0, right_is_n, sub-zero n)
      (total_equal (λ i. kernel z h (get_or (replicate n t) i 0) * get_or (replicate n v) i 0) (kernel z h t * v) n
      (λ i l. rw (get_or-replicate n i t 0 l, get_or-replicate n i v 0 l)))

  pub equal_samples : evaluate full (replicate n t) (replicate n v) z h
      ≡ given
      (record {
        left = 0;
        right = n;
        weight = n * kernel z h t;
        sum = n * (kernel z h t * v);
        value = value_of (n * (kernel z h t * v)) (n * kernel z h t);
      })
  unfolding evaluate estimate
  equal_samples = rw (accepted, left_is_0, right_is_n, weight_is, sum_is)

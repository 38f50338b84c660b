-- The published estimators say what weight and sum say. Each term of (1) and (2) is 3 / (4 h³) times the kernel, which is 0 outside the
-- window, so a sum over all samples is the sum over the run; in the quotient (2) the factor cancels. A term of (6) is 0 outside too.
use Prim.Native.Nat.{ℕ, zero, suc, ◌+◌, ◌-◌, ◌*◌, ◌<◌, ◌^◌}
use mathlib.Core.Path.{◌≡◌, refl, ap, ◌∙◌}
use mathlib.Core.Logic.Iff
use mathlib.Core.Logic.{◌↔◌}
use mathlib.Core.Bool.{Bool, true, false, ◌&&◌, and-eq-true_iff}
use mathlib.Core.List.{List}
use native.Mathlib.Nat.{zero-add, zero-mul, mul-pos, mul-le-mul, sub-eq-zero_of_le, eq_of_mul-eq-mul_right, pos_of_ne-zero}
use native.Mathlib.Omega.{arith}
use borrow.Author.Tests.{leb-true, leb-false, le-leb}
use lib.Dec.{leb}
use lib.ListN.{length, get_or}
use Rattle.meanings.specs.Lists.{pick, total, distance, Ordered}
use Rattle.meanings.specs.Estimate.{Inside, left_of, right_of, kernel, over_run, weight_of, sum_of}
use Rattle.meanings.specs.Running.{window_sum}
use Rattle.meanings.specs.Published.{Fraction, whole, ◌⊕◌, ◌⊗◌, one_minus, divided, ◌≈◌, sum_all}
use Rattle.meanings.specs.Published.{epanechnikov, scaled_kernel, density, regression_above, regression_below, regression, range_sum}
use Rattle.meanings.specs.PublishedRow.{scaled}
use Rattle.meanings.proofs.Moments.{weight_formula, sum_formula}
use Rattle.meanings.proofs.Totals.{total_factor, total_narrow, total_where}
use Rattle.meanings.proofs.Window.{left_at_most_right, right_at_most_length, run_is_inside}

abbrev over : ℕ → ℕ → Fraction
over n d = record { num = n; den = d }

-- fractions over one denominator d
pub same_den_adds : (a b : Fraction) (p q d : ℕ) → a ≈ over p d → b ≈ over q d → a ⊕ b ≈ over (p + q) d
same_den_adds a b p q d e f = record {
  left_den = mul-pos e.left_den f.left_den;
  right_den = e.right_den;
  cross = omega (arith, ap (λ n. n * b.den) e.cross, ap (λ n. n * a.den) f.cross);
}

same_den_adds_up : (g : ℕ → Fraction) (t : ℕ → ℕ) (d n : ℕ) → 0 < d → ((i : ℕ) → g i ≈ over (t i) d) → sum_all g n ≈ over (total t 0 n) d
same_den_adds_up g t d zero pos each = record { left_den = omega arith; right_den = pos; cross = omega arith }
same_den_adds_up g t d (suc n) pos each = rw (zero-add n) (same_den_adds _ _ _ _ d (same_den_adds_up g t d n pos each) (each n))

whole_goes_above : (a : Fraction) (c k d v : ℕ) → a ≈ over (c * k) d → a ⊗ whole v ≈ over (c * (k * v)) d
whole_goes_above a c k d v e = record {
  left_den = mul-pos e.left_den (omega arith);
  right_den = e.right_den;
  cross = omega (arith, ap (λ n. n * v) e.cross);
}

zero_above : (a : Fraction) (p d : ℕ) → a ≈ over (3 * p) d → (a.num ≡ 0) ↔ (p ≡ 0)
zero_above a p d e = (
  λ o. eq_of_mul-eq-mul_right a.den e.left_den p 0 (omega (arith, e.cross, ap (λ n. n * d) o)),
  λ o. eq_of_mul-eq-mul_right d e.right_den a.num 0 (omega (arith, e.cross, ap (λ n. n * a.den) o)),
)

same_den_cancels : (a b : Fraction) (p q d : ℕ) → a ≈ over (3 * p) d → b ≈ over (3 * q) d → 0 < q → divided a b ≈ over p q
same_den_cancels a b p q d e f pos = record {
  left_den = mul-pos e.left_den (pos_of_ne-zero (λ o. omega (arith, (zero_above b q d f).0 o)));
  right_den = pos;
  cross =
      eq_of_mul-eq-mul_right d e.right_den _ _
      (omega (arith, ap (λ n. n * (b.den * q)) e.cross, ap (λ n. n * (a.den * p)) f.cross));
}

-- the kernel at distance d
cube_is_positive : (h : ℕ) → 0 < h → 0 < 4 * (h * h * h)
cube_is_positive h pos = mul-pos (omega arith) (mul-pos (mul-pos pos pos) pos)

far_is_zero : (d h : ℕ) → h < d → h * h - d * d ≡ 0
far_is_zero d h l = sub-eq-zero_of_le (mul-le-mul (omega arith) (omega arith))

scaled_kernel_is_kernel : (d h : ℕ) → 0 < h → over 1 h ⊗ epanechnikov (over d h) ≈ over (3 * (h * h - d * d)) (4 * (h * h * h))
scaled_kernel_is_kernel d h pos = by (leb d h) refl
  where
    near : (k : ℕ) → over 1 h ⊗ (over 3 4 ⊗ over k (h * h)) ≈ over (3 * k) (4 * (h * h * h))
    near k = record {
      left_den = mul-pos pos (mul-pos (omega arith) (mul-pos pos pos));
      right_den = cube_is_positive h pos;
      cross = omega arith;
    }

    far : over 1 h ⊗ whole 0 ≈ over (3 * 0) (4 * (h * h * h))
    far = record { left_den = mul-pos pos (omega arith); right_den = cube_is_positive h pos; cross = omega arith }

    by : (b : Bool) → leb d h ≡ b
        → over 1 h ⊗ pick b (over 3 4 ⊗ one_minus (over d h ⊗ over d h)) (whole 0) ≈ over (3 * (h * h - d * d)) (4 * (h * h * h))
    by true e = near (h * h - d * d)
    by false e = rw (far_is_zero d h (leb-false d h e)) far

pub outside_is_zero : (z h t : ℕ) → ¬ Inside z h t → kernel z h t ≡ 0
unfolding kernel distance
outside_is_zero z h t out = by (leb (distance t z) h) refl
  where
    by : (b : Bool) → leb (distance t z) h ≡ b → kernel z h t ≡ 0
    by true e = absurd (out (omega (arith, leb-true)))
    by false e = far_is_zero (distance t z) h (leb-false _ _ e)

-- from all samples to the run
pub total_is_over_run : (g : ℕ → ℕ) (ts : List ℕ) (z h : ℕ) → Ordered ts → ((i : ℕ) → ¬ Inside z h (get_or ts i 0) → g i ≡ 0)
    → total g 0 (length ts) ≡ over_run g ts z h
total_is_over_run g ts z h ordered zeros =
    let l = left_at_most_right ts z h in
    let r = right_at_most_length ts z h in
    total_narrow g (left_of ts z h) (right_of ts z h - left_of ts z h) (length ts) (omega arith)
    (λ i before. zeros i (λ inside. omega (arith, (run_is_inside ts z h ordered i (omega arith)).1 inside)))
    (λ i behind short. zeros i (λ inside. omega (arith, (run_is_inside ts z h ordered i short).1 inside)))

below_is_kernels : (ts : List ℕ) (z h : ℕ) → 0 < h
    → regression_below ts z h ≈ over (total (λ i. 3 * kernel z h (get_or ts i 0)) 0 (length ts)) (4 * (h * h * h))
unfolding regression_below kernel
below_is_kernels ts z h pos =
    same_den_adds_up _ _ _ (length ts) (cube_is_positive h pos) (λ i. scaled_kernel_is_kernel (distance (get_or ts i 0) z) h pos)

pub below_is_weight : (ts : List ℕ) (z h : ℕ) → Ordered ts → 0 < h → regression_below ts z h ≈ over (3 * weight_of ts z h) (4 * (h * h * h))
unfolding weight_of
below_is_weight ts z h ordered pos =
    rw (← (total_is_over_run _ ts z h ordered (λ i. outside_is_zero z h (get_or ts i 0))), ← (total_factor 3 _ 0 (length ts)))
    (below_is_kernels ts z h pos)

pub above_is_sum : (ts vs : List ℕ) (z h : ℕ) → Ordered ts → 0 < h
    → regression_above ts vs z h ≈ over (3 * sum_of ts vs z h) (4 * (h * h * h))
unfolding regression_above sum_of kernel
above_is_sum ts vs z h ordered pos =
    rw (← (total_is_over_run _ ts z h ordered zeros), ← (total_factor 3 _ 0 (length ts)))
    (same_den_adds_up _ _ _ (length ts) (cube_is_positive h pos) each)
  where
    zeros : (i : ℕ) → ¬ Inside z h (get_or ts i 0) → kernel z h (get_or ts i 0) * get_or vs i 0 ≡ 0
    zeros i out = ap (λ k. k * get_or vs i 0) (outside_is_zero z h (get_or ts i 0) out) ∙ zero-mul _

    each : (i : ℕ)
        → scaled_kernel z h (get_or ts i 0) ⊗ whole (get_or vs i 0) ≈ over (3 * (kernel z h (get_or ts i 0) * get_or vs i 0)) (4 * (h * h * h))
    each i = whole_goes_above _ 3 _ _ (get_or vs i 0) (scaled_kernel_is_kernel (distance (get_or ts i 0) z) h pos)

-- (1)
pub density_is_weight : (ts : List ℕ) (z h : ℕ) → Ordered ts → 0 < h → 0 < length ts
    → density ts z h ≈ record { num = 3 * weight_of ts z h; den = 4 * length ts * (h * h * h) }
unfolding density regression_below
density_is_weight ts z h ordered pos some-sample =
    let e = below_is_weight ts z h ordered pos in
    record {
      left_den = mul-pos some-sample e.left_den;
      right_den = mul-pos (mul-pos (omega arith) some-sample) (mul-pos (mul-pos pos pos) pos);
      cross = omega (arith, ap (λ n. n * length ts) e.cross);
    }

-- (2): where the weight is above 0 it is sum divided by weight
pub regression_is_quotient : (ts vs : List ℕ) (z h : ℕ) → Ordered ts → 0 < h → 0 < weight_of ts z h
    → regression ts vs z h ≈ record { num = sum_of ts vs z h; den = weight_of ts z h }
regression_is_quotient ts vs z h ordered pos some-weight =
    same_den_cancels _ _ _ _ _ (above_is_sum ts vs z h ordered pos) (below_is_weight ts z h ordered pos) some-weight

-- (6)
test_is_inside : (z h t : ℕ) → ((leb z (t + h) && leb t (z + h)) ≡ true) ↔ Inside z h t
test_is_inside z h t = Iff.trans (and-eq-true_iff (leb z (t + h)) (leb t (z + h))) (
  λ e. (leb-true z (t + h) e.0, leb-true t (z + h) e.1),
  λ inside. (le-leb z (t + h) inside.0, le-leb t (z + h) inside.1),
)

pub range_sum_is_window_sum : (p q : ℕ) (ts vs : List ℕ) (z h : ℕ) → Ordered ts
    → range_sum p q ts vs z h ≡ window_sum ts vs z h p q
unfolding range_sum
range_sum_is_window_sum p q ts vs z h ordered =
    let l = left_at_most_right ts z h in
    let r = right_at_most_length ts z h in
    total_where _ (λ i. get_or ts i 0 ^ p * get_or vs i 0 ^ q) (left_of ts z h) (right_of ts z h - left_of ts z h) (length ts) (omega arith)
    (λ i short. Iff.trans (test_is_inside z h (get_or ts i 0)) (
      λ inside. omega (arith, (run_is_inside ts z h ordered i short).1 inside),
      λ within. (run_is_inside ts z h ordered i short).0 (omega arith),
    ))

-- (5): what the run's six sums give, and so the sums of (6)
module _ (ts vs : List ℕ) (z h : ℕ) (ordered : Ordered ts) where
  pub weight_by_sums : weight_of ts z h + z * z * range_sum 0 0 ts vs z h + range_sum 2 0 ts vs z h
      ≡ h * h * range_sum 0 0 ts vs z h + 2 * z * range_sum 1 0 ts vs z h
  weight_by_sums =
      rw (range_sum_is_window_sum 0 0 ts vs z h ordered, range_sum_is_window_sum 1 0 ts vs z h ordered, range_sum_is_window_sum 2 0 ts vs z h ordered)
      (weight_formula ts vs z h ordered)

  pub sum_by_sums : sum_of ts vs z h + z * z * range_sum 0 1 ts vs z h + range_sum 2 1 ts vs z h
      ≡ h * h * range_sum 0 1 ts vs z h + 2 * z * range_sum 1 1 ts vs z h
  sum_by_sums =
      rw (range_sum_is_window_sum 0 1 ts vs z h ordered, range_sum_is_window_sum 1 1 ts vs z h ordered, range_sum_is_window_sum 2 1 ts vs z h ordered)
      (sum_formula ts vs z h ordered)

-- a fraction and a whole number of weight beside it
pub scaled_adds : (h n a b c d : ℕ) (f : Fraction) → f ≈ scaled h n → n + a + b ≡ c + d → f ⊕ scaled h (a + b) ≈ scaled h (c + d)
scaled_adds h n a b c d f e q =
    rw (let k : 3 * (c + d) ≡ 3 * n + 3 * (a + b) = omega arith in k)
    (same_den_adds f (scaled h (a + b)) (3 * n) (3 * (a + b)) (4 * (h * h * h)) e same)
  where
    same : scaled h (a + b) ≈ scaled h (a + b)
    same = record { left_den = e.right_den; right_den = e.right_den; cross = refl }

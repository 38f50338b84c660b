-- The estimators with c (1 − u²)^p 1{|u| ≤ 1}, for any factor c and any exponent p: each term is c / h^(2p + 1) times a whole weight, 0 outside the
-- window by the indicator, so a sum over all samples is the sum over the run; in the quotient the factor cancels. The landed estimators are those
-- of 3/4 and 1, the biweight row's those of 15/16 and 2.
use Prim.Native.Nat.{ℕ, zero, suc, ◌+◌, ◌-◌, ◌*◌, ◌^◌, ◌<◌}
use mathlib.Core.Path.{◌≡◌, refl, sym, ap, fun_ext, subst⁻¹}
use mathlib.Core.Logic.Iff
use mathlib.Core.Logic.{◌↔◌}
use mathlib.Core.Bool.{Bool, true, false}
use mathlib.Core.List.{List}
use native.Mathlib.Nat.{zero-add, zero-mul, mul-zero, mul-pos, pow-zero, pow-suc, eq_of_mul-eq-mul_right, pos_of_ne-zero}
use native.Mathlib.Omega.{arith}
use borrow.Author.Tests.{leb-true, le-leb}
use lib.Dec.{leb}
use lib.ListN.{length, get_or}
use Rattle.meanings.specs.Lists.{pick, total, distance, Ordered}
use Rattle.meanings.specs.Estimate.{Inside, left_of, right_of, kernel, over_run, weight_of, sum_of}
use Rattle.meanings.specs.Published.{Fraction, whole, ◌⊗◌, one_minus, divided, ◌≈◌, sum_all}
use Rattle.meanings.specs.Published.{epanechnikov, density, regression_above, regression_below}
use Rattle.meanings.proofs.Published.{same_den_adds}
use Rattle.meanings.proofs.Totals.{total_factor, total_where}
use Rattle.meanings.proofs.Window.{left_at_most_right, right_at_most_length, run_is_inside}
use Rattle.meanings.specs.biweight.Biweight.{biweight_at, biweight_weight, biweight_sum}
use Rattle.laws.specs.biweight.BetaKernels.{over, raised, shape, factorial, beta_factor, beta_kernel, biweight_shape}
use Rattle.laws.specs.biweight.BetaKernels.{scaled_by, density_by, above_by, below_by, power, power_weight, power_sum, Estimators}
use Rattle.laws.specs.biweight.BetaKernels.{BetaKernels}

-- the factors of (19): 3/4 with the exponent 1, 15/16 with 2
pub epanechnikov_factor : beta_factor 1 ≈ over 3 4
epanechnikov_factor = record { left_den = omega arith; right_den = omega arith; cross = refl }

pub biweight_factor : beta_factor 2 ≈ over 15 16
biweight_factor = record { left_den = omega arith; right_den = omega arith; cross = refl }

power_pos : (h p : ℕ) → 0 < h → 0 < h ^ p
power_pos h zero l = rw (pow-zero h) (omega arith)
power_pos h (suc p) l = rw (pow-suc h p) (mul-pos (power_pos h p l) l)

-- h (h²)^p = h^(2p + 1)
odd_power : (h p : ℕ) → h * (h * h) ^ p ≡ h ^ (2 * p + 1)
odd_power h zero = rw (pow-zero (h * h)) one
  where
    one : h * 1 ≡ h ^ (2 * 0 + 1)
    one = let e : 2 * 0 + 1 ≡ suc 0 = omega arith in rw (e, pow-suc h 0, pow-zero h) (omega arith)
odd_power h (suc p) =
    let n : 2 * suc p + 1 ≡ suc (suc (2 * p + 1)) = omega arith in
    rw (n, pow-suc h (suc (2 * p + 1)), pow-suc h (2 * p + 1), ← (odd_power h p), pow-suc (h * h) p) (omega arith)

-- fractions over one denominator d
same_den_adds_up : (g : ℕ → Fraction) (t : ℕ → ℕ) (d n : ℕ) → 0 < d → ((i : ℕ) → g i ≈ over (t i) d) → sum_all g n ≈ over (total t 0 n) d
same_den_adds_up g t d zero pos each = record { left_den = omega arith; right_den = pos; cross = omega arith }
same_den_adds_up g t d (suc n) pos each = rw (zero-add n) (same_den_adds _ _ _ _ d (same_den_adds_up g t d n pos each) (each n))

zero_above : (a : Fraction) (c p d : ℕ) → 0 < c → a ≈ over (c * p) d → (a.num ≡ 0) ↔ (p ≡ 0)
zero_above a c p d pos e = (to, from)
  where
    to : a.num ≡ 0 → p ≡ 0
    to o =
        let q : c * p ≡ 0 =
        eq_of_mul-eq-mul_right a.den e.left_den (c * p) 0 (omega (arith, e.cross, ap (λ n. n * d) o)) in
        eq_of_mul-eq-mul_right c pos p 0 (omega arith)

    from : p ≡ 0 → a.num ≡ 0
    from o =
        let z : c * p ≡ 0 = rw o (mul-zero c) in
        eq_of_mul-eq-mul_right d e.right_den a.num 0 (omega (arith, e.cross, ap (λ n. n * a.den) z))

cancels : (a b : Fraction) (c p q d : ℕ) → 0 < c → a ≈ over (c * p) d → b ≈ over (c * q) d → 0 < q → divided a b ≈ over p q
cancels a b c p q d some e f pos = record {
  left_den = mul-pos e.left_den (pos_of_ne-zero (λ o. omega (arith, (zero_above b c q d some f).0 o)));
  right_den = pos;
  cross =
      eq_of_mul-eq-mul_right (c * d) (mul-pos some e.right_den) _ _
      (omega (arith, ap (λ n. n * (b.den * (c * q))) e.cross, ap (λ n. n * (a.den * (c * p))) f.cross));
}

-- a kernel at distance d: a whole number over one denominator, 0 beyond h
scaled_is : (c : Fraction) (p d h : ℕ) → 0 < c.den → 0 < h
    → over 1 h ⊗ shape c p (over d h) ≈ over (c.num * pick (leb d h) ((h * h - d * d) ^ p) 0) (c.den * h ^ (2 * p + 1))
scaled_is c p d h some pos = rw (← (odd_power h p)) (by (leb d h))
  where
    square_pos : 0 < (h * h) ^ p
    square_pos = power_pos (h * h) p (mul-pos pos pos)

    near : (k m : ℕ) → 0 < m → over 1 h ⊗ (c ⊗ over k m) ≈ over (c.num * k) (c.den * (h * m))
    near k m l = record {
      left_den = mul-pos pos (mul-pos some l);
      right_den = mul-pos some (mul-pos pos l);
      cross = omega arith;
    }

    far : (m : ℕ) → 0 < m → over 1 h ⊗ whole 0 ≈ over (c.num * 0) (c.den * (h * m))
    far m l = record { left_den = mul-pos pos (omega arith); right_den = mul-pos some (mul-pos pos l); cross = omega arith }

    by : (b : Bool)
        → over 1 h ⊗ pick b (c ⊗ raised (one_minus (over d h ⊗ over d h)) p) (whole 0)
        ≈ over (c.num * pick b ((h * h - d * d) ^ p) 0) (c.den * (h * (h * h) ^ p))
    by true = near ((h * h - d * d) ^ p) ((h * h) ^ p) square_pos
    by false = far ((h * h) ^ p) square_pos

times_value : (a : Fraction) (c k d v : ℕ) → a ≈ over (c * k) d → a ⊗ whole v ≈ over (c * (k * v)) d
times_value a c k d v e = record {
  left_den = mul-pos e.left_den (omega arith);
  right_den = e.right_den;
  cross = omega (arith, ap (λ n. n * v) e.cross);
}

pick_times : (b : Bool) (k v : ℕ) → pick b k 0 * v ≡ pick b (k * v) 0
pick_times true k v = refl
pick_times false k v = zero-mul v

near_is_inside : (z h t : ℕ) → (leb (distance t z) h ≡ true) ↔ Inside z h t
unfolding distance
near_is_inside z h t = (λ e. let l = leb-true (distance t z) h e in (omega arith, omega arith), λ i. le-leb (distance t z) h (omega arith))

module _ (c : Fraction) (p : ℕ) (some : 0 < c.num) (some-den : 0 < c.den) (ts vs : List ℕ) (z h : ℕ) (ordered : Ordered ts) (pos : 0 < h) where
  -- a sum over all samples with the indicator is the sum over the run
  in_the_run : (g : ℕ → ℕ) → total (λ i. pick (leb (distance (get_or ts i 0) z) h) (g i) 0) 0 (length ts) ≡ over_run g ts z h
  in_the_run g =
      let l = left_at_most_right ts z h in
      let r = right_at_most_length ts z h in
      total_where (λ i. leb (distance (get_or ts i 0) z) h) g (left_of ts z h) (right_of ts z h - left_of ts z h) (length ts) (omega arith)
      (λ i short. Iff.trans (near_is_inside z h (get_or ts i 0)) (
        λ inside. omega (arith, (run_is_inside ts z h ordered i short).1 inside),
        λ within. (run_is_inside ts z h ordered i short).0 (omega arith),
      ))

  den_pos : 0 < c.den * h ^ (2 * p + 1)
  den_pos = mul-pos some-den (power_pos h (2 * p + 1) pos)

  below : below_by (shape c p) ts z h ≈ over (c.num * power_weight p ts z h) (c.den * h ^ (2 * p + 1))
  unfolding below_by power_weight
  below =
      rw (← (in_the_run (λ i. power p z h (get_or ts i 0))), ← (total_factor c.num _ 0 (length ts)))
      (same_den_adds_up _ _ _ (length ts) den_pos (λ i. scaled_is c p (distance (get_or ts i 0) z) h some-den pos))

  above : above_by (shape c p) ts vs z h ≈ over (c.num * power_sum p ts vs z h) (c.den * h ^ (2 * p + 1))
  unfolding above_by power_sum
  above =
      rw (← (in_the_run (λ i. power p z h (get_or ts i 0) * get_or vs i 0)), ← (total_factor c.num _ 0 (length ts)))
      (same_den_adds_up _ _ _ (length ts) den_pos each)
    where
      each : (i : ℕ) → scaled_by (shape c p) z h (get_or ts i 0) ⊗ whole (get_or vs i 0)
          ≈ over (c.num * pick (leb (distance (get_or ts i 0) z) h) (power p z h (get_or ts i 0) * get_or vs i 0) 0) (c.den * h ^ (2 * p + 1))
      each i =
          rw (← (pick_times (leb (distance (get_or ts i 0) z) h) (power p z h (get_or ts i 0)) (get_or vs i 0)))
          (times_value _ c.num _ _ (get_or vs i 0) (scaled_is c p (distance (get_or ts i 0) z) h some-den pos))

  density_is : 0 < length ts
      → density_by (shape c p) ts z h ≈ over (c.num * power_weight p ts z h) (c.den * length ts * h ^ (2 * p + 1))
  unfolding density_by below_by
  density_is some-sample =
      let e = below in
      record {
        left_den = mul-pos some-sample e.left_den;
        right_den = mul-pos (mul-pos some-den some-sample) (power_pos h (2 * p + 1) pos);
        cross = omega (arith, ap (λ n. n * length ts) e.cross);
      }

  -- one law for any exponent
  pub shape_estimators : Estimators (shape c p) c p ts vs z h (power_weight p ts z h) (power_sum p ts vs z h)
  shape_estimators = record {
    density_is = density_is;
    above_is = above;
    below_is = below;
    below_zero = zero_above _ c.num _ _ some below;
    regression_is = λ w. cancels _ _ c.num _ _ _ some above below w;
  }

same_run : (f g : ℕ → ℕ) (ts : List ℕ) (z h : ℕ) → ((i : ℕ) → f i ≡ g i) → over_run f ts z h ≡ over_run g ts z h
same_run f g ts z h e = ap (λ (k : ℕ → ℕ). over_run k ts z h) (fun_ext e)

-- the landed estimators are the instance with 3/4 and 1
one_power : (x : ℕ) → x ^ 1 ≡ x
one_power x = rw (pow-suc x 0, pow-zero x) (omega arith)

two_power : (x : ℕ) → x ^ 2 ≡ x * x
two_power x = rw (pow-suc x 1, one_power x)

pub epanechnikov_is : epanechnikov ≡ shape (over 3 4) 1
epanechnikov_is = fun_ext (λ u. rw (one_power (u.den * u.den - u.num * u.num), one_power (u.den * u.den)))

pub density_instance : (ts : List ℕ) (z h : ℕ) → density ts z h ≡ density_by epanechnikov ts z h
unfolding density density_by
density_instance ts z h = refl

pub above_instance : (ts vs : List ℕ) (z h : ℕ) → regression_above ts vs z h ≡ above_by epanechnikov ts vs z h
unfolding regression_above above_by
above_instance ts vs z h = refl

pub below_instance : (ts : List ℕ) (z h : ℕ) → regression_below ts z h ≡ below_by epanechnikov ts z h
unfolding regression_below below_by
below_instance ts z h = refl

pub weight_instance : (ts : List ℕ) (z h : ℕ) → weight_of ts z h ≡ power_weight 1 ts z h
unfolding weight_of power_weight kernel
weight_instance ts z h = same_run _ _ ts z h (λ i. sym (one_power (kernel z h (get_or ts i 0))))

pub sum_instance : (ts vs : List ℕ) (z h : ℕ) → sum_of ts vs z h ≡ power_sum 1 ts vs z h
unfolding sum_of power_sum kernel
sum_instance ts vs z h = same_run _ _ ts z h (λ i. ap (λ (k : ℕ). k * get_or vs i 0) (sym (one_power (kernel z h (get_or ts i 0)))))

-- and the biweight row's weights those of the exponent 2
pub weight_squared : (ts : List ℕ) (z h : ℕ) → biweight_weight ts z h ≡ power_weight 2 ts z h
unfolding biweight_weight power_weight biweight_at
weight_squared ts z h = same_run _ _ ts z h (λ i. sym (two_power (h * h - distance (get_or ts i 0) z * distance (get_or ts i 0) z)))

pub sum_squared : (ts vs : List ℕ) (z h : ℕ) → biweight_sum ts vs z h ≡ power_sum 2 ts vs z h
unfolding biweight_sum power_sum biweight_at
sum_squared ts vs z h =
    same_run _ _ ts z h
    (λ i. ap (λ (k : ℕ). k * get_or vs i 0) (sym (two_power (h * h - distance (get_or ts i 0) z * distance (get_or ts i 0) z))))

pub biweight_estimators : (ts vs : List ℕ) (z h : ℕ) → Ordered ts → 0 < h
    → Estimators biweight_shape (over 15 16) 2 ts vs z h (biweight_weight ts z h) (biweight_sum ts vs z h)
biweight_estimators ts vs z h o pos =
    rw (weight_squared ts z h, sum_squared ts vs z h) (shape_estimators (over 15 16) 2 (omega arith) (omega arith) ts vs z h o pos)

-- the landed theorem again, from the law for any exponent
pub landed_estimators : (ts vs : List ℕ) (z h : ℕ) → Ordered ts → 0 < h
    → Estimators epanechnikov (over 3 4) 1 ts vs z h (weight_of ts z h) (sum_of ts vs z h)
landed_estimators ts vs z h o pos =
    rw (epanechnikov_is, weight_instance ts z h, sum_instance ts vs z h)
    (shape_estimators (over 3 4) 1 (omega arith) (omega arith) ts vs z h o pos)

-- a kernel by another name of its factor
same_kernel : (a c : Fraction) (p : ℕ) (u : Fraction) → a ≈ c → 0 < u.den → shape a p u ≈ shape c p u
same_kernel a c p u e pos = by (leb u.num u.den) (raised (one_minus (u ⊗ u)) p) (power_pos (u.den * u.den) p (mul-pos pos pos))
  where
    by : (b : Bool) (x : Fraction) → 0 < x.den → pick b (a ⊗ x) (whole 0) ≈ pick b (c ⊗ x) (whole 0)
    by true x l = record {
      left_den = mul-pos e.left_den l;
      right_den = mul-pos e.right_den l;
      cross = omega (arith, ap (λ n. n * (x.num * x.den)) e.cross);
    }
    by false x l = record { left_den = omega arith; right_den = omega arith; cross = refl }

factorial_pos : (n : ℕ) → 0 < factorial n
factorial_pos zero = omega arith
factorial_pos (suc n) = mul-pos (omega arith) (factorial_pos n)

pub beta_kernels : BetaKernels
beta_kernels = record {
  any_exponent = λ p ts vs z h o pos.
      shape_estimators (beta_factor p) p (factorial_pos (2 * p + 1))
      (mul-pos (power_pos 2 (2 * p + 1) (omega arith)) (mul-pos (factorial_pos p) (factorial_pos p))) ts vs z h o pos;
  second_factor = biweight_factor;
  second_kernel = λ u. same_kernel (beta_factor 2) (over 15 16) 2 u biweight_factor;
  second_weight = weight_squared;
  second_sum = sum_squared;
  first_factor = epanechnikov_factor;
  first_kernel = λ u pos.
      subst⁻¹ (λ (K : Fraction → Fraction). beta_kernel 1 u ≈ K u) epanechnikov_is
      (same_kernel (beta_factor 1) (over 3 4) 1 u epanechnikov_factor pos);
  first_density = density_instance;
  first_above = above_instance;
  first_below = below_instance;
  first_regression = λ ts vs z h. rw (above_instance ts vs z h, below_instance ts z h);
  first_weight = weight_instance;
  first_sum = sum_instance;
  first_estimators = landed_estimators;
}

-- N. Langrené and X. Warin, "Fast multivariate empirical cumulative distribution function with connection to kernel density estimation" (2020): the
-- symmetric beta kernels of (19), and the estimators of `Rattle.meanings.specs.Published` with any kernel K, in one dimension, as exact fractions over
-- all N samples. x is a sample's time, y its response, z the evaluation point, h the bandwidth.
use Rattle.std.specs.Prelude.{ℕ, zero, suc, ◌+◌, ◌-◌, ◌*◌, ◌^◌, ◌<◌, ◌↔◌, ◌≡◌, List, leb, length, get_or}
use Rattle.meanings.specs.Lists.{pick, distance, Ordered}
use Rattle.meanings.specs.Estimate.{over_run, weight_of, sum_of}
use Rattle.meanings.specs.Published.{Fraction, whole, ◌⊗◌, divided, one_minus, ◌≈◌, sum_all}
use Rattle.meanings.specs.Published.{epanechnikov, density, regression_above, regression_below, regression}
use Rattle.meanings.specs.biweight.Biweight.{biweight_weight, biweight_sum}

abbrev pub over : ℕ → ℕ → Fraction
over n d = record { num = n; den = d }

-- a^p
abbrev pub raised : Fraction → ℕ → Fraction
raised a p = over (a.num ^ p) (a.den ^ p)

-- c (1 − u²)^p 1{|u| ≤ 1}, at |u|
abbrev pub shape : Fraction → ℕ → Fraction → Fraction
shape c p u = pick (leb u.num u.den) (c ⊗ raised (one_minus (u ⊗ u)) p) (whole 0)

abbrev pub factorial : ℕ → ℕ
factorial zero = 1
factorial (suc n) = suc n * factorial n

-- (19): the factor 1 / (2^(2p + 1) B(p + 1, p + 1)), where B(p + 1, p + 1) is p! p! / (2p + 1)!
abbrev pub beta_factor : ℕ → Fraction
beta_factor p = over (factorial (2 * p + 1)) (2 ^ (2 * p + 1) * (factorial p * factorial p))

-- (19) with the exponent p
abbrev pub beta_kernel : ℕ → Fraction → Fraction
beta_kernel p = shape (beta_factor p) p

-- the biweight kernel, 15/16 (1 − u²)² 1{|u| ≤ 1}; that it is (19) with the exponent 2 is said in BetaKernels below
abbrev pub biweight_shape : Fraction → Fraction
biweight_shape = shape (over 15 16) 2

-- K_h(x − z) = 1/h K((x − z) / h)
abbrev pub scaled_by : (Fraction → Fraction) → ℕ → ℕ → ℕ → Fraction
scaled_by K z h x = over 1 h ⊗ K (over (distance x z) h)

-- 1/N times the sum of K_h(x − z)
unfoldable pub density_by : (Fraction → Fraction) → List ℕ → ℕ → ℕ → Fraction
density_by K xs z h = over 1 (length xs) ⊗ sum_all (λ i. scaled_by K z h (get_or xs i 0)) (length xs)

-- the sum of K_h(x − z) y, and that of K_h(x − z)
unfoldable pub above_by : (Fraction → Fraction) → List ℕ → List ℕ → ℕ → ℕ → Fraction
above_by K xs ys z h = sum_all (λ i. scaled_by K z h (get_or xs i 0) ⊗ whole (get_or ys i 0)) (length xs)

unfoldable pub below_by : (Fraction → Fraction) → List ℕ → ℕ → ℕ → Fraction
below_by K xs z h = sum_all (λ i. scaled_by K z h (get_or xs i 0)) (length xs)

abbrev pub regression_by : (Fraction → Fraction) → List ℕ → List ℕ → ℕ → ℕ → Fraction
regression_by K xs ys z h = divided (above_by K xs ys z h) (below_by K xs z h)

-- whole weights of the exponent p, (h² − (minute − z)²)^p, added up over the run; and the same times value
abbrev pub power : ℕ → ℕ → ℕ → ℕ → ℕ
power p z h t = (h * h - distance t z * distance t z) ^ p

unfoldable pub power_weight : ℕ → List ℕ → ℕ → ℕ → ℕ
power_weight p ts z h = over_run (λ i. power p z h (get_or ts i 0)) ts z h

unfoldable pub power_sum : ℕ → List ℕ → List ℕ → ℕ → ℕ → ℕ
power_sum p ts vs z h = over_run (λ i. power p z h (get_or ts i 0) * get_or vs i 0) ts z h

-- what the estimators with a kernel K say of a whole weight w and a whole sum s: c w / (N h^(2p + 1)) is the density and s / w the regression, whose
-- numerator and denominator are c s / h^(2p + 1) and c w / h^(2p + 1); all denominators are above 0
pub record Estimators (K : Fraction → Fraction) (c : Fraction) (p : ℕ) (ts vs : List ℕ) (z h w s : ℕ) : Type 0 where
  pub density_is : 0 < length ts → density_by K ts z h ≈ over (c.num * w) (c.den * length ts * h ^ (2 * p + 1))
  pub above_is : above_by K ts vs z h ≈ over (c.num * s) (c.den * h ^ (2 * p + 1))
  pub below_is : below_by K ts z h ≈ over (c.num * w) (c.den * h ^ (2 * p + 1))
  pub below_zero : ((below_by K ts z h).num ≡ 0) ↔ (w ≡ 0)
  pub regression_is : 0 < w → regression_by K ts vs z h ≈ over s w

-- One set of estimators, of which two are in use: the kernels (19) with the exponents 1 and 2.
pub record BetaKernels : Type 0 where
  -- one law for any exponent
  pub any_exponent : (p : ℕ) (ts vs : List ℕ) (z h : ℕ) → Ordered ts → 0 < h
      → Estimators (beta_kernel p) (beta_factor p) p ts vs z h (power_weight p ts z h) (power_sum p ts vs z h)
  -- the exponent 2 has the factor 15/16, the biweight kernel, and the biweight row's weight and sum
  pub second_factor : beta_factor 2 ≈ over 15 16
  pub second_kernel : (u : Fraction) → 0 < u.den → beta_kernel 2 u ≈ biweight_shape u
  pub second_weight : (ts : List ℕ) (z h : ℕ) → biweight_weight ts z h ≡ power_weight 2 ts z h
  pub second_sum : (ts vs : List ℕ) (z h : ℕ) → biweight_sum ts vs z h ≡ power_sum 2 ts vs z h
  -- the exponent 1 has the factor 3/4, and kernel, estimators, weight and sum are those of the row of section 2
  pub first_factor : beta_factor 1 ≈ over 3 4
  pub first_kernel : (u : Fraction) → 0 < u.den → beta_kernel 1 u ≈ epanechnikov u
  pub first_density : (ts : List ℕ) (z h : ℕ) → density ts z h ≡ density_by epanechnikov ts z h
  pub first_above : (ts vs : List ℕ) (z h : ℕ) → regression_above ts vs z h ≡ above_by epanechnikov ts vs z h
  pub first_below : (ts : List ℕ) (z h : ℕ) → regression_below ts z h ≡ below_by epanechnikov ts z h
  pub first_regression : (ts vs : List ℕ) (z h : ℕ) → regression ts vs z h ≡ regression_by epanechnikov ts vs z h
  pub first_weight : (ts : List ℕ) (z h : ℕ) → weight_of ts z h ≡ power_weight 1 ts z h
  pub first_sum : (ts vs : List ℕ) (z h : ℕ) → sum_of ts vs z h ≡ power_sum 1 ts vs z h
  pub first_estimators : (ts vs : List ℕ) (z h : ℕ) → Ordered ts → 0 < h
      → Estimators epanechnikov (over 3 4) 1 ts vs z h (weight_of ts z h) (sum_of ts vs z h)

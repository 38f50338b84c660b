-- N. Langrené and X. Warin, "Fast and stable multivariate kernel density estimation by fast sum updating" (2019), in one dimension: the kernel
-- density estimator (1) and the kernel regression estimator (2) with the Epanechnikov kernel of (5), and the sums of (6), as exact fractions
-- over all N samples. x is a sample's time, y its response, z the evaluation point, h the bandwidth.
use Rattle.std.specs.Prelude.{ℕ, zero, suc, ◌+◌, ◌-◌, ◌*◌, ◌^◌, ◌<◌, ◌≡◌, ◌&&◌, List, leb, length, get_or}
use Rattle.meanings.specs.Lists.{pick, total, distance}

pub record Fraction : Type 0 where
  pub num : ℕ
  pub den : ℕ

infixl 65 ◌⊕◌
infixl 70 ◌⊗◌
infix 50 ◌≈◌
abbrev pub whole : ℕ → Fraction
whole n = record { num = n; den = 1 }

-- a + b
abbrev pub ◌⊕◌ : Fraction → Fraction → Fraction
a ⊕ b = record { num = a.num * b.den + b.num * a.den; den = a.den * b.den }

-- a b
abbrev pub ◌⊗◌ : Fraction → Fraction → Fraction
a ⊗ b = record { num = a.num * b.num; den = a.den * b.den }

-- a divided by b
abbrev pub divided : Fraction → Fraction → Fraction
divided a b = record { num = a.num * b.den; den = a.den * b.num }

-- 1 − a, for a at most 1
abbrev pub one_minus : Fraction → Fraction
one_minus a = record { num = a.den - a.num; den = a.den }

-- the same number: the denominators are above 0, and the cross products agree
pub record ◌≈◌ (a b : Fraction) : Type 0 where
  pub left_den : 0 < a.den
  pub right_den : 0 < b.den
  pub cross : a.num * b.den ≡ b.num * a.den

-- the sum over the samples 0 to n - 1
abbrev pub sum_all : (ℕ → Fraction) → ℕ → Fraction
sum_all g zero = whole 0
sum_all g (suc n) = sum_all g n ⊕ g n

-- K(u) = 3/4 (1 − u²) 1{|u| ≤ 1}, at |u|
abbrev pub epanechnikov : Fraction → Fraction
epanechnikov u = pick (leb u.num u.den) (record { num = 3; den = 4 } ⊗ one_minus (u ⊗ u)) (whole 0)

-- K_h(x − z) = 1/h K((x − z) / h)
abbrev pub scaled_kernel : ℕ → ℕ → ℕ → Fraction
scaled_kernel z h x = record { num = 1; den = h } ⊗ epanechnikov (record { num = distance x z; den = h })

-- (1): 1/N times the sum of K_h(x − z)
unfoldable pub density : List ℕ → ℕ → ℕ → Fraction
density xs z h = record { num = 1; den = length xs } ⊗ sum_all (λ i. scaled_kernel z h (get_or xs i 0)) (length xs)

-- (2), above: the sum of K_h(x − z) y
unfoldable pub regression_above : List ℕ → List ℕ → ℕ → ℕ → Fraction
regression_above xs ys z h = sum_all (λ i. scaled_kernel z h (get_or xs i 0) ⊗ whole (get_or ys i 0)) (length xs)

-- (2), below: the sum of K_h(x − z)
unfoldable pub regression_below : List ℕ → ℕ → ℕ → Fraction
regression_below xs z h = sum_all (λ i. scaled_kernel z h (get_or xs i 0)) (length xs)

-- (2)
abbrev pub regression : List ℕ → List ℕ → ℕ → ℕ → Fraction
regression xs ys z h = divided (regression_above xs ys z h) (regression_below xs z h)

-- (6) at [z − h, z + h]: the sum of x^p y^q 1{z − h ≤ x ≤ z + h}
unfoldable pub range_sum : ℕ → ℕ → List ℕ → List ℕ → ℕ → ℕ → ℕ
range_sum p q xs ys z h =
    total
    (λ i. pick (leb z (get_or xs i 0 + h) && leb (get_or xs i 0) (z + h)) (get_or xs i 0 ^ p * get_or ys i 0 ^ q) 0)
    0
    (length xs)

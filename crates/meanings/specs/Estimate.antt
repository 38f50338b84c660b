-- SPECIFICATION, "The row": window, left, right, run, weight, sum, value, row.
-- t is a minute, z a mark, h a half width; ts are the minutes of the readings and vs their values.
use Rattle.std.specs.Prelude.{ℕ, zero, suc, ◌+◌, ◌-◌, ◌*◌, ◌/◌, ◌%◌, ◌≤◌, ◌≡◌, List, [], ◌∷◌, ◌++◌, ltb, leb, eqb, length, get_or, take, drop}
use Rattle.meanings.specs.declared.Estimate.{Estimate}
use Rattle.meanings.specs.Lists.{pick, count, total, distance, AtMost}
use Rattle.meanings.specs.Limits.{full, max_u16, max_bandwidth}

-- readings and a half width within their ranges and limits
pub record WithinLimits (ts vs : List ℕ) (h : ℕ) : Type 0 where
  pub even : length ts ≡ length vs
  pub few : length ts ≤ full.samples
  pub values : AtMost max_u16 vs
  pub bandwidth : h ≤ max_bandwidth

-- the minute lies in the closed window from z − h to z + h
abbrev pub Inside : ℕ → ℕ → ℕ → Type 0
Inside z h t = (z ≤ t + h) × (t ≤ z + h)

-- left counts the readings below the window
unfoldable pub left_of : List ℕ → ℕ → ℕ → ℕ
left_of ts z h = count (λ t. ltb (t + h) z) ts

-- right counts those that are not above it
unfoldable pub right_of : List ℕ → ℕ → ℕ → ℕ
right_of ts z h = count (λ t. leb t (z + h)) ts

-- the values of the run, from position left to right - 1
abbrev pub run_of : List ℕ → List ℕ → ℕ → ℕ → List ℕ
run_of ts vs z h = take (right_of ts z h - left_of ts z h) (drop (left_of ts z h) vs)

-- h² − (minute − z)²; the law kernel_exact says that inside the window nothing is cut off at 0
unfoldable pub kernel : ℕ → ℕ → ℕ → ℕ
kernel z h t = h * h - distance t z * distance t z

-- the sum of g over the positions of the run
abbrev pub over_run : (ℕ → ℕ) → List ℕ → ℕ → ℕ → ℕ
over_run g ts z h = total g (left_of ts z h) (right_of ts z h - left_of ts z h)

-- weight adds up the kernel over the run
unfoldable pub weight_of : List ℕ → ℕ → ℕ → ℕ
weight_of ts z h = over_run (λ i. kernel z h (get_or ts i 0)) ts z h

-- sum adds up kernel times value
unfoldable pub sum_of : List ℕ → List ℕ → ℕ → ℕ → ℕ
sum_of ts vs z h = over_run (λ i. kernel z h (get_or ts i 0) * get_or vs i 0) ts z h

-- s divided by w to the nearest whole number, a half to the even neighbour: below a half the quotient, above it one more, and at a half the
-- quotient plus its own remainder by 2
unfoldable pub rounded : ℕ → ℕ → ℕ
rounded s w = pick (ltb (2 * (s % w)) w) (s / w) (pick (ltb w (2 * (s % w))) (s / w + 1) (s / w + s / w % 2))

-- the number that means missing
abbrev pub missing : ℕ
missing = 65536

-- value: sum divided by weight, rounded; missing if the weight is 0
unfoldable pub value_of : ℕ → ℕ → ℕ
value_of s w = pick (eqb w 0) missing (rounded s w)

-- the row of a mark
unfoldable pub estimate : List ℕ → List ℕ → ℕ → ℕ → Estimate
estimate ts vs z h = record {
  left = left_of ts z h;
  right = right_of ts z h;
  weight = weight_of ts z h;
  sum = sum_of ts vs z h;
  value = value_of (sum_of ts vs z h) (weight_of ts z h);
}

-- a row as five numbers
abbrev pub fields : Estimate → List ℕ
fields e = e.left ∷ e.right ∷ e.weight ∷ e.sum ∷ e.value ∷ []

-- the flat list of the rows of the first n marks, zs with half widths hs
abbrev pub rows : List ℕ → List ℕ → List ℕ → List ℕ → ℕ → List ℕ
rows ts vs zs hs zero = []
rows ts vs zs hs (suc n) = rows ts vs zs hs n ++ fields (estimate ts vs (get_or zs n 0) (get_or hs n 0))

-- SPECIFICATION, "The biweight row": the row of a mark with squared weights, over a window of one half width. What is said of the weights is said
-- for any half width h; the call has one.
-- t is a minute, z a mark; ts are the minutes of the readings and vs their values.
use Rattle.std.specs.Prelude.{ℕ, ◌-◌, ◌*◌, List, get_or}
use Rattle.std.specs.Prelude.{Option}
use Rattle.meanings.specs.declared.Estimate.{Estimate}
use Rattle.meanings.specs.declared.Limits.{Limits}
use Rattle.meanings.specs.Lists.{distance}
use Rattle.meanings.specs.Reports.{Fault, Answer, unless, first_of, series_checks}
use Rattle.meanings.specs.Estimate.{left_of, right_of, over_run, value_of}

-- the half width of the call
abbrev pub biweight_bandwidth : ℕ
biweight_bandwidth = 720

-- (h² − u²)², the weight at distance u; 0 from h on, since the subtraction stops at 0
unfoldable pub biweight_at : ℕ → ℕ → ℕ
biweight_at h u = (h * h - u * u) * (h * h - u * u)

-- the weight of a minute
abbrev pub biweight_kernel : ℕ → ℕ → ℕ → ℕ
biweight_kernel z h t = biweight_at h (distance t z)

-- weight adds up the kernel over the run
unfoldable pub biweight_weight : List ℕ → ℕ → ℕ → ℕ
biweight_weight ts z h = over_run (λ i. biweight_kernel z h (get_or ts i 0)) ts z h

-- sum adds up kernel times value
unfoldable pub biweight_sum : List ℕ → List ℕ → ℕ → ℕ → ℕ
biweight_sum ts vs z h = over_run (λ i. biweight_kernel z h (get_or ts i 0) * get_or vs i 0) ts z h

-- the row: edges and value are those of any row, by its own weight and sum
unfoldable pub biweight_row : List ℕ → List ℕ → ℕ → ℕ → Estimate
biweight_row ts vs z h = record {
  left = left_of ts z h;
  right = right_of ts z h;
  weight = biweight_weight ts z h;
  sum = biweight_sum ts vs z h;
  value = value_of (biweight_sum ts vs z h) (biweight_weight ts z h);
}

-- the call is refused for: 8, 6, 4
abbrev pub biweight_refusal : Limits → List ℕ → List ℕ → Option Fault
biweight_refusal L ts vs = first_of (series_checks L ts vs)

-- the call: the row at its half width, or the report
unfoldable pub biweight : Limits → List ℕ → List ℕ → ℕ → Answer Estimate
biweight L ts vs z = unless (biweight_refusal L ts vs) (biweight_row ts vs z biweight_bandwidth)

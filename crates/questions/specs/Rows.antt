-- What the functions under the call ask and say.
use Rattle.std.specs.Prelude.{ℕ, ◌*◌, ◌≤◌, ◌≡◌, List, length, get_or}
use Rattle.meanings.specs.declared.Estimate.{Estimate}
use Rattle.meanings.specs.Limits.{full}
use Rattle.meanings.specs.Lists.{total, Ordered}
use Rattle.meanings.specs.biweight.Biweight.{biweight_bandwidth, biweight_kernel, biweight_row}
use Rattle.questions.specs.Table.{IsTable}
use Rattle.questions.specs.declared.biweight.Weighed as declared

-- readings that pass every check
pub record SeriesAccepted (ts vs : List ℕ) : Type 0 where
  pub even : length ts ≡ length vs
  pub few : length ts ≤ full.samples
  pub ordered : Ordered ts

-- the readings of a run, no more than there may be, and the table of weights
pub record ShortRun (ts vs ws : List ℕ) : Type 0 where
  pub table : IsTable ws
  pub even : length ts ≡ length vs
  pub few : length ts ≤ full.samples

-- the terms of weight and sum
abbrev pub weight_term : List ℕ → ℕ → ℕ → ℕ
weight_term ts z i = biweight_kernel z biweight_bandwidth (get_or ts i 0)

abbrev pub sum_term : List ℕ → List ℕ → ℕ → ℕ → ℕ
sum_term ts vs z i = weight_term ts z i * get_or vs i 0

-- r holds weight and sum over the readings of a run
pub record Weighed (ts vs : List ℕ) (z : ℕ) (r : declared.Weighed) : Type 0 where
  pub weight_is : r.weight ≡ total (weight_term ts z) 0 (length ts)
  pub sum_is : r.sum ≡ total (sum_term ts vs z) 0 (length ts)

-- e is the row
pub record RowAt (ts vs : List ℕ) (z : ℕ) (e : Estimate) : Type 0 where
  pub row_is : e ≡ biweight_row ts vs z biweight_bandwidth

-- What holds of records that steps and turns lead to.
use Rattle.std.specs.Prelude.{ℕ, ◌+◌, ◌-◌, ◌*◌, ◌≤◌, ◌≡◌, List, length}
use Rattle.meanings.specs.declared.RunningSums.{RunningSums}
use Rattle.meanings.specs.Estimate.{left_of, right_of}
use Rattle.meanings.specs.Running.{six, power_sum, window_sums}

-- the run lies within the readings, and the six sums are direct sums over it
pub record Direct (ts vs : List ℕ) (r : RunningSums) : Type 0 where
  pub edges : r.left ≤ r.right
  pub inside : r.right ≤ length ts
  pub sums_are_direct : r.sums ≡ six (power_sum ts vs r.left (r.right - r.left))

-- two records that differ in their passes at most
pub record AlikeButPasses (r s : RunningSums) : Type 0 where
  pub left_alike : r.left ≡ s.left
  pub right_alike : r.right ≡ s.right
  pub sums_alike : r.sums ≡ s.sums

-- the edges of the row at z, and the six sums over its run
pub record OnWindow (ts vs : List ℕ) (z h : ℕ) (r : RunningSums) : Type 0 where
  pub left_is : r.left ≡ left_of ts z h
  pub right_is : r.right ≡ right_of ts z h
  pub sums_are : r.sums ≡ window_sums ts vs z h

-- passes of edges that have only gone forth: at most two for each reading
pub record CountedOnce (ts : List ℕ) (r : RunningSums) : Type 0 where
  pub passes_are_edges : r.passes ≡ r.right + r.left
  pub twice_at_most : r.passes ≤ 2 * length ts

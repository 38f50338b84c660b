-- What the record is before any step, and after one.
use Rattle.std.specs.Prelude.{ℕ, ◌≡◌, List}
use Rattle.meanings.specs.declared.RunningSums.{RunningSums}
use Rattle.meanings.specs.Running.{fresh, after_step, record_row}
use Rattle.regression.specs.declared.step.Reached.{Reached}

-- r is a record before any step
pub record IsFresh (r : RunningSums) : Type 0 where
  pub zeros : r ≡ fresh

-- r' is the record after a step on r
pub record Stepped (ts vs : List ℕ) (r : RunningSums) (z h : ℕ) (r' : RunningSums) : Type 0 where
  pub after : r' ≡ after_step ts vs r (record { point = z; bandwidth = h })

-- x is the record after a step on r, and the row that it gives at that mark
pub record SteppedRow (ts vs : List ℕ) (r : RunningSums) (z h : ℕ) (x : Reached) : Type 0 where
  pub step : Stepped ts vs r z h x.running
  pub row_is : x.row ≡ record_row x.running z h

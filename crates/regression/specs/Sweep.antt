-- What the functions under the call say.
use Rattle.std.specs.Prelude.{ℕ, ◌*◌, ◌≡◌, List, length}
use Rattle.meanings.proofs.SmoothSteps.{CurveAccepted}
use Rattle.meanings.specs.ranges.Ranges.{range_row_width}

-- lists of an accepted call, with so many numbers in its rows
pub record SweepAccepted (ts ls us zs hs : List ℕ) (rows : ℕ) : Type 0 where
  pub lows : CurveAccepted ts ls zs hs
  pub highs : CurveAccepted ts us zs hs
  pub rows_fit : rows ≡ range_row_width * length zs

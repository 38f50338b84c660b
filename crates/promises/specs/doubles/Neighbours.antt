-- That weight and sum are had back from every row of the half widths by neighbours, of the calls. SPECIFICATION 17.6.
use Rattle.std.specs.Prelude.{ℕ, ◌<◌, ◌≡◌, List, length, Float}
use Rattle.std.specs.Prelude.{Ok}
use Rattle.std.specs.Prelude.{None}
use Rattle.meanings.specs.Limits.{max_u16}
use Rattle.meanings.specs.Lists.{AtMost}
use Rattle.meanings.specs.declared.doubles.RowCells.{RowCells}
use Rattle.text.specs.Table.{stored_row}
use Rattle.promises.specs.conditions.Conditions.{code_refusal}
use Rattle.promises.specs.neighbours.ByNeighbours.{NeighboursCall, ExportedNeighbours}
use Rattle.promises.specs.doubles.Doubles.{RowCellsCall, RowHadBack, ExportedRow, ExportedHadBack}

pub record NeighboursHadBack : Type 0 where
  pub neighbours_had_back : (ts vs zs : List ℕ) (k : ℕ) (hs rs hs' rs' : List ℕ) (i : ℕ) (c : RowCells) → AtMost max_u16 ts → AtMost max_u16 vs
      → AtMost max_u16 zs → NeighboursCall ts vs zs k hs rs (Ok tt) hs' rs' → i < length zs → RowCellsCall (stored_row rs' i) c
      → RowHadBack (stored_row rs' i) c
  pub exported_neighbours_had_back : (ts vs zs : List ℕ) (k : ℕ) (hs rs : List ℕ) (a : ℕ) (hs' rs' : List ℕ) (i c : ℕ) (xs' : List Float) (d : ℕ)
      (ys' : List Float) → AtMost max_u16 ts → AtMost max_u16 vs → AtMost max_u16 zs → ExportedNeighbours ts vs zs k hs rs a hs' rs'
      → code_refusal a ≡ None → i < length zs → ExportedRow (stored_row rs' i) c xs' d ys' → ExportedHadBack (stored_row rs' i) c xs' d ys'

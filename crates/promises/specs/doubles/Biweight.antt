-- That weight and sum are had back from every biweight row, of the calls. SPECIFICATION 17.6.
use Rattle.std.specs.Prelude.{ℕ, ◌≡◌, List, Float}
use Rattle.std.specs.Prelude.{Ok}
use Rattle.std.specs.Prelude.{None}
use Rattle.meanings.specs.declared.Estimate.{Estimate}
use Rattle.meanings.specs.Limits.{max_u16}
use Rattle.meanings.specs.Lists.{AtMost}
use Rattle.meanings.specs.declared.doubles.RowCells.{RowCells}
use Rattle.text.specs.Table.{stored_row}
use Rattle.promises.specs.conditions.Conditions.{code_refusal}
use Rattle.promises.specs.biweight.Biweights.{BiweightCall, ExportedBiweight}
use Rattle.promises.specs.doubles.Doubles.{RowCellsCall, RowHadBack, ExportedRow, ExportedHadBack}

pub record BiweightHadBack : Type 0 where
  pub biweight_had_back : (ts vs : List ℕ) (z : ℕ) (e : Estimate) (c : RowCells) → AtMost max_u16 vs → BiweightCall ts vs z (Ok e) → RowCellsCall e c
      → RowHadBack e c
  pub exported_biweight_had_back : (ts vs : List ℕ) (z : ℕ) (row : List ℕ) (k : ℕ) (row' : List ℕ) (c : ℕ) (xs' : List Float) (d : ℕ)
      (ys' : List Float) → AtMost max_u16 vs → ExportedBiweight ts vs z row k row' → code_refusal k ≡ None
      → ExportedRow (stored_row row' 0) c xs' d ys' → ExportedHadBack (stored_row row' 0) c xs' d ys'

-- That weight and both sums are had back from every row of the sweep over ranges, of the calls. SPECIFICATION 18.19.
use Rattle.std.specs.Prelude.{ℕ, ◌<◌, ◌≡◌, List, length, Float}
use Rattle.std.specs.Prelude.{Ok}
use Rattle.std.specs.Prelude.{None}
use Rattle.meanings.specs.Limits.{max_u16}
use Rattle.meanings.specs.Lists.{AtMost}
use Rattle.meanings.specs.declared.doubles.Cell.{Cell}
use Rattle.meanings.specs.doubles.Doubles.{cell_doubles, HadBack}
use Rattle.meanings.specs.declared.ranges.RangeEstimate.{RangeEstimate}
use Rattle.promises.specs.conditions.Conditions.{code_refusal}
use Rattle.promises.specs.ranges.OverRanges.{RangesCall, ExportedRanges, stored_range_row}
use Rattle.promises.specs.doubles.Doubles.{NumberCellCall, ExportedDoubles, doubles_of_answer}

-- each of the row's three numbers, handed over under the row's weight
pub record RangeCells (r : RangeEstimate) (w l u : Cell) : Type 0 where
  pub weight_call : NumberCellCall r.weight r.weight w
  pub low_call : NumberCellCall r.weight r.sum.low l
  pub high_call : NumberCellCall r.weight r.sum.high u

pub record RangeHadBack (r : RangeEstimate) (w l u : Cell) : Type 0 where
  pub weight_had_back : HadBack (cell_doubles w) r.weight
  pub low_had_back : HadBack (cell_doubles l) r.sum.low
  pub high_had_back : HadBack (cell_doubles u) r.sum.high

pub record RangesHadBack : Type 0 where
  pub ranges_had_back : (ts ls us zs hs rs : List ℕ) (n : ℕ) (rs' : List ℕ) (k : ℕ) (w l u : Cell) → AtMost max_u16 us
      → RangesCall ts ls us zs hs rs (Ok n) rs' → k < length zs → RangeCells (stored_range_row rs' k) w l u
      → RangeHadBack (stored_range_row rs' k) w l u
  -- the same of the calls for C and Rust, which are given two doubles to write for each number
  pub exported_low_had_back : (ts ls us zs hs rs : List ℕ) (a : ℕ) (rs' : List ℕ) (k : ℕ) (xs : List Float) (c : ℕ) (xs' : List Float)
      → AtMost max_u16 us → ExportedRanges ts ls us zs hs rs a rs' → code_refusal a ≡ None → k < length zs → length xs ≡ 2
      → ExportedDoubles (stored_range_row rs' k).weight (stored_range_row rs' k).sum.low xs c xs'
      → HadBack (doubles_of_answer c xs') (stored_range_row rs' k).sum.low
  pub exported_high_had_back : (ts ls us zs hs rs : List ℕ) (a : ℕ) (rs' : List ℕ) (k : ℕ) (xs : List Float) (c : ℕ) (xs' : List Float)
      → AtMost max_u16 us → ExportedRanges ts ls us zs hs rs a rs' → code_refusal a ≡ None → k < length zs → length xs ≡ 2
      → ExportedDoubles (stored_range_row rs' k).weight (stored_range_row rs' k).sum.high xs c xs'
      → HadBack (doubles_of_answer c xs') (stored_range_row rs' k).sum.high

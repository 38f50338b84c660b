-- SPECIFICATION, "Ranges": the rows of readings of which each value is known only to lie between two, and what their sweep is refused for.
-- ts are the minutes of the readings, ls and us the lowest and the highest values that each can have, zs and hs the marks and their half widths.
use Rattle.std.specs.Prelude.{ℕ, zero, suc, Bool, ◌||◌, List, [], ◌∷◌, ◌++◌, ltb, length, get_or, Option}
use Rattle.meanings.specs.declared.Limits.{Limits}
use Rattle.meanings.specs.Lists.{lowest}
use Rattle.meanings.specs.Moves.{moves}
use Rattle.meanings.specs.Reports.{Fault, Answer, unless, accepted_or, Check, check, first_of, uneven_samples, uneven_rows}
use Rattle.meanings.specs.Reports.{curve_size_checks, sample_order_checks, point_order_checks, windows_checks}
use Rattle.meanings.specs.Estimate.{estimate}
use Rattle.meanings.specs.Running.{fresh, passes}
use Rattle.meanings.specs.declared.ranges.RangeEstimate.{RangeEstimate}

-- the row of a mark: edges and weight, which no value moves, then sum and value of the lowest values and of the highest
unfoldable pub range_estimate : List ℕ → List ℕ → List ℕ → ℕ → ℕ → RangeEstimate
range_estimate ts ls us z h = record {
  left = (estimate ts ls z h).left;
  right = (estimate ts ls z h).right;
  weight = (estimate ts ls z h).weight;
  sum = record { low = (estimate ts ls z h).sum; high = (estimate ts us z h).sum };
  value = record { low = (estimate ts ls z h).value; high = (estimate ts us z h).value };
}

-- how many numbers such a row takes in the list of rows
abbrev pub range_row_width : ℕ
range_row_width = 7

-- the row as these numbers
abbrev pub range_fields : RangeEstimate → List ℕ
range_fields e = e.left ∷ e.right ∷ e.weight ∷ e.sum.low ∷ e.sum.high ∷ e.value.low ∷ e.value.high ∷ []

-- the flat list of the rows of the first n marks
abbrev pub range_rows : List ℕ → List ℕ → List ℕ → List ℕ → List ℕ → ℕ → List ℕ
range_rows ts ls us zs hs zero = []
range_rows ts ls us zs hs (suc n) = range_rows ts ls us zs hs n ++ range_fields (range_estimate ts ls us (get_or zs n 0) (get_or hs n 0))

-- report 15: at position k the lowest value is above the highest
abbrev pub crossed : List ℕ → List ℕ → ℕ → Bool
crossed ls us k = ltb (get_or us k 0) (get_or ls k 0)

abbrev pub crossed_checks : List ℕ → List ℕ → List Check
crossed_checks ls us = check 15 (lowest (crossed ls us) (length ls)) ∷ []

-- the sweep over ranges, with room for so many numbers in its rows: 8 (three lists of readings, marks with half widths, rows), 6, 7, 4, 15, 5,
-- 9, 10
abbrev pub range_checks : Limits → List ℕ → List ℕ → List ℕ → List ℕ → List ℕ → ℕ → List Check
range_checks L ts ls us zs hs rows =
    curve_size_checks L ts ls zs hs (uneven_samples ts us || uneven_rows range_row_width rows (length zs))
    ++ sample_order_checks ts
    ++ crossed_checks ls us
    ++ point_order_checks zs
    ++ windows_checks zs hs

abbrev pub range_refusal : Limits → List ℕ → List ℕ → List ℕ → List ℕ → List ℕ → List ℕ → Option Fault
range_refusal L ts ls us zs hs rs = first_of (range_checks L ts ls us zs hs (length rs))

-- the whole call: its passes, which are those of a sweep over the lowest values, or the report
unfoldable pub smooth_ranges : Limits → List ℕ → List ℕ → List ℕ → List ℕ → List ℕ → List ℕ → Answer ℕ
smooth_ranges L ts ls us zs hs rs = unless (range_refusal L ts ls us zs hs rs) (passes ts ls fresh (moves zs hs))

-- and the rows at exit
unfoldable pub smooth_ranges_rows : Limits → List ℕ → List ℕ → List ℕ → List ℕ → List ℕ → List ℕ → List ℕ
smooth_ranges_rows L ts ls us zs hs rs = accepted_or (range_refusal L ts ls us zs hs rs) (range_rows ts ls us zs hs (length zs)) rs

-- Where the two greatest lengths of a text come from: the names, the longest line for each mark, the empty line, the names of the totals and the
-- longest totals. That no text is longer is proved in crates/laws and crates/promises.
use Prim.Native.Nat.{ℕ, ◌+◌, ◌-◌, ◌*◌, ◌^◌}
use mathlib.Core.Path.{◌≡◌, refl}
use mathlib.Core.List.{List, [], ◌∷◌}
use lib.ListN.{length}
use Rattle.meanings.specs.declared.Estimate.{Estimate}
use Rattle.meanings.specs.declared.ranges.RangeEstimate.{RangeEstimate}
use Rattle.meanings.specs.Limits.{full, max_u16, max_bandwidth, max_output, max_plain_output}
use Rattle.meanings.specs.Bytes.{curve_header, totals_header}
use Rattle.meanings.specs.Output.{text_line, decimal, decimal_with, curve_line}
use Rattle.meanings.specs.ranges.RangeOutput.{range_curve_header, range_curve_line}

-- the row of as many readings as there may be, each of the greatest value and all at the mark, with the greatest half width
abbrev row : Estimate
row = record { left = 1024; right = 1024; weight = 2 ^ 42; sum = 2 ^ 58 - 2 ^ 42; value = max_u16 }

abbrev range_row : RangeEstimate
range_row = record {
  left = row.left;
  right = row.right;
  weight = row.weight;
  sum = record { low = row.sum; high = row.sum };
  value = record { low = row.value; high = row.value };
}

-- the empty line, the names of the totals, and the totals: each reading is kept and passed twice
abbrev end_length : ℕ
end_length = 1 + length (text_line totals_header []) + length (text_line (decimal full.samples) (decimal (2 * full.samples) ∷ []))

pub plain_length : length (text_line curve_header []) + full.points * length (curve_line max_u16 max_bandwidth row) + end_length ≡ max_plain_output
unfolding decimal decimal_with
plain_length = refl

pub range_length :
    length (text_line range_curve_header []) + full.points * length (range_curve_line max_u16 max_bandwidth range_row) + end_length ≡ max_output
unfolding decimal decimal_with
range_length = refl

-- Two records with the same edges, of the lows and of the highs, and what a reading more or less makes of their sums.
use Rattle.std.specs.Prelude.{ℕ, ◌*◌, ◌^◌, ◌≡◌}
use Rattle.meanings.specs.declared.Estimate.{Estimate}
use Rattle.meanings.specs.declared.PowerSums.{PowerSums}
use Rattle.meanings.specs.declared.RunningSums.{RunningSums}
use Rattle.meanings.specs.Running.{six, sum_at, record_row}
use Rattle.meanings.specs.declared.ranges.RangeEstimate.{RangeEstimate}
use Rattle.arithmetic.specs.declared.ranges.BothSums.{BothSums}
use Rattle.arithmetic.specs.declared.ranges.BothRecord.{BothRecord}
use Rattle.arithmetic.specs.declared.ranges.ValueSums.{ValueSums}

-- the six sums of a side, of which v are the three that values move
abbrev pub side_sums : BothSums → ValueSums → PowerSums
side_sums s v = record { s00 = s.s00; s10 = s.s10; s20 = s.s20; s01 = v.s01; s11 = v.s11; s21 = v.s21 }

abbrev pub low_sums : BothSums → PowerSums
low_sums s = side_sums s s.low

abbrev pub high_sums : BothSums → PowerSums
high_sums s = side_sums s s.high

-- the three sums that values move, of six
abbrev pub value_sums : PowerSums → ValueSums
value_sums s = record { s01 = s.s01; s11 = s.s11; s21 = s.s21 }

-- both together, where the sums without values are the same
abbrev pub beside : PowerSums → PowerSums → BothSums
beside l u = record { s00 = l.s00; s10 = l.s10; s20 = l.s20; low = value_sums l; high = value_sums u }

-- the record of a side
abbrev pub side_record : BothRecord → ValueSums → RunningSums
side_record r v = record { left = r.left; right = r.right; sums = side_sums r.sums v; passes = r.passes }

abbrev pub low_record : BothRecord → RunningSums
low_record r = side_record r r.sums.low

abbrev pub high_record : BothRecord → RunningSums
high_record r = side_record r r.sums.high

-- each sum, joined by op with the term of a reading at minute t, from l to u, makes r's
pub record RangeJoined (op : ℕ → ℕ → ℕ) (s : BothSums) (t l u : ℕ) (r : BothSums) : Type 0 where
  pub low : low_sums r ≡ six (λ p q. op (sum_at (low_sums s) p q) (t ^ p * l ^ q))
  pub high : high_sums r ≡ six (λ p q. op (sum_at (high_sums s) p q) (t ^ p * u ^ q))

-- the row over ranges that the row of the lows and that of the highs make
abbrev pub both_row : Estimate → Estimate → RangeEstimate
both_row l u = record {
  left = l.left;
  right = l.right;
  weight = l.weight;
  sum = record { low = l.sum; high = u.sum };
  value = record { low = l.value; high = u.value };
}

-- e is the row over ranges of both records at z with h
pub record RowOfBoth (r : BothRecord) (z h : ℕ) (e : RangeEstimate) : Type 0 where
  pub row_is : e ≡ both_row (record_row (low_record r) z h) (record_row (high_record r) z h)

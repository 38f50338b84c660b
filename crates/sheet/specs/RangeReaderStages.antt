-- What the reader of both kinds leaves in lists of the right lengths, as one record.
use Rattle.std.specs.Prelude.{ℕ, ◌≡◌, List, Result}
use Rattle.meanings.specs.Limits.{full}
use Rattle.meanings.specs.declared.Refusal.{Refusal}
use Rattle.meanings.specs.Calls.{answer_of}
use Rattle.meanings.specs.declared.ranges.RangeCounts.{RangeCounts}
use Rattle.meanings.specs.ranges.RangeSheet.{read_either}
use Rattle.meanings.specs.ranges.RangeCalls.{range_counts, range_front, read_ranges, minutes_of, lows_of, highs_of, points_of, bandwidths_of}

-- the sheet read into lists of the right lengths, which hold what the meaning says afterwards
pub record ReadInto (s ts ls us zs hs : List ℕ) (r : Result RangeCounts Refusal) (ts' ls' us' zs' hs' : List ℕ) : Type 0 where
  pub answer : answer_of r ≡ range_counts (read_either full s)
  pub minutes : ts' ≡ range_front (read_either full s) minutes_of ts
  pub lows : ls' ≡ range_front (read_either full s) lows_of ls
  pub highs : us' ≡ range_front (read_either full s) highs_of us
  pub points : zs' ≡ range_front (read_either full s) points_of zs
  pub bandwidths : hs' ≡ range_front (read_either full s) bandwidths_of hs

-- the sheet read into lent lists of any lengths
pub record ReadLent (s ts ls us zs hs : List ℕ) (r : Result RangeCounts Refusal) (ts' ls' us' zs' hs' : List ℕ) : Type 0 where
  pub answer : answer_of r ≡ range_counts (read_ranges full s ts ls us zs hs)
  pub minutes : ts' ≡ range_front (read_ranges full s ts ls us zs hs) minutes_of ts
  pub lows : ls' ≡ range_front (read_ranges full s ts ls us zs hs) lows_of ls
  pub highs : us' ≡ range_front (read_ranges full s ts ls us zs hs) highs_of us
  pub points : zs' ≡ range_front (read_ranges full s ts ls us zs hs) points_of zs
  pub bandwidths : hs' ≡ range_front (read_ranges full s ts ls us zs hs) bandwidths_of hs

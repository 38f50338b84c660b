-- What is left of the meaning of a sheet of either kind once it is read. Each contract is one record.
use Rattle.std.specs.Prelude.{ℕ, ◌≤◌, ◌≡◌, Bool, ◌||◌, List, length, take, replicate, Result, Ok, Err}
use Rattle.meanings.specs.declared.Limits.{Limits}
use Rattle.meanings.specs.Limits.{full}
use Rattle.meanings.specs.Reports.{Answer, given, refused, fault_of, differ}
use Rattle.meanings.specs.declared.Refusal.{Refusal}
use Rattle.meanings.specs.declared.ranges.RangeCounts.{RangeCounts}
use Rattle.meanings.specs.ranges.RangeSheet.{RangeContents, read_either}
use Rattle.meanings.specs.ranges.RangeCalls.{read_ranges}

-- after the whole sheet, read into lists of full length
abbrev pub either_read : Result RangeCounts Refusal → List ℕ → List ℕ → List ℕ → List ℕ → List ℕ → Answer RangeContents
either_read (Ok c) ts ls us zs hs =
    given
    (record {
      kind = c.kind;
      minutes = take c.samples ts;
      lows = take c.samples ls;
      highs = take c.samples us;
      points = take c.points zs;
      bandwidths = take c.points hs;
    })
either_read (Err r) ts ls us zs hs = refused (fault_of r)

abbrev pub used_within : Result RangeCounts Refusal → Type 0
used_within (Ok c) = (c.samples ≤ 1024) × (c.points ≤ 512)
used_within (Err r) = Unit {0}

pub record EitherScanned (s : List ℕ) (r : Result RangeCounts Refusal) (ts ls us zs hs : List ℕ) : Type 0 where
  pub outcome : read_either full s ≡ either_read r ts ls us zs hs
  pub within : used_within r

-- report 8: a list of another length
abbrev pub uneven_reader : Limits → ℕ → ℕ → ℕ → ℕ → ℕ → Bool
uneven_reader L a b c d e =
    differ a L.samples || differ b L.samples || differ c L.samples || differ d L.points || differ e L.points

-- the whole call, with the lists as they were: the answer is what the reader makes of the sheet with these lists, whose used parts are then in
-- front; what they hold after a refusal is left open
pub record ScanOutcome (s ts₀ ls₀ us₀ zs₀ hs₀ : List ℕ) (r : Result RangeCounts Refusal) (ts ls us zs hs : List ℕ) : Type 0 where
  pub outcome : read_ranges full s ts₀ ls₀ us₀ zs₀ hs₀ ≡ either_read r ts ls us zs hs
  pub within : used_within r

-- a reader's own lists, before a sheet is read into them, and their lengths
pub record Zeros (ts ls us zs hs : List ℕ) : Type 0 where
  pub minutes : ts ≡ replicate 1024 0
  pub lows : ls ≡ replicate 1024 0
  pub highs : us ≡ replicate 1024 0
  pub points : zs ≡ replicate 512 0
  pub bandwidths : hs ≡ replicate 512 0

abbrev pub FullLists : List ℕ → List ℕ → List ℕ → List ℕ → List ℕ → Type 0
FullLists ts ls us zs hs = (length ts ≡ 1024) × (length ls ≡ 1024) × (length us ≡ 1024) × (length zs ≡ 512) × (length hs ≡ 512)

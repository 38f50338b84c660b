-- An edge's way of both records is that of each: one search, and the sums of the lows and of the highs joined with the same readings.
use Prim.Native.Nat.{ℕ, ◌+◌, ◌-◌, ◌^◌, ◌≤◌, ◌<◌}
use mathlib.Core.Path.{◌≡◌}
use mathlib.Core.List.{List}
use lib.ListN.{length, get_or}
use Rattle.meanings.specs.Lists.{distance}
use Rattle.meanings.specs.Running.{plus, minus}
use Rattle.regression.proofs.Laws.{Small, Joined, run_begins, run_grows, Searched, search_begins, search_goes_on, search_finds}
use Rattle.regression.proofs.Moves.{six_parts_move}
use Rattle.regression.proofs.Searches.{run_within, left_starts_within}
use Rattle.arithmetic.specs.declared.ranges.BothRecord.{BothRecord}
use Rattle.arithmetic.specs.declared.ranges.BothSums.{BothSums}
use Rattle.arithmetic.specs.Both.{low_sums, high_sums, low_record, high_record, RangeJoined}
use Rattle.arithmetic.specs.declared.sums.Edge.{Edge}
use Rattle.regression.specs.RangesSteps.{RangesWithin, BothPassed, BothAccepted, BothMoved}

-- of the run from a up to b the readings before i are joined to s, which makes r, and none of their minutes is at least m
pub record BothPassedTo (op : ℕ → ℕ → ℕ) (s : BothSums) (ts ls us : List ℕ) (a b m i : ℕ) (r : BothSums) : Type 0 where
  pub searched : Searched ts m a b i
  pub low : Joined op (low_sums s) ts ls a b i (low_sums r)
  pub high : Joined op (high_sums s) ts us a b i (high_sums r)

module _ {op : ℕ → ℕ → ℕ} {s : BothSums} {ts ls us : List ℕ} {a b m : ℕ} where
  pub passing_begins : (w : ℕ) → ((x : ℕ) → x < 2 ^ w → op x 0 ≡ x) → ((x y z : ℕ) → op (op x y) z ≡ op x (y + z)) → Small w (low_sums s)
      → Small w (high_sums s) → RangesWithin ts ls us a b → BothPassedTo op s ts ls us a b m a s
  passing_begins w none chain small small' l = record {
    searched = search_begins l.low.minutes.ordered;
    low = run_begins w none chain small l.low;
    high = run_begins w none chain small' l.high;
  }

  module _ {i : ℕ} {r : BothSums} (p : BothPassedTo op s ts ls us a b m i r) where
    pub passing_goes_on : {r' : BothSums} → i < b → get_or ts i 0 < m → RangeJoined op r (get_or ts i 0) (get_or ls i 0) (get_or us i 0) r'
        → BothPassedTo op s ts ls us a b m (i + 1) r'
    passing_goes_on l t e = record {
      searched = search_goes_on p.searched l t;
      low = run_grows p.low l e.low;
      high = run_grows p.high l e.high;
    }

    pub passing_stops : i < b → m ≤ get_or ts i 0 → BothPassed op s ts ls us a b m (record { at = i; sums = r })
    passing_stops l t = record { stops = search_finds p.searched l t; low = p.low.joined; high = p.high.joined }

-- the left edge's way lies within the readings
pub left_way_within : {ts ls us : List ℕ} {l₀ r₀ h m : ℕ} {s : BothSums} {e : Edge BothSums} → BothAccepted ts ls us l₀ r₀ h
    → BothPassed (plus 64) s ts ls us r₀ (length ts) m e → RangesWithin ts ls us l₀ e.at
left_way_within a p =
    let w = left_starts_within a.low p.stops in
    record { low = run_within a.low.even w.ordered w.inside; high = run_within a.high.even w.ordered w.inside }

pub both_ways_move : (ts ls us : List ℕ) (r : BothRecord) (z h : ℕ) {low n passes : ℕ} {right left : Edge BothSums}
    → low ≡ z - h
    → BothPassed (plus 64) r.sums ts ls us r.right (length ts) (z + h + 1) right
    → BothPassed (minus 64) right.sums ts ls us r.left right.at low left
    → n ≡ plus 64 r.passes (distance r.left left.at)
    → passes ≡ plus 64 n (distance r.right right.at)
    → BothMoved ts ls us r z h (record { left = left.at; right = right.at; sums = left.sums; passes = passes })
both_ways_move ts ls us r z h e a b f g = record {
  low = six_parts_move ts ls (low_record r) z h a.stops e b.stops a.low b.low f g;
  high = six_parts_move ts us (high_record r) z h a.stops e b.stops a.high b.high f g;
}

-- Searching and summing in one loop find what they find one after the other, so a step of two such ways is the meaning's.
use Prim.Native.Nat.{ℕ, ◌+◌, ◌-◌, ◌≤◌, ◌<◌}
use mathlib.Core.Path.{◌≡◌}
use mathlib.Core.List.{List}
use lib.ListN.{length, get_or}
use Rattle.meanings.specs.declared.PowerSums.{PowerSums}
use Rattle.meanings.specs.declared.RunningSums.{RunningSums}
use Rattle.meanings.specs.Lists.{distance}
use Rattle.meanings.specs.Running.{six, sum_at, term, plus, minus, moved}
use Rattle.meanings.proofs.Checks.{AdvanceAccepted}
use Rattle.regression.specs.Rows.{RunWithin}
use Rattle.regression.proofs.Laws.{Joined, run_grows, Searched, search_goes_on, search_finds}
use Rattle.regression.proofs.Moves.{six_parts_move}
use Rattle.regression.proofs.Searches.{run_within, left_starts_within}
use Rattle.arithmetic.specs.declared.sums.Edge.{Edge}
use Rattle.regression.specs.Passing.{PassedUntil}

-- of the run from a up to b the readings before i are joined to s, which makes r, and none of their minutes is at least m
pub record PassedTo (op : ℕ → ℕ → ℕ) (s : PowerSums) (ts vs : List ℕ) (a b m i : ℕ) (r : PowerSums) : Type 0 where
  pub searched : Searched ts m a b i
  pub joined : Joined op s ts vs a b i r

module _ {op : ℕ → ℕ → ℕ} {s : PowerSums} {ts vs : List ℕ} {a b m : ℕ} where
  module _ {i : ℕ} {r : PowerSums} (p : PassedTo op s ts vs a b m i r) where
    pub passing_goes_on : {r' : PowerSums} → i < b → get_or ts i 0 < m → r' ≡ six (λ p q. op (sum_at r p q) (term p q ts vs i))
        → PassedTo op s ts vs a b m (i + 1) r'
    passing_goes_on l t e = record { searched = search_goes_on p.searched l t; joined = run_grows p.joined l e }

    pub passing_stops : i < b → m ≤ get_or ts i 0 → PassedUntil op s ts vs a b m (record { at = i; sums = r })
    passing_stops l t = record { stops = search_finds p.searched l t; joined = p.joined.joined }

-- the left edge's way lies within the readings
pub left_way_within : {ts vs : List ℕ} {l₀ r₀ h m : ℕ} {s : PowerSums} {e : Edge PowerSums} → AdvanceAccepted ts vs l₀ r₀ h
    → PassedUntil (plus 64) s ts vs r₀ (length ts) m e → RunWithin ts vs l₀ e.at
left_way_within a p = let w = left_starts_within a p.stops in run_within a.even w.ordered w.inside

pub both_ways_move : (ts vs : List ℕ) (r : RunningSums) (z h : ℕ) {low n passes : ℕ} {right left : Edge PowerSums}
    → low ≡ z - h
    → PassedUntil (plus 64) r.sums ts vs r.right (length ts) (z + h + 1) right
    → PassedUntil (minus 64) right.sums ts vs r.left right.at low left
    → n ≡ plus 64 r.passes (distance r.left left.at)
    → passes ≡ plus 64 n (distance r.right right.at)
    → record { left = left.at; right = right.at; sums = left.sums; passes = passes } ≡ moved ts vs r z h
both_ways_move ts vs r z h e a b f g = six_parts_move ts vs r z h a.stops e b.stops a.joined b.joined f g

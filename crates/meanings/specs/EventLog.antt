-- SPECIFICATION, "The running record and the book", 3.14 to 3.19: the event log. Of a step it is told readings, mark and half width; it sees no
-- record.
use Rattle.std.specs.Prelude.{ℕ, zero, suc, ◌+◌, Bool, false, not, ◌&&◌, ◌||◌, List, [], ◌∷◌, ◌++◌, ltb, leb, eqb, length, get_or, Option}
use Rattle.meanings.specs.Lists.{pick}
use Rattle.meanings.specs.Limits.{full}
use Rattle.meanings.specs.Moves.{Move}
use Rattle.meanings.specs.Reports.{Fault, first_of, accepted_or, log_checks}

-- the positions inserted and those evicted (taken in, let go), each list in the order of adding
pub record EventLog : Type 0 where
  pub inserted : List ℕ
  pub evicted : List ℕ

-- both empty at first
abbrev pub empty_log : EventLog
empty_log = record { inserted = []; evicted = [] }

abbrev pub listed : ℕ → List ℕ → Bool
listed i [] = false
listed i (x ∷ xs) = eqb i x || listed i xs

-- the positions 0 to n - 1 at which the test is true, lowest first
abbrev pub positions : (ℕ → Bool) → ℕ → List ℕ
positions p zero = []
positions p (suc n) = positions p n ++ pick (p n) (n ∷ []) []

-- what an accepted step inserts: the positions up to the right edge that are not inserted yet
abbrev pub insertions : List ℕ → EventLog → Move → List ℕ
insertions ts b m =
    positions (λ i. not (listed i b.inserted) && leb (get_or ts i 0) (m.point + m.bandwidth)) (length ts)

abbrev pub with_insertions : List ℕ → EventLog → Move → List ℕ
with_insertions ts b m = b.inserted ++ insertions ts b m

-- and what it then evicts: inserted positions below the left edge that are not evicted yet
abbrev pub evictions : List ℕ → EventLog → Move → List ℕ
evictions ts b m =
    positions
    (λ i. listed i (with_insertions ts b m) && not (listed i b.evicted) && ltb (get_or ts i 0 + m.bandwidth) m.point)
    (length ts)

-- the book's own refusal: the first of 8, 6 and 9 that holds of what it is told
abbrev pub log_refusal : List ℕ → List ℕ → Move → Option Fault
log_refusal ts vs m = first_of (log_checks full ts vs m.bandwidth)

-- the book after a step: both lists stay where it is refused
abbrev pub log_step : List ℕ → List ℕ → EventLog → Move → EventLog
log_step ts vs b m =
    accepted_or (log_refusal ts vs m)
    (record { inserted = with_insertions ts b m; evicted = b.evicted ++ evictions ts b m })
    b

-- the book after a list of steps
abbrev pub log_after : List ℕ → List ℕ → EventLog → List Move → EventLog
log_after ts vs b [] = b
log_after ts vs b (m ∷ ms) = log_after ts vs (log_step ts vs b m) ms

-- how many are inserted, and how many are evicted
abbrev pub insertion_count : EventLog → ℕ
insertion_count b = length b.inserted

abbrev pub eviction_count : EventLog → ℕ
eviction_count b = length b.evicted

-- SPECIFICATION, "The three demands", 8.5 to 8.9: one claim about a list of steps over the same readings, with the event log, the book, beside
-- them.
-- It has no condition on lengths: where minutes and values differ in length or are over the limit, call and book refuse every step alike.
use Rattle.std.specs.Prelude.{ℕ, zero, suc, ◌+◌, ◌-◌, ◌≤◌, ◌≡◌, List, [], ◌∷◌, ◌++◌, Option, None, Some}
use Rattle.meanings.specs.declared.PowerSums.{PowerSums}
use Rattle.meanings.specs.declared.RunningSums.{RunningSums}
use Rattle.meanings.specs.Lists.{Ordered, AtMost}
use Rattle.meanings.specs.Limits.{max_u16}
use Rattle.meanings.specs.Moves.{Move}
use Rattle.meanings.specs.Reports.{Fault, Answer, given, refused, accepted_or}
use Rattle.meanings.specs.Published.{range_sum}
use Rattle.meanings.specs.Running.{six, fresh, advance, after}
use Rattle.meanings.specs.EventLog.{EventLog, empty_log, log_refusal, log_after, insertion_count, eviction_count}

-- the last accepted step once m is done, where o was the last one before: m itself, unless the book refuses it
abbrev pub accepted_next : List ℕ → List ℕ → Option Move → Move → Option Move
accepted_next ts vs o m = accepted_or (log_refusal ts vs m) (Some m) o

-- the same once a list of steps is done
abbrev pub accepted_after : List ℕ → List ℕ → Option Move → List Move → Option Move
accepted_after ts vs o [] = o
accepted_after ts vs o (m ∷ ms) = accepted_after ts vs (accepted_next ts vs o m) ms

-- the last accepted step of a list, if there is one
abbrev pub last_accepted : List ℕ → List ℕ → List Move → Option Move
last_accepted ts vs ms = accepted_after ts vs None ms

-- neither edge of m lies below that of o: not the left one z − h, compared without negative numbers, nor the right one z + h
abbrev pub NotBelow : Option Move → Move → Type 0
NotBelow None m = Unit {0}
NotBelow (Some o) m = (o.point + m.bandwidth ≤ m.point + o.bandwidth) × (o.point + o.bandwidth ≤ m.point + m.bandwidth)

-- along a list with o as the last accepted step in front, accepted steps never go below the one in front; refused ones are not looked at
abbrev pub NoEdgeBackAfter : List ℕ → List ℕ → Option Move → List Move → Type 0
NoEdgeBackAfter ts vs o [] = Unit {0}
NoEdgeBackAfter ts vs o (m ∷ ms) = (log_refusal ts vs m ≡ None → NotBelow o m) × NoEdgeBackAfter ts vs (accepted_next ts vs o m) ms

-- the same of a list with no step in front
abbrev pub NoEdgeBack : List ℕ → List ℕ → List Move → Type 0
NoEdgeBack ts vs ms = NoEdgeBackAfter ts vs None ms

-- the n positions from a on
abbrev pub positions_from : ℕ → ℕ → List ℕ
positions_from a zero = []
positions_from a (suc n) = positions_from a n ++ (a + n) ∷ []

-- the positions from a up to but without b, lowest first
abbrev pub between : ℕ → ℕ → List ℕ
between a b = positions_from a (b - a)

-- the six sums taken directly, over every reading in the closed window of the step accepted last; zero where there is none
abbrev pub window_direct : List ℕ → List ℕ → Option Move → PowerSums
window_direct ts vs None = six (λ p q. 0)
window_direct ts vs (Some m) = six (λ p q. range_sum p q ts vs m.point m.bandwidth)

-- what a call was refused with, if it was
abbrev pub refusal : {A : Type 0} → Answer A → Option Fault
refusal (given a) = None
refusal (refused e) = Some e

-- the record after a list of steps, of which the first gets a fresh one, and the book beside it, empty at first
abbrev pub record_after : List ℕ → List ℕ → List Move → RunningSums
record_after ts vs ms = after ts vs fresh ms

abbrev pub log_after_steps : List ℕ → List ℕ → List Move → EventLog
log_after_steps ts vs ms = log_after ts vs empty_log ms

-- what holds of the step m after the steps before, where the call had the record r, was refused with f or with nothing, and left the record r'
pub record StepHolds (ts vs : List ℕ) (before : List Move) (m : Move) (f : Option Fault) (r r' : RunningSums) : Type 0 where
  -- the call is refused exactly if the book is, with the same report and place
  pub refused_alike : f ≡ log_refusal ts vs m
  -- as many readings are inserted as the record's right edge has passed, and as many evicted as its left edge has
  pub right_counts_insertions : r'.right ≡ insertion_count (log_after_steps ts vs (before ++ m ∷ []))
  pub left_counts_evictions : r'.left ≡ eviction_count (log_after_steps ts vs (before ++ m ∷ []))
  -- what the right edge passes at this step the book inserts at it, lowest position first
  pub inserts : (log_after_steps ts vs (before ++ m ∷ [])).inserted ≡ (log_after_steps ts vs before).inserted ++ between r.right r'.right
  -- and what the left edge passes it evicts
  pub evicts : (log_after_steps ts vs (before ++ m ∷ [])).evicted ≡ (log_after_steps ts vs before).evicted ++ between r.left r'.left
  -- the six sums are the direct sums
  pub sums_are_direct : r'.sums ≡ window_direct ts vs (last_accepted ts vs (before ++ m ∷ []))

-- what holds of a whole list of steps: before any the record is fresh and the book empty, and after each step the above of the records that
-- the steps before it and the step itself leave
pub record StepsHold (ts vs : List ℕ) (ms : List Move) : Type 0 where
  pub record_at_first : record_after ts vs [] ≡ fresh
  pub log_at_first : log_after_steps ts vs [] ≡ empty_log
  pub each : (before rest : List Move) (m : Move) → ms ≡ before ++ m ∷ rest
      → StepHolds ts vs before m (refusal (advance ts vs (record_after ts vs before) m.point m.bandwidth)) (record_after ts vs before)
      (record_after ts vs (before ++ m ∷ []))

-- for all readings of 16 bits whose minutes never fall, and every list of steps over them with no edge back
abbrev pub Demand3 : Type 0
Demand3 = (ts vs : List ℕ) (ms : List Move) → AtMost max_u16 ts → AtMost max_u16 vs → Ordered ts → NoEdgeBack ts vs ms → StepsHold ts vs ms

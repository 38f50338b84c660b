-- SPECIFICATION, "The turn": a record moved to any window, its edges forth or back, and records that steps and turns lead to.
use Rattle.std.specs.Prelude.{ℕ, ◌-◌, ◌≡◌, List, [], ◌∷◌, Option}
use Rattle.meanings.specs.declared.PowerSums.{PowerSums}
use Rattle.meanings.specs.declared.RunningSums.{RunningSums}
use Rattle.meanings.specs.Estimate.{left_of, right_of}
use Rattle.meanings.specs.Limits.{full}
use Rattle.meanings.specs.Moves.{Move}
use Rattle.meanings.specs.Reports.{Fault, Answer, unless, first_of, accepted_or, turn_checks}
use Rattle.meanings.specs.Running.{six, sum_at, plus, minus, power_sum, window_sum, new_passes, fresh, after_step}

-- the sums after a turn: the old ones with the direct sums over the new run and without those over the old run, modulo 2^64
abbrev pub turned_sums : List ℕ → List ℕ → RunningSums → ℕ → ℕ → PowerSums
turned_sums ts vs r z h =
    six (λ p q.
    minus 64
    (plus 64 (sum_at r.sums p q) (window_sum ts vs z h p q))
    (power_sum ts vs r.left (r.right - r.left) p q))

-- what an accepted turn makes of a record: its edges are those of the window's row
unfoldable pub turned : List ℕ → List ℕ → RunningSums → ℕ → ℕ → RunningSums
turned ts vs r z h = record {
  left = left_of ts z h;
  right = right_of ts z h;
  sums = turned_sums ts vs r z h;
  passes = new_passes r (left_of ts z h) (right_of ts z h);
}

-- what a turn is refused for
abbrev pub turn_refusal : List ℕ → List ℕ → RunningSums → ℕ → Option Fault
turn_refusal ts vs r h = first_of (turn_checks full ts vs r.left r.right h)

-- the record after a turn: the turned one, or the old one where it is refused
unfoldable pub turn_record : List ℕ → List ℕ → RunningSums → ℕ → ℕ → RunningSums
turn_record ts vs r z h = accepted_or (turn_refusal ts vs r h) (turned ts vs r z h) r

-- both as one answer: the turned record, or the report
unfoldable pub turn_answer : List ℕ → List ℕ → RunningSums → ℕ → ℕ → Answer RunningSums
turn_answer ts vs r z h = unless (turn_refusal ts vs r h) (turned ts vs r z h)

-- a step or a turn, with its mark and half width
pub data Motion : Type 0 where
  step turn : Move → Motion

-- the record after a step or a turn, accepted or refused
abbrev pub after_motion : List ℕ → List ℕ → RunningSums → Motion → RunningSums
after_motion ts vs r (step m) = after_step ts vs r m
after_motion ts vs r (turn m) = turn_record ts vs r m.point m.bandwidth

-- the record after a list of them over the same readings
abbrev pub after_motions : List ℕ → List ℕ → RunningSums → List Motion → RunningSums
after_motions ts vs r [] = r
after_motions ts vs r (m ∷ ms) = after_motions ts vs (after_motion ts vs r m) ms

-- a record that some list of steps and turns over these readings leads to, from a fresh one
pub record Reached (ts vs : List ℕ) (r : RunningSums) : Type 0 where
  pub motions : List Motion
  pub leads_to : r ≡ after_motions ts vs fresh motions

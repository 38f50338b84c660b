-- Over accepted lists each step lands on its mark's window, so the row that the record gives there is the mark's.
use Prim.Native.Nat.{ℕ, suc, ◌+◌, ◌^◌, ◌≤◌, ◌<◌}
use mathlib.Core.Path.{◌≡◌, refl, sym, ap, ◌∙◌}
use mathlib.Core.List.{List}
use native.Mathlib.Numerals.{add-one}
use native.Mathlib.Omega.{arith}
use lib.ListN.{length, get_or}
use Rattle.meanings.specs.declared.RunningSums.{RunningSums}
use Rattle.meanings.specs.Estimate.{estimate}
use Rattle.meanings.specs.Running.{next_record, after_step, record_row}
use Rattle.meanings.proofs.Steps.{Small, at_window}
use Rattle.meanings.proofs.SmoothSteps.{CurveAccepted, running_at, running_within, step_accepted}
use Rattle.meanings.proofs.SmoothRows.{record_of_window_gives_row}
use Rattle.arithmetic.proofs.Zeros.{IsZeros, zeros}
use Rattle.regression.specs.declared.step.Reached.{Reached}
use Rattle.regression.specs.Rows.{Of16Bits}
use Rattle.regression.specs.StepSteps.{IsFresh, SteppedRow}
use Rattle.regression.proofs.Rows.{of_16_bits}

-- what the clause of the derived default says of its result
abbrev pub IsDefault : RunningSums → Type 0
IsDefault r = (r.left ≡ 0) × ((r.right ≡ 0) × (IsZeros r.sums × (r.passes ≡ 0)))

-- so the result is a record before any step: the sweep and the searches of `questions` begin with it
pub default_fresh : {r : RunningSums} → IsDefault r → IsFresh r
default_fresh (l, (m, (s, p))) = record { zeros = λ i. record { left = l i; right = m i; sums = zeros s i; passes = p i } }

-- r is the record after k steps, one a mark, over accepted lists
pub record SteppedTo (ts vs zs hs : List ℕ) (k : ℕ) (r : RunningSums) : Type 0 where
  pub small : Small ts vs
  pub accepted : CurveAccepted ts vs zs hs
  pub running : r ≡ running_at ts vs zs hs k

-- the fresh record is that after no steps
pub steps_begin : {ts vs zs hs : List ℕ} {r : RunningSums} → CurveAccepted ts vs zs hs → Of16Bits ts → Of16Bits vs → IsFresh r
    → SteppedTo ts vs zs hs 0 r
steps_begin a t v f = record { small = of_16_bits a.even a.few t v; accepted = a; running = f.zeros }

-- its edges, which are the passes of these steps, are as few as the readings
pub edges_fit : {ts vs zs hs : List ℕ} {k : ℕ} {r : RunningSums} → SteppedTo ts vs zs hs k r → r.right + r.left < 2 ^ 64
edges_fit {ts} {vs} {zs} {hs} {k} {r} w =
    let e : (r.left ≤ r.right) × (r.right ≤ length ts) = rw w.running (running_within ts vs zs hs w.small w.accepted k) in
    omega (arith, w.small.few)

module _ {ts vs zs hs : List ℕ} {k : ℕ} {r : RunningSums} {x : Reached} (w : SteppedTo ts vs zs hs k r) (l : k < length zs)
    (m : SteppedRow ts vs r (get_or zs k 0) (get_or hs k 0) x) where
  pub next_running : x.running ≡ running_at ts vs zs hs (suc k)
  next_running =
      m.step.after
      ∙ ap (λ (q : RunningSums). after_step ts vs q (record { point = get_or zs k 0; bandwidth = get_or hs k 0 })) w.running
      ∙ ap (next_record (running_at ts vs zs hs k)) (step_accepted ts vs zs hs w.small w.accepted k l)

  pub steps_go_on : SteppedTo ts vs zs hs (k + 1) x.running
  steps_go_on = record {
    small = w.small;
    accepted = w.accepted;
    running = next_running ∙ ap (running_at ts vs zs hs) (sym (add-one k));
  }

  pub row_there : x.row ≡ estimate ts vs (get_or zs k 0) (get_or hs k 0)
  row_there =
      m.row_is
      ∙ ap (λ (q : RunningSums). record_row q (get_or zs k 0) (get_or hs k 0)) next_running
      ∙ record_of_window_gives_row ts vs (get_or zs k 0) (get_or hs k 0) (at_window ts vs (get_or zs k 0) (get_or hs k 0))
      w.accepted.ordered
      (record {
        even = w.small.even;
        few = w.small.few;
        values = w.small.values;
        bandwidth = (w.accepted.bandwidths k l).1;
      })
      refl refl refl

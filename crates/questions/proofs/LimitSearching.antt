-- The invariant of the search: none of the marks before k is low enough, and the record is that after k steps. So the row that the next step gives
-- is the mark's, and the record's edges are the passes.
use Prim.Native.Nat.{ℕ, ◌+◌, ◌^◌, ◌≤◌, ◌<◌, zero-le}
use Rattle.std.specs.Prelude.{Result, Ok}
use Rattle.meanings.specs.declared.limit.Located.{Located}
use mathlib.Core.Path.{◌≡◌, sym, ap, ◌∙◌}
use mathlib.Core.Bool.{Bool, true, false}
use mathlib.Core.List.{List}
use Rattle.std.specs.Prelude.{None, Some}
use native.Mathlib.Omega.{arith}
use lib.ListN.{length, get_or}
use Rattle.meanings.specs.declared.Limits.{Limits}
use Rattle.meanings.specs.declared.Refusal.{Refusal}
use Rattle.meanings.specs.declared.RunningSums.{RunningSums}
use Rattle.meanings.specs.Limits.{full}
use Rattle.meanings.specs.Moves.{moves}
use Rattle.meanings.specs.Reports.{verdict_fault, first_of, curve_checks}
use Rattle.meanings.specs.Running.{fresh, passes}
use Rattle.meanings.proofs.Checks.{same_limits}
use Rattle.meanings.proofs.Search.{NoneBelow, one_more_below, none_lowest, lowest_at}
use Rattle.meanings.proofs.SmoothSteps.{CurveAccepted, curve_accepts, running_at, passes_are_edges}
use Rattle.meanings.specs.limit.Threshold.{at_or_below, low_enough}
use Rattle.meanings.specs.limit.Crossing.{low_at}
use Rattle.meanings.proofs.LimitPasses.{passes_to_point}
use Rattle.regression.specs.declared.step.Reached.{Reached as Step}
use Rattle.regression.specs.Rows.{Of16Bits}
use Rattle.regression.specs.StepSteps.{IsFresh, SteppedRow}
use Rattle.regression.proofs.StepSweeping.{SteppedTo, steps_begin, edges_fit, steps_go_on, next_running, row_there}
use Rattle.questions.specs.LimitSearch.{Searched}

pub record NoneLowTo (ts vs zs hs : List ℕ) (limit k : ℕ) (r : RunningSums) : Type 0 where
  pub steps : SteppedTo ts vs zs hs k r
  pub upto : k ≤ length zs
  pub none_low : NoneBelow (low_at ts vs zs hs limit) k

pub search_begins : {ts vs zs hs : List ℕ} {limit : ℕ} {r : RunningSums} → CurveAccepted ts vs zs hs → Of16Bits ts → Of16Bits vs → IsFresh r
    → NoneLowTo ts vs zs hs limit 0 r
search_begins a t v f = record { steps = steps_begin a t v f; upto = zero-le; none_low = λ j l. absurd (omega arith) }

module _ {ts vs zs hs : List ℕ} {limit k : ℕ} {r : RunningSums} (w : NoneLowTo ts vs zs hs limit k r) where
  pub passes_fit : r.right + r.left < 2 ^ 64
  passes_fit = edges_fit w.steps

  pub nowhere : length zs ≤ k → Searched ts vs zs hs limit (record { position = None; passes = r.right + r.left })
  nowhere l = record {
    answer =
        rw (none_lowest (low_at ts vs zs hs limit) (length zs) (λ j m. w.none_low j (omega arith)))
        (ap {B = Located} (λ (n : ℕ). (record { position = None; passes = n })) edges);
  }
    where
      last : k ≡ length zs
      last = omega (arith, w.upto)

      edges : r.right + r.left ≡ passes ts vs fresh (moves zs hs)
      edges =
          ap (λ (q : RunningSums). q.right + q.left) (w.steps.running ∙ ap (running_at ts vs zs hs) last)
          ∙ sym (passes_are_edges ts vs zs hs w.steps.small w.steps.accepted)

  module _ {x : Step} (l : k < length zs) (m : SteppedRow ts vs r (get_or zs k 0) (get_or hs k 0) x) where
    pub next_passes_fit : x.running.right + x.running.left < 2 ^ 64
    next_passes_fit = edges_fit (steps_go_on w.steps l m)

    -- the code tests the mark's row
    tested : {b : Bool} → b ≡ at_or_below limit x.row.weight x.row.value → b ≡ low_at ts vs zs hs limit k
    unfolding low_at
    tested t = t ∙ ap (low_enough limit) (row_there w.steps l m)

    pub here : {b : Bool} → b ≡ at_or_below limit x.row.weight x.row.value → b ≡ true
        → Searched ts vs zs hs limit (record { position = Some k; passes = x.running.right + x.running.left })
    here t e = record {
      answer =
          rw (lowest_at (low_at ts vs zs hs limit) (length zs) k l (sym (tested t) ∙ e) w.none_low)
          (ap {B = Located} (λ (n : ℕ). (record { position = Some k; passes = n }))
          (ap (λ (q : RunningSums). q.right + q.left) (next_running w.steps l m)
          ∙ sym (passes_to_point ts vs zs hs w.steps.small w.steps.accepted k l)));
    }

    pub goes_on : {b : Bool} → b ≡ at_or_below limit x.row.weight x.row.value → b ≡ false
        → NoneLowTo ts vs zs hs limit (k + 1) x.running
    goes_on t e = record {
      steps = steps_go_on w.steps l m;
      upto = omega arith;
      none_low = one_more_below (low_at ts vs zs hs limit) k w.none_low (sym (tested t) ∙ e);
    }

-- the call, by what its checks found, whether or not one more list fits
module _ (ts vs zs hs : List ℕ) (more : Bool) {L : Limits} {v : Result Unit Refusal} (l : L ≡ full)
    (f : verdict_fault v ≡ first_of (curve_checks L ts vs zs hs more)) where
  found : {w : Result Unit Refusal} → v ≡ w → first_of (curve_checks full ts vs zs hs more) ≡ verdict_fault w
  found q = sym (ap verdict_fault (sym q) ∙ f ∙ ap (λ (M : Limits). first_of (curve_checks M ts vs zs hs more)) l)

  pub lists_accepted : {unit : Unit {0}} → v ≡ Ok unit → CurveAccepted ts vs zs hs
  lists_accepted q = curve_accepts full (same_limits full) ts vs zs hs more (found q)

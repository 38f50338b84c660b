-- The invariant of the sweep: after k marks the rows of those stand in front of what the list held, and either record is the one after k steps over
-- its own values.
use Prim.Native.Nat.{ℕ, suc, ◌+◌, ◌*◌, ◌^◌, ◌≤◌, ◌<◌}
use Rattle.std.specs.Prelude.{Result, Ok}
use mathlib.Core.Path.{◌≡◌, refl, sym, ap, ◌∙◌}
use mathlib.Core.List.{List, ◌++◌}
use native.Mathlib.Numerals.{add-one}
use native.Mathlib.Omega.{arith}
use lib.ListN.{length, get_or, drop, length-append, length-drop}
use lib.Seq.{sets, sets-eq, take_at, drop-append-add, drop-drop}
use Rattle.meanings.specs.declared.Limits.{Limits}
use Rattle.meanings.specs.declared.Refusal.{Refusal}
use Rattle.meanings.specs.declared.RunningSums.{RunningSums}
use Rattle.meanings.specs.Limits.{full}
use Rattle.meanings.specs.Reports.{verdict_fault, first_of}
use Rattle.meanings.specs.Moves.{moves}
use Rattle.meanings.specs.Running.{fresh, moved, next_record, after_step, record_row, passes}
use Rattle.meanings.proofs.Checks.{same_limits, AdvanceAccepted}
use Rattle.meanings.proofs.SmoothSteps.{running_at, running_within, step_lands, step_accepted, passes_are_edges}
use Rattle.meanings.specs.ranges.Ranges.{range_estimate, range_fields, range_row_width, range_rows, range_checks, range_refusal}
use Rattle.meanings.proofs.Sweeps.{range_rows_length, ranges_accept, lows_accepted, highs_accepted}
use Rattle.meanings.specs.declared.ranges.RangeEstimate.{RangeEstimate}
use Rattle.regression.specs.StepSteps.{SteppedRow}
use Rattle.regression.proofs.StepSweeping.{SteppedTo, edges_fit, steps_go_on, row_there}
use Rattle.arithmetic.specs.declared.ranges.BothRecord.{BothRecord}
use Rattle.arithmetic.specs.Both.{low_record, high_record, RowOfBoth}
use Rattle.regression.specs.RangesSteps.{BothAccepted, BothMoved}
use Rattle.regression.specs.Sweep.{SweepAccepted}

-- values stored behind a front of n
store_behind : (M R vs : List ℕ) (n : ℕ) → length M ≡ n → n + length vs ≤ length R
    → sets (M ++ drop n R) n vs ≡ (M ++ vs) ++ drop (n + length vs) R
store_behind M R vs n e l =
    sets-eq vs (M ++ drop n R) n room
    ∙ rw (take_at M (drop n R) n e)
    (ap (λ (x : List ℕ). (M ++ vs) ++ x)
    (ap (λ (m : ℕ). drop (m + length vs) (M ++ drop n R)) (sym e) ∙ drop-append-add M (drop n R) (length vs) ∙ drop-drop (length vs) n R))
  where
    room : n + length vs ≤ length (M ++ drop n R)
    room = let a = length-append M (drop n R) in let d = length-drop n R in omega arith

pub record SweptTo (ts ls us zs hs R₀ : List ℕ) (k : ℕ) (R : List ℕ) (r : BothRecord) : Type 0 where
  pub low : SteppedTo ts ls zs hs k (low_record r)
  pub high : SteppedTo ts us zs hs k (high_record r)
  pub rows_fit : length R₀ ≡ range_row_width * length zs
  pub upto : k ≤ length zs
  pub stored : R ≡ range_rows ts ls us zs hs k ++ drop (range_row_width * k) R₀

-- of one record: the next step is accepted, and what it moves to is the record after a step
module _ {ts vs zs hs : List ℕ} {k : ℕ} {r : RunningSums} (w : SteppedTo ts vs zs hs k r) (m : k < length zs) where
  move_accepted : AdvanceAccepted ts vs r.left r.right (get_or hs k 0)
  move_accepted =
      let e : (r.left ≤ r.right) × (r.right ≤ length ts) = rw w.running (running_within ts vs zs hs w.small w.accepted k) in
      record {
        even = w.accepted.even;
        few = w.accepted.few;
        edges = e.0;
        inside = e.1;
        positive = (w.accepted.bandwidths k m).0;
        bandwidth = (w.accepted.bandwidths k m).1;
      }

  move_steps : {r' : RunningSums} → r' ≡ moved ts vs r (get_or zs k 0) (get_or hs k 0)
      → SteppedRow ts vs r (get_or zs k 0) (get_or hs k 0) (record { running = r'; row = record_row r' (get_or zs k 0) (get_or hs k 0) })
  move_steps e = record {
    step = record {
      after = e
          ∙ ap (λ (q : RunningSums). moved ts vs q (get_or zs k 0) (get_or hs k 0)) w.running
          ∙ step_lands ts vs zs hs w.small w.accepted k m
          ∙ sym (ap (λ (q : RunningSums). after_step ts vs q (record { point = get_or zs k 0; bandwidth = get_or hs k 0 })) w.running
          ∙ ap (next_record (running_at ts vs zs hs k)) (step_accepted ts vs zs hs w.small w.accepted k m));
    };
    row_is = refl;
  }

module _ {ts ls us zs hs R₀ : List ℕ} {k : ℕ} {R : List ℕ} {r : BothRecord} (w : SweptTo ts ls us zs hs R₀ k R r) where
  pub stored_length : length R ≡ length R₀
  stored_length =
      ap length w.stored
      ∙ length-append (range_rows ts ls us zs hs k) (drop (range_row_width * k) R₀)
      ∙ omega (arith, range_rows_length ts ls us zs hs k, length-drop (range_row_width * k) R₀, w.upto, w.rows_fit)

  pub passes_fit : r.right + r.left < 2 ^ 64
  passes_fit = edges_fit w.low

  pub both_accepted : k < length zs → BothAccepted ts ls us r.left r.right (get_or hs k 0)
  both_accepted m = record { low = move_accepted w.low m; high = move_accepted w.high m }

  pub sweep_goes_on : {r' : BothRecord} {e : RangeEstimate} {R' : List ℕ} → k < length zs → BothMoved ts ls us r (get_or zs k 0) (get_or hs k 0) r'
      → RowOfBoth r' (get_or zs k 0) (get_or hs k 0) e
      → R' ≡ sets R (range_row_width * k) (range_fields e)
      → SweptTo ts ls us zs hs R₀ (k + 1) R' r'
  unfolding range_estimate
  sweep_goes_on {r'} {e} {R'} m s f g =
      let x = move_steps w.low m s.low in
      let y = move_steps w.high m s.high in
      record {
        low = steps_go_on w.low m x;
        high = steps_go_on w.high m y;
        rows_fit = w.rows_fit;
        upto = omega arith;
        stored = rw (add-one k) (g ∙ rw (w.stored, f.row_is, row_there w.low m x, row_there w.high m y)
            (store_behind M R₀ F (range_row_width * k) (range_rows_length ts ls us zs hs k) room ∙ ap front one_more));
      }
    where
      M : List ℕ
      M = range_rows ts ls us zs hs k

      F : List ℕ
      F = range_fields (range_estimate ts ls us (get_or zs k 0) (get_or hs k 0))

      front : ℕ → List ℕ
      front n = (M ++ F) ++ drop n R₀

      room : range_row_width * k + range_row_width ≤ length R₀
      room = omega (arith, w.rows_fit)

      one_more : range_row_width * k + range_row_width ≡ range_row_width * suc k
      one_more = omega arith

  module _ (m : length zs ≤ k) where
    last : k ≡ length zs
    last = omega (arith, w.upto)

    pub edges_are_passes : r.right + r.left ≡ passes ts ls fresh (moves zs hs)
    edges_are_passes =
        ap (λ (q : RunningSums). q.right + q.left) (w.low.running ∙ ap (running_at ts ls zs hs) last)
        ∙ sym (passes_are_edges ts ls zs hs w.low.small w.low.accepted)

-- the call, by what its checks found
module _ (ts ls us zs hs R : List ℕ) {L : Limits} {v : Result Unit Refusal} (l : L ≡ full)
    (f : verdict_fault v ≡ first_of (range_checks L ts ls us zs hs (length R))) where
  found : {w : Result Unit Refusal} → v ≡ w → range_refusal full ts ls us zs hs R ≡ verdict_fault w
  found q = sym (ap verdict_fault (sym q) ∙ f ∙ ap (λ (M : Limits). range_refusal M ts ls us zs hs R) l)

  pub lists_accepted : {unit : Unit {0}} → v ≡ Ok unit → SweepAccepted ts ls us zs hs (length R)
  lists_accepted q =
      let a = ranges_accept full ts ls us zs hs R (found q) in
      record {
        lows = lows_accepted full (same_limits full) ts ls us zs hs R (found q);
        highs = highs_accepted full (same_limits full) ts ls us zs hs R (found q);
        rows_fit = a.rows_fit;
      }

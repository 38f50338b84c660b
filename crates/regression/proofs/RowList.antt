-- The invariant of a sweep: after k marks the rows of those stand in front of what the list held, and the record is that after k steps.
use Prim.Native.Nat.{ℕ, suc, ◌+◌, ◌*◌, ◌^◌, ◌≤◌, ◌<◌, zero-le}
use mathlib.Core.Path.{◌≡◌, refl, sym, ap, ◌∙◌}
use mathlib.Core.List.{List, ◌++◌}
use native.Mathlib.Numerals.{add-one}
use native.Mathlib.Omega.{arith}
use lib.ListN.{length, get_or, drop, length-append, length-drop}
use lib.Seq.{sets, sets-eq, take_at, drop-append-add, drop-drop}
use Rattle.meanings.specs.declared.Estimate.{Estimate}
use Rattle.meanings.specs.declared.RunningSums.{RunningSums}
use Rattle.meanings.specs.Limits.{row_width}
use Rattle.meanings.specs.Estimate.{estimate, fields, rows}
use Rattle.meanings.specs.Moves.{moves}
use Rattle.meanings.specs.Running.{fresh, passes}
use Rattle.meanings.proofs.SmoothRows.{rows_length}
use Rattle.meanings.proofs.SmoothSteps.{SmoothAccepted, running_at, passes_are_edges}
use Rattle.regression.specs.declared.step.Reached.{Reached}
use Rattle.regression.specs.Rows.{Of16Bits}
use Rattle.regression.specs.StepSteps.{IsFresh, SteppedRow}
use Rattle.regression.proofs.StepSweeping.{SteppedTo, steps_begin, edges_fit, steps_go_on, row_there}

-- values stored behind a front of n
store_behind : (M R vs : List ℕ) (n : ℕ) → length M ≡ n → n + length vs ≤ length R
    → sets (M ++ drop n R) n vs ≡ (M ++ vs) ++ drop (n + length vs) R
store_behind M R vs n e l =
    sets-eq vs (M ++ drop n R) n room
    ∙ rw (take_at M (drop n R) n e)
    (ap (λ (x : List ℕ). (M ++ vs) ++ x)
    (ap (λ (m : ℕ). drop (m + length vs) (M ++ drop n R)) (sym e) ∙ drop-append-add M (drop n R) (length vs) ∙ drop-drop (length vs) n R))
  where
    room : n + length vs ≤ length (M ++ drop n R)
    room = let a = length-append M (drop n R) in let d = length-drop n R in omega arith

-- the rows of k marks are stored, and the record is that after k steps, over accepted lists of 16 bits
pub record SmoothedTo (ts vs zs hs R₀ : List ℕ) (k : ℕ) (R : List ℕ) (r : RunningSums) : Type 0 where
  pub steps : SteppedTo ts vs zs hs k r
  pub rows_fit : length R₀ ≡ row_width * length zs
  pub upto : k ≤ length zs
  pub stored : R ≡ rows ts vs zs hs k ++ drop (row_width * k) R₀

pub smoothed_begins : {ts vs zs hs R₀ : List ℕ} {r : RunningSums} → SmoothAccepted ts vs zs hs (length R₀) → Of16Bits ts → Of16Bits vs → IsFresh r
    → SmoothedTo ts vs zs hs R₀ 0 R₀ r
smoothed_begins a t v f = record { steps = steps_begin a.lists t v f; rows_fit = a.rows_fit; upto = zero-le; stored = refl }

module _ {ts vs zs hs R₀ : List ℕ} {k : ℕ} {R : List ℕ} {r : RunningSums} (w : SmoothedTo ts vs zs hs R₀ k R r) where
  pub stored_length : length R ≡ length R₀
  stored_length =
      ap length w.stored
      ∙ length-append (rows ts vs zs hs k) (drop (row_width * k) R₀)
      ∙ omega (arith, rows_length ts vs zs hs k, length-drop (row_width * k) R₀, w.upto, w.rows_fit)

  pub passes_fit : r.right + r.left < 2 ^ 64
  passes_fit = edges_fit w.steps

  -- the step's row is the mark's, and stored it stands behind those before
  pub smoothed_goes_on : {x : Reached} {R' : List ℕ} → k < length zs → SteppedRow ts vs r (get_or zs k 0) (get_or hs k 0) x
      → R' ≡ sets R (row_width * k) (fields x.row) → SmoothedTo ts vs zs hs R₀ (k + 1) R' x.running
  smoothed_goes_on {x} {R'} l m t = record {
    steps = steps_go_on w.steps l m;
    rows_fit = w.rows_fit;
    upto = omega arith;
    stored =
        t
        ∙ rw (w.stored, row_there w.steps l m, add-one k)
        (store_behind M R₀ (fields mark) (row_width * k) (rows_length ts vs zs hs k) room ∙ ap front one_more);
  }
    where
      M : List ℕ
      M = rows ts vs zs hs k

      mark : Estimate
      mark = estimate ts vs (get_or zs k 0) (get_or hs k 0)

      front : ℕ → List ℕ
      front n = (M ++ fields mark) ++ drop n R₀

      room : row_width * k + row_width ≤ length R₀
      room = omega (arith, w.rows_fit)

      one_more : row_width * k + row_width ≡ row_width * suc k
      one_more = omega arith

  module _ (l : length zs ≤ k) where
    last : k ≡ length zs
    last = omega (arith, w.upto)

    pub edges_are_passes : r.right + r.left ≡ passes ts vs fresh (moves zs hs)
    edges_are_passes =
        ap (λ (q : RunningSums). q.right + q.left) (w.steps.running ∙ ap (running_at ts vs zs hs) last)
        ∙ sym (passes_are_edges ts vs zs hs w.steps.small w.steps.accepted)

-- Which rows can be told: those of windows, whose sum is bounded and is 0 without weight. A record after steps and turns that holds a window has
-- its sums, unless every motion was refused: then it is fresh, and both numbers of its row are 0.
use Prim.Native.Nat.{ℕ, ◌≤◌, ◌<◌}
use mathlib.Core.Path.{◌≡◌, refl, sym, ap, ◌∙◌, subst}
use mathlib.Core.Logic.{◌⊎◌, inl, inr}
use mathlib.Core.List.{List, [], ◌∷◌}
use Rattle.std.specs.Prelude.{Option, None, Some}
use native.Mathlib.Omega.{arith}
use lib.ListN.{length, get_or}
use Rattle.meanings.specs.declared.Estimate.{Estimate}
use Rattle.meanings.specs.declared.Limits.{Limits}
use Rattle.meanings.specs.declared.RunningSums.{RunningSums}
use Rattle.meanings.specs.Calls.{evaluate, evaluate_refusal, smooth, smooth_rows}
use Rattle.meanings.specs.Claim.{accepted_next, accepted_after, last_accepted, record_after, NoEdgeBackAfter}
use Rattle.meanings.specs.Estimate.{WithinLimits, estimate}
use Rattle.meanings.specs.EventLog.{log_refusal}
use Rattle.meanings.specs.Limits.{full, LimitsWithin, max_u16, max_bandwidth}
use Rattle.meanings.specs.Lists.{AtMost, Ordered}
use Rattle.meanings.specs.Moves.{Move}
use Rattle.meanings.specs.Reports.{Fault, given, unless, accepted_or, first_of, advance_checks}
use Rattle.meanings.specs.Running.{fresh, moved, advance, after, next_record, record_row}
use Rattle.meanings.specs.Turn.{Motion, step, turn, turned, turn_refusal, turn_record, after_motion, after_motions}
use Rattle.meanings.proofs.Bounds.{weight_bound, sum_bound, missing_alone}
use Rattle.meanings.proofs.Checks.{same_limits, given_accepted, evaluate_accepts, advance_accepts, turn_accepts}
use Rattle.meanings.proofs.Claim.{record_at, record_follows}
use Rattle.meanings.proofs.Steps.{at_window}
use Rattle.meanings.proofs.SmoothRows.{smooth_row_is_evaluate, record_of_window_gives_row}
use Rattle.meanings.specs.doubles.Doubles.{Tellable}
use Rattle.laws.specs.turn.Claims.{Direct, OnWindow}
use Rattle.laws.proofs.turn.Motions.{steps_behind_turn}
use Rattle.text.specs.Table.{stored_row}
use Rattle.promises.specs.Demands.{OrderedSteps}
use Rattle.promises.proofs.RecordRows.{record_row_is, question_accepted, last_question}
use Rattle.promises.proofs.Rows.{five_are_row}
use Rattle.promises.specs.doubles.Doubles.{HoldsWindow}

-- a row of a window
pub window_tellable : (ts vs : List ℕ) (z h : ℕ) → WithinLimits ts vs h → Tellable (estimate ts vs z h)
unfolding estimate
window_tellable ts vs z h f = record {
  weight_fits = let l = weight_bound ts vs z h f.few f.bandwidth in omega arith;
  sum_fits = let l = sum_bound ts vs z h f in omega arith;
  no_sum_alone = missing_alone ts vs z h f;
}

-- of the question at one mark
pub evaluated_tellable : (ts vs : List ℕ) (z h : ℕ) (e : Estimate) → AtMost max_u16 vs → evaluate full ts vs z h ≡ given e → Tellable e
unfolding evaluate
evaluated_tellable ts vs z h e v q =
    let g = given_accepted (evaluate_refusal full ts vs h) (estimate ts vs z h) e q in
    let a = evaluate_accepts full (same_limits full) ts vs h g.0 in
    subst Tellable g.1 (window_tellable ts vs z h (record { even = a.even; few = a.few; values = v; bandwidth = a.bandwidth }))

-- of a sweep, under limits at most the full ones
pub swept_tellable : (L : Limits) → LimitsWithin L full → (ts vs zs hs rs rs' : List ℕ) (n k : ℕ) → AtMost max_u16 vs → smooth L ts vs zs hs rs ≡ given n
    → rs' ≡ smooth_rows L ts vs zs hs rs → k < length zs → Tellable (stored_row rs' k)
swept_tellable L w ts vs zs hs rs rs' n k v q e l =
    let r = smooth_row_is_evaluate L ts vs zs hs rs n k q l full w.samples in
    let same = five_are_row rs' k (estimate ts vs (get_or zs k 0) (get_or hs k 0)) (rw e r.1) in
    subst Tellable (sym same) (evaluated_tellable ts vs (get_or zs k 0) (get_or hs k 0) _ v r.0)

-- of a record of any origin, whose row is modulo 2^64
pub foreign_tellable : (r : RunningSums) (z h : ℕ) (e : Estimate) → e ≡ record_row r z h → (e.weight ≡ 0 → e.sum ≡ 0) → Tellable e
foreign_tellable r z h e q zero =
    let w = record_row_is r z h in
    record { weight_fits = rw q w.weight_fits; sum_fits = rw q w.sum_fits; no_sum_alone = zero }

-- ---- records

-- a record that is fresh still, or readings that some motion has accepted
abbrev Begun : List ℕ → List ℕ → RunningSums → Type 0
Begun ts vs r = (r ≡ fresh) ⊎ ((length ts ≡ length vs) × (length ts ≤ full.samples))

module _ (ts vs : List ℕ) where
  step_begun : (r : RunningSums) (m : Move) → Begun ts vs r → Begun ts vs (after_motion ts vs r (step m))
  unfolding advance
  step_begun r m b = by (first_of (advance_checks full ts vs r.left r.right m.bandwidth)) refl
    where
      by : (f : Option Fault) → first_of (advance_checks full ts vs r.left r.right m.bandwidth) ≡ f
          → Begun ts vs (next_record r (unless f (moved ts vs r m.point m.bandwidth)))
      by None q = let a = advance_accepts full (same_limits full) ts vs r.left r.right m.bandwidth q in inr (a.even, a.few)
      by (Some e) q = b

  turn_begun : (r : RunningSums) (m : Move) → Begun ts vs r → Begun ts vs (after_motion ts vs r (turn m))
  unfolding turn_record
  turn_begun r m b = by (turn_refusal ts vs r m.bandwidth) refl
    where
      by : (f : Option Fault) → turn_refusal ts vs r m.bandwidth ≡ f → Begun ts vs (accepted_or f (turned ts vs r m.point m.bandwidth) r)
      by None q = let a = turn_accepts full (same_limits full) ts vs r.left r.right m.bandwidth q in inr (a.even, a.few)
      by (Some e) q = b

  motions_begun : (ms : List Motion) (r : RunningSums) → Begun ts vs r → Begun ts vs (after_motions ts vs r ms)
  motions_begun [] r b = b
  motions_begun (step m ∷ ms) r b = motions_begun ms (after_motion ts vs r (step m)) (step_begun r m b)
  motions_begun (turn m ∷ ms) r b = motions_begun ms (after_motion ts vs r (turn m)) (turn_begun r m b)

-- the row of a fresh record
fresh_tellable : (z h : ℕ) → Tellable (record_row fresh z h)
unfolding record_row
fresh_tellable z h = record { weight_fits = omega arith; sum_fits = omega arith; no_sum_alone = λ e. omega arith }

pub record_tellable : (ts vs : List ℕ) (r : RunningSums) (ms : List Motion) (z h : ℕ) → AtMost max_u16 vs → r ≡ after_motions ts vs fresh ms
    → Direct ts vs r → HoldsWindow ts z h r → Tellable (record_row r z h)
record_tellable ts vs r ms z h v e d w = by (subst (Begun ts vs) (sym e) (motions_begun ts vs ms fresh (inl refl)))
  where
    by : Begun ts vs r → Tellable (record_row r z h)
    by (inl f) = rw f (fresh_tellable z h)
    by (inr fit) =
        let f : WithinLimits ts vs h = record { even = fit.0; few = fit.1; values = v; bandwidth = w.bandwidth } in
        let row = record_of_window_gives_row ts vs z h r w.ordered f w.left_is w.right_is
        (rw (sym w.left_is, sym w.right_is) d.sums_are_direct) in
        rw row (window_tellable ts vs z h f)

-- ---- records that hold a window
module _ (ts vs : List ℕ) (ms : List Move) (m : Move) (o : OrderedSteps ts vs ms) (last : last_accepted ts vs ms ≡ Some m) where
  pub steps_hold : (r : RunningSums) → r ≡ record_after ts vs ms → HoldsWindow ts m.point m.bandwidth r
  unfolding evaluate
  steps_hold r e =
      let g = given_accepted (evaluate_refusal full ts vs m.bandwidth) (estimate ts vs m.point m.bandwidth) _ (last_question ts vs ms m o last) in
      let stands : r ≡ at_window ts vs m.point m.bandwidth =
      e ∙ record_follows ts vs o.minutes o.values o.ordered ms o.no_edge_back ∙ ap (record_at ts vs) last in
      record {
        ordered = o.ordered;
        bandwidth = (evaluate_accepts full (same_limits full) ts vs m.bandwidth g.0).bandwidth;
        left_is = ap (λ (x : RunningSums). x.left) stands;
        right_is = ap (λ (x : RunningSums). x.right) stands;
      }

pub turn_holds : (ts vs : List ℕ) (r r' : RunningSums) (z h : ℕ) → turn_refusal ts vs r h ≡ None → OnWindow ts vs z h r' → HoldsWindow ts z h r'
turn_holds ts vs r r' z h q w =
    let a = turn_accepts full (same_limits full) ts vs r.left r.right h q in
    record { ordered = a.ordered; bandwidth = a.bandwidth; left_is = w.left_is; right_is = w.right_is }

-- the half width of the step accepted last, where o is the one in front of them all
module _ (ts vs : List ℕ) (ordered : Ordered ts) where
  logged_bandwidth : (m : Move) → log_refusal ts vs m ≡ None → m.bandwidth ≤ max_bandwidth
  unfolding evaluate
  logged_bandwidth m q =
      let g = given_accepted (evaluate_refusal full ts vs m.bandwidth) (estimate ts vs m.point m.bandwidth) _ (question_accepted ts vs ordered m q) in
      (evaluate_accepts full (same_limits full) ts vs m.bandwidth g.0).bandwidth

  last_bandwidth : (o : Option Move) (ms : List Move) (m : Move) → (o ≡ Some m → m.bandwidth ≤ max_bandwidth) → accepted_after ts vs o ms ≡ Some m
      → m.bandwidth ≤ max_bandwidth
  last_bandwidth o [] m f q = f q
  last_bandwidth o (n ∷ ms) m f q = last_bandwidth (accepted_next ts vs o n) ms m (by (log_refusal ts vs n) refl) q
    where
      by : (g : Option Fault) → log_refusal ts vs n ≡ g → accepted_or g (Some n) o ≡ Some m → m.bandwidth ≤ max_bandwidth
      by None e r = let same : n ≡ m = cc in subst (λ (x : Move). x.bandwidth ≤ max_bandwidth) same (logged_bandwidth n e)
      by (Some x) e r = f r

-- steps behind an accepted turn, with no edge back from it on
module _ (ts vs : List ℕ) (minutes : AtMost max_u16 ts) (values : AtMost max_u16 vs) (r r' : RunningSums) (m n : Move) (ns : List Move)
    (direct : Direct ts vs r) (accepted : turn_refusal ts vs r m.bandwidth ≡ None) (onward : NoEdgeBackAfter ts vs (Some m) ns)
    (last : accepted_after ts vs (Some m) ns ≡ Some n) (led : r' ≡ after ts vs (turn_record ts vs r m.point m.bandwidth) ns) where
  pub behind_holds : HoldsWindow ts n.point n.bandwidth r'
  behind_holds =
      let a = turn_accepts full (same_limits full) ts vs r.left r.right m.bandwidth accepted in
      let w = steps_behind_turn ts vs minutes values r m ns direct accepted onward in
      record {
        ordered = a.ordered;
        bandwidth = last_bandwidth ts vs a.ordered (Some m) ns n (λ e. first e a.bandwidth) last;
        left_is = ap (λ (x : RunningSums). x.left) led ∙ w.left_alike ∙ ap (λ (o : Option Move). (record_at ts vs o).left) last;
        right_is = ap (λ (x : RunningSums). x.right) led ∙ w.right_alike ∙ ap (λ (o : Option Move). (record_at ts vs o).right) last;
      }
    where
      first : Some m ≡ Some n → m.bandwidth ≤ max_bandwidth → n.bandwidth ≤ max_bandwidth
      first e l = let same : m ≡ n = cc in subst (λ (x : Move). x.bandwidth ≤ max_bandwidth) same l

  pub behind_tellable : Tellable (record_row r' n.point n.bandwidth)
  behind_tellable =
      let a = turn_accepts full (same_limits full) ts vs r.left r.right m.bandwidth accepted in
      let w = steps_behind_turn ts vs minutes values r m ns direct accepted onward in
      let h = behind_holds in
      let f : WithinLimits ts vs n.bandwidth = record { even = a.even; few = a.few; values = values; bandwidth = h.bandwidth } in
      let row = record_of_window_gives_row ts vs n.point n.bandwidth r' a.ordered f h.left_is h.right_is
      (ap (λ (x : RunningSums). x.sums) led ∙ w.sums_alike ∙ ap (λ (o : Option Move). (record_at ts vs o).sums) last) in
      rw row (window_tellable ts vs n.point n.bandwidth f)

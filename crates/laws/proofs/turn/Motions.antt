-- Steps and turns over the same readings, from a fresh record. Each keeps that the sums are direct sums over the run: a step by what its edges pass, a
-- turn since the old run goes and the new one comes. No sum of 1,024 readings reaches 2^64, so nothing that wraps is lost. Passes are looked at by no
-- check and enter no other field.
use Prim.Native.Nat.{ℕ, ◌+◌, ◌-◌, ◌*◌, ◌≤◌, ◌<◌}
use mathlib.Core.Path.{◌≡◌, refl, sym, ap, ◌∙◌}
use mathlib.Core.Bool.{Bool}
use mathlib.Core.List.{List, [], ◌∷◌, ◌++◌}
use Rattle.std.specs.Prelude.{Option, None, Some}
use native.Mathlib.Omega.{arith}
use lib.ListN.{length}
use Rattle.meanings.specs.declared.PowerSums.{PowerSums}
use Rattle.meanings.specs.declared.RunningSums.{RunningSums}
use Rattle.meanings.specs.Calls.{evaluate, evaluate_refusal}
use Rattle.meanings.specs.Claim.{NoEdgeBack, NoEdgeBackAfter, accepted_after, window_direct, log_after_steps}
use Rattle.meanings.specs.Estimate.{WithinLimits, left_of, right_of}
use Rattle.meanings.specs.EventLog.{insertion_count, eviction_count}
use Rattle.meanings.specs.Limits.{full, max_u16}
use Rattle.meanings.specs.Lists.{distance, Ordered, AtMost}
use Rattle.meanings.specs.Moves.{Move}
use Rattle.meanings.specs.Reports.{Fault, given, unless, accepted_or, first_of, series_checks, record_checks, bandwidth_checks, advance_checks}
use Rattle.meanings.specs.Running.{sum_at, plus, minus, power_sum, window_sum, new_right, moved_to, moved, advance, next_record}
use Rattle.meanings.specs.Running.{after_step, after, fresh, passes, record_row}
use Rattle.meanings.specs.Turn.{turned, turn_refusal, turn_record, Motion, step, turn, after_motion, after_motions, Reached}
use Rattle.meanings.proofs.Checks.{TurnAccepted, turn_accepts, advance_accepts, same_limits, first_of_rest, none_of_both}
use Rattle.meanings.proofs.Claim.{record_at, record_stands, sums_are_window, right_counts_insertions, left_counts_evictions}
use Rattle.meanings.proofs.Passes.{Within, Onward, moved_onward, step_onward, passes_are_last_edges, after_onward, fresh_within}
use Rattle.meanings.proofs.Search.{IsFirst, first_is_first}
use Rattle.meanings.proofs.SmoothRows.{record_of_window_gives_row}
use Rattle.meanings.proofs.Steps.{Small, at_window, six_agree, six_at, wraps_back, power_sum_bound, sums_move, passes_count, fresh_lands}
use Rattle.meanings.proofs.Window.{left_at_most_right, right_at_most_length}
use Rattle.laws.specs.turn.Claims.{Direct, AlikeButPasses, OnWindow, CountedOnce}

-- a record with these edges, sums and passes
abbrev with_passes : ℕ → ℕ → PowerSums → ℕ → RunningSums
with_passes l r s n = record { left = l; right = r; sums = s; passes = n }

module _ (ts vs : List ℕ) where
  pub refused_keeps : (r : RunningSums) (m : Move) (e : Fault) → turn_refusal ts vs r m.bandwidth ≡ Some e
      → turn_record ts vs r m.point m.bandwidth ≡ r
  unfolding turn_record
  refused_keeps r m e q = rw q

  -- ---- passes enter no other field
  refused_or_moved : (f : Option Fault) (r s r' s' : RunningSums) → AlikeButPasses r s → AlikeButPasses r' s'
      → AlikeButPasses (next_record r (unless f r')) (next_record s (unless f s'))
  refused_or_moved None r s r' s' a b = b
  refused_or_moved (Some e) r s r' s' a b = a

  refused_or_turned : (f : Option Fault) (r s r' s' : RunningSums) → AlikeButPasses r s → AlikeButPasses r' s'
      → AlikeButPasses (accepted_or f r' r) (accepted_or f s' s)
  refused_or_turned None r s r' s' a b = b
  refused_or_turned (Some e) r s r' s' a b = a

  any_passes : (l r : ℕ) (s : PowerSums) (n k : ℕ) → AlikeButPasses (with_passes l r s n) (with_passes l r s k)
  any_passes l r s n k = record { left_alike = refl; right_alike = refl; sums_alike = refl }

  step_any_passes : (l r : ℕ) (s : PowerSums) (n k : ℕ) (m : Move)
      → AlikeButPasses (after_step ts vs (with_passes l r s n) m) (after_step ts vs (with_passes l r s k) m)
  unfolding advance moved
  step_any_passes l r s n k m =
      refused_or_moved (first_of (advance_checks full ts vs l r m.bandwidth)) _ _ _ _ (any_passes l r s n k)
      (record { left_alike = refl; right_alike = refl; sums_alike = refl })

  turn_any_passes : (l r : ℕ) (s : PowerSums) (n k : ℕ) (m : Move)
      → AlikeButPasses (turn_record ts vs (with_passes l r s n) m.point m.bandwidth)
      (turn_record ts vs (with_passes l r s k) m.point m.bandwidth)
  unfolding turn_record turned
  turn_any_passes l r s n k m =
      refused_or_turned (turn_refusal ts vs (with_passes l r s n) m.bandwidth) _ _ _ _ (any_passes l r s n k)
      (record { left_alike = refl; right_alike = refl; sums_alike = refl })

  motion_any_passes : (l r : ℕ) (s : PowerSums) (n k : ℕ) (m : Motion)
      → AlikeButPasses (after_motion ts vs (with_passes l r s n) m) (after_motion ts vs (with_passes l r s k) m)
  motion_any_passes l r s n k (step m) = step_any_passes l r s n k m
  motion_any_passes l r s n k (turn m) = turn_any_passes l r s n k m

  pub motion_alike : (r s : RunningSums) (m : Motion) → AlikeButPasses r s → AlikeButPasses (after_motion ts vs r m) (after_motion ts vs s m)
  motion_alike r s m a = rw (← same) (motion_any_passes r.left r.right r.sums r.passes s.passes m)
    where
      same : with_passes r.left r.right r.sums s.passes ≡ s
      same = λ i. with_passes (a.left_alike i) (a.right_alike i) (a.sums_alike i) s.passes

  pub motions_alike : (ms : List Motion) (r s : RunningSums) → AlikeButPasses r s → AlikeButPasses (after_motions ts vs r ms) (after_motions ts vs s ms)
  motions_alike [] r s a = a
  motions_alike (m ∷ ms) r s a = motions_alike ms (after_motion ts vs r m) (after_motion ts vs s m) (motion_alike r s m a)

  pub steps_alike : (ms : List Move) (r s : RunningSums) → AlikeButPasses r s → AlikeButPasses (after ts vs r ms) (after ts vs s ms)
  steps_alike [] r s a = a
  steps_alike (m ∷ ms) r s a = steps_alike ms (after_step ts vs r m) (after_step ts vs s m) (motion_alike r s (step m) a)

  -- ---- steps alone: the passes are the edges' sum
  few_accepted : (r : RunningSums) (h : ℕ) → first_of (advance_checks full ts vs r.left r.right h) ≡ None → length ts ≤ full.samples
  few_accepted r h q = (advance_accepts full (same_limits full) ts vs r.left r.right h q).few

  step_counted : (r : RunningSums) (m : Move) → Within ts r → r.passes ≡ r.right + r.left
      → (after_step ts vs r m).passes ≡ (after_step ts vs r m).right + (after_step ts vs r m).left
  unfolding advance moved
  step_counted r m w e = by (first_of (advance_checks full ts vs r.left r.right m.bandwidth)) refl (moved_onward ts vs r m.point m.bandwidth w)
    where
      by : (f : Option Fault) → first_of (advance_checks full ts vs r.left r.right m.bandwidth) ≡ f
          → Onward ts r (moved ts vs r m.point m.bandwidth)
          → (next_record r (unless f (moved ts vs r m.point m.bandwidth))).passes
          ≡ (next_record r (unless f (moved ts vs r m.point m.bandwidth))).right + (next_record r (unless f (moved ts vs r m.point m.bandwidth))).left
      by None q o = passes_count r _ _ o.left_stays_or_rises o.right_stays_or_rises e (omega (arith, few_accepted r m.bandwidth q, o.within))
      by (Some g) q o = e

  steps_counted : (ms : List Move) (r : RunningSums) → Within ts r → r.passes ≡ r.right + r.left
      → (after ts vs r ms).passes ≡ (after ts vs r ms).right + (after ts vs r ms).left
  steps_counted [] r w e = e
  steps_counted (m ∷ ms) r w e = steps_counted ms (after_step ts vs r m) (step_onward ts vs r m w).within (step_counted r m w e)

  -- so from fresh each edge passes a reading at most once
  pub steps_count_once : (ms : List Move) → CountedOnce ts (after ts vs fresh ms)
  steps_count_once ms =
      let e = steps_counted ms fresh (fresh_within ts) refl in
      let w = (after_onward ts vs fresh ms (fresh_within ts)).within in
      record { passes_are_edges = e; twice_at_most = omega arith }

  pub steps_count_passes : (ms : List Move) → (after ts vs fresh ms).passes ≡ passes ts vs fresh ms
  steps_count_passes ms = (steps_count_once ms).passes_are_edges ∙ sym (passes_are_last_edges ts vs ms)

module _ (ts vs : List ℕ) (minutes : AtMost max_u16 ts) (values : AtMost max_u16 vs) where
  pub steps_count_log : Ordered ts → (ms : List Move) → NoEdgeBack ts vs ms
      → (after ts vs fresh ms).passes ≡ insertion_count (log_after_steps ts vs ms) + eviction_count (log_after_steps ts vs ms)
  steps_count_log o ms e =
      omega (
        arith,
        (steps_count_once ts vs ms).passes_are_edges,
        right_counts_insertions ts vs minutes values o ms e,
        left_counts_evictions ts vs minutes values o ms e,
      )

  -- ---- the sums are direct sums over the run
  of_16_bits : length ts ≡ length vs → length ts ≤ full.samples → Small ts vs
  of_16_bits e l = record { even = e; few = l; minutes = minutes; values = values }

  moved_direct : Small ts vs → (r : RunningSums) (z h : ℕ) → Direct ts vs r → Direct ts vs (moved ts vs r z h)
  unfolding moved
  moved_direct s r z h d = onward (new_right ts r.right z h) _ (first_is_first _ _ _) (first_is_first _ _ _)
    where
      onward : {p q : ℕ → Bool} (r' l' : ℕ) → IsFirst p r.right (length ts - r.right) r' → IsFirst q r.left (r' - r.left) l'
          → Direct ts vs (moved_to ts vs r l' r')
      onward r' l' a b = record {
        edges = omega (arith, b.upto, a.from, d.edges);
        inside = omega (arith, a.upto, d.inside);
        sums_are_direct =
            sums_move ts vs s r l' r' d.edges a.from (omega (arith, a.upto, d.inside)) b.from (omega (arith, b.upto, a.from, d.edges))
            d.sums_are_direct;
      }

  step_direct : (r : RunningSums) (m : Move) → Direct ts vs r → Direct ts vs (after_step ts vs r m)
  unfolding advance
  step_direct r m d = by (first_of (advance_checks full ts vs r.left r.right m.bandwidth)) refl
    where
      by : (f : Option Fault) → first_of (advance_checks full ts vs r.left r.right m.bandwidth) ≡ f
          → Direct ts vs (next_record r (unless f (moved ts vs r m.point m.bandwidth)))
      by None q =
          let a = advance_accepts full (same_limits full) ts vs r.left r.right m.bandwidth q in
          moved_direct (of_16_bits a.even a.few) r m.point m.bandwidth d
      by (Some e) q = d

  pub fresh_direct : Direct ts vs fresh
  fresh_direct = record { edges = omega arith; inside = omega arith; sums_are_direct = refl }

  -- the old run goes and the new one comes
  turned_on_window : (r : RunningSums) (z h : ℕ) → Direct ts vs r → Small ts vs → OnWindow ts vs z h (turned ts vs r z h)
  unfolding turned
  turned_on_window r z h d s = record { left_is = refl; right_is = refl; sums_are = six_agree _ _ one }
    where
      one : (p q : ℕ) → p ≤ 2 → q ≤ 1
          → minus 64 (plus 64 (sum_at r.sums p q) (window_sum ts vs z h p q)) (power_sum ts vs r.left (r.right - r.left) p q)
          ≡ window_sum ts vs z h p q
      one p q x y =
          let old = ap (λ (t : PowerSums). sum_at t p q) d.sums_are_direct ∙ six_at (power_sum ts vs r.left (r.right - r.left)) p q x y in
          let most = power_sum_bound ts vs s r.left (r.right - r.left) p q x y (omega (arith, d.edges, d.inside)) in
          let least =
          power_sum_bound ts vs s (left_of ts z h) (right_of ts z h - left_of ts z h) p q x y
          (omega (arith, left_at_most_right ts z h, right_at_most_length ts z h)) in
          wraps_back 64 _ _ _ _ (omega arith) (omega arith)

module _ (ts vs : List ℕ) (minutes : AtMost max_u16 ts) (values : AtMost max_u16 vs) (r : RunningSums) (z h : ℕ) (d : Direct ts vs r) where
  accepted_turn : turn_refusal ts vs r h ≡ None → TurnAccepted ts vs r.left r.right h
  accepted_turn q = turn_accepts full (same_limits full) ts vs r.left r.right h q

  -- an accepted turn stands on its window
  pub turn_on_window : turn_refusal ts vs r h ≡ None → OnWindow ts vs z h (turn_record ts vs r z h)
  unfolding turn_record
  turn_on_window q = let a = accepted_turn q in rw q (turned_on_window ts vs minutes values r z h d (of_16_bits ts vs minutes values a.even a.few))

  -- as a fresh record does that a step or a turn moves there; passes aside
  pub turn_as_from_fresh : turn_refusal ts vs r h ≡ None
      → AlikeButPasses (turn_record ts vs r z h) (moved ts vs fresh z h) × AlikeButPasses (turn_record ts vs r z h) (turned ts vs fresh z h)
  turn_as_from_fresh q =
      let a = accepted_turn q in
      let w = turn_on_window q in
      let f = fresh_lands ts vs (of_16_bits ts vs minutes values a.even a.few) a.ordered z h in (
        record {
          left_alike = w.left_is ∙ sym (ap (λ (x : RunningSums). x.left) f);
          right_alike = w.right_is ∙ sym (ap (λ (x : RunningSums). x.right) f);
          sums_alike = w.sums_are ∙ sym (ap (λ (x : RunningSums). x.sums) f);
        },
        by_turn (of_16_bits ts vs minutes values a.even a.few) w,
      )
    where
      by_turn : Small ts vs → OnWindow ts vs z h (turn_record ts vs r z h) → AlikeButPasses (turn_record ts vs r z h) (turned ts vs fresh z h)
      by_turn s w =
          let f = turned_on_window ts vs minutes values fresh z h (fresh_direct ts vs minutes values) s in
          record {
            left_alike = w.left_is ∙ sym f.left_is;
            right_alike = w.right_is ∙ sym f.right_is;
            sums_alike = w.sums_are ∙ sym f.sums_are;
          }

  -- its row at its mark is that of the question there
  pub turn_gives_row : turn_refusal ts vs r h ≡ None → evaluate full ts vs z h ≡ given (record_row (turn_record ts vs r z h) z h)
  unfolding evaluate
  turn_gives_row q =
      let a = accepted_turn q in
      let w = turn_on_window q in
      let fit : WithinLimits ts vs h = record { even = a.even; few = a.few; values = values; bandwidth = a.bandwidth } in
      let row =
      record_of_window_gives_row ts vs z h (turn_record ts vs r z h) a.ordered fit w.left_is w.right_is w.sums_are in
      rw (asked q) (ap given (sym row))
    where
      asked : turn_refusal ts vs r h ≡ None → evaluate_refusal full ts vs h ≡ None
      asked e =
          let b = none_of_both (series_checks full ts vs) (record_checks (length ts) r.left r.right ++ bandwidth_checks h) e in
          first_of_rest (series_checks full ts vs) (bandwidth_checks h) b.0
          ∙ (none_of_both (record_checks (length ts) r.left r.right) (bandwidth_checks h) b.1).1

module _ (ts vs : List ℕ) (minutes : AtMost max_u16 ts) (values : AtMost max_u16 vs) where
  turn_direct : (r : RunningSums) (m : Move) → Direct ts vs r → Direct ts vs (turn_record ts vs r m.point m.bandwidth)
  turn_direct r m d = by (turn_refusal ts vs r m.bandwidth) refl
    where
      on_window : (z h : ℕ) (r' : RunningSums) → OnWindow ts vs z h r' → Direct ts vs r'
      on_window z h r' w = record {
        edges = omega (arith, w.left_is, w.right_is, left_at_most_right ts z h);
        inside = omega (arith, w.right_is, right_at_most_length ts z h);
        sums_are_direct = rw (w.left_is, w.right_is) w.sums_are;
      }

      by : (f : Option Fault) → turn_refusal ts vs r m.bandwidth ≡ f → Direct ts vs (turn_record ts vs r m.point m.bandwidth)
      by None q = on_window m.point m.bandwidth _ (turn_on_window ts vs minutes values r m.point m.bandwidth d q)
      by (Some e) q = rw (refused_keeps ts vs r m e q) d

  motion_direct : (r : RunningSums) (m : Motion) → Direct ts vs r → Direct ts vs (after_motion ts vs r m)
  motion_direct r (step m) d = step_direct ts vs minutes values r m d
  motion_direct r (turn m) d = turn_direct r m d

  pub motions_direct : (ms : List Motion) (r : RunningSums) → Direct ts vs r → Direct ts vs (after_motions ts vs r ms)
  motions_direct [] r d = d
  motions_direct (m ∷ ms) r d = motions_direct ms (after_motion ts vs r m) (motion_direct r m d)

  -- whatever the order of the minutes, and refused ones included
  pub reached_direct : (r : RunningSums) → Reached ts vs r → Direct ts vs r
  reached_direct r w = rw w.leads_to (motions_direct w.motions fresh (fresh_direct ts vs minutes values))

  -- steps behind an accepted turn, with no edge back from it on: the sums are those of demand 3, over the window of the step accepted last
  pub steps_behind_turn : (r : RunningSums) (m : Move) (ms : List Move) → Direct ts vs r → turn_refusal ts vs r m.bandwidth ≡ None
      → NoEdgeBackAfter ts vs (Some m) ms
      → AlikeButPasses (after ts vs (turn_record ts vs r m.point m.bandwidth) ms) (record_at ts vs (accepted_after ts vs (Some m) ms))
  steps_behind_turn r m ms d q e =
      let w = turn_on_window ts vs minutes values r m.point m.bandwidth d q in
      let o = (accepted_turn ts vs minutes values r m.point m.bandwidth d q).ordered in
      rw (← (record_stands ts vs minutes values o (Some m) ms e))
      (steps_alike ts vs ms (turn_record ts vs r m.point m.bandwidth) (at_window ts vs m.point m.bandwidth)
      (record { left_alike = w.left_is; right_alike = w.right_is; sums_alike = w.sums_are }))

  pub sums_behind_turn : (r : RunningSums) (m : Move) (ms : List Move) → Direct ts vs r → turn_refusal ts vs r m.bandwidth ≡ None
      → NoEdgeBackAfter ts vs (Some m) ms
      → (after ts vs (turn_record ts vs r m.point m.bandwidth) ms).sums ≡ window_direct ts vs (accepted_after ts vs (Some m) ms)
  sums_behind_turn r m ms d q e =
      (steps_behind_turn r m ms d q e).sums_alike
      ∙ sums_are_window ts vs (accepted_turn ts vs minutes values r m.point m.bandwidth d q).ordered (accepted_after ts vs (Some m) ms)

-- a turn back and forth passes more than twice each reading
abbrev four_minutes : List ℕ
four_minutes = 10 ∷ 20 ∷ 20 ∷ 35 ∷ []

abbrev four_values : List ℕ
four_values = 40 ∷ 60 ∷ 80 ∷ 20 ∷ []

abbrev move : ℕ → ℕ → Move
move z h = record { point = z; bandwidth = h }

abbrev forth_and_back : List Motion
forth_and_back = turn (move 60 20) ∷ turn (move 20 5) ∷ []

pub turns_pass_more : 2 * length four_minutes < (after_motions four_minutes four_values fresh forth_and_back).passes
unfolding turn_record turned left_of right_of distance
turns_pass_more = omega arith

-- a step whose edges lie back does not land on its window, where a turn does
pub step_stays_ahead : ¬ ((after_motions four_minutes four_values fresh (step (move 35 5) ∷ step (move 20 5) ∷ [])).right ≡ right_of four_minutes 20 5)
unfolding advance moved left_of right_of distance
step_stays_ahead e = let n : ◌≡◌ {A = ℕ} 4 3 = e in omega arith

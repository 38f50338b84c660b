-- What is promised of the turn follows from the contracts of the calls, which leave what the meanings leave, and from the laws of motions.
use Prim.Native.Nat.{ℕ, ◌+◌}
use Rattle.std.specs.Prelude.{Result}
use Rattle.meanings.specs.declared.Refusal.{Refusal}
use mathlib.Core.Path.{◌≡◌, refl, sym, ap, ◌∙◌}
use mathlib.Core.List.{List}
use Rattle.std.specs.Prelude.{Option, None, Some}
use lib.ListN.{length}
use Rattle.meanings.specs.declared.RunningSums.{RunningSums}
use Rattle.meanings.specs.declared.Turning.{Turning}
use Rattle.meanings.specs.Calls.{evaluate}
use Rattle.meanings.specs.Claim.{NoEdgeBackAfter, accepted_after, window_direct, log_after_steps, refusal}
use Rattle.meanings.specs.Codes.{answered, no_detail}
use Rattle.meanings.specs.EventLog.{insertion_count, eviction_count}
use Rattle.meanings.specs.Limits.{full, max_u16}
use Rattle.meanings.specs.Lists.{AtMost}
use Rattle.meanings.specs.Moves.{Move}
use Rattle.meanings.specs.Reports.{Fault, Answer, given, refused, unless, accepted_or, verdict_fault, first_of, advance_checks, turn_checks}
use Rattle.meanings.specs.Running.{fresh, moved, advance, after, passes, next_record, record_row}
use Rattle.meanings.specs.Turn.{Motion, step, turn, turned, turn_refusal, turn_record, turn_answer, after_motion, after_motions}
use Rattle.meanings.proofs.Claim.{refusal_unless}
use Rattle.laws.specs.turn.Claims.{Direct, AlikeButPasses, OnWindow, CountedOnce}
use Rattle.laws.proofs.turn.Motions.{refused_keeps, motion_alike, steps_count_once, steps_count_passes, steps_count_log, motions_direct, fresh_direct}
use Rattle.laws.proofs.turn.Motions.{turn_on_window, turn_as_from_fresh, turn_gives_row, sums_behind_turn}
use Rattle.exports.specs.Answers.{sized, stored, record_length, record_numbers, record_of}
use Rattle.regression.proofs.turn.turn.Met as lent_turn_met
use Rattle.regression.proofs.turn.turn_own.Met as turn_own_met
use Rattle.exports.proofs.turn.tankcurve_turn.Met as exported_turn_met
use Rattle.promises.specs.Calls.{AdvanceCall}
use Rattle.promises.specs.conditions.Conditions.{RefusedExactly, FirstFault, length_first, code_refusal}
use Rattle.promises.specs.Demands.{RefusedAndStays, held, OrderedSteps, zeros}
use Rattle.promises.proofs.conditions.CallChecks.{none_left, series_finds, record_finds, bandwidth_finds}
use Rattle.promises.proofs.Demand3.{demand_3_of_calls, held_is_next_record, stored_record, opened, numbers_step}
use Rattle.promises.proofs.RecordRows.{answered_row, exported_record_row_gives, exported_evaluate_gives, record_row_is, one_record_row}
use Rattle.promises.proofs.EveryCurve.{one_given}
use Rattle.promises.proofs.OtherCalls.{other_calls}
use Rattle.laws.proofs.rows.AmongReadings.{evaluation_among}
use Rattle.laws.proofs.rows.Rearranged.{same_curves}
use Rattle.text.specs.Table.{stored_row}
use Rattle.meanings.specs.Estimate.{fields}
use Rattle.promises.proofs.conditions.FirstFaults.{FindAll, refused_exactly}
use Rattle.promises.proofs.conditions.Refusals.{decided_exactly, length_first_finds, sized_is_checked, exported_refusal, exported_stays, stored_stays}
use Rattle.promises.proofs.conditions.Refusals.{first_numbered}
use Rattle.promises.proofs.conditions.Refusals.{accepted_given}
use Rattle.promises.specs.turn.Turns as turns
use Rattle.promises.specs.turn.Turns.{TurnCall, ExportedTurn, turn_conditions, Motions, LentMotions, ExportedMotions, EveryTurnTaken, Turns}

-- ---- the calls leave what the meanings leave
module _ (ts vs : List ℕ) where
  step_left : (r : RunningSums) (m : Move) (a : Result RunningSums Refusal) → AdvanceCall r ts vs m.point m.bandwidth a
      → held r a ≡ after_motion ts vs r (step m)
  step_left r m a c = held_is_next_record r a ∙ ap (next_record r) c.ensured

  turn_left : (r : RunningSums) (m : Move) (t : Turning) → TurnCall r ts vs m.point m.bandwidth t → t.running ≡ after_motion ts vs r (turn m)
  turn_left r m t c = c.ensured.1

  motions_leave : {r r' : RunningSums} {ms : List Motion} → Motions ts vs r ms r' → r' ≡ after_motions ts vs r ms
  motions_leave turns.Motions.no_motion = refl
  motions_leave {r} (turns.Motions.one_step {ms = ms} m a c s) =
      motions_leave s ∙ ap (λ (q : RunningSums). after_motions ts vs q ms) (step_left r m a c)
  motions_leave {r} (turns.Motions.one_turn {ms = ms} m t c s) =
      motions_leave s ∙ ap (λ (q : RunningSums). after_motions ts vs q ms) (turn_left r m t c)

  lent_leave : {r r' : RunningSums} {ms : List Motion} → LentMotions ts vs r ms r' → r' ≡ after_motions ts vs r ms
  lent_leave turns.LentMotions.no_motion = refl
  lent_leave {r} (turns.LentMotions.one_step {ms = ms} m a c s) =
      lent_leave s ∙ ap (λ (q : RunningSums). after_motions ts vs q ms) (step_left r m a c)
  lent_leave {r} (turns.LentMotions.one_turn {ms = ms} m a c s) =
      lent_leave s ∙ ap (λ (q : RunningSums). after_motions ts vs q ms) c.ensured.1

next_is_turn_record : (ts vs : List ℕ) (r : RunningSums) (z h : ℕ) → next_record r (turn_answer ts vs r z h) ≡ turn_record ts vs r z h
unfolding turn_answer turn_record
next_is_turn_record ts vs r z h = by (turn_refusal ts vs r h)
  where
    by : (f : Option Fault) → next_record r (unless f (turned ts vs r z h)) ≡ accepted_or f (turned ts vs r z h) r
    by None = refl
    by (Some e) = refl

turn_refusal_is : (ts vs : List ℕ) (r : RunningSums) (z h : ℕ) → refusal (turn_answer ts vs r z h) ≡ turn_refusal ts vs r h
unfolding turn_answer
turn_refusal_is ts vs r z h = refusal_unless (turn_refusal ts vs r h) (turned ts vs r z h)

turn_finds : (ts vs : List ℕ) (left right h : ℕ) → FindAll (turn_checks full ts vs left right h) (turn_conditions ts vs left right h)
turn_finds ts vs left right h = series_finds full ts vs (record_finds (length ts) left right (bandwidth_finds h none_left))

module _ (xs ts vs : List ℕ) (z h : ℕ) where
  turn_exactly : RefusedExactly (refusal (sized record_length xs (turn_answer ts vs (record_of xs) z h)))
      (FirstFault (length_first record_length xs (turn_conditions ts vs (record_of xs).left (record_of xs).right h)))
  unfolding turn_answer
  turn_exactly =
      let r = record_of xs in
      decided_exactly (turned ts vs r z h) (length_first_finds record_length xs (turn_finds ts vs r.left r.right h))
      (sized_is_checked record_length xs (turn_checks full ts vs r.left r.right h) (turned ts vs r z h))

  turn_coded : (c : ℕ) → c ≡ answered no_detail (sized record_length xs (turn_answer ts vs (record_of xs) z h))
      → code_refusal c ≡ refusal (sized record_length xs (turn_answer ts vs (record_of xs) z h))
  turn_coded c q =
      exported_refusal no_detail (sized record_length xs (turn_answer ts vs (record_of xs) z h)) c _ q
      (first_numbered (length_first record_length xs (turn_conditions ts vs (record_of xs).left (record_of xs).right h)) refl) turn_exactly

-- a turn of nine numbers is the turn of their record
pub record NumbersTurn (xs ts vs : List ℕ) (z h c : ℕ) (xs' : List ℕ) : Type 0 where
  pub nine : length xs' ≡ record_length
  pub turns_record : record_of xs' ≡ turn_record ts vs (record_of xs) z h
  pub tells : code_refusal c ≡ turn_refusal ts vs (record_of xs) h

pub numbers_turn : (xs ts vs : List ℕ) (z h c : ℕ) (xs' : List ℕ) → length xs ≡ record_length → ExportedTurn xs ts vs z h c xs' → NumbersTurn xs ts vs z h c xs'
numbers_turn xs ts vs z h c xs' e k =
    let t = turn_answer ts vs (record_of xs) z h in
    let o = opened xs t e in
    let q : xs' ≡ stored record_numbers t xs = k.ensured.1 ∙ ap (λ (a : Answer RunningSums). stored record_numbers a xs) o in
    let s = stored_record xs e t in
    record {
      nine = ap length q ∙ s.0;
      turns_record = ap record_of q ∙ s.1 ∙ next_is_turn_record ts vs (record_of xs) z h;
      tells = turn_coded xs ts vs z h c k.ensured.0 ∙ ap refusal o ∙ turn_refusal_is ts vs (record_of xs) z h;
    }

exported_leave : {ts vs xs xs' : List ℕ} {ms : List Motion} → ExportedMotions ts vs xs ms xs' → length xs ≡ record_length
    → (length xs' ≡ record_length) × (record_of xs' ≡ after_motions ts vs (record_of xs) ms)
exported_leave turns.ExportedMotions.no_motion e = (e, refl)
exported_leave {ts} {vs} {xs} (turns.ExportedMotions.one_step {xs' = xs'} {ms = ms} m c k s) e =
    let n = numbers_step xs ts vs m.point m.bandwidth c xs' e k in
    let l = exported_leave s n.nine in
    (l.0, l.1 ∙ ap (λ (q : RunningSums). after_motions ts vs q ms) n.moves_record)
exported_leave {ts} {vs} {xs} (turns.ExportedMotions.one_turn {xs' = xs'} {ms = ms} m c k s) e =
    let n = numbers_turn xs ts vs m.point m.bandwidth c xs' e k in
    let l = exported_leave s n.nine in
    (l.0, l.1 ∙ ap (λ (q : RunningSums). after_motions ts vs q ms) n.turns_record)

-- ---- what the laws say of them
module _ (ts vs : List ℕ) (minutes : AtMost max_u16 ts) (values : AtMost max_u16 vs) where
  direct : (r : RunningSums) (ms : List Motion) → r ≡ after_motions ts vs fresh ms → Direct ts vs r
  direct r ms e = rw e (motions_direct ts vs minutes values ms fresh (fresh_direct ts vs minutes values))

  module _ (r r' : RunningSums) (z h : ℕ) (d : Direct ts vs r) (e : r' ≡ turn_record ts vs r z h) (accepted : turn_refusal ts vs r h ≡ None) where
    lands : OnWindow ts vs z h r' × AlikeButPasses r' (moved ts vs fresh z h)
    lands = rw e (turn_on_window ts vs minutes values r z h d accepted, (turn_as_from_fresh ts vs minutes values r z h d accepted).0)

    gives_row : evaluate full ts vs z h ≡ given (record_row r' z h)
    gives_row = rw e (turn_gives_row ts vs minutes values r z h d accepted)

  behind : (r r' r'' : RunningSums) (m : Move) (ns : List Move) → Direct ts vs r → r' ≡ turn_record ts vs r m.point m.bandwidth
      → turn_refusal ts vs r m.bandwidth ≡ None → r'' ≡ after ts vs r' ns → NoEdgeBackAfter ts vs (Some m) ns
      → r''.sums ≡ window_direct ts vs (accepted_after ts vs (Some m) ns)
  behind r r' r'' m ns d e accepted q n = rw (q, e) (sums_behind_turn ts vs minutes values r m ns d accepted n)

-- ---- no check looks at the passes, so records that differ in them alone get the same report
module _ (ts vs : List ℕ) (r s : RunningSums) where
  same_turn_refusal : (h : ℕ) → AlikeButPasses r s → turn_refusal ts vs r h ≡ turn_refusal ts vs s h
  same_turn_refusal h w = rw (w.left_alike, w.right_alike)

  same_turn_report : (z h : ℕ) → AlikeButPasses r s → refusal (turn_answer ts vs r z h) ≡ refusal (turn_answer ts vs s z h)
  same_turn_report z h w = turn_refusal_is ts vs r z h ∙ same_turn_refusal h w ∙ sym (turn_refusal_is ts vs s z h)

  same_step_report : (z h : ℕ) → AlikeButPasses r s → refusal (advance ts vs r z h) ≡ refusal (advance ts vs s z h)
  unfolding advance
  same_step_report z h w =
      refusal_unless (first_of (advance_checks full ts vs r.left r.right h)) (moved ts vs r z h)
      ∙ same
      ∙ sym (refusal_unless (first_of (advance_checks full ts vs s.left s.right h)) (moved ts vs s z h))
    where
      same : first_of (advance_checks full ts vs r.left r.right h) ≡ first_of (advance_checks full ts vs s.left s.right h)
      same = rw (w.left_alike, w.right_alike)

-- a code without a detail is its report's
abbrev code_of : Option Fault → ℕ
code_of f = answered no_detail (unless f fresh)

code_by_report : (t : Answer RunningSums) → answered no_detail t ≡ code_of (refusal t)
code_by_report (given r) = refl
code_by_report (refused e) = refl

same_code : (t u : Answer RunningSums) (c d : ℕ) → refusal t ≡ refusal u → c ≡ answered no_detail t → d ≡ answered no_detail u → c ≡ d
same_code t u c d q a b = a ∙ code_by_report t ∙ ap code_of q ∙ sym (code_by_report u) ∙ sym b

pub turn_taken : EveryTurnTaken
turn_taken = record {
  lent_turn_ends = lent_turn_met.met;
  lent_turn_asks_nothing = λ κs a. tt;
  turn_own_ends = turn_own_met.met;
  turn_own_asks_nothing = λ κs a. tt;
  exported_turn_ends = exported_turn_met.met;
  exported_turn_asks_nothing = λ κs a. tt;
}

pub turns_hold : Turns
turns_hold = record {
  lent_turn_alike = λ r ts vs z h a r' t c d. (c.ensured.0 ∙ sym d.ensured.0, c.ensured.1 ∙ sym d.ensured.1);
  turn_refused = λ r ts vs z h t c. refused_or_stays r ts vs z h (verdict_fault t.verdict) t.running c.ensured.0 c.ensured.1;
  lent_turn_refused = λ r ts vs z h a r' c. refused_or_stays r ts vs z h (verdict_fault a) r' c.ensured.0 c.ensured.1;
  exported_turn_refused = λ xs ts vs z h c xs' k.
      let t = sized record_length xs (turn_answer ts vs (record_of xs) z h) in
      exported_stays t c _ (turn_coded xs ts vs z h c k.ensured.0) (turn_exactly xs ts vs z h)
      (xs' ≡ xs) (λ e q. k.ensured.1 ∙ stored_stays record_numbers t xs e q);
  motions_leave = λ ts vs r r' ms s. motions_leave ts vs s;
  lent_motions_leave = λ ts vs r r' ms s. lent_leave ts vs s;
  exported_motions_leave = λ ts vs xs xs' ms e s. exported_leave s e;
  reached_direct = λ ts vs r ms m v s. direct ts vs m v r ms (motions_leave ts vs s);
  lent_reached_direct = λ ts vs r ms m v s. direct ts vs m v r ms (lent_leave ts vs s);
  exported_reached_direct = λ ts vs xs ms m v s. direct ts vs m v (record_of xs) ms (exported_leave s refl).1;
  turn_lands = λ ts vs r ms z h t m v s c q.
      lands ts vs m v r t.running z h (direct ts vs m v r ms (motions_leave ts vs s)) c.ensured.1 (sym c.ensured.0 ∙ q);
  lent_turn_lands = λ ts vs r ms z h a r' m v s c q.
      lands ts vs m v r r' z h (direct ts vs m v r ms (lent_leave ts vs s)) c.ensured.1 (sym c.ensured.0 ∙ q);
  exported_turn_lands = λ ts vs xs ms z h c xs' m v s k q.
      let l = exported_leave s refl in
      let n = numbers_turn xs ts vs z h c xs' l.0 k in
      lands ts vs m v (record_of xs) (record_of xs') z h (direct ts vs m v (record_of xs) ms l.1) n.turns_record (sym n.tells ∙ q);
  turn_row = λ ts vs r ms z h t a e m v s c q k w.
      answered_row a e
      (k.ensured
      ∙ gives_row ts vs m v r t.running z h (direct ts vs m v r ms (motions_leave ts vs s)) c.ensured.1 (sym c.ensured.0 ∙ q)
      ∙ ap given (sym w.ensured));
  lent_turn_row = λ ts vs r ms z h t r' a e m v s c q k w.
      answered_row a e
      (k.ensured
      ∙ gives_row ts vs m v r r' z h (direct ts vs m v r ms (lent_leave ts vs s)) c.ensured.1 (sym c.ensured.0 ∙ q)
      ∙ ap given (sym w.ensured));
  exported_turn_row = λ ts vs xs ms z h c₀ xs' row₁ c₁ row₁' row c row' m v s k q l₁ l₂ k₁ k₂.
      let l = exported_leave s refl in
      let n = numbers_turn xs ts vs z h c₀ xs' l.0 k in
      let g = gives_row ts vs m v (record_of xs) (record_of xs') z h (direct ts vs m v (record_of xs) ms l.1) n.turns_record (sym n.tells ∙ q) in
      let a = exported_evaluate_gives ts vs z h row₁ c₁ row₁' (record_row (record_of xs') z h) l₁ g k₁ in
      let b = exported_record_row_gives xs' z h row c row' n.nine l₂ k₂ in
      (a.0, b.0, b.1 ∙ sym a.1);
  turn_row_among = λ ts vs r ms z h t e m v s c q w p.
      evaluation_among ts vs z h e
      (gives_row ts vs m v r t.running z h (direct ts vs m v r ms (motions_leave ts vs s)) c.ensured.1 (sym c.ensured.0 ∙ q) ∙ ap given (sym w.ensured)) p;
  lent_turn_row_among = λ ts vs r ms z h a r' e m v s c q w p.
      evaluation_among ts vs z h e
      (gives_row ts vs m v r r' z h (direct ts vs m v r ms (lent_leave ts vs s)) c.ensured.1 (sym c.ensured.0 ∙ q) ∙ ap given (sym w.ensured)) p;
  exported_turn_row_among = λ ts vs xs ms z h c₀ xs' row c row' m v s k q x y p.
      let l = exported_leave s refl in
      let n = numbers_turn xs ts vs z h c₀ xs' l.0 k in
      let g = gives_row ts vs m v (record_of xs) (record_of xs') z h (direct ts vs m v (record_of xs) ms l.1) n.turns_record (sym n.tells ∙ q) in
      let is = (other_calls.exported_record_row_is xs' z h row c row' x y).2 in
      evaluation_among ts vs z h (stored_row row' 0)
      (g ∙ ap given (sym (one_record_row (record_of xs') z h (stored_row row' 0) _ is (record_row_is (record_of xs') z h)))) p;
  turn_row_alike = λ ts vs vs' r s ms ns z h t u d e a m v v' f g c k q p x y.
      one_given d e
      (ap given x.ensured
      ∙ sym (gives_row ts vs m v r t.running z h (direct ts vs m v r ms (motions_leave ts vs f)) c.ensured.1 (sym c.ensured.0 ∙ q))
      ∙ (same_curves ts vs vs' a).evaluations full z h
      ∙ gives_row ts vs' m v' s u.running z h (direct ts vs' m v' s ns (motions_leave ts vs' g)) k.ensured.1 (sym k.ensured.0 ∙ p)
      ∙ sym (ap given y.ensured));
  lent_turn_row_alike = λ ts vs vs' r s ms ns z h a b r' s' d e w m v v' f g c k q p x y.
      one_given d e
      (ap given x.ensured
      ∙ sym (gives_row ts vs m v r r' z h (direct ts vs m v r ms (lent_leave ts vs f)) c.ensured.1 (sym c.ensured.0 ∙ q))
      ∙ (same_curves ts vs vs' w).evaluations full z h
      ∙ gives_row ts vs' m v' s s' z h (direct ts vs' m v' s ns (lent_leave ts vs' g)) k.ensured.1 (sym k.ensured.0 ∙ p)
      ∙ sym (ap given y.ensured));
  exported_turn_row_alike = λ ts vs vs' xs ys ms ns z h a b xs' ys' row c d row₁ row₂ w m v v' f g k l q p five x y.
      let i = exported_leave f refl in
      let j = exported_leave g refl in
      let n = numbers_turn xs ts vs z h a xs' i.0 k in
      let o = numbers_turn ys ts vs' z h b ys' j.0 l in
      let e = one_given _ _
      (sym (gives_row ts vs m v (record_of xs) (record_of xs') z h (direct ts vs m v (record_of xs) ms i.1) n.turns_record (sym n.tells ∙ q))
      ∙ (same_curves ts vs vs' w).evaluations full z h
      ∙ gives_row ts vs' m v' (record_of ys) (record_of ys') z h (direct ts vs' m v' (record_of ys) ns j.1) o.turns_record (sym o.tells ∙ p)) in
      let one = exported_record_row_gives xs' z h row c row₁ n.nine five x in
      let other = exported_record_row_gives ys' z h row d row₂ o.nine five y in
      (one.0 ∙ sym other.0, one.1 ∙ ap fields e ∙ sym other.1);
  exported_turn_accepted = λ xs ts vs z h c xs' k q.
      let t = sized record_length xs (turn_answer ts vs (record_of xs) z h) in
      k.ensured.0 ∙ ap (answered no_detail) (accepted_given t (sym (turn_coded xs ts vs z h c k.ensured.0) ∙ q)).1;
  step_ignores_passes = λ r s ts vs z h a b w c d.
      let m : Move = record { point = z; bandwidth = h } in (
        ap refusal c.ensured ∙ same_step_report ts vs r s z h w ∙ sym (ap refusal d.ensured),
        rw (step_left ts vs r m a c, step_left ts vs s m b d) (motion_alike ts vs r s (step m) w),
      );
  turn_ignores_passes = λ r s ts vs z h t u w c d.
      let m : Move = record { point = z; bandwidth = h } in (
        c.ensured.0 ∙ same_turn_refusal ts vs r s h w ∙ sym d.ensured.0,
        rw (turn_left ts vs r m t c, turn_left ts vs s m u d) (motion_alike ts vs r s (turn m) w),
      );
  lent_turn_ignores_passes = λ r s ts vs z h a b r' s' w c d.
      let m : Move = record { point = z; bandwidth = h } in (
        c.ensured.0 ∙ same_turn_refusal ts vs r s h w ∙ sym d.ensured.0,
        rw (c.ensured.1, d.ensured.1) (motion_alike ts vs r s (turn m) w),
      );
  exported_step_ignores_passes = λ xs ys ts vs z h c d xs' ys' e f w k l.
      let m : Move = record { point = z; bandwidth = h } in
      let a = numbers_step xs ts vs z h c xs' e k in
      let b = numbers_step ys ts vs z h d ys' f l in (
        same_code (advance ts vs (record_of xs) z h) (advance ts vs (record_of ys) z h) c d (same_step_report ts vs (record_of xs) (record_of ys) z h w)
            (k.ensured.0 ∙ ap (answered no_detail) (opened xs _ e)) (l.ensured.0 ∙ ap (answered no_detail) (opened ys _ f)),
        rw (a.moves_record, b.moves_record) (motion_alike ts vs (record_of xs) (record_of ys) (step m) w),
      );
  exported_turn_ignores_passes = λ xs ys ts vs z h c d xs' ys' e f w k l.
      let m : Move = record { point = z; bandwidth = h } in
      let a = numbers_turn xs ts vs z h c xs' e k in
      let b = numbers_turn ys ts vs z h d ys' f l in (
        same_code (turn_answer ts vs (record_of xs) z h) (turn_answer ts vs (record_of ys) z h) c d (same_turn_report ts vs (record_of xs) (record_of ys) z h w)
            (k.ensured.0 ∙ ap (answered no_detail) (opened xs _ e)) (l.ensured.0 ∙ ap (answered no_detail) (opened ys _ f)),
        rw (a.turns_record, b.turns_record) (motion_alike ts vs (record_of xs) (record_of ys) (turn m) w),
      );
  steps_behind_turn = λ ts vs r r' ms m t ns a v s c q w e.
      behind ts vs a v r t.running r' m ns (direct ts vs a v r ms (motions_leave ts vs s)) c.ensured.1 (sym c.ensured.0 ∙ q)
      (demand_3_of_calls.steps_leave ts vs t.running r' ns w) e;
  lent_steps_behind_turn = λ ts vs r r' r'' ms m a ns b v s c q w e.
      behind ts vs b v r r' r'' m ns (direct ts vs b v r ms (lent_leave ts vs s)) c.ensured.1 (sym c.ensured.0 ∙ q)
      (demand_3_of_calls.steps_leave ts vs r' r'' ns w) e;
  exported_steps_behind_turn = λ ts vs xs xs' xs'' ms m c ns a v s k q w e.
      let l = exported_leave s refl in
      let n = numbers_turn xs ts vs m.point m.bandwidth c xs' l.0 k in
      behind ts vs a v (record_of xs) (record_of xs') (record_of xs'') m ns (direct ts vs a v (record_of xs) ms l.1) n.turns_record
      (sym n.tells ∙ q) (demand_3_of_calls.exported_steps_leave ts vs xs' xs'' ns n.nine w).1 e;
  steps_count_once = λ ts vs r ms s. counted ts vs r ms (demand_3_of_calls.steps_leave ts vs fresh r ms s);
  exported_steps_count_once = λ ts vs xs ms s. counted ts vs (record_of xs) ms (demand_3_of_calls.exported_steps_leave ts vs zeros xs ms refl s).1;
  steps_count_log = λ ts vs r ms o s. logged ts vs r ms o (demand_3_of_calls.steps_leave ts vs fresh r ms s);
  exported_steps_count_log = λ ts vs xs ms o s. logged ts vs (record_of xs) ms o (demand_3_of_calls.exported_steps_leave ts vs zeros xs ms refl s).1;
}
  where
    counted : (ts vs : List ℕ) (r : RunningSums) (ms : List Move) → r ≡ after ts vs fresh ms
        → CountedOnce ts r × (r.passes ≡ passes ts vs fresh ms)
    counted ts vs r ms e = rw e (steps_count_once ts vs ms, steps_count_passes ts vs ms)

    logged : (ts vs : List ℕ) (r : RunningSums) (ms : List Move) → OrderedSteps ts vs ms → r ≡ after ts vs fresh ms
        → r.passes ≡ insertion_count (log_after_steps ts vs ms) + eviction_count (log_after_steps ts vs ms)
    logged ts vs r ms o e = rw e (steps_count_log ts vs o.minutes o.values o.ordered ms o.no_edge_back)

    refused_or_stays : (r : RunningSums) (ts vs : List ℕ) (z h : ℕ) (f : Option Fault) (r' : RunningSums) → f ≡ turn_refusal ts vs r h
        → r' ≡ turn_record ts vs r z h → RefusedAndStays f (FirstFault (turn_conditions ts vs r.left r.right h)) (r' ≡ r)
    refused_or_stays r ts vs z h f r' told left = record {
      exactly = rw told (refused_exactly (turn_finds ts vs r.left r.right h));
      stays = λ e k. left ∙ refused_keeps ts vs r (record { point = z; bandwidth = h }) e (sym told ∙ k);
    }

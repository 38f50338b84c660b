-- Demand 3 of the calls. By its contract each call leaves the record that the step's meaning gives, so a list of calls leaves what a list of
-- steps leaves, and the claim about the list holds of the records and answers that the caller saw. The exported call is the same step on a
-- record that is kept as nine numbers.
use Prim.Native.Nat.{ℕ, suc, ◌*◌, ◌≤◌, ◌<◌}
use Rattle.std.specs.Prelude.{Result, Ok, Err}
use Rattle.meanings.specs.declared.Refusal.{Refusal}
use Rattle.meanings.specs.Calls.{answer_of}
use mathlib.Core.Path.{◌≡◌, refl, sym, ap, ◌∙◌}
use mathlib.Core.List.{List, [], ◌∷◌, ◌++◌}
use Rattle.std.specs.Prelude.{Option}
use native.Mathlib.Omega.{arith}
use borrow.Author.Tests.{ne_eqb, eq-eqb}
use lib.ListN.{length, get_or, take}
use Rattle.meanings.specs.declared.RunningSums.{RunningSums}
use Rattle.meanings.specs.Lists.{AtMost}
use Rattle.meanings.specs.Limits.{full, max_u16}
use Rattle.meanings.specs.Moves.{Move, moves}
use Rattle.meanings.specs.Reports.{Fault, Answer, given, refused}
use Rattle.meanings.specs.Estimate.{fields}
use Rattle.meanings.specs.Running.{fresh, advance, next_record, after_step, after, record_row}
use Rattle.meanings.specs.EventLog.{EventLog}
use Rattle.meanings.specs.Claim.{StepHolds, refusal, record_after}
use Rattle.meanings.specs.Calls.{smooth, smooth_rows}
use Rattle.meanings.proofs.Claim.{demand_3, log_follows, refused_with_8_6_or_9}
use Rattle.meanings.proofs.Passes.{fresh_within, after_onward, after_append, passes_at_most_twice}
use Rattle.laws.proofs.turn.Motions.{steps_count_passes, steps_count_log}
use Rattle.meanings.proofs.Checks.{same_limits}
use Rattle.meanings.proofs.SmoothLog.{smooth_passes}
use Rattle.meanings.proofs.SmoothRows.{smooth_row_is_record_row}
use Rattle.text.specs.Table.{stored_row}
use Rattle.meanings.specs.Codes.{detail_unit, answered, no_detail}
use Rattle.exports.specs.Answers.{sized, stored, record_of, record_numbers, record_length}
use Rattle.exports.proofs.Stores.{record_read_back}
use Rattle.promises.specs.Calls.{ExportedAdvance}
use Rattle.promises.specs.conditions.Conditions.{code_refusal}
use Rattle.promises.specs.Demands.{held, log_passes, Steps, ExportedSteps, OrderedSteps, LogMatches, Demand3}
use Rattle.promises.specs.Demands as demands
use Rattle.promises.proofs.RecordRows.{row_of_window_record, last_question, row_after_steps, answered_row}
use Rattle.promises.proofs.RecordRows.{exported_record_row_gives, exported_evaluate_gives}
use Rattle.promises.proofs.conditions.Refusals.{accepted_given}
use Rattle.promises.proofs.Demand1.{advance_coded, smooth_coded}
use Rattle.promises.proofs.Rows.{five_are_row}

pub held_is_next_record : (r : RunningSums) (a : Result RunningSums Refusal) → held r a ≡ next_record r (answer_of a)
held_is_next_record r (Ok r') = refl
held_is_next_record r (Err e) = refl

-- calls leave what the steps' meaning leaves
left_by_steps : {ts vs : List ℕ} {r r' : RunningSums} {ms : List Move} → Steps ts vs r ms r' → r' ≡ after ts vs r ms
left_by_steps demands.Steps.no_step = refl
left_by_steps {ts} {vs} {r} (demands.Steps.one_step {ms = ms} m a c s) =
    left_by_steps s ∙ ap (λ (q : RunningSums). after ts vs q ms) (held_is_next_record r a ∙ ap (next_record r) c.ensured)

-- one step more
step_leaves : (ts vs : List ℕ) (before : List Move) (m : Move) → after_step ts vs (record_after ts vs before) m ≡ record_after ts vs (before ++ m ∷ [])
step_leaves ts vs before m = sym (after_append ts vs fresh before (m ∷ []))

-- the claim of a step, of what a caller has seen of it
seen_step_holds : (ts vs : List ℕ) (ms before rest : List Move) (m : Move) (f : Option Fault) (r r' : RunningSums) → OrderedSteps ts vs ms
    → ms ≡ before ++ m ∷ rest → r ≡ record_after ts vs before → f ≡ refusal (advance ts vs r m.point m.bandwidth)
    → r' ≡ next_record r (advance ts vs r m.point m.bandwidth) → StepHolds ts vs before m f r r'
seen_step_holds ts vs ms before rest m f r r' o q a b c =
    rw (b, c, a, step_leaves ts vs before m)
    ((demand_3 ts vs ms o.minutes o.values o.ordered o.no_edge_back).each before rest m q)

matches : (ts vs : List ℕ) (ms : List Move) (r : RunningSums) → OrderedSteps ts vs ms → r ≡ record_after ts vs ms → LogMatches ts vs ms r
matches ts vs ms r o e =
    let w = (after_onward ts vs fresh ms (fresh_within ts)).within in
    let l = log_follows ts vs o.minutes o.values o.ordered ms o.no_edge_back in
    rw e
    (record {
      inserted_once = ap (λ (b : EventLog). b.inserted) l;
      evicted_once = ap (λ (b : EventLog). b.evicted) l;
      evicted_were_inserted = w.edges;
      within = w.inside;
    })

-- the record's own count of passes
counted : (ts vs : List ℕ) (ms : List Move) (r : RunningSums) → OrderedSteps ts vs ms → r ≡ record_after ts vs ms
    → (r.passes ≡ log_passes ts vs ms) × (r.passes ≤ 2 * length ts)
counted ts vs ms r o e =
    rw e (steps_count_log ts vs o.minutes o.values o.ordered ms o.no_edge_back, rw (steps_count_passes ts vs ms) (passes_at_most_twice ts vs ms))

-- a step on nine numbers is the step on their record
pub record NumbersStep (xs ts vs : List ℕ) (z h c : ℕ) (xs' : List ℕ) : Type 0 where
  pub nine : length xs' ≡ record_length
  pub moves_record : record_of xs' ≡ next_record (record_of xs) (advance ts vs (record_of xs) z h)
  pub tells : code_refusal c ≡ refusal (advance ts vs (record_of xs) z h)

pub stored_record : (xs : List ℕ) → length xs ≡ record_length → (t : Answer RunningSums)
    → (length (stored record_numbers t xs) ≡ record_length) × (record_of (stored record_numbers t xs) ≡ next_record (record_of xs) t)
stored_record xs e (given r) = (refl, record_read_back r)
stored_record xs e (refused f) = (e, refl)

pub opened : {A : Type 0} (xs : List ℕ) (t : Answer A) → length xs ≡ record_length → sized record_length xs t ≡ t
unfolding sized
opened xs t e = rw (eq-eqb (length xs) record_length e)

pub numbers_step : (xs ts vs : List ℕ) (z h c : ℕ) (xs' : List ℕ) → length xs ≡ record_length
    → ExportedAdvance xs ts vs z h c xs' → NumbersStep xs ts vs z h c xs'
numbers_step xs ts vs z h c xs' e k =
    let t = advance ts vs (record_of xs) z h in
    let o = opened xs t e in
    let q : xs' ≡ stored record_numbers t xs = k.ensured.1 ∙ ap (λ (a : Answer RunningSums). stored record_numbers a xs) o in
    let s = stored_record xs e t in
    record {
      nine = ap length q ∙ s.0;
      moves_record = ap record_of q ∙ s.1;
      tells = advance_coded xs ts vs z h c k.ensured.0 ∙ ap refusal o;
    }

left_by_exported : {ts vs xs xs' : List ℕ} {ms : List Move} → ExportedSteps ts vs xs ms xs' → length xs ≡ record_length
    → (length xs' ≡ record_length) × (record_of xs' ≡ after ts vs (record_of xs) ms)
left_by_exported demands.ExportedSteps.no_step e = (e, refl)
left_by_exported {ts} {vs} {xs} (demands.ExportedSteps.one_step {xs' = xs'} {ms = ms} m c k s) e =
    let n = numbers_step xs ts vs m.point m.bandwidth c xs' e k in
    let l = left_by_exported s n.nine in
    (l.0, l.1 ∙ ap (λ (q : RunningSums). after ts vs q ms) n.moves_record)

refused_numbers : (xs ts vs : List ℕ) (z h c : ℕ) (xs' : List ℕ) → ¬ (length xs ≡ record_length) → ExportedAdvance xs ts vs z h c xs' → (c ≡ 8) × (xs' ≡ xs)
unfolding sized
refused_numbers xs ts vs z h c xs' n k = let e = ne_eqb (length xs) record_length n in (rw e at k.ensured.0, rw e at k.ensured.1)

module _ (ts vs zs hs rs rs' : List ℕ) (n : ℕ) (minutes : AtMost max_u16 ts) (values : AtMost max_u16 vs)
    (accepted : smooth full ts vs zs hs rs ≡ given n) (rows : rs' ≡ smooth_rows full ts vs zs hs rs) where
  row_of_steps : (k : ℕ) → k < length zs
      → stored_row rs' k ≡ record_row (after ts vs fresh (moves (take (suc k) zs) (take (suc k) hs))) (get_or zs k 0) (get_or hs k 0)
  row_of_steps k l =
      five_are_row rs' k (record_row (after ts vs fresh (moves (take (suc k) zs) (take (suc k) hs))) (get_or zs k 0) (get_or hs k 0))
      (rw rows (smooth_row_is_record_row full (same_limits full) ts vs zs hs rs n k minutes values accepted l))

pub demand_3_of_calls : Demand3
demand_3_of_calls = record {
  every_list = λ ts vs ms o. record {
    each_step = λ before rest m r a q s c.
        seen_step_holds ts vs ms before rest m (refusal (answer_of a)) r (held r a) o q (left_by_steps s) (ap refusal c.ensured)
        (held_is_next_record r a ∙ ap (next_record r) c.ensured);
    each_once = λ r s. matches ts vs ms r o (left_by_steps s);
    passes_are = λ r s. (counted ts vs ms r o (left_by_steps s)).0;
    passes_most = λ r s. (counted ts vs ms r o (left_by_steps s)).1;
  };
  every_exported_list = λ ts vs ms o. record {
    each_exported_step = λ before rest m xs c xs' q s k.
        let l = left_by_exported s refl in
        let n = numbers_step xs ts vs m.point m.bandwidth c xs' l.0 k in (
          l.0,
          n.nine,
          seen_step_holds ts vs ms before rest m (code_refusal c) (record_of xs) (record_of xs') o q l.1 n.tells n.moves_record,
        );
    each_exported_once = λ xs s. matches ts vs ms (record_of xs) o (left_by_exported s refl).1;
    exported_passes_are = λ xs s. (counted ts vs ms (record_of xs) o (left_by_exported s refl).1).0;
    exported_passes_most = λ xs s. (counted ts vs ms (record_of xs) o (left_by_exported s refl).1).1;
  };
  refused_with = refused_with_8_6_or_9;
  other_length = refused_numbers;
  steps_leave = λ ts vs r r' ms s. left_by_steps s;
  exported_steps_leave = λ ts vs xs xs' ms e s. left_by_exported s e;
  exported_step_accepted = λ xs ts vs z h c xs' k q.
      let t = sized record_length xs (advance ts vs (record_of xs) z h) in
      k.ensured.0 ∙ ap (answered no_detail) (accepted_given t (sym (advance_coded xs ts vs z h c k.ensured.0) ∙ q)).1;
  window_record_row = λ ts vs z h r e e' v left right sums q c.
      c.ensured ∙ row_of_window_record ts vs z h r e' v left right sums (sym q.ensured);
  steps_row = λ ts vs ms m r a e o s last q c.
      answered_row a e
      (q.ensured
      ∙ last_question ts vs ms m o last
      ∙ ap given (sym (c.ensured ∙ row_after_steps ts vs ms m o last r (left_by_steps s))));
  exported_steps_row = λ ts vs ms m xs row₁ c₁ row₁' row c row' o s last five₁ five q k.
      let l = left_by_exported s refl in
      let a = exported_evaluate_gives ts vs m.point m.bandwidth row₁ c₁ row₁' _ five₁ (last_question ts vs ms m o last) q in
      let b = exported_record_row_gives xs m.point m.bandwidth row c row' l.0 five k in
      (a.0, b.0, b.1 ∙ ap fields (row_after_steps ts vs ms m o last (record_of xs) l.1) ∙ sym a.1);
  smooth_steps = λ ts vs zs hs rs n rs' k t v c l. row_of_steps ts vs zs hs rs rs' n t v (sym c.ensured.0) c.ensured.1 k l;
  smooth_passes = λ ts vs zs hs rs n rs' t v c. smooth_passes full (same_limits full) ts vs zs hs t v rs n (sym c.ensured.0);
  exported_smooth_steps = λ ts vs zs hs rs c rs' k t v x q l.
      let g = accepted_given (smooth full ts vs zs hs rs) (sym (smooth_coded full ts vs zs hs rs c x.ensured.0) ∙ q) in
      row_of_steps ts vs zs hs rs rs' g.0 t v g.1 x.ensured.1 k l;
  exported_smooth_passes = λ ts vs zs hs rs c rs' t v x q.
      let g = accepted_given (smooth full ts vs zs hs rs) (sym (smooth_coded full ts vs zs hs rs c x.ensured.0) ∙ q) in
      let p = smooth_passes full (same_limits full) ts vs zs hs t v rs g.0 g.1 in
      let e : c ≡ detail_unit * g.0 = x.ensured.0 ∙ ap (answered (λ n. n)) g.1 in
      (omega arith, omega arith);
}

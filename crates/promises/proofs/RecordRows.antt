-- The row of a record. Its call gives the formulas over the record's sums modulo 2^64, which for a record with the edges and sums of a window
-- are the window's row. After steps from fresh the record has those of the last accepted step's window.
use Prim.Native.Nat.{ℕ, zero, suc, ◌+◌, ◌*◌, ◌%◌, ◌^◌, ◌≤◌, ◌<◌}
use Rattle.std.specs.Prelude.{Result, Ok, Err}
use Rattle.meanings.specs.declared.Refusal.{Refusal}
use Rattle.meanings.specs.Calls.{answer_of}
use mathlib.Core.Path.{◌≡◌, refl, sym, ap, ◌∙◌}
use mathlib.Core.Logic.{inl, inr}
use mathlib.Core.List.{List, [], ◌∷◌}
use Rattle.std.specs.Prelude.{Option, None, Some}
use native.Mathlib.Nat.{mod-mod}
use native.Mathlib.Omega.{arith}
use borrow.Author.Tests.{ltb-false}
use lib.ListN.{length}
use Rattle.meanings.specs.declared.Estimate.{Estimate}
use Rattle.meanings.specs.declared.RunningSums.{RunningSums}
use Rattle.meanings.specs.Lists.{AtMost, Ordered}
use Rattle.meanings.specs.Limits.{full, max_u16, max_bandwidth, row_width}
use Rattle.meanings.specs.Moves.{Move}
use Rattle.meanings.specs.Reports.{Fault, Answer, given, unless, accepted_or, bad_bandwidth, log_checks}
use Rattle.meanings.specs.Estimate.{WithinLimits, left_of, right_of, value_of, estimate, fields}
use Rattle.meanings.specs.PublishedRow.{Nearest}
use Rattle.meanings.specs.Running.{window_sums, plus, combined, record_row}
use Rattle.meanings.specs.EventLog.{log_refusal}
use Rattle.meanings.specs.Claim.{accepted_next, accepted_after, last_accepted, record_after}
use Rattle.meanings.specs.Calls.{evaluate, evaluate_refusal}
use Rattle.meanings.proofs.Checks.{none_holds, at_none, differ_false, bandwidth_in_range, given_accepted, evaluate_accepts, same_limits}
use Rattle.meanings.proofs.Claim.{record_at, record_follows}
use Rattle.meanings.proofs.Modulo.{minus_below, minus_undone}
use Rattle.meanings.proofs.Rounding.{rounded_nearest, nearest_unique, value_present, value_missing}
use Rattle.meanings.proofs.SmoothRows.{record_of_window_gives_row}
use Rattle.meanings.proofs.Steps.{at_window}
use Rattle.meanings.specs.Codes.{answered, no_detail}
use Rattle.exports.specs.Answers.{sized, stored, record_of, record_length}
use Rattle.exports.proofs.Answered.{right_size}
use Rattle.promises.specs.Calls.{ExportedEvaluate, ExportedRecordRow}
use Rattle.promises.specs.conditions.Conditions.{NoFault, FallsAt, OutOfRange, evaluate_conditions}
use Rattle.promises.specs.Demands.{OrderedSteps, RowOfRecord}
use Rattle.promises.proofs.conditions.FirstFaults.{none_or_first, refused_exactly}
use Rattle.promises.proofs.conditions.CallChecks.{evaluate_finds}

-- the formula with what is subtracted on the other side
combined_undone : (z h a b c : ℕ) → (combined 64 z h a b c + (z * z * a + c)) % 2 ^ 64 ≡ (h * h * a + 2 * z * b) % 2 ^ 64
combined_undone z h a b c = minus_undone 64 (plus 64 (h * h * a) (2 * z * b)) (z * z * a + c) ∙ mod-mod (h * h * a + 2 * z * b) (2 ^ 64)

pub record_row_is : (r : RunningSums) (z h : ℕ) → RowOfRecord r z h (record_row r z h)
unfolding record_row
record_row_is r z h =
    let weight = combined 64 z h r.sums.s00 r.sums.s10 r.sums.s20 in
    let sum = combined 64 z h r.sums.s01 r.sums.s11 r.sums.s21 in
    record {
      left_is = refl;
      right_is = refl;
      weight_fits = minus_below 64 _ _;
      weight_is = combined_undone z h r.sums.s00 r.sums.s10 r.sums.s20;
      sum_fits = minus_below 64 _ _;
      sum_is = combined_undone z h r.sums.s01 r.sums.s11 r.sums.s21;
      value_is = λ p. rw (value_present sum weight p) (rounded_nearest sum weight p);
      value_missing = λ e. ap (value_of sum) e ∙ value_missing sum;
    }

-- two numbers below 2^64 that differ by whole multiples of it are one
same_below : (x y b c : ℕ) → x < 2 ^ 64 → y < 2 ^ 64 → (x + b) % 2 ^ 64 ≡ c → (y + b) % 2 ^ 64 ≡ c → x ≡ y
same_below x y b c l m e f = omega (arith, l, m, e, f)

pub one_record_row : (r : RunningSums) (z h : ℕ) (d e : Estimate) → RowOfRecord r z h d → RowOfRecord r z h e → d ≡ e
one_record_row r z h d e a b = λ i. record {
  left = (a.left_is ∙ sym b.left_is) i;
  right = (a.right_is ∙ sym b.right_is) i;
  weight = weights i;
  sum = sums i;
  value = by d.weight refl i;
}
  where
    weights : d.weight ≡ e.weight
    weights = same_below d.weight e.weight _ _ a.weight_fits b.weight_fits a.weight_is b.weight_is

    sums : d.sum ≡ e.sum
    sums = same_below d.sum e.sum _ _ a.sum_fits b.sum_fits a.sum_is b.sum_is

    by : (w : ℕ) → d.weight ≡ w → d.value ≡ e.value
    by zero q = a.value_missing q ∙ sym (b.value_missing (sym weights ∙ q))
    by (suc w) q =
        let there : Nearest d.sum d.weight e.value = rw (weights, sums) (b.value_is (omega (arith, weights, q))) in
        nearest_unique d.sum d.weight d.value e.value (omega (arith, q)) (a.value_is (omega (arith, q))) there

-- a record with a window's edges and sums, where the question at that mark is accepted
pub row_of_window_record : (ts vs : List ℕ) (z h : ℕ) (r : RunningSums) (e : Estimate) → AtMost max_u16 vs → r.left ≡ left_of ts z h
    → r.right ≡ right_of ts z h → r.sums ≡ window_sums ts vs z h → evaluate full ts vs z h ≡ given e → record_row r z h ≡ e
unfolding evaluate
row_of_window_record ts vs z h r e v left right sums q =
    let g = given_accepted (evaluate_refusal full ts vs h) (estimate ts vs z h) e q in
    let a = evaluate_accepts full (same_limits full) ts vs h g.0 in
    let f : WithinLimits ts vs h = record { even = a.even; few = a.few; values = v; bandwidth = a.bandwidth } in
    record_of_window_gives_row ts vs z h r a.ordered f left right sums ∙ g.1

-- the last accepted step of a list is one that the log accepts
last_was_accepted : (ts vs : List ℕ) (o : Option Move) (ms : List Move) (m : Move) → (o ≡ Some m → log_refusal ts vs m ≡ None)
    → accepted_after ts vs o ms ≡ Some m → log_refusal ts vs m ≡ None
last_was_accepted ts vs o [] m f q = f q
last_was_accepted ts vs o (n ∷ ms) m f q = last_was_accepted ts vs (accepted_next ts vs o n) ms m (by (log_refusal ts vs n) refl) q
  where
    by : (g : Option Fault) → log_refusal ts vs n ≡ g → accepted_or g (Some n) o ≡ Some m → log_refusal ts vs m ≡ None
    by None e r = let same : n ≡ m = cc in sym (ap (log_refusal ts vs) same) ∙ e
    by (Some x) e r = f r

in_range : (h : ℕ) → 0 < h → h ≤ max_bandwidth → ¬ OutOfRange max_bandwidth h
in_range h l m (inl e) = omega arith
in_range h l m (inr k) = omega arith

-- so the question at its mark, over ordered readings, is accepted
module _ (ts vs : List ℕ) (ordered : Ordered ts) (m : Move) (accepted : log_refusal ts vs m ≡ None) where
  even : length ts ≡ length vs
  even = differ_false (length ts) (length vs) (at_none 0 _ (none_holds (log_checks full ts vs m.bandwidth) accepted).0)

  few : ¬ (full.samples < length ts)
  few l =
      let n = none_holds (log_checks full ts vs m.bandwidth) accepted in
      omega (arith, l, ltb-false full.samples (length ts) (at_none 0 _ n.1.0))

  range : (0 < m.bandwidth) × (m.bandwidth ≤ max_bandwidth)
  range =
      bandwidth_in_range m.bandwidth
      (at_none 0 (bad_bandwidth m.bandwidth) (none_holds (log_checks full ts vs m.bandwidth) accepted).1.1.0)

  rises : (q : ℕ) → ¬ FallsAt ts q
  rises q a = let l = ordered a.before q (omega (arith, a.next)) a.within in omega (arith, l, a.falls)

  no_fault : NoFault (evaluate_conditions ts vs m.bandwidth)
  no_fault = (λ q a. a.0 even, (λ q a. few a.0, (rises, (λ q a. in_range m.bandwidth range.0 range.1 a.0, tt))))

  pub question_accepted : evaluate full ts vs m.point m.bandwidth ≡ given (estimate ts vs m.point m.bandwidth)
  unfolding evaluate
  question_accepted =
      ap (λ (f : Option Fault). unless f (estimate ts vs m.point m.bandwidth))
      ((refused_exactly (evaluate_finds ts vs m.bandwidth)).accepted.1
      (λ n p. none_or_first (evaluate_conditions ts vs m.bandwidth) n p no_fault))

-- after steps from fresh, at the last accepted one's mark and half width
module _ (ts vs : List ℕ) (ms : List Move) (m : Move) (o : OrderedSteps ts vs ms) (last : last_accepted ts vs ms ≡ Some m) where
  no_step_before : None ≡ Some m → log_refusal ts vs m ≡ None
  no_step_before e = let z : ◌≡◌ {A = ℕ} 0 1 = cc in absurd (omega arith)

  pub last_question : evaluate full ts vs m.point m.bandwidth ≡ given (estimate ts vs m.point m.bandwidth)
  last_question = question_accepted ts vs o.ordered m (last_was_accepted ts vs None ms m no_step_before last)

  pub row_after_steps : (r : RunningSums) → r ≡ record_after ts vs ms
      → record_row r m.point m.bandwidth ≡ estimate ts vs m.point m.bandwidth
  row_after_steps r e =
      let stands : r ≡ at_window ts vs m.point m.bandwidth =
      e ∙ record_follows ts vs o.minutes o.values o.ordered ms o.no_edge_back ∙ ap (record_at ts vs) last in
      row_of_window_record ts vs m.point m.bandwidth r (estimate ts vs m.point m.bandwidth) o.values
      (ap (λ (x : RunningSums). x.left) stands) (ap (λ (x : RunningSums). x.right) stands) (ap (λ (x : RunningSums). x.sums) stands)
      last_question

-- an answer that gives a row is that row's
pub answered_row : (a : Result Estimate Refusal) (e : Estimate) → answer_of a ≡ given e → a ≡ Ok e
answered_row (Ok d) e q = let same : d ≡ e = cc in ap Ok same
answered_row (Err f) e q = let z : ◌≡◌ {A = ℕ} 0 1 = cc in absurd (omega arith)

-- the exported calls, with lists of their lengths
pub exported_record_row_gives : (xs : List ℕ) (z h : ℕ) (row : List ℕ) (c : ℕ) (row' : List ℕ) → length xs ≡ record_length → length row ≡ row_width
    → ExportedRecordRow xs z h row c row' → (c ≡ 0) × (row' ≡ fields (record_row (record_of xs) z h))
exported_record_row_gives xs z h row c row' nine five k =
    let t : Answer Estimate = given (record_row (record_of xs) z h) in
    let open-answer = sym (right_size row_width row five t ∙ right_size record_length xs nine (sized row_width row t)) in
    (k.ensured.0 ∙ ap (answered no_detail) open-answer, k.ensured.1 ∙ ap (λ (a : Answer Estimate). stored fields a row) open-answer)

pub exported_evaluate_gives : (ts vs : List ℕ) (z h : ℕ) (row : List ℕ) (c : ℕ) (row' : List ℕ) (e : Estimate) → length row ≡ row_width
    → evaluate full ts vs z h ≡ given e → ExportedEvaluate ts vs z h row c row' → (c ≡ 0) × (row' ≡ fields e)
exported_evaluate_gives ts vs z h row c row' e five q k =
    let open-answer = sym (right_size row_width row five (evaluate full ts vs z h)) ∙ q in
    (k.ensured.0 ∙ ap (answered no_detail) open-answer, k.ensured.1 ∙ ap (λ (a : Answer Estimate). stored fields a row) open-answer)

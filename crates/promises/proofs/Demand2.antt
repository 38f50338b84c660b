-- Demand 2 of the calls: by its contract a row is the meaning's row of accepted input, which is the published one.
use Prim.Native.Nat.{ℕ, ◌+◌, ◌*◌, ◌<◌}
use mathlib.Core.Path.{◌≡◌, sym, ap, ◌∙◌}
use mathlib.Core.List.{List}
use Rattle.std.specs.Prelude.{Option, None}
use lib.ListN.{length, get_or}
use Rattle.meanings.specs.declared.Estimate.{Estimate}
use Rattle.meanings.specs.Lists.{AtMost}
use Rattle.meanings.specs.declared.Limits.{Limits}
use Rattle.meanings.specs.Limits.{full, LimitsWithin, max_u16, row_width}
use Rattle.meanings.specs.Moves.{moves}
use Rattle.meanings.specs.Reports.{Fault, Answer, given, accepted_or}
use Rattle.meanings.specs.Estimate.{estimate, fields, rows}
use Rattle.meanings.specs.PublishedRow.{PublishedRow}
use Rattle.meanings.specs.Running.{fresh, passes}
use Rattle.meanings.specs.Claim.{refusal}
use Rattle.meanings.specs.Calls.{evaluate, smooth, smooth_refusal, smooth_rows}
use Rattle.meanings.proofs.PublishedRows.{published_row, accepted_row_is_published, one_published_row}
use Rattle.meanings.proofs.Agreement.{calls_agree, part_of, start_of}
use Rattle.meanings.proofs.Checks.{same_limits, evaluate_accepts, given_accepted}
use Rattle.meanings.proofs.SmoothRows.{rows_length, smooth_row_is_evaluate}
use Rattle.text.specs.Table.{stored_row}
use Rattle.meanings.specs.Codes.{answered, no_detail}
use Rattle.exports.specs.Answers.{sized, stored, bounds}
use Rattle.promises.specs.conditions.Conditions.{evaluate_conditions, code_refusal}
use Rattle.promises.specs.Demands.{Demand2}
use Rattle.promises.proofs.conditions.FirstFaults.{none_or_first, refused_exactly}
use Rattle.promises.proofs.conditions.CallChecks.{evaluate_finds}
use Rattle.promises.proofs.conditions.Refusals.{accepted_given, sized_opens}
use Rattle.promises.proofs.Demand1.{evaluate_coded, smooth_coded}
use Rattle.promises.proofs.Rows.{five_are_row}

-- the rows of an accepted sweep, under limits at most the full ones
pub swept_rows : (L : Limits) → LimitsWithin L full → (ts vs zs hs rs rs' : List ℕ) (n : ℕ) → AtMost max_u16 vs → smooth L ts vs zs hs rs ≡ given n
    → rs' ≡ smooth_rows L ts vs zs hs rs
    → (length rs' ≡ row_width * length zs) × ((k : ℕ) → k < length zs → PublishedRow ts vs (get_or zs k 0) (get_or hs k 0) (stored_row rs' k))
unfolding smooth smooth_rows
swept_rows L w ts vs zs hs rs rs' n v q e =
    let a = (given_accepted (smooth_refusal L ts vs zs hs rs) (passes ts vs fresh (moves zs hs)) n q).0 in (
      ap length (e ∙ ap (λ (f : Option Fault). accepted_or f (rows ts vs zs hs (length zs)) rs) a) ∙ rows_length ts vs zs hs (length zs),
      λ k l.
          let r = smooth_row_is_evaluate L ts vs zs hs rs n k q l full w.samples in
          rw (e, five_are_row (smooth_rows L ts vs zs hs rs) k (estimate ts vs (get_or zs k 0) (get_or hs k 0)) r.1)
          (accepted_row_is_published full (same_limits full) ts vs (get_or zs k 0) (get_or hs k 0) _ v r.0),
    )

-- what a call for C and Rust has stored of the row, where it is accepted
module _ (n : ℕ) (ts vs : List ℕ) (z h : ℕ) (xs : List ℕ) (c : ℕ) (coded : c ≡ answered no_detail (sized n xs (evaluate full ts vs z h)))
    (accepted : code_refusal c ≡ None) where
  pub given_row : (e : Estimate) × (sized n xs (evaluate full ts vs z h) ≡ given e)
  given_row = accepted_given (sized n xs (evaluate full ts vs z h)) (sym (evaluate_coded n xs ts vs z h c coded) ∙ accepted)

  -- such an answer has no detail
  code_is_zero : c ≡ 0
  code_is_zero = coded ∙ ap (answered no_detail) given_row.1

  pub row_stored : (numbers : Estimate → List ℕ) → stored numbers (sized n xs (evaluate full ts vs z h)) xs ≡ numbers given_row.0
  row_stored numbers = ap (λ (t : Answer Estimate). stored numbers t xs) given_row.1

  pub row_is_evaluate : evaluate full ts vs z h ≡ given given_row.0
  row_is_evaluate = sym (sized_opens n xs (evaluate full ts vs z h) (ap refusal given_row.1)) ∙ given_row.1

  row_published : AtMost max_u16 vs → PublishedRow ts vs z h given_row.0
  row_published v = accepted_row_is_published full (same_limits full) ts vs z h given_row.0 v row_is_evaluate

pub demand_2 : Demand2
demand_2 = record {
  a_row = λ ts vs z h v f.
      let none_found = (refused_exactly (evaluate_finds ts vs h)).accepted.1 (λ n p. none_or_first (evaluate_conditions ts vs h) n p f) in
      (estimate ts vs z h, published_row ts vs z h v (evaluate_accepts full (same_limits full) ts vs h none_found));
  one_row = one_published_row;
  evaluate_row = λ ts vs z h e v c. accepted_row_is_published full (same_limits full) ts vs z h e v (sym c.ensured);
  window_run = λ ts vs z h e at part c w.
      let a = calls_agree full ts vs z h in
      let q = sym c.ensured in (
        w.ensured.0 ∙ a.0 ∙ ap (part_of vs) q,
        w.ensured.1.0,
        w.ensured.1.1 ∙ ap (λ (n : ℕ). at.ref_ptr.1 + n * 2) (a.1 ∙ ap start_of q),
      );
  smooth_rows = λ ts vs zs hs rs n rs' v c. swept_rows full (same_limits full) ts vs zs hs rs rs' n v (sym c.ensured.0) c.ensured.1;
  exported_row = λ ts vs z h row c row' v k q.
      let e = k.ensured.1 ∙ row_stored row_width ts vs z h row c k.ensured.0 q fields in
      (code_is_zero row_width ts vs z h row c k.ensured.0 q, ap length e, rw e (row_published row_width ts vs z h row c k.ensured.0 q v));
  exported_bounds = λ ts vs z h bs c bs' e v k q p. (
    code_is_zero 2 ts vs z h bs c k.ensured.0 q,
    k.ensured.1
        ∙ row_stored 2 ts vs z h bs c k.ensured.0 q bounds
        ∙ ap bounds (one_published_row ts vs z h _ e (row_published 2 ts vs z h bs c k.ensured.0 q v) p),
  );
  exported_rows = λ ts vs zs hs rs c rs' v k q.
      let g = accepted_given (smooth full ts vs zs hs rs) (sym (smooth_coded full ts vs zs hs rs c k.ensured.0) ∙ q) in
      swept_rows full (same_limits full) ts vs zs hs rs rs' g.0 v g.1 k.ensured.1;
}

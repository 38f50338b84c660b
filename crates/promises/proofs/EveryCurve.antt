-- What holds of every curve, of the calls. By its contract an accepted call's row is one that the question's meaning gives, which stays among its
-- readings; and by its contract a call's answer and rows are those of the meaning, which are the same for values that have changed places.
use Prim.Native.Nat.{ℕ, ◌<◌}
use mathlib.Core.Path.{◌≡◌, refl, sym, ap, subst, ◌∙◌}
use mathlib.Core.List.{List, [], ◌∷◌}
use Rattle.std.specs.Prelude.{Option, None, Some}
use lib.ListN.{length, get_or}
use Rattle.meanings.specs.declared.Estimate.{Estimate}
use Rattle.meanings.specs.declared.RunningSums.{RunningSums}
use Rattle.meanings.specs.Claim.{accepted_next, accepted_after, last_accepted, NoEdgeBackAfter, record_after}
use Rattle.meanings.specs.EventLog.{log_refusal}
use Rattle.meanings.specs.Lists.{AtMost}
use Rattle.meanings.specs.Moves.{Move}
use Rattle.meanings.specs.Running.{fresh, record_row}
use Rattle.meanings.specs.declared.Limits.{Limits}
use Rattle.meanings.specs.Limits.{full, preview, LimitsWithin, max_u16, row_width}
use Rattle.meanings.specs.Reports.{Fault, Answer, given, accepted_or}
use Rattle.meanings.specs.Estimate.{missing, estimate, fields}
use Rattle.meanings.specs.Calls.{evaluate, smooth, smooth_rows}
use Rattle.meanings.specs.Codes.{answered, no_detail}
use Rattle.meanings.proofs.Checks.{same_limits, preview_within_full}
use Rattle.meanings.proofs.SmoothRows.{smooth_row_is_evaluate}
use Rattle.laws.proofs.sheet.Printed.{printed_is_read}
use Rattle.laws.proofs.output.AcceptedSheet.{accepted_contents}
use Rattle.laws.specs.rows.AmongReadings.{Among}
use Rattle.laws.proofs.rows.AmongReadings.{estimate_among, evaluation_among}
use Rattle.laws.specs.rows.Rearranged.{Rearranged}
use Rattle.laws.proofs.rows.Rearranged.{same_curves}
use Rattle.exports.specs.Answers.{sized, stored, record_of}
use Rattle.text.specs.Table.{stored_row}
use Rattle.promises.specs.conditions.Conditions.{code_refusal}
use Rattle.promises.specs.Demands.{OrderedSteps, zeros, EveryCurve}
use Rattle.promises.proofs.conditions.Refusals.{accepted_given}
use Rattle.promises.proofs.Demand1.{smooth_coded}
use Rattle.promises.proofs.Demand3.{demand_3_of_calls}
use Rattle.promises.proofs.OtherCalls.{other_calls}
use Rattle.promises.proofs.RecordRows.{record_row_is, one_record_row, last_question, row_after_steps, exported_record_row_gives}
use Rattle.promises.proofs.Demand2.{given_row, row_is_evaluate, row_stored}
use Rattle.promises.proofs.Program.{program_holds}
use Rattle.promises.proofs.Rows.{five_are_row}

-- each five numbers of a sweep that is accepted under limits at most the full ones
module _ (L : Limits) (within : LimitsWithin L full) (ts vs zs hs rs rs' : List ℕ) (k : ℕ) (l : k < length zs)
    (stored : rs' ≡ smooth_rows L ts vs zs hs rs) (present : ¬ ((stored_row rs' k).value ≡ missing)) where
  swept_among : (n : ℕ) → smooth L ts vs zs hs rs ≡ given n → Among ts vs (get_or zs k 0) (get_or hs k 0) (stored_row rs' k)
  swept_among n q =
      let r = smooth_row_is_evaluate L ts vs zs hs rs n k q l full within.samples in
      let e = five_are_row rs' k (estimate ts vs (get_or zs k 0) (get_or hs k 0)) (rw stored r.1) in
      evaluation_among ts vs (get_or zs k 0) (get_or hs k 0) (stored_row rs' k) (r.0 ∙ ap given (sym e)) present

  coded_among : (c : ℕ) → c ≡ answered (λ n. n) (smooth L ts vs zs hs rs) → code_refusal c ≡ None
      → Among ts vs (get_or zs k 0) (get_or hs k 0) (stored_row rs' k)
  coded_among c q e =
      let g = accepted_given (smooth L ts vs zs hs rs) (sym (smooth_coded L ts vs zs hs rs c q) ∙ e) in
      swept_among g.0 g.1

-- what a log refuses, and so which steps are accepted, does not depend on the values but on how many there are
module _ (ts vs vs' : List ℕ) (e : length vs ≡ length vs') where
  same_refusal : (m : Move) → log_refusal ts vs m ≡ log_refusal ts vs' m
  same_refusal m = rw e refl

  same_next : (o : Option Move) (m : Move) → accepted_next ts vs o m ≡ accepted_next ts vs' o m
  same_next o m = ap (λ (f : Option Fault). accepted_or f (Some m) o) (same_refusal m)

  same_last : (o : Option Move) (ms : List Move) → accepted_after ts vs o ms ≡ accepted_after ts vs' o ms
  same_last o [] = refl
  same_last o (m ∷ ms) = same_last (accepted_next ts vs o m) ms ∙ ap (λ (q : Option Move). accepted_after ts vs' q ms) (same_next o m)

  same_edges : (o : Option Move) (ms : List Move) → NoEdgeBackAfter ts vs o ms → NoEdgeBackAfter ts vs' o ms
  same_edges o [] n = tt
  same_edges o (m ∷ ms) n = (
    λ q. n.0 (same_refusal m ∙ q),
    subst (λ (q : Option Move). NoEdgeBackAfter ts vs' q ms) (same_next o m) (same_edges (accepted_next ts vs o m) ms n.1),
  )

-- the row of a record after steps is the row of the question
module _ (ts vs : List ℕ) (ms : List Move) (m : Move) (r : RunningSums) (o : OrderedSteps ts vs ms) (last : last_accepted ts vs ms ≡ Some m)
    (left : r ≡ record_after ts vs ms) where
  pub row_is_question : evaluate full ts vs m.point m.bandwidth ≡ given (record_row r m.point m.bandwidth)
  row_is_question = last_question ts vs ms m o last ∙ ap given (sym (row_after_steps ts vs ms m o last r left))

  row_among : (e : Estimate) → e ≡ record_row r m.point m.bandwidth → ¬ (e.value ≡ missing) → Among ts vs m.point m.bandwidth e
  row_among e q p = evaluation_among ts vs m.point m.bandwidth e (row_is_question ∙ ap given (sym q)) p

pub one_given : (d e : Estimate) → given d ≡ given e → d ≡ e
one_given d e q = cc

module _ (ts vs vs' : List ℕ) (ms : List Move) (m : Move) (r s : RunningSums) (a : Rearranged ts vs vs') (o : OrderedSteps ts vs ms) (v : AtMost max_u16 vs')
    (last : last_accepted ts vs ms ≡ Some m) (left : r ≡ record_after ts vs ms) (left' : s ≡ record_after ts vs' ms) where
  rows_alike : record_row r m.point m.bandwidth ≡ record_row s m.point m.bandwidth
  rows_alike =
      let e : length vs ≡ length vs' = sym a.even ∙ a.even' in
      let o' : OrderedSteps ts vs' ms =
      record { minutes = o.minutes; values = v; ordered = o.ordered; no_edge_back = same_edges ts vs vs' e None ms o.no_edge_back } in
      one_given _ _
      (sym (row_is_question ts vs ms m r o last left)
      ∙ (same_curves ts vs vs' a).evaluations full m.point m.bandwidth
      ∙ row_is_question ts vs' ms m s o' (sym (same_last ts vs vs' e None ms) ∙ last) left')

pub every_curve : EveryCurve
every_curve = record {
  evaluate_among = λ ts vs z h e c p. evaluation_among ts vs z h e (sym c.ensured) p;
  smooth_among = λ ts vs zs hs rs n rs' k c l p. swept_among full (same_limits full) ts vs zs hs rs rs' k l c.ensured.1 p n (sym c.ensured.0);
  preview_among = λ ts vs zs hs rs n rs' k c l p.
      swept_among preview preview_within_full ts vs zs hs rs rs' k l c.ensured.1 p n (sym c.ensured.0);
  sheet_among = λ s c k i l p. estimate_among c.minutes c.values _ _ (accepted_contents s c (printed_is_read full s c i)).minute_order p;
  exported_evaluate_among = λ ts vs z h row c row' k q p.
      let e = five_are_row row' 0 (given_row row_width ts vs z h row c k.ensured.0 q).0
      (rw (k.ensured.1, row_stored row_width ts vs z h row c k.ensured.0 q fields) refl) in
      evaluation_among ts vs z h (stored_row row' 0) (row_is_evaluate row_width ts vs z h row c k.ensured.0 q ∙ ap given (sym e)) p;
  exported_smooth_among = λ ts vs zs hs rs c rs' k x q l p.
      coded_among full (same_limits full) ts vs zs hs rs rs' k l x.ensured.1 p c x.ensured.0 q;
  exported_preview_among = λ ts vs zs hs rs c rs' k x q l p.
      coded_among preview preview_within_full ts vs zs hs rs rs' k l x.ensured.1 p c x.ensured.0 q;
  record_row_among = λ ts vs ms m r e o s last c p. row_among ts vs ms m r o last (demand_3_of_calls.steps_leave ts vs fresh r ms s) e c.ensured p;
  exported_record_row_among = λ ts vs ms m xs row c row' o s last k q p.
      let l = demand_3_of_calls.exported_steps_leave ts vs zeros xs ms refl s in
      let is = (other_calls.exported_record_row_is xs m.point m.bandwidth row c row' k q).2 in
      row_among ts vs ms m (record_of xs) o last l.1 (stored_row row' 0)
      (one_record_row (record_of xs) m.point m.bandwidth (stored_row row' 0) _ is (record_row_is (record_of xs) m.point m.bandwidth)) p;
  record_row_alike = λ ts vs vs' ms m r s d e a o v f g last c k.
      c.ensured
      ∙ rows_alike ts vs vs' ms m r s a o v last (demand_3_of_calls.steps_leave ts vs fresh r ms f) (demand_3_of_calls.steps_leave ts vs' fresh s ms g)
      ∙ sym k.ensured;
  exported_record_row_alike = λ ts vs vs' ms m xs ys row c d row₁ row₂ a o v f g last five k l.
      let x = demand_3_of_calls.exported_steps_leave ts vs zeros xs ms refl f in
      let y = demand_3_of_calls.exported_steps_leave ts vs' zeros ys ms refl g in
      let e = rows_alike ts vs vs' ms m (record_of xs) (record_of ys) a o v last x.1 y.1 in
      let one = exported_record_row_gives xs m.point m.bandwidth row c row₁ x.0 five k in
      let other = exported_record_row_gives ys m.point m.bandwidth row d row₂ y.0 five l in
      (one.0 ∙ sym other.0, one.1 ∙ ap fields e ∙ sym other.1);
  evaluate_alike = λ ts vs vs' z h a b r c d. c.ensured ∙ (same_curves ts vs vs' r).evaluations full z h ∙ sym d.ensured;
  smooth_alike = λ ts vs vs' zs hs rs a b rs₁ rs₂ r c d.
      let s = same_curves ts vs vs' r in (
        c.ensured.0 ∙ s.smooth_answers full zs hs rs ∙ sym d.ensured.0,
        c.ensured.1 ∙ s.rows_at_exit full zs hs rs ∙ sym d.ensured.1,
      );
  preview_alike = λ ts vs vs' zs hs rs a b rs₁ rs₂ r c d.
      let s = same_curves ts vs vs' r in (
        c.ensured.0 ∙ s.smooth_answers preview zs hs rs ∙ sym d.ensured.0,
        c.ensured.1 ∙ s.rows_at_exit preview zs hs rs ∙ sym d.ensured.1,
      );
  sheets_alike = λ s s' c vs' r i j.
      let o = (accepted_contents s c (printed_is_read full s c i)).minute_order in
      (program_holds s).plain_text c i
      ∙ (same_curves c.minutes c.values vs' r).texts o c.points c.bandwidths
      ∙ sym ((program_holds s').plain_text _ j);
  exported_evaluate_alike = λ ts vs vs' z h row c d row₁ row₂ r k l.
      let e = (same_curves ts vs vs' r).evaluations full z h in (
        k.ensured.0 ∙ ap (λ (t : Answer Estimate). answered no_detail (sized row_width row t)) e ∙ sym l.ensured.0,
        k.ensured.1 ∙ ap (λ (t : Answer Estimate). stored fields (sized row_width row t) row) e ∙ sym l.ensured.1,
      );
  exported_smooth_alike = λ ts vs vs' zs hs rs c d rs₁ rs₂ r k l.
      let s = same_curves ts vs vs' r in (
        k.ensured.0 ∙ ap (answered (λ n. n)) (s.smooth_answers full zs hs rs) ∙ sym l.ensured.0,
        k.ensured.1 ∙ s.rows_at_exit full zs hs rs ∙ sym l.ensured.1,
      );
  exported_preview_alike = λ ts vs vs' zs hs rs c d rs₁ rs₂ r k l.
      let s = same_curves ts vs vs' r in (
        k.ensured.0 ∙ ap (answered (λ n. n)) (s.smooth_answers preview zs hs rs) ∙ sym l.ensured.0,
        k.ensured.1 ∙ s.rows_at_exit preview zs hs rs ∙ sym l.ensured.1,
      );
}

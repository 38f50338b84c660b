-- What is promised of the biweight row follows from the contracts of the calls, which give what the meanings give, and from the meanings' laws.
use Prim.Native.Nat.{ℕ, ◌+◌, ◌-◌, ◌*◌}
use Rattle.meanings.specs.Calls.{answer_of}
use mathlib.Core.Path.{◌≡◌, refl, sym, ap, ◌∙◌}
use mathlib.Core.Bool.{Bool, true, false}
use mathlib.Core.List.{List, [], ◌∷◌}
use Rattle.std.specs.Prelude.{Option, None, Some}
use native.Mathlib.Omega.{arith}
use lib.Dec.{eqb}
use lib.ListN.{length, take, drop}
use Rattle.meanings.specs.declared.Estimate.{Estimate}
use Rattle.meanings.specs.Calls.{evaluate, evaluate_refusal, window, window_start}
use Rattle.meanings.specs.Claim.{refusal}
use Rattle.meanings.specs.Codes.{answered, no_detail}
use Rattle.meanings.specs.Estimate.{left_of, right_of, estimate, missing, fields}
use Rattle.meanings.specs.Limits.{full, max_u16, row_width}
use Rattle.meanings.specs.Lists.{pick, AtMost}
use Rattle.meanings.specs.Reports.{Fault, Answer, given, refused, unless, series_checks}
use Rattle.meanings.proofs.Checks.{same_limits, EvaluateAccepted, evaluate_accepts, given_accepted}
use Rattle.meanings.proofs.Claim.{refusal_unless}
use Rattle.meanings.specs.biweight.Biweight.{biweight_bandwidth, biweight_row, biweight_refusal, biweight}
use Rattle.meanings.proofs.BiweightBounds.{bounds, value_bound}
use Rattle.meanings.proofs.BiweightCases.{biweight_cases_hold}
use Rattle.meanings.proofs.BiweightEqualSamples.{greatest_reached}
use Rattle.meanings.proofs.Refusals.{refused_as_evaluate}
use Rattle.laws.specs.rows.Rearranged.{Rearranged}
use Rattle.laws.specs.biweight.PublishedRow.{PublishedBiweight}
use Rattle.laws.specs.biweight.Readings.{BiweightAmong}
use Rattle.laws.proofs.biweight.BetaKernels.{beta_kernels}
use Rattle.laws.proofs.biweight.PublishedRow.{published_biweight, one_published_row}
use Rattle.laws.proofs.biweight.Readings.{row_among, row_may_change_places}
use Rattle.exports.specs.Answers.{sized, stored, bounds as bounds_of}
use Rattle.exports.proofs.Answered.{right_size}
use Rattle.questions.proofs.biweight.biweight.Met as biweight_met
use Rattle.exports.proofs.biweight.tankcurve_biweight.Met as exported_met
use Rattle.text.specs.Table.{stored_row}
use Rattle.promises.specs.Calls.{ExportedWindow}
use Rattle.promises.specs.conditions.Conditions.{RefusedExactly, NoFault, FirstFault, length_first, code_refusal}
use Rattle.promises.proofs.conditions.CallChecks.{none_left, series_finds}
use Rattle.promises.proofs.conditions.FirstFaults.{FindAll, none_or_first, refused_exactly}
use Rattle.promises.proofs.RecordRows.{answered_row}
use Rattle.promises.proofs.conditions.Refusals.{decided_exactly, length_first_finds, sized_is_checked, exported_refusal, exported_stays, stored_stays}
use Rattle.promises.proofs.conditions.Refusals.{first_numbered}
use Rattle.promises.proofs.conditions.Refusals.{accepted_given, sized_opens}
use Rattle.promises.proofs.Rows.{five_are_row}
use Rattle.promises.specs.biweight.Biweights.{ExportedBiweight, biweight_conditions, Fits, EveryBiweightTaken, Biweights}

finds : (ts vs : List ℕ) → FindAll (series_checks full ts vs) (biweight_conditions ts vs)
finds ts vs = series_finds full ts vs none_left

module _ (ts vs : List ℕ) (z : ℕ) where
  -- refused alike
  biweight_refused : refusal (biweight full ts vs z) ≡ biweight_refusal full ts vs
  unfolding biweight
  biweight_refused = refusal_unless (biweight_refusal full ts vs) (biweight_row ts vs z biweight_bandwidth)

  evaluate_refused : refusal (evaluate full ts vs z biweight_bandwidth) ≡ evaluate_refusal full ts vs biweight_bandwidth
  unfolding evaluate
  evaluate_refused = refusal_unless (evaluate_refusal full ts vs biweight_bandwidth) (estimate ts vs z biweight_bandwidth)

  -- an answer is that of accepted readings
  opened : (e : Estimate) → given e ≡ biweight full ts vs z
      → (EvaluateAccepted ts vs biweight_bandwidth) × (biweight_row ts vs z biweight_bandwidth ≡ e)
  unfolding biweight
  opened e q =
      let g = given_accepted (biweight_refusal full ts vs) (biweight_row ts vs z biweight_bandwidth) e (sym q) in
      (evaluate_accepts full (same_limits full) ts vs biweight_bandwidth (sym (refused_as_evaluate full ts vs) ∙ g.0), g.1)

  no_refusal : (e : Estimate) → given e ≡ biweight full ts vs z → evaluate_refusal full ts vs biweight_bandwidth ≡ None
  no_refusal e q = sym (refused_as_evaluate full ts vs) ∙ sym biweight_refused ∙ ap refusal (sym q)

  exactly : (t : Answer Estimate) → t ≡ biweight full ts vs z → RefusedExactly (refusal t) (FirstFault (biweight_conditions ts vs))
  unfolding biweight
  exactly t q = decided_exactly (biweight_row ts vs z biweight_bandwidth) (finds ts vs) q

  edges : (e d : Estimate) → given e ≡ biweight full ts vs z → given d ≡ evaluate full ts vs z biweight_bandwidth
      → (e.left ≡ d.left) × (e.right ≡ d.right)
  unfolding biweight_row evaluate estimate
  edges e d q r =
      let a = (opened e q).1 in
      let b = (given_accepted (evaluate_refusal full ts vs biweight_bandwidth) (estimate ts vs z biweight_bandwidth) d (sym r)).1 in (
        sym (ap (λ (x : Estimate). x.left) a) ∙ ap (λ (x : Estimate). x.left) b,
        sym (ap (λ (x : Estimate). x.right) a) ∙ ap (λ (x : Estimate). x.right) b,
      )

  left_is : (e : Estimate) → given e ≡ biweight full ts vs z → left_of ts z biweight_bandwidth ≡ e.left
  unfolding biweight_row
  left_is e q = ap (λ (x : Estimate). x.left) (opened e q).1

  right_is : (e : Estimate) → given e ≡ biweight full ts vs z → right_of ts z biweight_bandwidth ≡ e.right
  unfolding biweight_row
  right_is e q = ap (λ (x : Estimate). x.right) (opened e q).1

  window_is : (e : Estimate) → given e ≡ biweight full ts vs z
      → window full ts vs z biweight_bandwidth ≡ take (e.right - e.left) (drop e.left vs)
  unfolding window
  window_is e q = rw (no_refusal e q, ← (left_is e q), ← (right_is e q))

  start_is : (e : Estimate) → given e ≡ biweight full ts vs z → window_start full ts vs z biweight_bandwidth ≡ e.left
  unfolding window_start
  start_is e q = rw (no_refusal e q) (left_is e q)

  published : (e : Estimate) → AtMost max_u16 vs → given e ≡ biweight full ts vs z → PublishedBiweight ts vs z biweight_bandwidth e
  published e v q =
      let o = opened e q in
      rw (← o.1) (published_biweight ts vs z biweight_bandwidth o.0.even v o.0.ordered (omega arith))

  there_is : AtMost max_u16 vs → NoFault (biweight_conditions ts vs) → (e : Estimate) × PublishedBiweight ts vs z biweight_bandwidth e
  there_is v f =
      let none_found = (refused_exactly (finds ts vs)).accepted.1 (λ n p. none_or_first (biweight_conditions ts vs) n p f) in
      let a = evaluate_accepts full (same_limits full) ts vs biweight_bandwidth (sym (refused_as_evaluate full ts vs) ∙ none_found) in
      (biweight_row ts vs z biweight_bandwidth, published_biweight ts vs z biweight_bandwidth a.even v a.ordered (omega arith))

  fit : (e : Estimate) → AtMost max_u16 vs → given e ≡ biweight full ts vs z → Fits e
  unfolding biweight_row
  fit e v q =
      let o = opened e q in
      let b = bounds ts vs z o.0.even o.0.few v in
      rw (← o.1) (record {
        weight = b.weight;
        sum = b.sum;
        below = b.sum_fits;
        value = value_bound ts vs z biweight_bandwidth o.0.even v;
      })

  among : (e : Estimate) → given e ≡ biweight full ts vs z → ¬ (e.value ≡ missing) → BiweightAmong ts vs z biweight_bandwidth e
  among e q n =
      let o = opened e q in
      rw (← o.1) (row_among ts vs z biweight_bandwidth o.0.ordered (rw (← o.1) at n))

  -- the exported call
  module _ (row : List ℕ) where
    sized_exactly : RefusedExactly (refusal (sized row_width row (biweight full ts vs z))) (FirstFault (length_first row_width row (biweight_conditions ts vs)))
    unfolding biweight
    sized_exactly =
        decided_exactly (biweight_row ts vs z biweight_bandwidth) (length_first_finds row_width row (finds ts vs))
        (sized_is_checked row_width row (series_checks full ts vs) (biweight_row ts vs z biweight_bandwidth))

    coded : (c : ℕ) → c ≡ answered no_detail (sized row_width row (biweight full ts vs z))
        → code_refusal c ≡ refusal (sized row_width row (biweight full ts vs z))
    coded c q =
        exported_refusal no_detail (sized row_width row (biweight full ts vs z)) c _ q
        (first_numbered (length_first row_width row (biweight_conditions ts vs)) refl) sized_exactly

-- the checks look at no value, and for ordered minutes the row does not go by places
same_places : (ts vs vs' : List ℕ) (z : ℕ) → Rearranged ts vs vs' → biweight full ts vs z ≡ biweight full ts vs' z
unfolding biweight
same_places ts vs vs' z r = rw (← same) (by (biweight_refusal full ts vs) refl)
  where
    same : biweight_refusal full ts vs ≡ biweight_refusal full ts vs'
    same = rw (← r.even, ← r.even')

    by : (f : Option Fault) → biweight_refusal full ts vs ≡ f
        → unless f (biweight_row ts vs z biweight_bandwidth) ≡ unless f (biweight_row ts vs' z biweight_bandwidth)
    by None e =
        let a = evaluate_accepts full (same_limits full) ts vs biweight_bandwidth (sym (refused_as_evaluate full ts vs) ∙ e) in
        ap given (row_may_change_places ts vs vs' z biweight_bandwidth a.ordered r)
    by (Some e) q = refl

-- answers without detail that are refused alike are one number
same_code : (t u : Answer Estimate) → refusal t ≡ refusal u → answered no_detail t ≡ answered no_detail u
same_code (given a) (given b) e = refl
same_code (given a) (refused f) e = let n : ◌≡◌ {A = ℕ} 0 1 = cc in absurd (omega arith)
same_code (refused f) (given b) e = let n : ◌≡◌ {A = ℕ} 0 1 = cc in absurd (omega arith)
same_code (refused f) (refused g) e = let same : f ≡ g = cc in ap (λ (x : Fault). answered {A = Estimate} no_detail (refused x)) same

sized_alike : (xs ys : List ℕ) (t u : Answer Estimate) → length xs ≡ length ys → refusal t ≡ refusal u
    → refusal (sized row_width xs t) ≡ refusal (sized row_width ys u)
unfolding sized
sized_alike xs ys t u l e = rw (← l) (by (eqb (length xs) 5))
  where
    by : (b : Bool) → refusal (pick b t (refused (record { number = 8; place = 0 }))) ≡ refusal (pick b u (refused (record { number = 8; place = 0 })))
    by true = e
    by false = refl

-- the exported call, with a row of five numbers, beside the run of the question at one mark
module _ (ts vs : List ℕ) (z : ℕ) where
  alike : (y : ℕ) → refusal (biweight full ts vs z) ≡ refusal (evaluate full ts vs y biweight_bandwidth)
  alike y = biweight_refused ts vs z ∙ refused_as_evaluate full ts vs ∙ sym (evaluate_refused ts vs y)

  tells : (row : List ℕ) (c : ℕ) (row' : List ℕ) → ExportedBiweight ts vs z row c row' → code_refusal c ≡ None
      → (e : Estimate) × ((biweight full ts vs z ≡ given e) × (c ≡ 0) × (row' ≡ fields e))
  tells row c row' k r =
      let accepted = sym (coded ts vs z row c k.ensured.0) ∙ r in
      let g = accepted_given (sized row_width row (biweight full ts vs z)) accepted in
      let opens = sized_opens row_width row (biweight full ts vs z) accepted in (
        g.0,
        (
          sym opens ∙ g.1,
          k.ensured.0 ∙ ap (answered no_detail) g.1,
          k.ensured.1 ∙ ap (λ (t : Answer Estimate). stored fields t row) g.1,
        ),
      )

  -- what is stored is the row
  stored_is : (row : List ℕ) (c : ℕ) (row' : List ℕ) → ExportedBiweight ts vs z row c row' → code_refusal c ≡ None
      → given (stored_row row' 0) ≡ biweight full ts vs z
  stored_is row c row' k r =
      let t = tells row c row' k r in
      ap given (five_are_row row' 0 t.0 (ap (λ (xs : List ℕ). take row_width (drop (row_width * 0) xs)) t.1.2)) ∙ sym t.1.0

  bounds_stored : (bounds : List ℕ) (d : ℕ) (bounds' : List ℕ) → length bounds ≡ 2 → ExportedWindow ts vs z biweight_bandwidth bounds d bounds'
      → (e : Estimate) → biweight full ts vs z ≡ given e → e.left ∷ e.right ∷ [] ≡ bounds'
  bounds_stored bounds d bounds' two k e q =
      let u = evaluate full ts vs z biweight_bandwidth in
      let none_refused : refusal u ≡ None = sym (alike z) ∙ ap refusal q in
      let g = accepted_given u none_refused in
      let same = edges ts vs z e g.0 (sym q) (sym g.1) in
      let open-answer = sym (right_size 2 bounds two u) ∙ g.1 in
      sym (k.ensured.1 ∙ ap (λ (t : Answer Estimate). stored bounds_of t bounds) open-answer ∙ rw (← same.0, ← same.1))

pub biweight_taken : EveryBiweightTaken
biweight_taken = record {
  biweight_ends = biweight_met.met;
  biweight_asks_nothing = λ κs a. tt;
  exported_ends = exported_met.met;
  exported_asks_nothing = λ κs a. tt;
}

pub biweights : Biweights
biweights = record {
  refused = λ ts vs z a k. exactly ts vs z (answer_of a) k.ensured;
  refused_as_evaluate = λ ts vs z y a b k m. ap refusal k.ensured ∙ alike ts vs z y ∙ ap refusal (sym m.ensured);
  edges_of_evaluate = λ ts vs z e d k m. edges ts vs z e d k.ensured m.ensured;
  run_of_window = λ ts vs z e values_at part k m.
      record {
        holds = m.ensured.0 ∙ window_is ts vs z e k.ensured;
        block = m.ensured.1.0;
        begins = m.ensured.1.1 ∙ ap (λ (n : ℕ). values_at.ref_ptr.1 + n * 2) (start_is ts vs z e k.ensured);
      };
  a_row = there_is;
  one_published = λ ts vs z d e. one_published_row ts vs z biweight_bandwidth d e;
  row_is_published = λ ts vs z e v k. published ts vs z e v k.ensured;
  kernels = beta_kernels;
  row_fits = λ ts vs z e v k. fit ts vs z e v k.ensured;
  bounds_reached = λ a k. answered_row a _ (k.ensured ∙ greatest_reached);
  value_among = λ ts vs z e k. among ts vs z e k.ensured;
  may_change_places = λ ts vs vs' z a b r k m. k.ensured ∙ same_places ts vs vs' z r ∙ sym m.ensured;
  exported_refused = λ ts vs z row c row' k.
      exported_stays (sized row_width row (biweight full ts vs z)) c _ (coded ts vs z row c k.ensured.0) (sized_exactly ts vs z row) (row' ≡ row)
      (λ e r. k.ensured.1 ∙ stored_stays fields (sized row_width row (biweight full ts vs z)) row e r);
  exported_row = λ ts vs z row c row' v k r.
      let t = tells ts vs z row c row' k r in
      (t.1.1, ap length t.1.2, published ts vs z (stored_row row' 0) v (stored_is ts vs z row c row' k r));
  exported_fits = λ ts vs z row c row' v k r. fit ts vs z (stored_row row' 0) v (stored_is ts vs z row c row' k r);
  exported_among = λ ts vs z row c row' k r. among ts vs z (stored_row row' 0) (stored_is ts vs z row c row' k r);
  exported_alike = λ ts vs vs' z row c d row₁ row₂ r k l.
      let e = same_places ts vs vs' z r in (
        k.ensured.0 ∙ ap (λ (t : Answer Estimate). answered no_detail (sized row_width row t)) e ∙ sym l.ensured.0,
        k.ensured.1 ∙ ap (λ (t : Answer Estimate). stored fields (sized row_width row t) row) e ∙ sym l.ensured.1,
      );
  exported_tells = λ ts vs z row c row' a k m r.
      let t = tells ts vs z row c row' k r in
      (t.0, (answered_row a t.0 (m.ensured ∙ t.1.0), t.1.1, t.1.2));
  exported_as_evaluate = λ ts vs z y row c row' row₁ d row₁' l k m.
      k.ensured.0
      ∙ same_code (sized row_width row (biweight full ts vs z)) (sized row_width row₁ (evaluate full ts vs y biweight_bandwidth))
      (sized_alike row row₁ (biweight full ts vs z) (evaluate full ts vs y biweight_bandwidth) l (alike ts vs z y))
      ∙ sym m.ensured.0;
  exported_run = λ ts vs z row c row' bounds d bounds' five two k m.
      let u = evaluate full ts vs z biweight_bandwidth in (
        k.ensured.0
            ∙ ap (answered no_detail) (sym (right_size row_width row five (biweight full ts vs z)))
            ∙ same_code (biweight full ts vs z) u (alike ts vs z z)
            ∙ ap (answered no_detail) (right_size 2 bounds two u)
            ∙ sym m.ensured.0,
        λ r.
            let t = tells ts vs z row c row' k r in
            ap (take 2) t.1.2 ∙ bounds_stored ts vs z bounds d bounds' two m t.0 t.1.0,
      );
  worked_cases = biweight_cases_hold;
}

-- The call's contract with the laws of its meaning: what it finds is by the rows of the meaning, which are the published ones and those that the
-- question at one mark gives.
use Prim.Native.Nat.{ℕ, ◌≤◌, ◌<◌}
use Rattle.std.specs.Prelude.{Result, Ok, Err}
use Rattle.meanings.specs.declared.Refusal.{Refusal}
use Rattle.meanings.specs.Calls.{answer_of}
use mathlib.Core.Path.{◌≡◌, refl, sym, ap, ◌∙◌}
use mathlib.Core.Logic.{inl, inr}
use mathlib.Core.Bool.{Bool, true, false, true≢false}
use mathlib.Core.List.{List}
use Rattle.std.specs.Prelude.{Option, None, Some}
use native.Mathlib.Omega.{arith}
use borrow.Author.Tests.{ne_eqb}
use lib.ListN.{length, get_or}
use Rattle.meanings.specs.declared.Estimate.{Estimate}
use Rattle.meanings.specs.Limits.{full, max_u16, row_width}
use Rattle.meanings.specs.Lists.{AtMost}
use Rattle.meanings.specs.PublishedRow.{PublishedRow}
use Rattle.meanings.specs.Reports.{Fault, Answer, given, unless, evaluate_checks}
use Rattle.meanings.specs.Estimate.{WithinLimits, estimate, left_of, right_of, missing}
use Rattle.meanings.specs.Claim.{refusal}
use Rattle.meanings.specs.Calls.{evaluate, evaluate_refusal}
use Rattle.meanings.specs.Codes.{answered, no_detail}
use Rattle.meanings.proofs.Bounds.{missing_exactly}
use Rattle.meanings.proofs.Checks.{EvaluateAccepted, same_limits, evaluate_accepts, given_accepted}
use Rattle.meanings.proofs.Claim.{refusal_unless}
use Rattle.meanings.proofs.Kernel.{distance_inside}
use Rattle.meanings.proofs.PublishedRows.{published_row, one_published_row}
use Rattle.meanings.proofs.Search.{lowest_none, lowest_some}
use Rattle.meanings.proofs.Window.{run_is_inside}
use Rattle.meanings.specs.limit.Threshold.{low_enough}
use Rattle.meanings.specs.decisive.Decisive.{without, verdict, differs, decides, first_decisive, decisive}
use Rattle.meanings.proofs.Decides.{without_removes, one_removed, removed_within, without_at_most, without_accepted}
use Rattle.meanings.proofs.Decides.{accepted_not_refused, named_has_weight, missing_keeps}
use Rattle.meanings.proofs.Removal.{weight_without, sum_without, weight_stays, sum_stays, run_kernel, no_weight_outside}
use Rattle.laws.proofs.rows.AmongReadings.{weighs_near}
use Rattle.exports.specs.Answers.{sized, stored}
use Rattle.exports.specs.Positions.{no_position, position_numbers, position_of}
use Rattle.questions.proofs.decisive.decisive_sample.Met as decisive_met
use Rattle.exports.proofs.decisive.tankcurve_decisive.Met as exported_met
use Rattle.promises.specs.Calls.{EvaluateCall, ExportedEvaluate}
use Rattle.promises.specs.conditions.Conditions.{RefusedExactly, FirstFault, evaluate_conditions, length_first, code_refusal}
use Rattle.promises.proofs.conditions.CallChecks.{evaluate_finds}
use Rattle.promises.proofs.Crossing.{test_says, test_denies}
use Rattle.promises.proofs.RecordRows.{answered_row, exported_evaluate_gives}
use Rattle.promises.proofs.conditions.Refusals.{decided_exactly, sized_is_checked, length_first_finds, first_numbered, exported_refusal, stored_stays}
use Rattle.promises.proofs.conditions.Refusals.{accepted_given, sized_opens}
use Rattle.promises.specs.decisive.Decisive.{ExportedDecisive, Without, Changes, Stays, WithPublished, BeforeAnswer}
use Rattle.promises.specs.decisive.Decisive.{BothRows, BothLists, LessItsShare, SameSums, EveryDecisiveTaken, DecisiveReadings}

-- what two tests say together
changes_by : (limit : ℕ) (e e' : Estimate) → differs (low_enough limit e') (low_enough limit e) ≡ true → Changes limit e e'
changes_by limit e e' q = by (low_enough limit e) refl (low_enough limit e') refl q
  where
    by : (a : Bool) → low_enough limit e ≡ a → (b : Bool) → low_enough limit e' ≡ b → differs b a ≡ true → Changes limit e e'
    by true p true r q = absurd (true≢false (sym q))
    by true p false r q = inl (test_says limit e p, test_denies limit e' r)
    by false p true r q = inr (test_denies limit e p, test_says limit e' r)
    by false p false r q = absurd (true≢false (sym q))

stays_by : (limit : ℕ) (e e' : Estimate) → differs (low_enough limit e') (low_enough limit e) ≡ false → Stays limit e e'
stays_by limit e e' q = by (low_enough limit e) refl (low_enough limit e') refl q
  where
    by : (a : Bool) → low_enough limit e ≡ a → (b : Bool) → low_enough limit e' ≡ b → differs b a ≡ false → Stays limit e e'
    by true p true r q = inl (test_says limit e p, test_says limit e' r)
    by true p false r q = absurd (true≢false q)
    by false p true r q = absurd (true≢false q)
    by false p false r q = inr (test_denies limit e p, test_denies limit e' r)

not_both : (limit : ℕ) (e e' : Estimate) → Changes limit e e' → ¬ Stays limit e e'
not_both limit e e' (inl a) (inl b) = a.1 b.1
not_both limit e e' (inl a) (inr b) = b.0 a.0
not_both limit e e' (inr a) (inl b) = a.0 b.0
not_both limit e e' (inr a) (inr b) = b.1 a.1

none_answered : (a : Result (Option ℕ) Refusal) → answer_of a ≡ given None → a ≡ (Ok None)
none_answered (Ok None) q = refl
none_answered (Ok (Some i)) q = let z : ◌≡◌ {A = ℕ} 0 1 = cc in absurd (omega arith)
none_answered (Err r) q = let z : ◌≡◌ {A = ℕ} 0 1 = cc in absurd (omega arith)

-- the question over accepted lists
module _ (ts vs : List ℕ) (z h : ℕ) where
  row_given : (e : Estimate) → given e ≡ evaluate full ts vs z h → EvaluateAccepted ts vs h × (e ≡ estimate ts vs z h)
  unfolding evaluate
  row_given e q =
      let g = given_accepted (evaluate_refusal full ts vs h) (estimate ts vs z h) e (sym q) in
      (evaluate_accepts full (same_limits full) ts vs h g.0, sym g.1)

  module _ (a : EvaluateAccepted ts vs h) where
    row_asked : evaluate full ts vs z h ≡ given (estimate ts vs z h)
    unfolding evaluate
    row_asked = ap (λ (f : Option Fault). unless f (estimate ts vs z h)) (accepted_not_refused ts vs h a)

    row_of_call : (b : Result Estimate Refusal) → EvaluateCall ts vs z h b → b ≡ Ok (estimate ts vs z h)
    row_of_call b c = answered_row b (estimate ts vs z h) (c.ensured ∙ row_asked)

    row_published : AtMost max_u16 vs → (e : Estimate) → PublishedRow ts vs z h e → e ≡ estimate ts vs z h
    row_published v e p = one_published_row ts vs z h e _ p (published_row ts vs z h v a)

-- the lists without reading i
module _ (i : ℕ) (ts vs ts' vs' : List ℕ) (w : Without i ts vs ts' vs') where
  minutes_are : ts' ≡ without i ts
  minutes_are = one_removed i ts ts' w.minutes

  values_are : vs' ≡ without i vs
  values_are = one_removed i vs vs' w.values

  within : i < length ts
  within = removed_within i ts ts' w.minutes

  rest_accepted : (h : ℕ) → EvaluateAccepted ts vs h → EvaluateAccepted ts' vs' h
  rest_accepted h a = rw (minutes_are, values_are) (without_accepted ts vs h i within a)

  rest_at_most : AtMost max_u16 vs → AtMost max_u16 vs'
  rest_at_most v = rw values_are (without_at_most max_u16 i vs (removed_within i vs vs' w.values) v)

  module _ (z h limit : ℕ) where
    removal_changes : decides ts vs z h limit i ≡ true → Changes limit (estimate ts vs z h) (estimate ts' vs' z h)
    unfolding decides verdict
    removal_changes q = rw (minutes_are, values_are) (changes_by limit (estimate ts vs z h) (estimate (without i ts) (without i vs) z h) q)

    removal_keeps : decides ts vs z h limit i ≡ false → Stays limit (estimate ts vs z h) (estimate ts' vs' z h)
    unfolding decides verdict
    removal_keeps q = rw (minutes_are, values_are) (stays_by limit (estimate ts vs z h) (estimate (without i ts) (without i vs) z h) q)

-- of the meaning's rows, so of the published ones, and of those that the calls give
module _ (ts vs : List ℕ) (z h : ℕ) (a : EvaluateAccepted ts vs h) (R : Estimate → Estimate → Type 0) where
  of_published : AtMost max_u16 vs → (i : ℕ) → ((ts' vs' : List ℕ) → Without i ts vs ts' vs' → R (estimate ts vs z h) (estimate ts' vs' z h))
      → WithPublished R ts vs z h i
  of_published v i f ts' vs' w e e' p p' =
      rw (
        row_published ts vs z h a v e p,
        row_published ts' vs' z h (rest_accepted i ts vs ts' vs' w h a) (rest_at_most i ts vs ts' vs' w v) e' p',
      )
      (f ts' vs' w)

  of_calls : (i : ℕ) (ts' vs' : List ℕ) → Without i ts vs ts' vs' → R (estimate ts vs z h) (estimate ts' vs' z h) → (b b' : Result Estimate Refusal)
      → EvaluateCall ts vs z h b → EvaluateCall ts' vs' z h b' → BothRows R b b'
  of_calls i ts' vs' w r b b' c c' = record {
    whole = estimate ts vs z h;
    rest = estimate ts' vs' z h;
    whole_is = row_of_call ts vs z h a b c;
    rest_is = row_of_call ts' vs' z h (rest_accepted i ts vs ts' vs' w h a) b' c';
    holds = r;
  }

  of_exports : (i : ℕ) (ts' vs' : List ℕ) → Without i ts vs ts' vs' → R (estimate ts vs z h) (estimate ts' vs' z h)
      → (row : List ℕ) (c : ℕ) (row₁ row' : List ℕ) (c' : ℕ) (row₂ : List ℕ) → length row ≡ row_width → length row' ≡ row_width
      → ExportedEvaluate ts vs z h row c row₁ → ExportedEvaluate ts' vs' z h row' c' row₂ → BothLists R c row₁ c' row₂
  of_exports i ts' vs' w r row c row₁ row' c' row₂ five five' k k' =
      let x = exported_evaluate_gives ts vs z h row c row₁ (estimate ts vs z h) five (row_asked ts vs z h a) k in
      let y = exported_evaluate_gives ts' vs' z h row' c' row₂ (estimate ts' vs' z h) five'
      (row_asked ts' vs' z h (rest_accepted i ts vs ts' vs' w h a)) k' in
      record {
        whole = estimate ts vs z h;
        rest = estimate ts' vs' z h;
        accepted = x.0;
        accepted_again = y.0;
        whole_is = x.1;
        rest_is = y.1;
        holds = r;
      }

-- weight and sum without a reading
module _ (ts vs : List ℕ) (z h i : ℕ) (ts' vs' : List ℕ) (w : Without i ts vs ts' vs') (a : EvaluateAccepted ts vs h) where
  less_its_share : (left_of ts z h ≤ i) × (i < right_of ts z h) → LessItsShare ts vs z h i (estimate ts vs z h) (estimate ts' vs' z h)
  unfolding estimate
  less_its_share r =
      let l = within i ts vs ts' vs' w in
      let k = run_kernel ts vs z h a.ordered i l r in
      rw (minutes_are i ts vs ts' vs' w, values_are i ts vs ts' vs' w) (record {
        near = distance_inside z h (get_or ts i 0) ((run_is_inside ts z h a.ordered i l).0 r);
        weight_is = rw k at (weight_without ts vs z h a.ordered i l);
        sum_is = rw k at (sum_without ts vs z h a.ordered i l);
      })

  same_sums : ¬ ((left_of ts z h ≤ i) × (i < right_of ts z h)) → SameSums (estimate ts vs z h) (estimate ts' vs' z h)
  unfolding estimate
  same_sums n =
      let l = within i ts vs ts' vs' w in
      let k = no_weight_outside ts vs z h a.ordered i l n in
      rw (
        minutes_are i ts vs ts' vs' w,
        values_are i ts vs ts' vs' w,
        weight_stays ts vs z h a.ordered i l k,
        sum_stays ts vs z h a.ordered i l k,
      )
      (record { weight_is = refl; sum_is = refl; value_is = refl })

  -- the same of the rows that calls give
  module _ (e e' : Estimate) (p : e ≡ estimate ts vs z h) (p' : e' ≡ estimate ts' vs' z h) where
    run_share : e.left ≤ i → i < e.right → LessItsShare ts vs z h i e e'
    unfolding estimate
    run_share l m = rw (p, p') (less_its_share (rw p at l, rw p at m))

    run_sums : ¬ ((e.left ≤ i) × (i < e.right)) → SameSums e e'
    unfolding estimate
    run_sums n = rw (p, p') (same_sums (rw p at n))

module _ (ts vs : List ℕ) (z h limit : ℕ) where
  -- an answer is that of accepted lists
  opened : (o : Option ℕ) → given o ≡ decisive full ts vs z h limit → EvaluateAccepted ts vs h × (first_decisive ts vs z h limit ≡ o)
  unfolding decisive
  opened o q =
      let g = given_accepted (evaluate_refusal full ts vs h) (first_decisive ts vs z h limit) o (sym q) in
      (evaluate_accepts full (same_limits full) ts vs h g.0, g.1)

  accepted_answer : EvaluateAccepted ts vs h → decisive full ts vs z h limit ≡ given (first_decisive ts vs z h limit)
  unfolding decisive
  accepted_answer a = ap (λ (f : Option Fault). unless f (first_decisive ts vs z h limit)) (accepted_not_refused ts vs h a)

  exactly : (t : Answer (Option ℕ)) → t ≡ decisive full ts vs z h limit → RefusedExactly (refusal t) (FirstFault (evaluate_conditions ts vs h))
  unfolding decisive
  exactly t q = decided_exactly (first_decisive ts vs z h limit) (evaluate_finds ts vs h) q

  alike : refusal (decisive full ts vs z h limit) ≡ refusal (evaluate full ts vs z h)
  unfolding decisive evaluate
  alike =
      refusal_unless (evaluate_refusal full ts vs h) (first_decisive ts vs z h limit)
      ∙ sym (refusal_unless (evaluate_refusal full ts vs h) (estimate ts vs z h))

  module _ (i : ℕ) (q : first_decisive ts vs z h limit ≡ Some i) where
    found_within : i < length ts
    found_within = (lowest_some (decides ts vs z h limit) (length ts) i q).0

    found_decides : decides ts vs z h limit i ≡ true
    found_decides = let f = lowest_some (decides ts vs z h limit) (length ts) i q in f.1.there (let l = f.0 in omega arith)

    none_lower : (j : ℕ) → j < i → decides ts vs z h limit j ≡ false
    none_lower j l = (lowest_some (decides ts vs z h limit) (length ts) i q).1.before j (omega arith) l

  -- no reading before the answer decides
  kept_before : (d : Result (Option ℕ) Refusal) (j : ℕ) → answer_of d ≡ decisive full ts vs z h limit → BeforeAnswer d j → j < length ts
      → EvaluateAccepted ts vs h × (decides ts vs z h limit j ≡ false)
  kept_before (Ok (Some i)) j q b l = let o = opened (Some i) q in (o.0, none_lower i o.1 j b)
  kept_before (Ok None) j q b l = let o = opened None q in (o.0, lowest_none (decides ts vs z h limit) (length ts) o.1 j l)
  kept_before (Err r) j q b l = absurd b

  -- where no removal changes anything, none is named
  none_named : AtMost max_u16 vs → (d : Result (Option ℕ) Refusal) → answer_of d ≡ decisive full ts vs z h limit → refusal (answer_of d) ≡ None
      → ((j : ℕ) → j < length ts → WithPublished (Stays limit) ts vs z h j) → d ≡ (Ok None)
  none_named v (Ok None) q r f = refl
  none_named v (Err e) q r f = let n : ◌≡◌ {A = ℕ} 0 1 = cc in absurd (omega arith)
  none_named v (Ok (Some i)) q r f =
      let o = opened (Some i) q in
      let l = found_within i o.1 in
      let m : i < length vs = omega (arith, o.0.even) in
      let w : Without i ts vs (without i ts) (without i vs) = record { minutes = without_removes i ts l; values = without_removes i vs m } in
      absurd
      (not_both limit (estimate ts vs z h) (estimate (without i ts) (without i vs) z h)
      (removal_changes i ts vs (without i ts) (without i vs) w z h limit (found_decides i o.1))
      (f i l (without i ts) (without i vs) w (estimate ts vs z h) (estimate (without i ts) (without i vs) z h)
      (published_row ts vs z h v o.0)
      (published_row (without i ts) (without i vs) z h (without_at_most max_u16 i vs m v) (without_accepted ts vs h i l o.0))))

  missing_none : AtMost max_u16 vs → (d : Result (Option ℕ) Refusal) → answer_of d ≡ decisive full ts vs z h limit → (e : Estimate)
      → given e ≡ evaluate full ts vs z h → e.value ≡ missing → d ≡ (Ok None)
  unfolding estimate
  missing_none v d q e g m =
      let a = row_given ts vs z h e g in
      let f : WithinLimits ts vs h = record { even = a.0.even; few = a.0.few; values = v; bandwidth = a.0.bandwidth } in
      let n = (missing_exactly ts vs z h f).0 (sym (ap (λ (x : Estimate). x.value) a.1) ∙ m) in
      none_answered d (q ∙ accepted_answer a.0 ∙ ap given (missing_keeps ts vs z h limit a.0.ordered n))

  module _ (xs : List ℕ) where
    sized_exactly : RefusedExactly (refusal (sized 1 xs (decisive full ts vs z h limit))) (FirstFault (length_first 1 xs (evaluate_conditions ts vs h)))
    unfolding decisive
    sized_exactly =
        decided_exactly (first_decisive ts vs z h limit) (length_first_finds 1 xs (evaluate_finds ts vs h))
        (sized_is_checked 1 xs (evaluate_checks full ts vs h) (first_decisive ts vs z h limit))

    coded : (c : ℕ) → c ≡ answered no_detail (sized 1 xs (decisive full ts vs z h limit))
        → code_refusal c ≡ refusal (sized 1 xs (decisive full ts vs z h limit))
    coded c q =
        exported_refusal no_detail (sized 1 xs (decisive full ts vs z h limit)) c _ q
        (first_numbered (length_first 1 xs (evaluate_conditions ts vs h)) refl) sized_exactly

  -- a position of the answer lies among the readings, which are few
  read_back : (o : Option ℕ) → given o ≡ decisive full ts vs z h limit → position_of (get_or (position_numbers o) 0 0) ≡ o
  read_back None q = refl
  read_back (Some i) q =
      let o = opened (Some i) q in
      let l = found_within i o.1 in
      let few : length ts ≤ 1024 = o.0.few in
      rw (ne_eqb i no_position (λ (e : i ≡ no_position). omega arith))

  -- an accepted export, opened
  record ExportOpened (c : ℕ) (xs' : List ℕ) : Type 0 where
    position : Option ℕ
    tells : given position ≡ decisive full ts vs z h limit
    zero_is : c ≡ 0
    one : length xs' ≡ 1
    back : position_of (get_or xs' 0 0) ≡ position

  export_opened : (xs : List ℕ) (c : ℕ) (xs' : List ℕ) → ExportedDecisive ts vs z h limit xs c xs' → code_refusal c ≡ None → ExportOpened c xs'
  export_opened xs c xs' k r =
      let t = sized 1 xs (decisive full ts vs z h limit) in
      let accepted = sym (coded xs c k.ensured.0) ∙ r in
      let g = accepted_given t accepted in
      let q : given g.0 ≡ decisive full ts vs z h limit = sym g.1 ∙ sized_opens 1 xs (decisive full ts vs z h limit) accepted in
      let list : xs' ≡ position_numbers g.0 = k.ensured.1 ∙ ap (λ (x : Answer (Option ℕ)). stored position_numbers x xs) g.1 in
      record {
        position = g.0;
        tells = q;
        zero_is = k.ensured.0 ∙ ap (answered no_detail) g.1;
        one = ap length list;
        back = ap (λ (x : List ℕ). position_of (get_or x 0 0)) list ∙ read_back g.0 q;
      }

pub decisive_taken : EveryDecisiveTaken
decisive_taken = record {
  decisive_ends = decisive_met.met;
  decisive_asks_nothing = λ κs a. tt;
  exported_ends = exported_met.met;
  exported_asks_nothing = λ κs a. tt;
}

pub decisive_readings : DecisiveReadings
decisive_readings = record {
  refused = λ ts vs z h limit a c. exactly ts vs z h limit (answer_of a) c.ensured;
  refused_alike = λ ts vs z h limit a b c d. ap refusal c.ensured ∙ alike ts vs z h limit ∙ sym (ap refusal d.ensured);
  named = λ ts vs z h limit i v c.
      let o = opened ts vs z h limit (Some i) c.ensured in (
        found_within ts vs z h limit i o.1,
        of_published ts vs z h o.0 (Changes limit) v i
            (λ ts' vs' w. removal_changes i ts vs ts' vs' w z h limit (found_decides ts vs z h limit i o.1)),
        λ j l.
            of_published ts vs z h o.0 (Stays limit) v j
            (λ ts' vs' w. removal_keeps j ts vs ts' vs' w z h limit (none_lower ts vs z h limit i o.1 j l)),
      );
  none_exactly = λ ts vs z h limit a v c r. (
    λ e j l.
        let o = opened ts vs z h limit None (sym (ap answer_of e) ∙ c.ensured) in
        of_published ts vs z h o.0 (Stays limit) v j
        (λ ts' vs' w. removal_keeps j ts vs ts' vs' w z h limit (lowest_none (decides ts vs z h limit) (length ts) o.1 j l)),
    none_named ts vs z h limit v a c.ensured r,
  );
  still_accepted = λ ts vs z h i e ts' vs' b c w d.
      let a = rest_accepted i ts vs ts' vs' w h (row_given ts vs z h e c.ensured).0 in (estimate ts' vs' z h, row_of_call ts' vs' z h a b d);
  asked_again = λ ts vs z h limit i ts' vs' a b d w c c'.
      let o = opened ts vs z h limit (Some i) d.ensured in
      of_calls ts vs z h o.0 (Changes limit) i ts' vs' w
      (removal_changes i ts vs ts' vs' w z h limit (found_decides ts vs z h limit i o.1)) a b c c';
  others_asked_again = λ ts vs z h limit d j ts' vs' a b k m w c c'.
      let o = kept_before ts vs z h limit d j k.ensured m (within j ts vs ts' vs' w) in
      of_calls ts vs z h o.0 (Stays limit) j ts' vs' w (removal_keeps j ts vs ts' vs' w z h limit o.1) a b c c';
  of_the_run = λ ts vs z h i ts' vs' e e' c w c' l m.
      let o = row_given ts vs z h e c.ensured in
      let o' = row_given ts' vs' z h e' c'.ensured in
      run_share ts vs z h i ts' vs' w o.0 e e' o.1 o'.1 l m;
  outside_the_run = λ ts vs z h i ts' vs' e e' c w c' n.
      let o = row_given ts vs z h e c.ensured in
      let o' = row_given ts' vs' z h e' c'.ensured in
      run_sums ts vs z h i ts' vs' w o.0 e e' o.1 o'.1 n;
  named_has_weight = λ ts vs z h limit i c.
      let o = opened ts vs z h limit (Some i) c.ensured in
      let n = named_has_weight ts vs z h limit o.0.ordered i o.1 in (
        record { within = found_within ts vs z h limit i o.1; above_zero = n },
        (weighs_near z h (get_or ts i 0)).0 n,
      );
  missing_names_none = λ ts vs z h limit a e v c d m. missing_none ts vs z h limit v a c.ensured e d.ensured m;
  exported_refused = λ ts vs z h limit xs c xs' k.
      let same = coded ts vs z h limit xs c k.ensured.0 in (
        rw same (sized_exactly ts vs z h limit xs),
        λ e r. k.ensured.1 ∙ stored_stays position_numbers (sized 1 xs (decisive full ts vs z h limit)) xs e (sym same ∙ r),
      );
  exported_tells = λ ts vs z h limit xs c xs' a k d r.
      let t = export_opened ts vs z h limit xs c xs' k r in (t.position, (d.ensured ∙ sym t.tells, t.zero_is, t.one, t.back));
  exported_asked_again = λ ts vs z h limit i xs c xs' ts' vs' row c₁ row₁ row' c₂ row₂ k r p w five five' d d'.
      let t = export_opened ts vs z h limit xs c xs' k r in
      let o = opened ts vs z h limit (Some i) (ap given (sym p ∙ t.back) ∙ t.tells) in
      of_exports ts vs z h o.0 (Changes limit) i ts' vs' w
      (removal_changes i ts vs ts' vs' w z h limit (found_decides ts vs z h limit i o.1)) row c₁ row₁ row' c₂ row₂ five five' d d';
}

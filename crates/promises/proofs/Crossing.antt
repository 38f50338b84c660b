-- The call's contract with the laws of its meaning: what it finds is by the rows of the meaning, which are the published ones.
use Prim.Native.Nat.{ℕ, ◌+◌, ◌*◌, ◌≤◌, ◌<◌}
use Rattle.meanings.specs.declared.limit.Located.{Located}
use Rattle.meanings.specs.Calls.{answer_of}
use mathlib.Core.Path.{◌≡◌, refl, sym, ap, subst, ◌∙◌}
use mathlib.Core.Bool.{Bool, true, false, true≢false, ◌&&◌}
use mathlib.Core.List.{List}
use Rattle.std.specs.Prelude.{Option, None, Some}
use native.Mathlib.Nat.{add_comm}
use native.Mathlib.Omega.{arith}
use borrow.Author.Tests.{ltb-true, leb-true, lt-ltb, le-leb, ne_eqb}
use lib.Dec.{ltb, leb}
use lib.ListN.{length, get_or}
use Rattle.meanings.specs.declared.Estimate.{Estimate}
use Rattle.meanings.specs.Limits.{full, max_u16}
use Rattle.meanings.specs.Lists.{AtMost}
use Rattle.meanings.specs.Moves.{moves}
use Rattle.meanings.specs.PublishedRow.{PublishedRow}
use Rattle.meanings.specs.Reports.{Answer, given, curve_checks}
use Rattle.meanings.specs.Estimate.{estimate}
use Rattle.meanings.specs.Running.{fresh, passes}
use Rattle.meanings.specs.EventLog.{empty_log, log_after, insertion_count, eviction_count}
use Rattle.meanings.specs.Claim.{refusal}
use Rattle.meanings.specs.Codes.{answered, detail_unit}
use Rattle.meanings.proofs.Checks.{same_limits, given_accepted}
use Rattle.meanings.proofs.PublishedRows.{published_row, one_published_row}
use Rattle.meanings.proofs.Search.{lowest_none, lowest_some}
use Rattle.meanings.proofs.Steps.{Small}
use Rattle.meanings.proofs.SmoothLog.{curve_passes}
use Rattle.meanings.proofs.SmoothSteps.{CurveAccepted, curve_accepts}
use Rattle.meanings.specs.limit.Threshold.{low_enough}
use Rattle.meanings.specs.limit.Crossing.{low_at, first_low, steps_to, located}
use Rattle.meanings.specs.limit.Crossing.{crossing_refusal, first_at_most, reach}
use Rattle.meanings.proofs.ByRows.{by_the_full_curve}
use Rattle.meanings.proofs.LimitPasses.{passes_to_point}
use Rattle.meanings.proofs.Values.{values_behind_do_not_count}
use Rattle.exports.specs.Answers.{sized, stored}
use Rattle.exports.specs.Positions.{no_position, position_numbers, position_of}
use Rattle.exports.proofs.Answered.{right_size}
use Rattle.promises.specs.conditions.Conditions.{RefusedExactly, FirstFault, length_first, code_refusal}
use Rattle.promises.specs.Crossing.{ExportedFirstAtMost, crossing_conditions, LowEnough, FirstLow, Crossings}
use Rattle.promises.proofs.conditions.CallChecks.{curve_finds, always_fits}
use Rattle.promises.proofs.conditions.FirstFaults.{FindAll}
use Rattle.promises.proofs.conditions.Refusals.{decided_exactly, sized_is_checked, length_first_finds, first_numbered, exported_refusal, stored_stays}
use Rattle.promises.proofs.conditions.Refusals.{accepted_given, sized_opens}

finds : (ts vs zs hs : List ℕ) → FindAll (curve_checks full ts vs zs hs false) (crossing_conditions ts vs zs hs)
finds ts vs zs hs = curve_finds full ts vs zs hs false Unit always_fits

-- the test and what it says
both_true : (a b : Bool) → (a && b) ≡ true → (a ≡ true) × (b ≡ true)
both_true true b e = (refl, e)
both_true false b e = absurd (true≢false (sym e))

pub test_says : (limit : ℕ) (e : Estimate) → low_enough limit e ≡ true → LowEnough limit e
test_says limit e q =
    let b = both_true (ltb 0 e.weight) (leb e.value limit) q in
    (ltb-true 0 e.weight b.0, leb-true e.value limit b.1)

pub test_denies : (limit : ℕ) (e : Estimate) → low_enough limit e ≡ false → ¬ LowEnough limit e
test_denies limit e q l = true≢false (sym (rw (lt-ltb 0 e.weight l.0, le-leb e.value limit l.1)) ∙ q)

module _ (ts vs zs hs : List ℕ) (limit : ℕ) (minutes : AtMost max_u16 ts) (values : AtMost max_u16 vs) (a : CurveAccepted ts vs zs hs) where
  small : Small ts vs
  small = record { even = a.even; few = a.few; minutes = minutes; values = values }

  -- the published row of a mark is that of the meaning
  row_is : (k : ℕ) → k < length zs → (e : Estimate) → PublishedRow ts vs (get_or zs k 0) (get_or hs k 0) e → e ≡ estimate ts vs (get_or zs k 0) (get_or hs k 0)
  row_is k l e p =
      let h = a.bandwidths k l in
      one_published_row ts vs (get_or zs k 0) (get_or hs k 0) e _ p
      (published_row ts vs (get_or zs k 0) (get_or hs k 0) values
      (record { even = a.even; few = a.few; ordered = a.ordered; positive = h.0; bandwidth = h.1 }))

  high_at : (j : ℕ) → j < length zs → low_at ts vs zs hs limit j ≡ false → (e : Estimate) → PublishedRow ts vs (get_or zs j 0) (get_or hs j 0) e
      → ¬ LowEnough limit e
  unfolding low_at
  high_at j l q e p =
      subst (λ (r : Estimate). ¬ LowEnough limit r) (sym (row_is j l e p)) (test_denies limit (estimate ts vs (get_or zs j 0) (get_or hs j 0)) q)

  first_is : (k n : ℕ) → first_low ts vs zs hs limit ≡ Some k → located ts vs zs hs limit ≡ record { position = Some k; passes = n }
      → FirstLow ts vs zs hs limit k n
  unfolding low_at estimate
  first_is k n e q =
      let f = lowest_some (low_at ts vs zs hs limit) (length zs) k e in
      let l = f.0 in
      record {
        within = l;
        low = λ r p.
            rw (row_is k l r p) (
              test_says limit (estimate ts vs (get_or zs k 0) (get_or hs k 0)) (f.1.there (omega arith)),
              sym (ap (λ (x : Located). x.passes) q)
                  ∙ ap (λ (o : Option ℕ). passes ts vs fresh (steps_to zs hs o)) e
                  ∙ passes_to_point ts vs zs hs small a k l
                  ∙ add_comm _ _,
            );
        none_before = λ j m. high_at j (omega arith) (f.1.before j (omega arith) m);
      }

module _ (ts vs zs hs : List ℕ) (limit : ℕ) where
  -- an answer is that of accepted lists
  opened : (l : Located) → first_at_most full ts vs zs hs limit ≡ given l → CurveAccepted ts vs zs hs × (located ts vs zs hs limit ≡ l)
  unfolding first_at_most
  opened l q =
      let g = given_accepted (crossing_refusal full ts vs zs hs) (located ts vs zs hs limit) l q in
      (curve_accepts full (same_limits full) ts vs zs hs false g.0, g.1)

  -- with none the passes are those of all marks, and an event log counts them
  none_counted : AtMost max_u16 ts → AtMost max_u16 vs → (n : ℕ)
      → first_at_most full ts vs zs hs limit ≡ given (record { position = None; passes = n })
      → (n ≡ insertion_count (log_after ts vs empty_log (moves zs hs)) + eviction_count (log_after ts vs empty_log (moves zs hs)))
      × (n ≤ 2 * length ts)
  unfolding first_at_most
  none_counted minutes values n q =
      let g = given_accepted (crossing_refusal full ts vs zs hs) (located ts vs zs hs limit) (record { position = None; passes = n }) q in
      let all : passes ts vs fresh (moves zs hs) ≡ n =
      sym (ap (λ (o : Option ℕ). passes ts vs fresh (steps_to zs hs o)) (ap (λ (x : Located). x.position) g.1))
      ∙ ap (λ (x : Located). x.passes) g.1 in
      rw all at (curve_passes full (same_limits full) ts vs zs hs minutes values false g.0)

  exactly : (t : Answer Located) → t ≡ first_at_most full ts vs zs hs limit → RefusedExactly (refusal t) (FirstFault (crossing_conditions ts vs zs hs))
  unfolding first_at_most
  exactly t q = decided_exactly (located ts vs zs hs limit) (finds ts vs zs hs) q

  module _ (xs : List ℕ) where
    sized_exactly : RefusedExactly (refusal (sized 1 xs (first_at_most full ts vs zs hs limit)))
        (FirstFault (length_first 1 xs (crossing_conditions ts vs zs hs)))
    unfolding first_at_most
    sized_exactly =
        decided_exactly (located ts vs zs hs limit) (length_first_finds 1 xs (finds ts vs zs hs))
        (sized_is_checked 1 xs (curve_checks full ts vs zs hs false) (located ts vs zs hs limit))

    coded : (c : ℕ) → c ≡ answered (λ (l : Located). l.passes) (sized 1 xs (first_at_most full ts vs zs hs limit))
        → code_refusal c ≡ refusal (sized 1 xs (first_at_most full ts vs zs hs limit))
    coded c q =
        exported_refusal (λ (l : Located). l.passes) (sized 1 xs (first_at_most full ts vs zs hs limit)) c _ q
        (first_numbered (length_first 1 xs (crossing_conditions ts vs zs hs)) refl) sized_exactly

  -- a position of the answer lies among the marks, which are few
  read_back : (l : Located) → first_at_most full ts vs zs hs limit ≡ given l → (o : Option ℕ) → first_low ts vs zs hs limit ≡ o
      → position_of (get_or (position_numbers o) 0 0) ≡ o
  read_back l q None e = refl
  read_back l q (Some k) e =
      let f = lowest_some (low_at ts vs zs hs limit) (length zs) k e in
      let a = (opened l q).0 in
      let w : k < length zs = f.0 in
      let few : length zs ≤ 512 = a.few_points in
      rw (ne_eqb k no_position (λ (z : k ≡ no_position). omega arith))

-- what an accepted call for C and Rust tells
record Told (ts vs zs hs : List ℕ) (limit c : ℕ) (xs' : List ℕ) : Type 0 where
  located : Located
  answer : first_at_most full ts vs zs hs limit ≡ given located
  code : c ≡ detail_unit * located.passes
  one : length xs' ≡ 1
  position : position_of (get_or xs' 0 0) ≡ located.position

told : (ts vs zs hs : List ℕ) (limit : ℕ) (xs : List ℕ) (c : ℕ) (xs' : List ℕ) → ExportedFirstAtMost ts vs zs hs limit xs c xs' → code_refusal c ≡ None
    → Told ts vs zs hs limit c xs'
told ts vs zs hs limit xs c xs' k r =
    let accepted = sym (coded ts vs zs hs limit xs c k.ensured.0) ∙ r in
    let opens = sized_opens 1 xs (first_at_most full ts vs zs hs limit) accepted in
    let g = accepted_given (sized 1 xs (first_at_most full ts vs zs hs limit)) accepted in
    let l = g.0 in
    let q : first_at_most full ts vs zs hs limit ≡ given l = sym opens ∙ g.1 in
    let o : first_low ts vs zs hs limit ≡ l.position = ap (λ (x : Located). x.position) (opened ts vs zs hs limit l q).1 in
    let list : xs' ≡ position_numbers l.position =
    k.ensured.1 ∙ ap (λ (t : Answer Located). stored (λ (x : Located). position_numbers x.position) t xs) g.1 in
    record {
      located = l;
      answer = q;
      code = k.ensured.0 ∙ ap (answered (λ (x : Located). x.passes)) g.1;
      one = ap length list;
      position = ap (λ (x : List ℕ). position_of (get_or x 0 0)) list ∙ read_back ts vs zs hs limit l q l.position o;
    }

pub crossings : Crossings
crossings = record {
  refused = λ ts vs zs hs limit a c. exactly ts vs zs hs limit (answer_of a) c.ensured;
  reached = λ ts vs zs hs limit k n minutes values c.
      let o = opened ts vs zs hs limit (record { position = Some k; passes = n }) (sym c.ensured) in
      first_is ts vs zs hs limit minutes values o.0 k n (ap (λ (x : Located). x.position) o.1) o.1;
  not_reached = λ ts vs zs hs limit n minutes values c.
      let o = opened ts vs zs hs limit (record { position = None; passes = n }) (sym c.ensured) in
      let e = ap (λ (x : Located). x.position) o.1 in
      let p = none_counted ts vs zs hs limit minutes values n (sym c.ensured) in (
        λ j l. high_at ts vs zs hs limit minutes values o.0 j l (lowest_none (low_at ts vs zs hs limit) (length zs) e j l),
        p.0,
        p.1,
      );
  by_the_full_curve = λ ts vs zs hs rs limit a b rs' minutes values fits c d.
      c.ensured
      ∙ by_the_full_curve full (same_limits full) ts vs zs hs rs limit minutes values fits
      ∙ sym (rw (d.ensured.1, d.ensured.0));
  values_behind_do_not_count = λ ts vs vs' zs hs limit l a b minutes values values' even c q same d.
      let g = sym c.ensured ∙ q in
      let o : first_low ts vs zs hs limit ≡ l.position = ap (λ (x : Located). x.position) (opened ts vs zs hs limit l g).1 in
      d.ensured
      ∙ sym
      (values_behind_do_not_count full (same_limits full) ts vs vs' zs hs limit minutes values values' even
      (λ i m. same i (rw (ap (reach ts zs hs) o) at m)))
      ∙ g;
  exported_refused = λ ts vs zs hs limit xs c xs' k.
      let same = coded ts vs zs hs limit xs c k.ensured.0 in (
        rw same (sized_exactly ts vs zs hs limit xs),
        λ e r.
            k.ensured.1
            ∙ stored_stays (λ (l : Located). position_numbers l.position) (sized 1 xs (first_at_most full ts vs zs hs limit)) xs e (sym same ∙ r),
      );
  exported_tells = λ ts vs zs hs limit xs c xs' a k d r.
      let t = told ts vs zs hs limit xs c xs' k r in
      (t.located, (d.ensured ∙ t.answer, t.code, t.one, t.position));
  exported_reached = λ ts vs zs hs limit xs c xs' k minutes values x r p.
      let t = told ts vs zs hs limit xs c xs' x r in
      let e : t.located ≡ record { position = Some k; passes = t.located.passes } =
      ap (λ (o : Option ℕ). record { position = o; passes = t.located.passes }) (sym t.position ∙ p) in
      let o = opened ts vs zs hs limit t.located t.answer in
      let q = o.1 ∙ e in
      (t.located.passes, (t.code, first_is ts vs zs hs limit minutes values o.0 k t.located.passes (ap (λ (l : Located). l.position) q) q));
  exported_not_reached = λ ts vs zs hs limit xs c xs' minutes values x r p.
      let t = told ts vs zs hs limit xs c xs' x r in
      let e : t.located ≡ record { position = None; passes = t.located.passes } =
      ap (λ (o : Option ℕ). record { position = o; passes = t.located.passes }) (sym t.position ∙ p) in
      let o = opened ts vs zs hs limit t.located t.answer in
      let q = ap (λ (l : Located). l.position) (o.1 ∙ e) in
      let n = none_counted ts vs zs hs limit minutes values t.located.passes (t.answer ∙ ap given e) in (
        λ j l. high_at ts vs zs hs limit minutes values o.0 j l (lowest_none (low_at ts vs zs hs limit) (length zs) q j l),
        t.code ∙ ap (λ (n : ℕ). detail_unit * n) n.0,
        omega (arith, t.code, n.1),
      );
  exported_by_the_full_curve = λ ts vs zs hs rs limit xs c xs' b rs' minutes values fits one x d.
      let e = by_the_full_curve full (same_limits full) ts vs zs hs rs limit minutes values fits ∙ sym (rw (d.ensured.1, d.ensured.0)) in
      let o = sym (right_size 1 xs one (first_at_most full ts vs zs hs limit)) in (
        x.ensured.0 ∙ ap (answered (λ (l : Located). l.passes)) (o ∙ e),
        x.ensured.1 ∙ ap (λ (t : Answer Located). stored (λ (l : Located). position_numbers l.position) t xs) (o ∙ e),
      );
  exported_values_behind_do_not_count = λ ts vs vs' zs hs limit xs c d xs₁ xs₂ minutes values values' even x r same y.
      let t = told ts vs zs hs limit xs c xs₁ x r in
      let o : first_low ts vs zs hs limit ≡ position_of (get_or xs₁ 0 0) =
      ap (λ (l : Located). l.position) (opened ts vs zs hs limit t.located t.answer).1 ∙ sym t.position in
      let e = values_behind_do_not_count full (same_limits full) ts vs vs' zs hs limit minutes values values' even
      (λ i m. same i (rw (ap (reach ts zs hs) o) at m)) in (
        y.ensured.0 ∙ sym (x.ensured.0 ∙ ap (λ (a : Answer Located). answered (λ (l : Located). l.passes) (sized 1 xs a)) e),
        y.ensured.1 ∙ sym (x.ensured.1 ∙ ap (λ (a : Answer Located). stored (λ (l : Located). position_numbers l.position) (sized 1 xs a) xs) e),
      );
  none_is_no_position = λ zs k few l e. omega arith;
}

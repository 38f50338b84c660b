-- What is promised of two tanks follows from the contracts of the calls, which answer as the meanings do, and from the laws of the comparison.
use Prim.Native.Nat.{ℕ, ◌+◌, ◌*◌, ◌<◌}
use Rattle.std.specs.Prelude.{Ok}
use Rattle.meanings.specs.declared.pair.Bounded.{Bounded}
use Rattle.meanings.specs.declared.pair.Parting.{Parting}
use mathlib.Core.Path.{◌≡◌, refl, sym, ap, ◌∙◌}
use mathlib.Core.Bool.{false, true≢false}
use mathlib.Core.List.{List, []}
use Rattle.std.specs.Prelude.{Option, None, Some}
use native.Mathlib.Omega.{arith}
use lib.ListN.{length, get_or}
use denote.Ref.{Bor}
use Rattle.meanings.specs.Claim.{refusal}
use Rattle.meanings.specs.Calls.{smooth, smooth_refusal, smooth_rows}
use Rattle.meanings.specs.Codes.{answered}
use Rattle.meanings.specs.Estimate.{rows}
use Rattle.meanings.specs.Limits.{full, max_bandwidth}
use Rattle.meanings.specs.Moves.{moves}
use Rattle.meanings.specs.Reports.{Fault, Answer, given, refused, unless, accepted_or, check, first_of, series_checks}
use Rattle.meanings.specs.Running.{fresh, passes}
use Rattle.meanings.proofs.Claim.{refusal_unless}
use Rattle.meanings.proofs.Checks.{same_limits, given_accepted}
use Rattle.meanings.specs.declared.pair.Tank.{Tank}
use Rattle.meanings.specs.pair.Comparison.{of_tank, compare, fault_place, compare_checks, compare_refusal}
use Rattle.meanings.specs.pair.Comparison.{parted, run_in, tank_in, start_in, bounded, with_bounds, compare_bounds, compare_run, run_tank, run_start}
use Rattle.meanings.proofs.PairCases.{missing_is_higher}
use Rattle.laws.proofs.pair.Order.{FitTank, both_fit, fit_compared, fit_by_sweep, no_higher_reflexive, no_higher_transitive, no_higher_total}
use Rattle.laws.proofs.pair.Order.{no_higher_both, exchanged_answer, parts_by_rows, higher_by_rows}
use Rattle.exports.specs.Answers.{sized}
use Rattle.exports.proofs.Answered.{right_size}
use Rattle.exports.specs.Partings.{tank_detail, stored_parting}
use Rattle.questions.proofs.pair.compare.Met as compare_met
use Rattle.questions.proofs.pair.compare_run.Met as compare_run_met
use Rattle.exports.proofs.pair.tankcurve_compare.Met as exported_compare_met
use Rattle.promises.specs.Calls.{Place, SmoothCall}
use Rattle.promises.specs.conditions.Conditions.{no_more, FirstFault, RefusedExactly, series_conditions, length_first, code_refusal}
use Rattle.promises.proofs.conditions.CallChecks.{Decides, series_finds, curve_size_finds, order_finds, bandwidth_list_finds, edge_finds}
use Rattle.promises.proofs.conditions.FirstFaults.{Finds, FindAll, first_found, none_found, one_first, none_or_first}
use Rattle.promises.proofs.conditions.Refusals.{decided_exactly, length_first_finds, sized_is_checked, exported_refusal, exported_stays, first_numbered}
use Rattle.promises.specs.pair.Pairs.{CompareRunCall, SecondEarns, compare_conditions, EmptyAtFirst, RunOfTank, EveryPairTaken, Pairs}

-- ---- the checks find the conditions
no_checks : FindAll [] no_more
no_checks = record { each = tt }

series_found : (us ws : List ℕ) → FindAll (series_checks full us ws) (series_conditions full us ws no_more)
series_found us ws = series_finds full us ws no_checks

-- 16 is found where the second tank's own checks find something, at their place
second_finds : (us ws : List ℕ) → Finds (check 16 (fault_place (first_of (series_checks full us ws)))) 16 (SecondEarns us ws)
second_finds us ws = record {
  number = refl;
  found = λ p e. at (first_of (series_checks full us ws)) refl p e;
  absent = λ e q a. nowhere (first_of (series_checks full us ws)) refl e q a;
}
  where
    at : (o : Option Fault) → first_of (series_checks full us ws) ≡ o → (p : ℕ) → fault_place o ≡ Some p
        → SecondEarns us ws p × ((q : ℕ) → q < p → ¬ SecondEarns us ws q)
    at None q p e = let z : ◌≡◌ {A = ℕ} 0 1 = cc in absurd (omega arith)
    at (Some f) q p e =
        let place : f.place ≡ p = cc in
        let here = first_found (series_checks full us ws) (series_conditions full us ws no_more) (series_found us ws).each f.number f.place q in (
          (f.number, rw (← place) here),
          λ r l a.
              let same = one_first (series_conditions full us ws no_more) f.number f.place a.0 r here a.1 in
              omega (arith, same.1),
        )

    nowhere : (o : Option Fault) → first_of (series_checks full us ws) ≡ o → fault_place o ≡ None → (q : ℕ) → ¬ SecondEarns us ws q
    nowhere None e n q a =
        none_or_first (series_conditions full us ws no_more) a.0 q
        (none_found (series_checks full us ws) (series_conditions full us ws no_more) (series_found us ws).each e) a.1
    nowhere (Some f) e n q a = let z : ◌≡◌ {A = ℕ} 0 1 = cc in omega arith

-- no further list has to fit
nothing_more : Decides false (¬ Unit)
nothing_more = record { holds = λ e. absurd (true≢false (sym e)); fails = λ e k. k tt }

compare_finds : (ts vs us ws zs hs : List ℕ) → FindAll (compare_checks full ts vs us ws zs hs) (compare_conditions ts vs us ws zs hs)
compare_finds ts vs us ws zs hs =
    curve_size_finds full ts vs zs hs false Unit nothing_more
    (order_finds ts zs
    (bandwidth_list_finds max_bandwidth hs (edge_finds zs hs (record { each = (second_finds us ws, tt) }))))

module _ (ts vs us ws zs hs : List ℕ) where
  meant_exactly : RefusedExactly (refusal (compare full ts vs us ws zs hs)) (FirstFault (compare_conditions ts vs us ws zs hs))
  unfolding compare
  meant_exactly = decided_exactly (parted ts vs us ws zs hs) (compare_finds ts vs us ws zs hs) refl

  -- no refusal of the meaning: no check holds
  meant_fit : refusal (compare full ts vs us ws zs hs) ≡ None → compare_refusal full ts vs us ws zs hs ≡ None
  unfolding compare
  meant_fit q = sym (refusal_unless (compare_refusal full ts vs us ws zs hs) (parted ts vs us ws zs hs)) ∙ q

-- ---- the exported call's list comes first
abbrev bounded_option : List ℕ → List ℕ → List ℕ → List ℕ → Option Parting → Option Bounded
bounded_option ts us zs hs None = None
bounded_option ts us zs hs (Some p) = Some (bounded ts us zs hs p)

bounds_unless : (ts us zs hs : List ℕ) (f : Option Fault) (o : Option Parting)
    → with_bounds ts us zs hs (unless f o) ≡ unless f (bounded_option ts us zs hs o)
bounds_unless ts us zs hs None None = refl
bounds_unless ts us zs hs None (Some p) = refl
bounds_unless ts us zs hs (Some e) o = refl

module _ (ts vs us ws zs hs out : List ℕ) where
  exported_exactly : RefusedExactly (refusal (sized 3 out (compare_bounds full ts vs us ws zs hs)))
      (FirstFault (length_first 3 out (compare_conditions ts vs us ws zs hs)))
  unfolding compare_bounds compare
  exported_exactly =
      decided_exactly (bounded_option ts us zs hs (parted ts vs us ws zs hs)) (length_first_finds 3 out (compare_finds ts vs us ws zs hs))
      (ap (sized 3 out) (bounds_unless ts us zs hs (compare_refusal full ts vs us ws zs hs) (parted ts vs us ws zs hs))
      ∙ sized_is_checked 3 out (compare_checks full ts vs us ws zs hs) (bounded_option ts us zs hs (parted ts vs us ws zs hs)))

  exported_coded : (c : ℕ) → c ≡ answered tank_detail (sized 3 out (compare_bounds full ts vs us ws zs hs))
      → code_refusal c ≡ refusal (sized 3 out (compare_bounds full ts vs us ws zs hs))
  exported_coded c q =
      exported_refusal tank_detail (sized 3 out (compare_bounds full ts vs us ws zs hs)) c _ q
      (first_numbered (length_first 3 out (compare_conditions ts vs us ws zs hs)) refl) exported_exactly

  opened : length out ≡ 3 → {a : Answer (Option Parting)} → a ≡ compare full ts vs us ws zs hs
      → sized 3 out (compare_bounds full ts vs us ws zs hs) ≡ with_bounds ts us zs hs a
  unfolding compare_bounds
  opened right q =
      sym (right_size 3 out right (with_bounds ts us zs hs (compare full ts vs us ws zs hs))) ∙ ap (with_bounds ts us zs hs) (sym q)

parting_stays : (a : Answer (Option Bounded)) (xs : List ℕ) (e : Fault) → refusal a ≡ Some e → stored_parting a xs ≡ xs
parting_stays (given None) xs e q = refl
parting_stays (given (Some b)) xs e q = let z : ◌≡◌ {A = ℕ} 0 1 = cc in absurd (omega arith)
parting_stays (refused f) xs e q = refl

-- ---- the run, by what the comparison means
module _ (ts vs us ws zs hs : List ℕ) (first_at second_at : Place) (part : Bor (List ℕ)) (c : CompareRunCall ts vs us ws zs hs first_at second_at part) where
  part_by : {a : Answer (Option Parting)} → compare full ts vs us ws zs hs ≡ a
      → (part.now ≡ run_in ts vs us ws zs hs a)
      × (part.ref_ptr.0 ≡ of_tank (tank_in a) first_at.ref_ptr.0 second_at.ref_ptr.0)
      × (part.ref_ptr.1 ≡ of_tank (tank_in a) first_at.ref_ptr.1 second_at.ref_ptr.1 + start_in ts us zs hs a * 2)
  unfolding compare_run run_tank run_start
  part_by q = (
    c.ensured.0 ∙ ap (run_in ts vs us ws zs hs) q,
    c.ensured.1.0 ∙ ap (λ (a : Answer (Option Parting)). of_tank (tank_in a) first_at.ref_ptr.0 second_at.ref_ptr.0) q,
    c.ensured.1.1
        ∙ ap (λ (a : Answer (Option Parting)). of_tank (tank_in a) first_at.ref_ptr.1 second_at.ref_ptr.1 + start_in ts us zs hs a * 2) q,
  )

  empty_by_refusal : {e : Fault} → compare full ts vs us ws zs hs ≡ refused e → EmptyAtFirst first_at part
  empty_by_refusal q = let p = part_by q in record { empty = p.0; block = p.1; start = omega (arith, p.2) }

  empty_by_likeness : compare full ts vs us ws zs hs ≡ given None → EmptyAtFirst first_at part
  empty_by_likeness q = let p = part_by q in record { empty = p.0; block = p.1; start = omega (arith, p.2) }

  run_by_parting : {k : ℕ} {t : Tank} → compare full ts vs us ws zs hs ≡ given (Some (record { position = k; higher = t }))
      → RunOfTank ts vs us ws t (get_or zs k 0) (get_or hs k 0) first_at second_at part
  run_by_parting q = let p = part_by q in record { values = p.0; block = p.1; start = p.2 }

refused_as : {A : Type 0} (a : Answer A) (e : Fault) → refusal a ≡ Some e → a ≡ refused e
refused_as (given x) e q = let z : ◌≡◌ {A = ℕ} 0 1 = cc in absurd (omega arith)
refused_as (refused f) e q = ap refused (let s : f ≡ e = cc in s)

-- ---- an accepted sweep
module _ (ts vs zs hs rs : List ℕ) (n : ℕ) (rs' : List ℕ) (c : SmoothCall ts vs zs hs rs (Ok n) rs') where
  sweep_accepted : smooth_refusal full ts vs zs hs rs ≡ None
  unfolding smooth
  sweep_accepted = (given_accepted (smooth_refusal full ts vs zs hs rs) (passes ts vs fresh (moves zs hs)) n (sym c.ensured.0)).0

  sweep_fit : FitTank full ts vs zs hs
  sweep_fit = fit_by_sweep full ts vs zs hs (length rs) sweep_accepted

  sweep_rows : rs' ≡ rows ts vs zs hs (length zs)
  unfolding smooth_rows
  sweep_rows = c.ensured.1 ∙ ap (λ (f : Option Fault). accepted_or f (rows ts vs zs hs (length zs)) rs) sweep_accepted

pub pair_taken : EveryPairTaken
pair_taken = record {
  compare_ends = compare_met.met;
  compare_asks_nothing = λ κs a. tt;
  compare_run_ends = compare_run_met.met;
  compare_run_asks_nothing = λ κs a. tt;
  exported_compare_ends = exported_compare_met.met;
  exported_compare_asks_nothing = λ κs a. tt;
}

pub pairs_hold : Pairs
pairs_hold = record {
  compare_refused = λ ts vs us ws zs hs a c. rw c.ensured (meant_exactly ts vs us ws zs hs);
  exported_compare_refused = λ ts vs us ws zs hs out c out' k.
      let t = sized 3 out (compare_bounds full ts vs us ws zs hs) in
      exported_stays t c _ (exported_coded ts vs us ws zs hs out c k.ensured.0) (exported_exactly ts vs us ws zs hs out)
      (out' ≡ out) (λ e q. k.ensured.1 ∙ parting_stays t out e q);
  run_refused = λ ts vs us ws zs hs first_at second_at part c n p f.
      empty_by_refusal ts vs us ws zs hs first_at second_at part c
      (refused_as (compare full ts vs us ws zs hs) (record { number = n; place = p }) (((meant_exactly ts vs us ws zs hs).refused n p).1 f));
  run_alike = λ ts vs us ws zs hs first_at second_at part c d.
      empty_by_likeness ts vs us ws zs hs first_at second_at part d (sym c.ensured);
  run_apart = λ ts vs us ws zs hs k t first_at second_at part c d.
      run_by_parting ts vs us ws zs hs first_at second_at part d (sym c.ensured);
  exported_alike = λ ts vs us ws zs hs out c out' right d k.
      let o = opened ts vs us ws zs hs out right d.ensured in
      (k.ensured.0 ∙ ap (answered tank_detail) o, k.ensured.1 ∙ ap (λ (a : Answer (Option Bounded)). stored_parting a out) o);
  exported_apart = λ ts vs us ws zs hs out p t c out' right d k.
      let o = opened ts vs us ws zs hs out right d.ensured in
      (k.ensured.0 ∙ ap (answered tank_detail) o, k.ensured.1 ∙ ap (λ (a : Answer (Option Bounded)). stored_parting a out) o);
  parts_with_sweeps = λ ts vs us ws zs hs rs qs n m rs' qs' a v w s q c k.
      rw (c.ensured, sweep_rows ts vs zs hs rs n rs' s, sweep_rows us ws zs hs qs m qs' q)
      (parts_by_rows full (same_limits full) ts vs us ws zs hs v w
      (fit_compared full zs hs ts vs us ws (sweep_fit ts vs zs hs rs n rs' s) (sweep_fit us ws zs hs qs m qs' q)) k);
  higher_with_sweeps = λ ts vs us ws zs hs rs qs n m rs' qs' k t v w s q c.
      rw (sweep_rows ts vs zs hs rs n rs' s, sweep_rows us ws zs hs qs m qs' q)
      (higher_by_rows full (same_limits full) ts vs us ws zs hs v w
      (fit_compared full zs hs ts vs us ws (sweep_fit ts vs zs hs rs n rs' s) (sweep_fit us ws zs hs qs m qs' q)) k t (sym c.ensured));
  some_accepted = λ a c. ap refusal (c.ensured ∙ missing_is_higher.0.0);
  reflexive = λ ts vs zs hs a v c q.
      let f = both_fit full zs hs ts vs ts vs (meant_fit ts vs ts vs zs hs (rw c.ensured at q)) in
      rw c.ensured (no_higher_reflexive full (same_limits full) zs hs ts vs v f.0);
  transitive = λ ts vs us ws xs ys zs hs a b c v w y k l m n o.
      rw m.ensured
      (no_higher_transitive full (same_limits full) zs hs ts vs us ws xs ys v w y (rw k.ensured at n) (rw l.ensured at o));
  total = λ ts vs us ws zs hs a b v w k l q.
      let f = both_fit full zs hs ts vs us ws (meant_fit ts vs us ws zs hs (rw k.ensured at q)) in
      rw (k.ensured, l.ensured) (no_higher_total full (same_limits full) zs hs ts vs us ws v w f.0 f.1);
  both_ways = λ ts vs us ws zs hs a b v w k l q.
      let f = both_fit full zs hs ts vs us ws (meant_fit ts vs us ws zs hs (rw k.ensured at q)) in
      rw (k.ensured, l.ensured) (no_higher_both full (same_limits full) zs hs ts vs us ws v w f.0 f.1);
  mirrored = λ ts vs us ws zs hs a b v w k l q.
      let f = meant_fit ts vs us ws zs hs (rw k.ensured at q) in
      rw (k.ensured, l.ensured) (exchanged_answer full (same_limits full) zs hs ts vs us ws v w f).1;
}

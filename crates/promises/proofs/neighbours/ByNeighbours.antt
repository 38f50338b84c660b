-- The call's contract with the laws of its meaning: answer, half widths and rows are those of the meaning.
use Prim.Native.Nat.{ℕ, suc, ◌+◌, ◌*◌, ◌≤◌, ◌<◌}
use Rattle.std.specs.Prelude.{Result, Ok, Err}
use Rattle.meanings.specs.declared.Refusal.{Refusal}
use Rattle.meanings.specs.Calls.{answer_of}
use mathlib.Core.Path.{◌≡◌, refl, sym, ap, subst, ◌∙◌}
use mathlib.Core.Bool.{true, false, true≢false}
use mathlib.Core.Logic.{◌↔◌, ◌⊎◌, inl, inr}
use mathlib.Core.List.{List, [], ◌++◌}
use Rattle.std.specs.Prelude.{None, Some}
use native.Mathlib.Decide.{dec_le}
use native.Mathlib.Omega.{arith}
use borrow.Author.Tests.{ltb-false}
use lib.ListN.{length, get_or}
use Rattle.meanings.specs.declared.Estimate.{Estimate}
use Rattle.meanings.specs.Limits.{full, max_u16, max_bandwidth, row_width}
use Rattle.meanings.specs.Lists.{AtMost, Ordered}
use Rattle.meanings.specs.Moves.{moves}
use Rattle.meanings.specs.Reports.{Fault, Answer, given, refused, at, first_of, uneven_rows, curve_size_checks, order_checks}
use Rattle.meanings.specs.Reports as reports
use Rattle.meanings.specs.Estimate.{estimate, rows}
use Rattle.meanings.specs.Running.{fresh, passes}
use Rattle.meanings.specs.Claim.{refusal}
use Rattle.meanings.specs.Calls.{smooth, smooth_refusal, smooth_rows}
use Rattle.meanings.specs.Codes.{answered, no_detail}
use Rattle.meanings.proofs.Checks.{same_limits, none_of_both, given_accepted, or_false, bandwidth_in_range, differ_false, differ_same}
use Rattle.meanings.proofs.PublishedRows.{published_row}
use Rattle.meanings.proofs.SmoothRows.{rows_length, row_at_point}
use Rattle.laws.proofs.rows.AmongReadings.{estimate_among}
use Rattle.meanings.specs.neighbours.Neighbours.{kth_distance, neighbour_bandwidth, neighbour_bandwidths, Kth, too_few, neighbours_checks}
use Rattle.meanings.specs.neighbours.Neighbours.{neighbours_refusal, neighbours, bandwidths_then, rows_then}
use Rattle.meanings.proofs.NeighboursCases.{neighbours_cases_hold}
use Rattle.meanings.proofs.Kth.{kth_distance_is_kth, kth_is_kth_distance, kth_exists, kth_range}
use Rattle.laws.proofs.neighbours.Edges.{bandwidths_length, bandwidth_at, no_edge_back, no_bad_bandwidth, never_nine_or_ten}
use Rattle.laws.proofs.neighbours.Refusals.{NeighboursAccepted, neighbours_accepts, sweep_accepts, enough, not_too_few}
use Rattle.laws.proofs.neighbours.Refusals.{accepted_with_kth, refused_without_kth}
use Rattle.laws.proofs.neighbours.Rows.{row_weighs, row_fits, row_value, row_not_missing, same_answer, same_bandwidths_then, same_rows_then}
use Rattle.questions.proofs.neighbours.neighbours.Met as neighbours_met
use Rattle.exports.proofs.neighbours.tankcurve_neighbours.Met as exported_met
use Rattle.text.specs.Table.{stored_row}
use Rattle.promises.specs.Calls.{SmoothCall, ExportedSmooth}
use Rattle.promises.specs.conditions.Conditions.{no_more, NoFault, FirstFault, RefusedExactly, AtZero, OutOfRange, EdgeFallsAt, code_refusal}
use Rattle.promises.proofs.conditions.CallChecks.{Decides, none_left, curve_size_finds, order_finds}
use Rattle.promises.proofs.conditions.FirstFaults.{Finds, FindAll, at_finds, none_or_first, refused_exactly}
use Rattle.promises.proofs.conditions.Refusals.{decided_exactly, decided_stays, exported_refusal, exported_stays, first_numbered, accepted_given, code_reads}
use Rattle.promises.proofs.Rows.{five_are_row}
use Rattle.promises.specs.neighbours.ByNeighbours.{list_conditions, neighbours_conditions, FilledIn, EveryNeighboursTaken, ByNeighbours}

-- ---- what the checks find
module _ (ts vs zs hs : List ℕ) (n : ℕ) where
  rows_decide : Decides (uneven_rows row_width n (length zs)) (¬ (n ≡ row_width * length zs))
  rows_decide = record {
    holds = λ e q. let f = differ_same n (row_width * length zs) q in let z : true ≡ false = sym e ∙ f in absurd (true≢false z);
    fails = λ e k. k (differ_false n (row_width * length zs) e);
  }

  too_few_finds : (k : ℕ) → Finds (reports.check 14 (at 0 (too_few (length ts) k))) 14 (AtZero ((k ≡ 0) ⊎ (length ts < k)))
  too_few_finds k = at_finds 14 (too_few (length ts) k) ((k ≡ 0) ⊎ (length ts < k)) holds fails
    where
      holds : too_few (length ts) k ≡ true → (k ≡ 0) ⊎ (length ts < k)
      holds e = by (dec_le k 0) (dec_le k (length ts))
        where
          by : Dec (k ≤ 0) → Dec (k ≤ length ts) → (k ≡ 0) ⊎ (length ts < k)
          by (yes z) l = inl (omega arith)
          by (no z) (no l) = inr (omega arith)
          by (no z) (yes l) = absurd (true≢false (sym e ∙ not_too_few (length ts) k (omega arith) l))

      fails : too_few (length ts) k ≡ false → ¬ ((k ≡ 0) ⊎ (length ts < k))
      fails e c = by (enough (length ts) k e) c
        where
          by : (1 ≤ k) × (k ≤ length ts) → (k ≡ 0) ⊎ (length ts < k) → ⊥
          by r (inl z) = omega (arith, r.0)
          by r (inr l) = omega (arith, r.1)

  finds : (k : ℕ) → FindAll (neighbours_checks full ts vs zs k hs n) (neighbours_conditions ts vs zs k hs n)
  finds k =
      curve_size_finds full ts vs zs hs (uneven_rows row_width n (length zs)) (n ≡ row_width * length zs) rows_decide
      (order_finds ts zs (record { each = (too_few_finds k, tt) }))

  list_finds : FindAll (curve_size_checks full ts vs zs hs (uneven_rows row_width n (length zs)) ++ order_checks ts zs ++ [])
      (list_conditions ts vs zs hs n no_more)
  list_finds =
      curve_size_finds full ts vs zs hs (uneven_rows row_width n (length zs)) (n ≡ row_width * length zs) rows_decide
      (order_finds ts zs none_left)

  -- lists that pass find nothing
  pass : NoFault (list_conditions ts vs zs hs n no_more)
      → (first_of (curve_size_checks full ts vs zs hs (uneven_rows row_width n (length zs))) ≡ None) × (first_of (order_checks ts zs) ≡ None)
  pass f =
      let r = (refused_exactly list_finds).accepted.1 (λ m p q. none_or_first (list_conditions ts vs zs hs n no_more) m p f q) in
      none_of_both (curve_size_checks full ts vs zs hs (uneven_rows row_width n (length zs))) (order_checks ts zs) r

refused_opens : {A : Type 0} (t : Answer A) (e : Fault) → refusal t ≡ Some e → t ≡ refused e
refused_opens (given a) e q = let z : ◌≡◌ {A = ℕ} 0 1 = cc in absurd (omega arith)
refused_opens (refused f) e q = ap refused (let s : f ≡ e = cc in s)

-- ---- half widths and edges, in the words of the conditions
module _ (ts zs : List ℕ) (k : ℕ) (low : 1 ≤ k) (high : k ≤ length ts) where
  abbrev each : List ℕ
  each = neighbour_bandwidths ts zs k

  in_range : AtMost max_u16 ts → AtMost max_u16 zs → (p : ℕ) → p < length zs → ¬ OutOfRange max_bandwidth (get_or each p 0)
  in_range minutes points p l o = by (bandwidth_in_range (get_or each p 0) (no_bad_bandwidth ts zs k low high minutes points p l)) o
    where
      by : (0 < get_or each p 0) × (get_or each p 0 ≤ max_bandwidth) → OutOfRange max_bandwidth (get_or each p 0) → ⊥
      by r (inl z) = omega (arith, r.0)
      by r (inr m) = omega (arith, r.1)

  edges : Ordered zs → (p : ℕ) → ¬ EdgeFallsAt zs each p
  edges o p f = by f.falls
    where
      here : suc f.before < length zs
      here = omega (arith, f.next, f.within)

      rise : (get_or zs f.before 0 + get_or each (suc f.before) 0 ≤ get_or zs (suc f.before) 0 + get_or each f.before 0)
          × (get_or zs f.before 0 + get_or each f.before 0 ≤ get_or zs (suc f.before) 0 + get_or each (suc f.before) 0)
      rise =
          let q = or_false _ _ (no_edge_back ts zs k low high o (suc f.before) here) in
          (ltb-false _ _ q.0, ltb-false _ _ q.1)

      by : (get_or zs p 0 + get_or each f.before 0 < get_or zs f.before 0 + get_or each p 0)
          ⊎ (get_or zs p 0 + get_or each p 0 < get_or zs f.before 0 + get_or each f.before 0) → ⊥
      by (inl l) = let e = rw f.next at l in omega (arith, rise.0)
      by (inr l) = let e = rw f.next at l in omega (arith, rise.1)

module _ (ts vs zs : List ℕ) (k : ℕ) (hs rs : List ℕ) where
  -- ---- refusals
  exactly : RefusedExactly (refusal (neighbours full ts vs zs k hs rs)) (FirstFault (neighbours_conditions ts vs zs k hs (length rs)))
  unfolding neighbours
  exactly = decided_exactly tt (finds ts vs zs hs (length rs) k) refl

  coded : (c : ℕ) → c ≡ answered no_detail (neighbours full ts vs zs k hs rs) → code_refusal c ≡ refusal (neighbours full ts vs zs k hs rs)
  coded c q =
      exported_refusal no_detail (neighbours full ts vs zs k hs rs) c _ q (first_numbered (neighbours_conditions ts vs zs k hs (length rs)) refl) exactly

  stay : (hs' rs' : List ℕ) → hs' ≡ bandwidths_then full ts vs zs k hs rs → rs' ≡ rows_then full ts vs zs k hs rs → (e : Fault)
      → refusal (neighbours full ts vs zs k hs rs) ≡ Some e → (hs' ≡ hs) × (rs' ≡ rs)
  unfolding neighbours bandwidths_then rows_then
  stay hs' rs' h r e q =
      let f = finds ts vs zs hs (length rs) k in (
        decided_stays {t = neighbours full ts vs zs k hs rs} tt f refl (neighbour_bandwidths ts zs k) hs hs' h e q,
        decided_stays {t = neighbours full ts vs zs k hs rs} tt f refl (rows ts vs zs (neighbour_bandwidths ts zs k) (length zs)) rs rs' r e q,
      )

  -- by the second reading; whether there is a k-th does not hang on the mark
  by_kth : NoFault (list_conditions ts vs zs hs (length rs) no_more) → (z : ℕ)
      → ((refusal (neighbours full ts vs zs k hs rs) ≡ Some (record { number = 14; place = 0 })) ↔ ((d : ℕ) → ¬ Kth ts z k d))
      × ((refusal (neighbours full ts vs zs k hs rs) ≡ None) ↔ ((d : ℕ) × Kth ts z k d))
  by_kth f z = (
    (λ q d p. both q (given_with ((kth_exists ts z k).0 (d, p))), λ g. refused_with (λ r. let e = (kth_exists ts z k).1 r in g e.0 e.1)),
    (λ q. (kth_exists ts z k).1 (range q), λ e. given_with ((kth_exists ts z k).0 e)),
  )
    where
      p : (first_of (curve_size_checks full ts vs zs hs (uneven_rows row_width (length rs) (length zs))) ≡ None) × (first_of (order_checks ts zs) ≡ None)
      p = pass ts vs zs hs (length rs) f

      given_with : (1 ≤ k) × (k ≤ length ts) → refusal (neighbours full ts vs zs k hs rs) ≡ None
      given_with r = ap refusal (accepted_with_kth full ts vs zs k hs rs p.0 p.1 (λ i l. (kth_exists ts (get_or zs i 0) k).1 r))

      refused_with : ¬ ((1 ≤ k) × (k ≤ length ts)) → refusal (neighbours full ts vs zs k hs rs) ≡ Some (record { number = 14; place = 0 })
      refused_with g = ap refusal (refused_without_kth full ts vs zs k hs rs p.0 p.1 0 (λ e. g ((kth_exists ts (get_or zs 0 0) k).0 e)))

      both : {e : Fault} → refusal (neighbours full ts vs zs k hs rs) ≡ Some e → refusal (neighbours full ts vs zs k hs rs) ≡ None → ⊥
      both q r = let z : ◌≡◌ {A = ℕ} 0 1 = cc in omega arith

      range : refusal (neighbours full ts vs zs k hs rs) ≡ None → (1 ≤ k) × (k ≤ length ts)
      range q = by (dec_le 1 k) (dec_le k (length ts))
        where
          by : Dec (1 ≤ k) → Dec (k ≤ length ts) → (1 ≤ k) × (k ≤ length ts)
          by (yes a) (yes b) = (a, b)
          by (no a) b = absurd (both (refused_with (λ r. a r.0)) q)
          by (yes a) (no b) = absurd (both (refused_with (λ r. b r.1)) q)

  -- ---- what an accepted call leaves
  module _ (minutes : AtMost max_u16 ts) (values : AtMost max_u16 vs) (points : AtMost max_u16 zs) (q : neighbours full ts vs zs k hs rs ≡ given tt) where
    unrefused : neighbours_refusal full ts vs zs k hs rs ≡ None
    unfolding neighbours
    unrefused = (given_accepted (neighbours_refusal full ts vs zs k hs rs) tt tt q).0

    accepted : NeighboursAccepted ts vs zs k hs (length rs)
    accepted = neighbours_accepts full ts vs zs k hs (same_limits full) (length rs) unrefused

    abbrev nb : List ℕ
    nb = neighbour_bandwidths ts zs k

    bandwidths_are : bandwidths_then full ts vs zs k hs rs ≡ nb
    unfolding bandwidths_then
    bandwidths_are = rw unrefused

    rows_are : rows_then full ts vs zs k hs rs ≡ rows ts vs zs nb (length zs)
    unfolding rows_then
    rows_are = rw unrefused

    row_is : (i : ℕ) → i < length zs → stored_row (rows ts vs zs nb (length zs)) i ≡ estimate ts vs (get_or zs i 0) (get_or nb i 0)
    row_is i l = five_are_row (rows ts vs zs nb (length zs)) i (estimate ts vs (get_or zs i 0) (get_or nb i 0)) (row_at_point ts vs zs nb (length zs) i l)

    row_of : (i : ℕ) → i < length zs → stored_row (rows ts vs zs nb (length zs)) i ≡ estimate ts vs (get_or zs i 0) (neighbour_bandwidth ts (get_or zs i 0) k)
    row_of i l = row_is i l ∙ ap (estimate ts vs (get_or zs i 0)) (bandwidth_at ts zs k i l)

    -- a sweep with room for its rows
    module _ (rs₀ : List ℕ) (fits : length rs₀ ≡ row_width * length zs) where
      free : smooth_refusal full ts vs zs nb rs₀ ≡ None
      free =
          ap (λ (n : ℕ). first_of (reports.smooth_checks full ts vs zs nb n)) (fits ∙ sym accepted.rows_fit)
          ∙ sweep_accepts full ts vs zs k hs rs minutes points unrefused

      swept : smooth full ts vs zs nb rs₀ ≡ given (passes ts vs fresh (moves zs nb))
      unfolding smooth
      swept = rw free refl

      rows_swept : smooth_rows full ts vs zs nb rs₀ ≡ rows ts vs zs nb (length zs)
      unfolding smooth_rows
      rows_swept = rw free refl

    same_sweep : (rs₀ : List ℕ) (b : Result ℕ Refusal) (rs'' : List ℕ) → length rs₀ ≡ row_width * length zs → SmoothCall ts vs zs nb rs₀ b rs''
        → ((n : ℕ) × (b ≡ Ok n)) × (rs'' ≡ rows ts vs zs nb (length zs))
    same_sweep rs₀ b rs'' fits c = (opened b (c.ensured.0 ∙ swept rs₀ fits), c.ensured.1 ∙ rows_swept rs₀ fits)
      where
        opened : (b : Result ℕ Refusal) → answer_of b ≡ given (passes ts vs fresh (moves zs nb)) → (n : ℕ) × (b ≡ Ok n)
        opened (Ok n) e = (n, refl)
        opened (Err r) e = let z : ◌≡◌ {A = ℕ} 0 1 = cc in absurd (omega arith)

    same_exported_sweep : (rs₀ : List ℕ) (c : ℕ) (rs'' : List ℕ) → length rs₀ ≡ row_width * length zs → ExportedSmooth ts vs zs nb rs₀ c rs''
        → (code_refusal c ≡ None) × (rs'' ≡ rows ts vs zs nb (length zs))
    same_exported_sweep rs₀ c rs'' fits x = (
      ap code_refusal (x.ensured.0 ∙ ap (answered (λ n. n)) (swept rs₀ fits))
          ∙ code_reads (λ n. n) (given (passes ts vs fresh (moves zs nb))) (λ e q. let z : ◌≡◌ {A = ℕ} 0 1 = cc in absurd (omega arith)),
      x.ensured.1 ∙ rows_swept rs₀ fits,
    )

    leaves : FilledIn ts vs zs k nb (rows ts vs zs nb (length zs))
    leaves = record {
      bandwidths_length = bandwidths_length ts zs k;
      some_kth = λ i l. (kth_distance ts (get_or zs i 0) k, (kth_distance_is_kth ts (get_or zs i 0) k accepted.low accepted.high, bandwidth_at ts zs k i l));
      each_kth = λ i l d p. bandwidth_at ts zs k i l ∙ ap (λ (n : ℕ). n + 1) (sym (kth_is_kth_distance ts (get_or zs i 0) k d p));
      rows_length = rows_length ts vs zs nb (length zs);
      published = λ i l.
          rw (row_is i l, bandwidth_at ts zs k i l)
          (published_row ts vs (get_or zs i 0) (neighbour_bandwidth ts (get_or zs i 0) k) values
          (row_fits ts vs zs k hs (length rs) accepted minutes values (get_or zs i 0) (points i l)));
      weighs = λ i l.
          subst (λ (e : Estimate). 0 < e.weight) (sym (row_of i l))
          (row_weighs ts vs zs k hs (length rs) accepted minutes values (get_or zs i 0) (points i l));
      present = λ i l.
          subst (λ (e : Estimate). e.value ≤ max_u16) (sym (row_of i l))
          (row_value ts vs zs k hs (length rs) accepted minutes values (get_or zs i 0) (points i l));
      among = λ i l.
          rw (row_is i l, bandwidth_at ts zs k i l)
          (estimate_among ts vs (get_or zs i 0) (neighbour_bandwidth ts (get_or zs i 0) k) accepted.ordered
          (row_not_missing ts vs zs k hs (length rs) accepted minutes values (get_or zs i 0) (points i l)));
      in_range = λ p l. in_range ts zs k accepted.low accepted.high minutes points p (let e = bandwidths_length ts zs k in omega arith);
      no_edge_back = edges ts zs k accepted.low accepted.high accepted.ordered_points;
      sweep_same = same_sweep;
      exported_sweep_same = same_exported_sweep;
    }

pub neighbours_taken : EveryNeighboursTaken
neighbours_taken = record {
  ends = neighbours_met.met;
  asks_nothing = λ κs a. tt;
  exported_ends = exported_met.met;
  exported_asks_nothing = λ κs a. tt;
}

pub by_neighbours : ByNeighbours
by_neighbours = record {
  refused = λ ts vs zs k hs rs a hs' rs' c. record {
    exactly = rw c.ensured.0 (exactly ts vs zs k hs rs);
    stays = λ e q. stay ts vs zs k hs rs hs' rs' c.ensured.1.0 c.ensured.1.1 e (ap refusal (sym c.ensured.0) ∙ q);
  };
  exported_refused = λ ts vs zs k hs rs c hs' rs' x.
      exported_stays (neighbours full ts vs zs k hs rs) c _ (coded ts vs zs k hs rs c x.ensured.0) (exactly ts vs zs k hs rs)
      ((hs' ≡ hs) × (rs' ≡ rs)) (λ e q. stay ts vs zs k hs rs hs' rs' x.ensured.1.0 x.ensured.1.1 e q);
  refused_without_kth = λ ts vs zs k hs rs a hs' rs' c f z. rw c.ensured.0 (by_kth ts vs zs k hs rs f z);
  exported_refused_without_kth = λ ts vs zs k hs rs c hs' rs' x f z.
      rw (coded ts vs zs k hs rs c x.ensured.0) (by_kth ts vs zs k hs rs f z);
  none_without_readings = λ ts e z k d p. let r = kth_range ts z k d p in omega (arith, r.0, r.1);
  filled_in = λ ts vs zs k hs rs hs' rs' minutes values points c.
      let q = sym c.ensured.0 in
      rw (c.ensured.1.0, c.ensured.1.1, bandwidths_are ts vs zs k hs rs minutes values points q, rows_are ts vs zs k hs rs minutes values points q)
      (leaves ts vs zs k hs rs minutes values points q);
  exported_filled_in = λ ts vs zs k hs rs c hs' rs' minutes values points x e.
      let g = accepted_given (neighbours full ts vs zs k hs rs) (sym (coded ts vs zs k hs rs c x.ensured.0) ∙ e) in
      let q : neighbours full ts vs zs k hs rs ≡ given tt = g.1 in (
        x.ensured.0 ∙ ap (answered no_detail) q,
        rw (x.ensured.1.0, x.ensured.1.1, bandwidths_are ts vs zs k hs rs minutes values points q, rows_are ts vs zs k hs rs minutes values points q)
            (leaves ts vs zs k hs rs minutes values points q),
      );
  in_range = λ ts zs k minutes points low high. in_range ts zs k low high minutes points;
  no_edge_back = edges;
  never_nine_or_ten = λ ts vs zs k rs b rs' minutes points low high o c e q.
      never_nine_or_ten full ts vs zs rs k minutes points low high o e (sym c.ensured.0 ∙ refused_opens (answer_of b) e q);
  alike = λ ts vs vs' zs k hs rs a b hs₁ rs₁ hs₂ rs₂ r c d. (
    c.ensured.0 ∙ same_answer ts vs vs' r full zs k hs rs ∙ sym d.ensured.0,
    c.ensured.1.0 ∙ same_bandwidths_then ts vs vs' r full zs k hs rs ∙ sym d.ensured.1.0,
    c.ensured.1.1 ∙ same_rows_then ts vs vs' r full (same_limits full) zs k hs rs ∙ sym d.ensured.1.1,
  );
  exported_alike = λ ts vs vs' zs k hs rs c d hs₁ rs₁ hs₂ rs₂ r x y. (
    x.ensured.0 ∙ ap (answered no_detail) (same_answer ts vs vs' r full zs k hs rs) ∙ sym y.ensured.0,
    x.ensured.1.0 ∙ same_bandwidths_then ts vs vs' r full zs k hs rs ∙ sym y.ensured.1.0,
    x.ensured.1.1 ∙ same_rows_then ts vs vs' r full (same_limits full) zs k hs rs ∙ sym y.ensured.1.1,
  );
  cases = neighbours_cases_hold;
}

-- Demand 3 about the meanings. By induction over the steps the record is always that of the last accepted step's window, and taken and let
-- go hold the positions from 0 up to its right and its left: a step from one window to a later one moves both alike.
use Prim.Native.Nat.{ℕ, ◌+◌, ◌-◌, ◌≤◌, ◌<◌, zero-le}
use mathlib.Core.Path.{◌≡◌, refl, sym, ap, ◌∙◌}
use mathlib.Core.Logic.Iff
use mathlib.Core.Logic.{◌↔◌, ◌⊎◌, inl, inr}
use mathlib.Core.Bool.{Bool, true, false, not, ◌&&◌, and-eq-true_iff}
use mathlib.Core.List.{List, [], ◌∷◌, ◌++◌, append_assoc, append-nil, map}
use Rattle.std.specs.Prelude.{Option, None, Some}
use native.Mathlib.Decide.{dec_lt}
use native.Mathlib.Omega.{arith}
use borrow.Author.Tests.{ltb-true, ltb-false, lt-ltb, leb-true, le-leb}
use lib.Dec.{ltb}
use lib.ListN.{length, get_or, take}
use Rattle.meanings.specs.declared.RunningSums.{RunningSums}
use Rattle.meanings.specs.Lists.{lowest, Ordered, AtMost}
use Rattle.meanings.specs.Limits.{full, max_u16}
use Rattle.meanings.specs.Moves.{Move, moves}
use Rattle.meanings.specs.Reports.{Fault, unless, accepted_or, check, at, first_of, bad_bandwidth, uneven_samples, log_checks}
use Rattle.meanings.specs.Estimate.{left_of, right_of}
use Rattle.meanings.specs.Running.{power_sum, six, fresh, moved, advance, next_record, after_step, after}
use Rattle.meanings.specs.EventLog.{EventLog, listed, insertions, with_insertions, evictions}
use Rattle.meanings.specs.EventLog.{log_refusal, log_step, log_after, insertion_count, eviction_count}
use Rattle.meanings.specs.Claim.{accepted_next, accepted_after, NotBelow, last_accepted, NoEdgeBackAfter, NoEdgeBack, between}
use Rattle.meanings.specs.Claim.{window_direct, refusal, record_after, log_after_steps, StepHolds, Demand3}
use Rattle.meanings.proofs.Checks.{none_holds, at_none, differ_false, no_decrease_ordered, advance_refused_as_logged}
use Rattle.meanings.proofs.Passes.{Within, Onward, fresh_within, after_onward, later_onward}
use Rattle.meanings.proofs.Positions.{length_below, between_joins, already_listed, not_yet_listed, positions_between}
use Rattle.meanings.proofs.Published.{range_sum_is_window_sum}
use Rattle.meanings.proofs.Search.{lowest_none}
use Rattle.meanings.proofs.Steps.{Small, six_agree, at_window, moved_lands}
use Rattle.meanings.proofs.Window.{count_grows, left_at_most_right, right_at_most_length, before_left, before_right}

-- left and right of the row of a step's mark
abbrev left_at : List ℕ → Move → ℕ
left_at ts m = left_of ts m.point m.bandwidth

abbrev right_at : List ℕ → Move → ℕ
right_at ts m = right_of ts m.point m.bandwidth

-- edges that do not fall pass no fewer readings
left_rises : (ts : List ℕ) (o m : Move) → NotBelow (Some o) m → left_at ts o ≤ left_at ts m
unfolding left_of
left_rises ts o m e = count_grows _ _ (λ t l. lt-ltb (t + m.bandwidth) m.point (omega (arith, ltb-true (t + o.bandwidth) o.point l))) ts

right_rises : (ts : List ℕ) (o m : Move) → NotBelow (Some o) m → right_at ts o ≤ right_at ts m
unfolding right_of
right_rises ts o m e = count_grows _ _ (λ t l. le-leb t (m.point + m.bandwidth) (omega (arith, leb-true t (o.point + o.bandwidth) l))) ts

-- the book that has taken and let go what the record's edges have passed
abbrev pub log_of : RunningSums → EventLog
log_of r = record { inserted = between 0 r.right; evicted = between 0 r.left }

-- the book after an accepted step
abbrev next_log : List ℕ → EventLog → Move → EventLog
next_log ts b m = record { inserted = with_insertions ts b m; evicted = b.evicted ++ evictions ts b m }

-- an accepted step takes and lets go what its edges pass on the way to the row's right and left
module _ (ts : List ℕ) (ordered : Ordered ts) (m : Move) (r : RunningSums) (l : r.right ≤ right_at ts m) where
  takes_up_to : with_insertions ts (log_of r) m ≡ between 0 (right_at ts m)
  takes_up_to = rw insertions_between (between_joins 0 r.right _ zero-le l)
    where
      insertions_between : insertions ts (log_of r) m ≡ between r.right (right_at ts m)
      insertions_between =
          positions_between _ r.right _ (length ts) (right_at_most_length ts _ _)
          (λ i short. Iff.trans (and-eq-true_iff (not (listed i (between 0 r.right))) _) (
            λ t. ((not_yet_listed i r.right).0 t.0, (before_right ts _ _ ordered i short).1 (leb-true _ _ t.1)),
            λ w. ((not_yet_listed i r.right).1 w.0, le-leb _ _ ((before_right ts _ _ ordered i short).0 w.1)),
          ))

  lets_go_up_to : r.left ≤ left_at ts m → between 0 r.left ++ evictions ts (log_of r) m ≡ between 0 (left_at ts m)
  lets_go_up_to k = rw evictions_between (between_joins 0 r.left _ zero-le k)
    where
      both : (i : ℕ) → ((listed i (between 0 (right_at ts m)) && not (listed i (between 0 r.left))) ≡ true) ↔ ((i < right_at ts m) × (r.left ≤ i))
      both i = Iff.trans (and-eq-true_iff _ _) (
        λ t. ((already_listed i _).0 t.0, (not_yet_listed i r.left).0 t.1),
        λ w. ((already_listed i _).1 w.0, (not_yet_listed i r.left).1 w.1),
      )

      evictions_between : evictions ts (log_of r) m ≡ between r.left (left_at ts m)
      evictions_between =
          let n = left_at_most_right ts m.point m.bandwidth in
          let e = right_at_most_length ts m.point m.bandwidth in
          rw takes_up_to
          (positions_between _ r.left _ (length ts) (omega arith)
          (λ i short. Iff.trans (and-eq-true_iff _ _) (
            λ t. (((both i).0 t.0).1, (before_left ts _ _ ordered i short).1 (ltb-true _ _ t.1)),
            λ w. ((both i).1 (omega arith, w.0), lt-ltb _ _ ((before_left ts _ _ ordered i short).0 w.1)),
          )))

pub refusal_unless : {A : Type 0} (f : Option Fault) (a : A) → refusal (unless f a) ≡ f
refusal_unless None a = refl
refusal_unless (Some e) a = refl

-- the record of the last accepted step's window; before any it is fresh
abbrev pub record_at : List ℕ → List ℕ → Option Move → RunningSums
record_at ts vs None = fresh
record_at ts vs (Some m) = at_window ts vs m.point m.bandwidth

module _ (ts vs : List ℕ) where
  record_at_within : (o : Option Move) → Within ts (record_at ts vs o)
  record_at_within None = omega arith
  record_at_within (Some m) = record { edges = left_at_most_right ts _ _; inside = right_at_most_length ts _ _ }

  record_at_onward : (o : Option Move) (m : Move) → NotBelow o m → Onward ts (record_at ts vs o) (record_at ts vs (Some m))
  record_at_onward None m e = record { left_stays_or_rises = zero-le; right_stays_or_rises = zero-le; within = record_at_within (Some m) }
  record_at_onward (Some o) m e = record {
    left_stays_or_rises = left_rises ts o m e;
    right_stays_or_rises = right_rises ts o m e;
    within = record_at_within (Some m);
  }

  sums_are_over_run : (o : Option Move)
      → (record_at ts vs o).sums ≡ six (power_sum ts vs (record_at ts vs o).left ((record_at ts vs o).right - (record_at ts vs o).left))
  sums_are_over_run None = refl
  sums_are_over_run (Some m) = refl

  passes_are_edges : (o : Option Move) → (record_at ts vs o).passes ≡ (record_at ts vs o).right + (record_at ts vs o).left
  passes_are_edges None = refl
  passes_are_edges (Some m) = refl

  pub sums_are_window : Ordered ts → (o : Option Move) → (record_at ts vs o).sums ≡ window_direct ts vs o
  sums_are_window ordered None = refl
  sums_are_window ordered (Some m) = six_agree _ _ (λ p q a b. sym (range_sum_is_window_sum p q ts vs m.point m.bandwidth ordered))

  -- a front of a list with no edge back has none
  front_no_edge_back : (o : Option Move) (ms ns : List Move) → NoEdgeBackAfter ts vs o (ms ++ ns) → NoEdgeBackAfter ts vs o ms
  front_no_edge_back o [] ns e = tt
  front_no_edge_back o (m ∷ ms) ns e = (e.0, front_no_edge_back (accepted_next ts vs o m) ms ns e.1)

-- a step from the window of the last accepted step leads to the window of the last accepted step with it
module _ (ts vs : List ℕ) (minutes : AtMost max_u16 ts) (values : AtMost max_u16 vs) (ordered : Ordered ts) where
  accepted_small : (m : Move) → log_refusal ts vs m ≡ None → Small ts vs
  accepted_small m a =
      let n = none_holds (log_checks full ts vs m.bandwidth) a in
      record {
        even = differ_false (length ts) (length vs) (at_none 0 _ n.0);
        few = ltb-false full.samples (length ts) (at_none 0 _ n.1.0);
        minutes = minutes;
        values = values;
      }

  record_steps : (o : Option Move) (m : Move) → (log_refusal ts vs m ≡ None → NotBelow o m)
      → after_step ts vs (record_at ts vs o) m ≡ record_at ts vs (accepted_next ts vs o m)
  unfolding advance
  record_steps o m e =
      let w = record_at_within ts vs o in
      rw (advance_refused_as_logged full ts vs (record_at ts vs o).left (record_at ts vs o).right m.bandwidth w.edges w.inside)
      (by (log_refusal ts vs m) refl)
    where
      by : (f : Option Fault) → log_refusal ts vs m ≡ f
          → next_record (record_at ts vs o) (unless f (moved ts vs (record_at ts vs o) m.point m.bandwidth)) ≡ record_at ts vs (accepted_or f (Some m) o)
      by None q =
          let w = record_at_onward ts vs o m (e q) in
          moved_lands ts vs (accepted_small m q) ordered m.point m.bandwidth (record_at ts vs o) (record_at_within ts vs o).edges
          w.right_stays_or_rises w.left_stays_or_rises (sums_are_over_run ts vs o) (passes_are_edges ts vs o)
      by (Some g) q = refl

  log_steps : (o : Option Move) (m : Move) → (log_refusal ts vs m ≡ None → NotBelow o m)
      → log_step ts vs (log_of (record_at ts vs o)) m ≡ log_of (record_at ts vs (accepted_next ts vs o m))
  log_steps o m e = by (log_refusal ts vs m) refl
    where
      by : (f : Option Fault) → log_refusal ts vs m ≡ f
          → accepted_or f (next_log ts (log_of (record_at ts vs o)) m) (log_of (record_at ts vs o)) ≡ log_of (record_at ts vs (accepted_or f (Some m) o))
      by None q =
          let w = record_at_onward ts vs o m (e q) in
          λ i. record {
            inserted = takes_up_to ts ordered m (record_at ts vs o) w.right_stays_or_rises i;
            evicted = lets_go_up_to ts ordered m (record_at ts vs o) w.right_stays_or_rises w.left_stays_or_rises i;
          }
      by (Some g) q = refl

  pub record_stands : (o : Option Move) (ms : List Move) → NoEdgeBackAfter ts vs o ms
      → after ts vs (record_at ts vs o) ms ≡ record_at ts vs (accepted_after ts vs o ms)
  record_stands o [] e = refl
  record_stands o (m ∷ ms) e = rw (record_steps o m e.0) (record_stands (accepted_next ts vs o m) ms e.1)

  log_stands : (o : Option Move) (ms : List Move) → NoEdgeBackAfter ts vs o ms
      → log_after ts vs (log_of (record_at ts vs o)) ms ≡ log_of (record_at ts vs (accepted_after ts vs o ms))
  log_stands o [] e = refl
  log_stands o (m ∷ ms) e = rw (log_steps o m e.0) (log_stands (accepted_next ts vs o m) ms e.1)

  -- from fresh: the window of the list's last accepted step, and a book of what the record's edges have passed
  pub record_follows : (ms : List Move) → NoEdgeBack ts vs ms → record_after ts vs ms ≡ record_at ts vs (last_accepted ts vs ms)
  record_follows ms e = record_stands None ms e

  pub log_follows : (ms : List Move) → NoEdgeBack ts vs ms → log_after_steps ts vs ms ≡ log_of (record_after ts vs ms)
  log_follows ms e = log_stands None ms e ∙ ap log_of (sym (record_follows ms e))

  pub right_counts_insertions : (ms : List Move) → NoEdgeBack ts vs ms → (record_after ts vs ms).right ≡ insertion_count (log_after_steps ts vs ms)
  right_counts_insertions ms e = rw (log_follows ms e) (sym (length_below _))

  pub left_counts_evictions : (ms : List Move) → NoEdgeBack ts vs ms → (record_after ts vs ms).left ≡ eviction_count (log_after_steps ts vs ms)
  left_counts_evictions ms e = rw (log_follows ms e) (sym (length_below _))

  step_holds : (before : List Move) (m : Move) → NoEdgeBack ts vs (before ++ m ∷ [])
      → StepHolds ts vs before m (refusal (advance ts vs (record_after ts vs before) m.point m.bandwidth)) (record_after ts vs before)
      (record_after ts vs (before ++ m ∷ []))
  unfolding advance
  step_holds before m e =
      let w = (after_onward ts vs fresh before (fresh_within ts)).within in
      let o = later_onward ts vs before (m ∷ []) in
      let b = log_follows before (front_no_edge_back ts vs None before (m ∷ []) e) in
      let b' = log_follows (before ++ m ∷ []) e in
      record {
        refused_alike = refusal_unless _ _ ∙ advance_refused_as_logged full ts vs _ _ m.bandwidth w.edges w.inside;
        right_counts_insertions = right_counts_insertions (before ++ m ∷ []) e;
        left_counts_evictions = left_counts_evictions (before ++ m ∷ []) e;
        inserts = rw (b, b') (sym (between_joins 0 _ _ zero-le o.right_stays_or_rises));
        evicts = rw (b, b') (sym (between_joins 0 _ _ zero-le o.left_stays_or_rises));
        sums_are_direct = rw (record_follows (before ++ m ∷ []) e) (sums_are_window ts vs ordered (last_accepted ts vs (before ++ m ∷ [])));
      }

-- demand 3
pub demand_3 : Demand3
demand_3 ts vs ms minutes values ordered e = record {
  record_at_first = refl;
  log_at_first = refl;
  each = λ before rest m q.
      step_holds ts vs minutes values ordered before m
      (front_no_edge_back ts vs None (before ++ m ∷ []) rest (rw (append_assoc, ← q) e));
}

-- what call and book are refused with is 8, 6 or 9 at place 0, so never 11
pub refused_with_8_6_or_9 : (ts vs : List ℕ) (m : Move) (e : Fault) → log_refusal ts vs m ≡ Some e
    → ((e.number ≡ 8) ⊎ (e.number ≡ 6) ⊎ (e.number ≡ 9)) × (e.place ≡ 0)
refused_with_8_6_or_9 ts vs m e = by (uneven_samples ts vs) (ltb full.samples (length ts)) (bad_bandwidth m.bandwidth)
  where
    known : (n : ℕ) → ((n ≡ 8) ⊎ (n ≡ 6) ⊎ (n ≡ 9)) → Some (record { number = n; place = 0 }) ≡ Some e
        → ((e.number ≡ 8) ⊎ (e.number ≡ 6) ⊎ (e.number ≡ 9)) × (e.place ≡ 0)
    known n o q = let r : record { number = n; place = 0 } ≡ e = cc in rw (← r) (o, refl)

    by : (a b c : Bool) → first_of (check 8 (at 0 a) ∷ check 6 (at 0 b) ∷ check 9 (at 0 c) ∷ []) ≡ Some e
        → ((e.number ≡ 8) ⊎ (e.number ≡ 6) ⊎ (e.number ≡ 9)) × (e.place ≡ 0)
    by true b c q = known 8 (inl refl) q
    by false true c q = known 6 (inr (inl refl)) q
    by false false true q = known 9 (inr (inr refl)) q
    by false false false q = let z : ◌≡◌ {A = ℕ} 0 1 = cc in absurd (omega arith)

-- position k is taken in, or let go, at the step m after the steps before
abbrev pub InsertedAt : List ℕ → List ℕ → List Move → Move → ℕ → Type 0
InsertedAt ts vs before m k = ((record_after ts vs before).right ≤ k) × (k < (record_after ts vs (before ++ m ∷ [])).right)

abbrev pub EvictedAt : List ℕ → List ℕ → List Move → Move → ℕ → Type 0
EvictedAt ts vs before m k = ((record_after ts vs before).left ≤ k) × (k < (record_after ts vs (before ++ m ∷ [])).left)

-- at one of the steps
pub record Inserted (ts vs : List ℕ) (ms : List Move) (k : ℕ) : Type 0 where
  pub before : List Move
  pub step : Move
  pub rest : List Move
  pub split : ms ≡ before ++ step ∷ rest
  pub taken : InsertedAt ts vs before step k

module _ (ts vs : List ℕ) where
  -- not at two steps, m and a later n
  pub inserted_once : (before mid : List Move) (m n : Move) (k : ℕ) → InsertedAt ts vs before m k → ¬ InsertedAt ts vs (before ++ m ∷ mid) n k
  inserted_once before mid m n k t u =
      let o = rw append_assoc at (later_onward ts vs (before ++ m ∷ []) mid) in
      omega arith

  pub evicted_once : (before mid : List Move) (m n : Move) (k : ℕ) → EvictedAt ts vs before m k → ¬ EvictedAt ts vs (before ++ m ∷ mid) n k
  evicted_once before mid m n k t u =
      let o = rw append_assoc at (later_onward ts vs (before ++ m ∷ []) mid) in
      omega arith

  -- what an edge has passed it has passed at some step
  inserted_somewhere : (before ms : List Move) (k : ℕ) → (record_after ts vs before).right ≤ k → k < (record_after ts vs (before ++ ms)).right
      → Inserted ts vs (before ++ ms) k
  inserted_somewhere before [] k l t = absurd (let u = rw append-nil at t in omega arith)
  inserted_somewhere before (m ∷ ms) k l t =
      by (dec_lt k (record_after ts vs (before ++ m ∷ [])).right) (inserted_somewhere (before ++ m ∷ []) ms k)
    where
      by : Dec (k < (record_after ts vs (before ++ m ∷ [])).right)
          → ((record_after ts vs (before ++ m ∷ [])).right ≤ k → k < (record_after ts vs ((before ++ m ∷ []) ++ ms)).right
          → Inserted ts vs ((before ++ m ∷ []) ++ ms) k)
          → Inserted ts vs (before ++ m ∷ ms) k
      by (yes u) f = record { before = before; step = m; rest = ms; split = refl; taken = (l, u) }
      by (no u) f = let g = rw append_assoc at f in g (omega arith) t

  -- what is let go at a step was taken in at that step or an earlier one
  pub evicted_was_inserted : (before : List Move) (m : Move) (k : ℕ) → EvictedAt ts vs before m k → Inserted ts vs (before ++ m ∷ []) k
  evicted_was_inserted before m k t =
      let w = (later_onward ts vs before (m ∷ [])).within in
      inserted_somewhere [] (before ++ m ∷ []) k zero-le (omega arith)

-- the claim speaks of something: four steps over readings that enter and leave, of which the two between are refused with 9. The first of these
-- two has its left edge below that of the accepted step before, the second both edges.
abbrev some_minutes : List ℕ
some_minutes = 1 ∷ 5 ∷ 9 ∷ []

abbrev some_values : List ℕ
some_values = 1 ∷ 2 ∷ 3 ∷ []

abbrev some_steps : List Move
some_steps = moves (2 ∷ 0 ∷ 0 ∷ 9 ∷ []) (1 ∷ 70000 ∷ 0 ∷ 1 ∷ [])

abbrev refused_with_9 : Option Fault
refused_with_9 = Some (record { number = 9; place = 0 })

pub record Inhabited : Type 0 where
  pub minutes : AtMost max_u16 some_minutes
  pub values : AtMost max_u16 some_values
  pub ordered : Ordered some_minutes
  pub no_edge_back : NoEdgeBack some_minutes some_values some_steps
  pub refusals : map (log_refusal some_minutes some_values) some_steps ≡ None ∷ refused_with_9 ∷ refused_with_9 ∷ None ∷ []
  pub last : last_accepted some_minutes some_values some_steps ≡ Some (record { point = 9; bandwidth = 1 })
  pub second_is_back : ¬ NotBelow (Some (record { point = 2; bandwidth = 1 })) (record { point = 0; bandwidth = 70000 })
  pub third_is_back : ¬ NotBelow (Some (record { point = 2; bandwidth = 1 })) (record { point = 0; bandwidth = 0 })
  pub after_first : log_after_steps some_minutes some_values (take 1 some_steps) ≡ record { inserted = 0 ∷ []; evicted = [] }
  pub after_second : log_after_steps some_minutes some_values (take 2 some_steps) ≡ record { inserted = 0 ∷ []; evicted = [] }
  pub after_third : log_after_steps some_minutes some_values (take 3 some_steps) ≡ record { inserted = 0 ∷ []; evicted = [] }
  pub after_fourth : log_after_steps some_minutes some_values some_steps ≡ record { inserted = 0 ∷ 1 ∷ 2 ∷ []; evicted = 0 ∷ 1 ∷ [] }

pub inhabited : Inhabited
inhabited = record {
  minutes = none_over some_minutes refl;
  values = none_over some_values refl;
  ordered = no_decrease_ordered some_minutes refl;
  no_edge_back = (λ e. tt, (λ e. refused_not_accepted e, (λ e. refused_not_accepted e, (λ e. omega arith, tt))));
  refusals = refl;
  last = refl;
  second_is_back = λ e. omega arith;
  third_is_back = λ e. omega arith;
  after_first = refl;
  after_second = refl;
  after_third = refl;
  after_fourth = refl;
}
  where
    none_over : (xs : List ℕ) → lowest (λ i. ltb max_u16 (get_or xs i 0)) (length xs) ≡ None → AtMost max_u16 xs
    none_over xs e i l = ltb-false _ _ (lowest_none _ (length xs) e i l)

    refused_not_accepted : {A : Type 0} → refused_with_9 ≡ None → A
    refused_not_accepted e = let z : ◌≡◌ {A = ℕ} 0 1 = cc in absurd (omega arith)

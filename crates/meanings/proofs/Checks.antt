-- What an accepted call has shown: no check of its list holds, so minutes and marks are ordered, half widths are in range, and no edge falls.
use Prim.Native.Nat.{ℕ, zero, suc, ◌-◌, ◌≤◌, ◌<◌}
use Rattle.std.specs.Prelude.{Result, Ok, Err, Option, None, Some}
use mathlib.Core.Path.{◌≡◌, refl, sym, ap, ◌∙◌}
use mathlib.Core.Logic.{◌⊎◌, inl, inr}
use mathlib.Core.Bool.{Bool, true, false, ◌||◌}
use mathlib.Core.List.{List, [], ◌∷◌, ◌++◌}
use native.Mathlib.Nat.{not-suc-le-zero, le_refl, le_trans, eq-or-lt_of_le, le_of_suc-le-suc}
use native.Mathlib.Omega.{arith}
use borrow.Author.Tests.{ltb-false, le-ltb, eqb-false}
use lib.Dec.{ltb, eqb}
use lib.ListN.{length, get_or}
use Rattle.meanings.specs.declared.Limits.{Limits}
use Rattle.meanings.specs.declared.Refusal.{Refusal}
use Rattle.meanings.specs.Lists.{lowest, Ordered}
use Rattle.meanings.specs.Limits.{full, preview, LimitsWithin, max_bandwidth}
use Rattle.meanings.specs.Reports.{Fault, fault_of, verdict_fault, given, unless}
use Rattle.meanings.specs.Reports.{Check, at, fault_or, first_of, differ, decreases, bad_bandwidth}
use Rattle.meanings.specs.Reports.{edge_below, edge_decreases, uneven_samples, uneven_points, size_checks, sample_order_checks, series_checks}
use Rattle.meanings.specs.Reports.{record_checks, bandwidth_checks, curve_size_checks, advance_checks, turn_checks, log_checks}
use Rattle.meanings.specs.Calls.{evaluate_refusal}
use Rattle.meanings.proofs.Search.{lowest_none}

-- no check of the list holds
abbrev pub NoneHolds : List Check → Type 0
NoneHolds [] = Unit {0}
NoneHolds (c ∷ cs) = (c.place ≡ None) × NoneHolds cs

pub none_holds : (cs : List Check) → first_of cs ≡ None → NoneHolds cs
none_holds [] e = tt
none_holds (c ∷ cs) e = by c.place refl e (none_holds cs)
  where
    by : (p : Option ℕ) → c.place ≡ p → fault_or c.number p (first_of cs) ≡ None → (first_of cs ≡ None → NoneHolds cs)
        → (c.place ≡ None) × NoneHolds cs
    by None q e k = (q, k e)
    by (Some n) q e k = let z : ◌≡◌ {A = ℕ} 0 1 = cc in absurd (omega arith)

-- checks after others: looked at where none of those holds
pub first_of_front : (cs ds : List Check) (e : Fault) → first_of cs ≡ Some e → first_of (cs ++ ds) ≡ Some e
first_of_front [] ds e q = let z : ◌≡◌ {A = ℕ} 0 1 = cc in absurd (omega arith)
first_of_front (c ∷ cs) ds e q = by c.place q (first_of_front cs ds e)
  where
    by : (p : Option ℕ) → fault_or c.number p (first_of cs) ≡ Some e → (first_of cs ≡ Some e → first_of (cs ++ ds) ≡ Some e)
        → fault_or c.number p (first_of (cs ++ ds)) ≡ Some e
    by None q k = k q
    by (Some n) q k = q

pub first_of_rest : (cs ds : List Check) → first_of cs ≡ None → first_of (cs ++ ds) ≡ first_of ds
first_of_rest [] ds q = refl
first_of_rest (c ∷ cs) ds q = by c.place q (first_of_rest cs ds)
  where
    by : (p : Option ℕ) → fault_or c.number p (first_of cs) ≡ None → (first_of cs ≡ None → first_of (cs ++ ds) ≡ first_of ds)
        → fault_or c.number p (first_of (cs ++ ds)) ≡ first_of ds
    by None q k = k q
    by (Some n) q k = let z : ◌≡◌ {A = ℕ} 0 1 = cc in absurd (omega arith)

pub none_of_both : (cs ds : List Check) → first_of (cs ++ ds) ≡ None → (first_of cs ≡ None) × (first_of ds ≡ None)
none_of_both cs ds q = by (first_of cs) refl
  where
    by : (f : Option Fault) → first_of cs ≡ f → (first_of cs ≡ None) × (first_of ds ≡ None)
    by None e = (e, sym (first_of_rest cs ds e) ∙ q)
    by (Some f) e = let t = first_of_front cs ds f e in let z : ◌≡◌ {A = ℕ} 0 1 = cc in absurd (omega arith)

-- the same of what a check of the code found
pub found_in_front : (cs ds : List Check) (v : Result Unit Refusal) (r : Refusal) → verdict_fault v ≡ first_of cs → v ≡ Err r
    → Some (fault_of r) ≡ first_of (cs ++ ds)
found_in_front cs ds v r e q = sym (first_of_front cs ds (fault_of r) (sym e ∙ ap verdict_fault q))

pub found_none_in_front : (cs ds : List Check) (v : Result Unit Refusal) → verdict_fault v ≡ first_of cs → v ≡ (Ok tt) → first_of (cs ++ ds) ≡ first_of ds
found_none_in_front cs ds v e q = first_of_rest cs ds (sym e ∙ ap verdict_fault q)

-- checks behind others decide where the code has found nothing of those
pub found_behind : (cs ds : List Check) (v : Result Unit Refusal) (o : Option Fault) → verdict_fault v ≡ first_of cs → v ≡ (Ok tt) → o ≡ first_of ds
    → o ≡ first_of (cs ++ ds)
found_behind cs ds v o e q f = f ∙ sym (found_none_in_front cs ds v e q)

pub at_none : (p : ℕ) (b : Bool) → at p b ≡ None → b ≡ false
at_none p true e = let z : ◌≡◌ {A = ℕ} 0 1 = cc in absurd (omega arith)
at_none p false e = refl

pub or_false : (a b : Bool) → (a || b) ≡ false → (a ≡ false) × (b ≡ false)
or_false true b e = let z : ◌≡◌ {A = ℕ} 0 1 = cc in absurd (omega arith)
or_false false b e = (refl, e)

pub differ_false : (m n : ℕ) → differ m n ≡ false → m ≡ n
differ_false m n e =
    let o = or_false (ltb m n) (ltb n m) e in
    let a = ltb-false m n o.0 in
    let b = ltb-false n m o.1 in
    omega arith

pub differ_true : (m n : ℕ) → (m ≡ n → ⊥) → differ m n ≡ true
differ_true m n d = by (ltb m n) (ltb n m) refl refl
  where
    by : (a b : Bool) → ltb m n ≡ a → ltb n m ≡ b → (a || b) ≡ true
    by true b e f = refl
    by false true e f = refl
    by false false e f = let l = ltb-false m n e in let g = ltb-false n m f in absurd (d (omega arith))

pub differ_same : (m n : ℕ) → m ≡ n → differ m n ≡ false
differ_same m n e = rw (e, le-ltb n n (le_refl n))

pub bandwidth_in_range : (h : ℕ) → bad_bandwidth h ≡ false → (0 < h) × (h ≤ max_bandwidth)
bandwidth_in_range h e =
    let o = or_false (eqb h 0) (ltb max_bandwidth h) e in
    (let n : h ≡ 0 → ⊥ = eqb-false h 0 o.0 in omega arith, ltb-false max_bandwidth h o.1)

-- what is compared at a position above 0
pub decreases_at : (xs : List ℕ) (k : ℕ) → 1 ≤ k → decreases xs k ≡ ltb (get_or xs k 0) (get_or xs (k - 1) 0)
decreases_at xs zero l = absurd (not-suc-le-zero l)
decreases_at xs (suc k) l = let e : suc k - 1 ≡ k = omega arith in rw e

pub edge_decreases_at : (zs hs : List ℕ) (k : ℕ) → 1 ≤ k
    → edge_decreases zs hs k ≡ edge_below (get_or zs k 0) (get_or hs k 0) (get_or zs (k - 1) 0) (get_or hs (k - 1) 0)
edge_decreases_at zs hs zero l = absurd (not-suc-le-zero l)
edge_decreases_at zs hs (suc k) l = let e : suc k - 1 ≡ k = omega arith in rw e

-- no element is below the one before: the list is ordered
pub steps_ordered : (xs : List ℕ) → ((k : ℕ) → suc k < length xs → get_or xs k 0 ≤ get_or xs (suc k) 0) → Ordered xs
steps_ordered xs f i zero a l = let e : i ≡ 0 = omega arith in rw e (le_refl _)
steps_ordered xs f i (suc j) a l = by (eq-or-lt_of_le a) (steps_ordered xs f i j)
  where
    by : (i ≡ suc j) ⊎ (i < suc j) → (i ≤ j → j < length xs → get_or xs i 0 ≤ get_or xs j 0) → get_or xs i 0 ≤ get_or xs (suc j) 0
    by (inl e) k = rw e (le_refl _)
    by (inr m) k = le_trans (k (le_of_suc-le-suc m) (omega arith)) (f j l)

pub no_decrease_ordered : (xs : List ℕ) → lowest (decreases xs) (length xs) ≡ None → Ordered xs
no_decrease_ordered xs e =
    steps_ordered xs (λ k l. ltb-false (get_or xs (suc k) 0) (get_or xs k 0) (lowest_none (decreases xs) (length xs) e (suc k) l))

-- limits allow no more than themselves
pub same_limits : (L : Limits) → LimitsWithin L L
same_limits L = record { samples = le_refl _; points = le_refl _ }

-- the preview allows no more than the full sweep
pub preview_within_full : LimitsWithin preview full
preview_within_full = record { samples = omega arith; points = omega arith }

-- readings that pass 8 and 6
pub record SizeAccepted (L : Limits) (ts vs : List ℕ) : Type 0 where
  pub even : length ts ≡ length vs
  pub few : length ts ≤ L.samples

pub size_accepts : (L : Limits) (ts vs : List ℕ) → first_of (size_checks L ts vs) ≡ None → SizeAccepted L ts vs
size_accepts L ts vs e =
    let a = none_holds (size_checks L ts vs) e in
    record {
      even = differ_false (length ts) (length vs) (at_none 0 (uneven_samples ts vs) a.0);
      few = ltb-false L.samples (length ts) (at_none 0 _ a.1.0);
    }

pub sample_order_accepts : (ts : List ℕ) → first_of (sample_order_checks ts) ≡ None → Ordered ts
sample_order_accepts ts e = no_decrease_ordered ts (none_holds (sample_order_checks ts) e).0

pub record_accepts : (n left right : ℕ) → first_of (record_checks n left right) ≡ None → (left ≤ right) × (right ≤ n)
record_accepts n left right e =
    let o = or_false (ltb right left) (ltb n right) (at_none 0 _ (none_holds (record_checks n left right) e).0) in
    (ltb-false right left o.0, ltb-false n right o.1)

pub bandwidth_accepts : (h : ℕ) → first_of (bandwidth_checks h) ≡ None → (0 < h) × (h ≤ max_bandwidth)
bandwidth_accepts h e = bandwidth_in_range h (at_none 0 (bad_bandwidth h) (none_holds (bandwidth_checks h) e).0)

-- what the question at one mark accepts under limits at most the full ones
pub record EvaluateAccepted (ts vs : List ℕ) (h : ℕ) : Type 0 where
  pub even : length ts ≡ length vs
  pub few : length ts ≤ full.samples
  pub ordered : Ordered ts
  pub positive : 0 < h
  pub bandwidth : h ≤ max_bandwidth

pub evaluate_accepts : (L : Limits) → LimitsWithin L full → (ts vs : List ℕ) (h : ℕ) → evaluate_refusal L ts vs h ≡ None → EvaluateAccepted ts vs h
evaluate_accepts L w ts vs h e =
    let a = none_of_both (series_checks L ts vs) (bandwidth_checks h) e in
    let b = none_of_both (size_checks L ts vs) (sample_order_checks ts) a.0 in
    let s = size_accepts L ts vs b.0 in
    let r = bandwidth_accepts h a.1 in
    record {
      even = s.even;
      few = le_trans s.few w.samples;
      ordered = sample_order_accepts ts b.1;
      positive = r.0;
      bandwidth = r.1;
    }

-- what a step accepts under such limits, of a record with these edges
pub record AdvanceAccepted (ts vs : List ℕ) (left right h : ℕ) : Type 0 where
  pub even : length ts ≡ length vs
  pub few : length ts ≤ full.samples
  pub edges : left ≤ right
  pub inside : right ≤ length ts
  pub positive : 0 < h
  pub bandwidth : h ≤ max_bandwidth

pub advance_accepts : (L : Limits) → LimitsWithin L full → (ts vs : List ℕ) (left right h : ℕ)
    → first_of (advance_checks L ts vs left right h) ≡ None → AdvanceAccepted ts vs left right h
advance_accepts L w ts vs left right h e =
    let a = none_of_both (size_checks L ts vs) (record_checks (length ts) left right ++ bandwidth_checks h) e in
    let b = none_of_both (record_checks (length ts) left right) (bandwidth_checks h) a.1 in
    let s = size_accepts L ts vs a.0 in
    let o = record_accepts (length ts) left right b.0 in
    let r = bandwidth_accepts h b.1 in
    record {
      even = s.even;
      few = le_trans s.few w.samples;
      edges = o.0;
      inside = o.1;
      positive = r.0;
      bandwidth = r.1;
    }

-- what a turn accepts under such limits, of a record with these edges
pub record TurnAccepted (ts vs : List ℕ) (left right h : ℕ) : Type 0 where
  pub even : length ts ≡ length vs
  pub few : length ts ≤ full.samples
  pub ordered : Ordered ts
  pub edges : left ≤ right
  pub inside : right ≤ length ts
  pub positive : 0 < h
  pub bandwidth : h ≤ max_bandwidth

pub turn_accepts : (L : Limits) → LimitsWithin L full → (ts vs : List ℕ) (left right h : ℕ)
    → first_of (turn_checks L ts vs left right h) ≡ None → TurnAccepted ts vs left right h
turn_accepts L w ts vs left right h e =
    let a = none_of_both (series_checks L ts vs) (record_checks (length ts) left right ++ bandwidth_checks h) e in
    let b = none_of_both (size_checks L ts vs) (sample_order_checks ts) a.0 in
    let c = none_of_both (record_checks (length ts) left right) (bandwidth_checks h) a.1 in
    let s = size_accepts L ts vs b.0 in
    let o = record_accepts (length ts) left right c.0 in
    let r = bandwidth_accepts h c.1 in
    record {
      even = s.even;
      few = le_trans s.few w.samples;
      ordered = sample_order_accepts ts b.1;
      edges = o.0;
      inside = o.1;
      positive = r.0;
      bandwidth = r.1;
    }

-- what the lengths of readings and marks have to be, and that no further list is uneven
pub record CurveSizes (L : Limits) (ts vs zs hs : List ℕ) (more : Bool) : Type 0 where
  pub even : length ts ≡ length vs
  pub even_points : length zs ≡ length hs
  pub no_more : more ≡ false
  pub few : length ts ≤ L.samples
  pub few_points : length zs ≤ L.points
  pub some_point : 0 < length zs

pub curve_sizes_accept : (L : Limits) (ts vs zs hs : List ℕ) (more : Bool) → first_of (curve_size_checks L ts vs zs hs more) ≡ None
    → CurveSizes L ts vs zs hs more
curve_sizes_accept L ts vs zs hs more e =
    let a = none_holds (curve_size_checks L ts vs zs hs more) e in
    let o = or_false (uneven_samples ts vs || uneven_points zs hs) more (at_none 0 _ a.0) in
    let u = or_false (uneven_samples ts vs) (uneven_points zs hs) o.0 in
    let f = or_false (ltb L.samples (length ts)) (ltb L.points (length zs)) (at_none 0 _ a.1.0) in
    let n : length zs ≡ 0 → ⊥ = eqb-false (length zs) 0 (at_none 0 _ a.1.1.0) in
    record {
      even = differ_false (length ts) (length vs) u.0;
      even_points = differ_false (length zs) (length hs) u.1;
      no_more = o.1;
      few = ltb-false L.samples (length ts) f.0;
      few_points = ltb-false L.points (length zs) f.1;
      some_point = omega arith;
    }

-- an answer that is given was not refused
pub given_accepted : {A : Type 0} (f : Option Fault) (a b : A) → unless f a ≡ given b → (f ≡ None) × (a ≡ b)
given_accepted None a b e = (refl, cc)
given_accepted (Some r) a b e = let z : ◌≡◌ {A = ℕ} 0 1 = cc in absurd (omega arith)

-- a step on a record whose edges lie within the readings is refused as the book refuses it, never with 11
pub advance_refused_as_logged : (L : Limits) (ts vs : List ℕ) (left right h : ℕ) → left ≤ right → right ≤ length ts
    → first_of (advance_checks L ts vs left right h) ≡ first_of (log_checks L ts vs h)
advance_refused_as_logged L ts vs left right h a b = rw (le-ltb right left a, le-ltb (length ts) right b)

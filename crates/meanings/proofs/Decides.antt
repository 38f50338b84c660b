-- What follows of removals: accepted lists stay accepted; a reading without weight never decides; where the value is missing none does.
-- And the second reading of removal: it is the one list of SPECIFICATION's words.
use Prim.Native.Nat.{ℕ, zero, suc, ◌≤◌, ◌<◌}
use mathlib.Core.Path.{◌≡◌, refl, sym, ap, ◌∙◌}
use mathlib.Core.Bool.{Bool, true, false, true≢false}
use mathlib.Core.List.{List, [], ◌∷◌, ◌++◌}
use Rattle.std.specs.Prelude.{None, Some}
use native.Mathlib.Nat.{not-suc-le-zero, le_of_suc-le-suc}
use native.Mathlib.Decide.{dec_lt}
use native.Mathlib.Omega.{arith}
use borrow.Author.Tests.{le-ltb, ne_eqb}
use lib.ListN.{length, get_or}
use Rattle.meanings.specs.Limits.{full, max_bandwidth}
use Rattle.meanings.specs.Lists.{lowest, Ordered, AtMost}
use Rattle.meanings.specs.Reports.{decreases}
use Rattle.meanings.specs.Estimate.{estimate, kernel, weight_of}
use Rattle.meanings.specs.Calls.{evaluate_refusal}
use Rattle.meanings.proofs.Checks.{EvaluateAccepted, differ_same}
use Rattle.meanings.proofs.Search.{none_lowest, lowest_some}
use Rattle.meanings.specs.decisive.Decisive.{without, Removed, verdict, differs, decides, first_decisive}
use Rattle.meanings.proofs.Removal.{length_without, before_removed, behind_removed, without_ordered, weight_without, weight_stays, sum_stays}

-- the list without position i is the one with that element taken out
pub without_removes : (i : ℕ) (xs : List ℕ) → i < length xs → Removed i xs (without i xs)
without_removes i [] l = absurd (not-suc-le-zero l)
without_removes zero (x ∷ xs) l = record { front = []; element = x; back = xs; place = refl; whole = refl; rest = refl }
without_removes (suc i) (x ∷ xs) l =
    let r = without_removes i xs (le_of_suc-le-suc l) in
    record {
      front = x ∷ r.front;
      element = r.element;
      back = r.back;
      place = ap suc r.place;
      whole = ap (λ (ys : List ℕ). x ∷ ys) r.whole;
      rest = ap (λ (ys : List ℕ). x ∷ ys) r.rest;
    }

-- and there is no other
taken_out : (front : List ℕ) (x : ℕ) (back : List ℕ) → front ++ back ≡ without (length front) (front ++ x ∷ back)
taken_out [] x back = refl
taken_out (y ∷ front) x back = ap (λ (ys : List ℕ). y ∷ ys) (taken_out front x back)

pub one_removed : (i : ℕ) (xs ys : List ℕ) → Removed i xs ys → ys ≡ without i xs
one_removed i xs ys r =
    r.rest
    ∙ taken_out r.front r.element r.back
    ∙ ap (λ (n : ℕ). without n (r.front ++ r.element ∷ r.back)) r.place
    ∙ ap (without i) (sym r.whole)

inside_whole : (front : List ℕ) (x : ℕ) (back : List ℕ) → length front < length (front ++ x ∷ back)
inside_whole [] x back = omega arith
inside_whole (y ∷ front) x back = omega (arith, inside_whole front x back)

pub removed_within : (i : ℕ) (xs ys : List ℕ) → Removed i xs ys → i < length xs
removed_within i xs ys r =
    let l = inside_whole r.front r.element r.back in
    omega (arith, r.place, ap length r.whole)

-- values of 16 bits stay such
pub without_at_most : (m i : ℕ) (xs : List ℕ) → i < length xs → AtMost m xs → AtMost m (without i xs)
without_at_most m i xs l f j k = by (dec_lt j i)
  where
    by : Dec (j < i) → get_or (without i xs) j 0 ≤ m
    by (yes p) = rw (before_removed i j xs p) (f j (omega arith))
    by (no p) = rw (behind_removed i j xs (omega arith)) (f (suc j) (omega (arith, length_without i xs l)))

-- accepted lists stay accepted
pub without_accepted : (ts vs : List ℕ) (h i : ℕ) → i < length ts → EvaluateAccepted ts vs h → EvaluateAccepted (without i ts) (without i vs) h
without_accepted ts vs h i l a =
    let m = length_without i ts l in
    let n = length_without i vs (omega (arith, a.even)) in
    record {
      even = omega (arith, a.even);
      few = omega (arith, a.few);
      ordered = without_ordered i ts l a.ordered;
      positive = a.positive;
      bandwidth = a.bandwidth;
    }

ordered_no_decrease : (xs : List ℕ) → Ordered xs → lowest (decreases xs) (length xs) ≡ None
ordered_no_decrease xs o = none_lowest (decreases xs) (length xs) at
  where
    at : (k : ℕ) → k < length xs → decreases xs k ≡ false
    at zero l = refl
    at (suc k) l = le-ltb (get_or xs (suc k) 0) (get_or xs k 0) (o k (suc k) (omega arith) l)

pub accepted_not_refused : (ts vs : List ℕ) (h : ℕ) → EvaluateAccepted ts vs h → evaluate_refusal full ts vs h ≡ None
accepted_not_refused ts vs h a =
    let p = a.positive in
    rw (
      differ_same _ _ a.even,
      le-ltb full.samples (length ts) a.few,
      ordered_no_decrease ts a.ordered,
      ne_eqb h 0 (λ (e : h ≡ 0). omega arith),
      le-ltb max_bandwidth h a.bandwidth,
    )

differs_not : (b : Bool) → differs b b ≡ false
differs_not true = refl
differs_not false = refl

module _ (ts vs : List ℕ) (z h limit : ℕ) (o : Ordered ts) where
  verdict_stays : (i : ℕ) → i < length ts → kernel z h (get_or ts i 0) ≡ 0
      → verdict (without i ts) (without i vs) z h limit ≡ verdict ts vs z h limit
  unfolding verdict estimate
  verdict_stays i l e = rw (weight_stays ts vs z h o i l e, sum_stays ts vs z h o i l e)

  -- a reading without weight never decides
  pub weightless_keeps : (i : ℕ) → i < length ts → kernel z h (get_or ts i 0) ≡ 0 → decides ts vs z h limit i ≡ false
  unfolding decides
  weightless_keeps i l e =
      ap (λ (b : Bool). differs b (verdict ts vs z h limit)) (verdict_stays i l e) ∙ differs_not (verdict ts vs z h limit)

  -- so one that is named has weight
  pub named_has_weight : (i : ℕ) → first_decisive ts vs z h limit ≡ Some i → 0 < kernel z h (get_or ts i 0)
  named_has_weight i q = by (kernel z h (get_or ts i 0)) refl
    where
      by : (k : ℕ) → kernel z h (get_or ts i 0) ≡ k → 0 < k
      by zero e =
          let f = lowest_some (decides ts vs z h limit) (length ts) i q in
          absurd (true≢false (sym (f.1.there (omega arith)) ∙ weightless_keeps i f.0 e))
      by (suc k) e = omega arith

  -- where there is no weight none decides
  pub missing_keeps : weight_of ts z h ≡ 0 → first_decisive ts vs z h limit ≡ None
  missing_keeps e =
      none_lowest (decides ts vs z h limit) (length ts) (λ i l. weightless_keeps i l (omega (arith, weight_without ts vs z h o i l)))

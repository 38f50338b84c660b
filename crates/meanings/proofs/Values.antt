-- Values behind the right edge of the mark that answers do not count: a row depends on the values before its right, and right never falls
-- from mark to mark.
use Prim.Native.Nat.{ℕ, zero, suc, ◌+◌, ◌-◌, ◌*◌, ◌≤◌, ◌<◌}
use mathlib.Core.Path.{◌≡◌, refl, sym, ap, ◌∙◌}
use mathlib.Core.Logic.{◌⊎◌, inl, inr}
use mathlib.Core.Bool.{false}
use mathlib.Core.List.{List}
use Rattle.std.specs.Prelude.{Option, None, Some}
use native.Mathlib.Nat.{le_refl, le_trans, eq-or-lt_of_le, le_of_suc-le-suc}
use native.Mathlib.Omega.{arith}
use lib.ListN.{length, get_or}
use Rattle.meanings.specs.declared.Limits.{Limits}
use Rattle.meanings.specs.Limits.{full, LimitsWithin, max_u16}
use Rattle.meanings.specs.Lists.{AtMost}
use Rattle.meanings.specs.Moves.{moves}
use Rattle.meanings.specs.Reports.{Fault, given, unless}
use Rattle.meanings.specs.Estimate.{estimate, left_of, right_of, kernel, sum_of}
use Rattle.meanings.specs.Running.{fresh, passes}
use Rattle.meanings.proofs.Search.{lowest_none, lowest_some, none_lowest, lowest_at}
use Rattle.meanings.proofs.Steps.{Small}
use Rattle.meanings.proofs.SmoothSteps.{CurveAccepted, curve_accepts, right_grows, running_at, passes_are_edges}
use Rattle.meanings.proofs.Totals.{total_ext}
use Rattle.meanings.proofs.Window.{left_at_most_right}
use Rattle.meanings.specs.limit.Threshold.{low_enough}
use Rattle.meanings.specs.limit.Crossing.{low_at, first_low, located, crossing_refusal, first_at_most, reach}
use Rattle.meanings.proofs.LimitPasses.{passes_to_point}

-- two lists agree before position r
abbrev pub AgreeBelow : ℕ → List ℕ → List ℕ → Type 0
AgreeBelow r vs vs' = (i : ℕ) → i < r → get_or vs i 0 ≡ get_or vs' i 0

sum_same : (ts vs vs' : List ℕ) (z h : ℕ) → AgreeBelow (right_of ts z h) vs vs' → sum_of ts vs z h ≡ sum_of ts vs' z h
unfolding sum_of
sum_same ts vs vs' z h same =
    total_ext (λ i. kernel z h (get_or ts i 0) * get_or vs i 0) (λ i. kernel z h (get_or ts i 0) * get_or vs' i 0) (left_of ts z h)
    (right_of ts z h - left_of ts z h)
    (λ i l r. ap (λ (v : ℕ). kernel z h (get_or ts i 0) * v) (same i (omega (arith, left_at_most_right ts z h))))

row_same : (ts vs vs' : List ℕ) (z h : ℕ) → AgreeBelow (right_of ts z h) vs vs' → estimate ts vs z h ≡ estimate ts vs' z h
unfolding estimate
row_same ts vs vs' z h same = rw (sum_same ts vs vs' z h same)

module _ (ts zs hs : List ℕ) where
  -- how many readings mark k reaches
  right_at : ℕ → ℕ
  right_at k = right_of ts (get_or zs k 0) (get_or hs k 0)

  module _ (edges : (k : ℕ) → suc k < length zs → get_or zs k 0 + get_or hs k 0 ≤ get_or zs (suc k) 0 + get_or hs (suc k) 0) where
    right_stays_or_grows : (j k : ℕ) → j ≤ k → k < length zs → right_at j ≤ right_at k
    unfolding right_at
    right_stays_or_grows j zero a l = let e : j ≡ 0 = omega arith in rw e (le_refl _)
    right_stays_or_grows j (suc k) a l = by (eq-or-lt_of_le a) (right_stays_or_grows j k)
      where
        by : (j ≡ suc k) ⊎ (j < suc k) → (j ≤ k → k < length zs → right_at j ≤ right_at k) → right_at j ≤ right_at (suc k)
        by (inl e) f = rw e (le_refl _)
        by (inr m) f =
            le_trans (f (le_of_suc-le-suc m) (omega arith))
            (right_grows ts (get_or zs k 0) (get_or hs k 0) (get_or zs (suc k) 0) (get_or hs (suc k) 0) (edges k l))

module _ (ts vs vs' zs hs : List ℕ) (limit : ℕ) (a : CurveAccepted ts vs zs hs) where
  -- every mark up to k
  tests_same : (k : ℕ) → k < length zs → AgreeBelow (right_of ts (get_or zs k 0) (get_or hs k 0)) vs vs' → (j : ℕ) → j ≤ k
      → low_at ts vs zs hs limit j ≡ low_at ts vs' zs hs limit j
  unfolding low_at right_at
  tests_same k l same j m =
      ap (low_enough limit)
      (row_same ts vs vs' (get_or zs j 0) (get_or hs j 0) (λ i r. same i (omega (arith, right_stays_or_grows ts zs hs a.right_edges j k m l))))

  module _ (a' : CurveAccepted ts vs' zs hs) (s : Small ts vs) (s' : Small ts vs') where
    edges_same : (k : ℕ) → (running_at ts vs zs hs k).right + (running_at ts vs zs hs k).left
        ≡ (running_at ts vs' zs hs k).right + (running_at ts vs' zs hs k).left
    edges_same zero = refl
    edges_same (suc k) = refl

    answers_same : (o : Option ℕ) → first_low ts vs zs hs limit ≡ o → AgreeBelow (reach ts zs hs o) vs vs'
        → located ts vs zs hs limit ≡ located ts vs' zs hs limit
    answers_same None e same = rw (e, here) (ap (λ (n : ℕ). record { position = None; passes = n }) both)
      where
        here : first_low ts vs' zs hs limit ≡ None
        here =
            none_lowest (low_at ts vs' zs hs limit) (length zs)
            (λ j l. sym (tests_same (length zs - 1) (omega arith) same j (omega arith)) ∙ lowest_none (low_at ts vs zs hs limit) (length zs) e j l)

        both : passes ts vs fresh (moves zs hs) ≡ passes ts vs' fresh (moves zs hs)
        both = passes_are_edges ts vs zs hs s a ∙ edges_same (length zs) ∙ sym (passes_are_edges ts vs' zs hs s' a')
    answers_same (Some k) e same =
        let f = lowest_some (low_at ts vs zs hs limit) (length zs) k e in
        let l = f.0 in
        let test = tests_same k l same in
        let here : first_low ts vs' zs hs limit ≡ Some k =
        lowest_at (low_at ts vs' zs hs limit) (length zs) k l (sym (test k (le_refl k)) ∙ f.1.there (omega arith))
        (λ j m. sym (test j (omega arith)) ∙ f.1.before j (omega arith) m) in
        rw (e, here)
        (ap (λ (n : ℕ). record { position = Some k; passes = n })
        (passes_to_point ts vs zs hs s a k l ∙ sym (passes_to_point ts vs' zs hs s' a' k l)))

-- two value lists of one length that agree as far as the answer reaches give the same answer; minutes, marks and half widths stay
pub values_behind_do_not_count : (L : Limits) → LimitsWithin L full → (ts vs vs' zs hs : List ℕ) (limit : ℕ) → AtMost max_u16 ts
    → AtMost max_u16 vs → AtMost max_u16 vs' → length vs ≡ length vs'
    → AgreeBelow (reach ts zs hs (first_low ts vs zs hs limit)) vs vs' → first_at_most L ts vs zs hs limit ≡ first_at_most L ts vs' zs hs limit
unfolding first_at_most
values_behind_do_not_count L w ts vs vs' zs hs limit minutes values values' even same = rw (← alike) (by (crossing_refusal L ts vs zs hs) refl)
  where
    alike : crossing_refusal L ts vs zs hs ≡ crossing_refusal L ts vs' zs hs
    alike = rw even

    by : (f : Option Fault) → crossing_refusal L ts vs zs hs ≡ f
        → unless f (located ts vs zs hs limit) ≡ unless f (located ts vs' zs hs limit)
    by (Some e) q = refl
    by None q =
        let a = curve_accepts L w ts vs zs hs false q in
        let a' = curve_accepts L w ts vs' zs hs false (sym alike ∙ q) in
        ap given
        (answers_same ts vs vs' zs hs limit a a' (record { even = a.even; few = a.few; minutes = minutes; values = values })
        (record { even = a'.even; few = a.few; minutes = minutes; values = values' }) (first_low ts vs zs hs limit) refl same)

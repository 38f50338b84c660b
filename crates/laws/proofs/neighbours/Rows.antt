-- The k-th nearest reading lies nearer than the half width, so it weighs, and no value is missing. Values that change places among equal minutes
-- change neither half widths nor rows.
use Prim.Native.Nat.{ℕ, zero, suc, ◌+◌, ◌≤◌, ◌<◌}
use mathlib.Core.Path.{◌≡◌, refl, ap, ◌∙◌}
use mathlib.Core.Bool.{Bool, true, false}
use mathlib.Core.List.{List, [], ◌∷◌, ◌++◌}
use Rattle.std.specs.Prelude.{Option, None, Some}
use native.Mathlib.Nat.{le_of_suc-le-suc, not-suc-le-zero, eq-or-lt_of_le}
use mathlib.Core.Logic.{◌⊎◌, inl, inr}
use native.Mathlib.Omega.{arith}
use borrow.Author.Tests.{leb-true}
use lib.Dec.{leb}
use lib.ListN.{length, get_or}
use Rattle.meanings.specs.declared.Estimate.{Estimate}
use Rattle.meanings.specs.declared.Limits.{Limits}
use Rattle.meanings.specs.Limits.{full, LimitsWithin, max_u16}
use Rattle.meanings.specs.Lists.{pick, count, total, distance, Ordered, AtMost}
use Rattle.meanings.specs.Reports.{Fault, unless, accepted_or}
use Rattle.meanings.specs.Estimate.{kernel, weight_of, missing, estimate, fields, rows}
use Rattle.meanings.proofs.Bounds.{value_bound}
use Rattle.meanings.proofs.Checks.{EvaluateAccepted}
use Rattle.meanings.proofs.Published.{outside_is_zero, total_is_over_run}
use Rattle.laws.specs.rows.Rearranged.{Rearranged}
use Rattle.laws.proofs.rows.AmongReadings.{weighs_near}
use Rattle.laws.proofs.rows.Rearranged.{same_curves}
use Rattle.meanings.specs.neighbours.Neighbours.{kth_distance, neighbour_bandwidth, neighbour_bandwidths, within, Kth, neighbours_refusal, neighbours}
use Rattle.meanings.specs.neighbours.Neighbours.{bandwidths_then, rows_then}
use Rattle.meanings.proofs.Kth.{kth_distance_is_kth}
use Rattle.laws.proofs.neighbours.Edges.{kth_small}
use Rattle.laws.proofs.neighbours.Refusals.{NeighboursAccepted, neighbours_accepts}

-- a test that counts something passes somewhere
counted_somewhere : (p : ℕ → Bool) (xs : List ℕ) → 0 < count p xs → (i : ℕ) × ((i < length xs) × (p (get_or xs i 0) ≡ true))
counted_somewhere p [] l = absurd (not-suc-le-zero l)
counted_somewhere p (x ∷ xs) l = by (p x) refl l (counted_somewhere p xs)
  where
    by : (b : Bool) → p x ≡ b → 0 < pick b (suc (count p xs)) (count p xs)
        → (0 < count p xs → (i : ℕ) × ((i < length xs) × (p (get_or xs i 0) ≡ true)))
        → (i : ℕ) × ((i < length (x ∷ xs)) × (p (get_or (x ∷ xs) i 0) ≡ true))
    by true e m later = (0, (omega arith, e))
    by false e m later = let r = later m in (suc r.0, (omega (arith, r.1.0), r.1.1))

-- a total is at least each of its terms
term_at_most_total : (g : ℕ → ℕ) (n i : ℕ) → i < n → g i ≤ total g 0 n
term_at_most_total g zero i l = absurd (not-suc-le-zero l)
term_at_most_total g (suc n) i l = by (eq-or-lt_of_le (le_of_suc-le-suc l)) (term_at_most_total g n i)
  where
    by : (i ≡ n) ⊎ (i < n) → (i < n → g i ≤ total g 0 n) → g i ≤ total g 0 n + g (0 + n)
    by (inl e) f = let q : g i ≡ g (0 + n) = ap g (omega arith) in omega arith
    by (inr m) f = let q = f m in omega arith

-- a reading nearer than the half width gives the row a weight
near_weighs : (ts : List ℕ) (z h : ℕ) → Ordered ts → (i : ℕ) → i < length ts → distance (get_or ts i 0) z < h → 0 < weight_of ts z h
unfolding weight_of
near_weighs ts z h o i l near =
    let all = total_is_over_run (λ j. kernel z h (get_or ts j 0)) ts z h o (λ j. outside_is_zero z h (get_or ts j 0)) in
    let one = term_at_most_total (λ j. kernel z h (get_or ts j 0)) (length ts) i l in
    let Some = (weighs_near z h (get_or ts i 0)).1 near in
    omega arith

kth_weighs : (ts : List ℕ) (z k d : ℕ) → Ordered ts → 1 ≤ k → Kth ts z k d → 0 < weight_of ts z (d + 1)
unfolding within
kth_weighs ts z k d o low p =
    let s = counted_somewhere (λ t. leb (distance t z) d) ts (omega (arith, p.enough_within)) in
    near_weighs ts z (d + 1) o s.0 s.1.0 (let m = leb-true _ d s.1.1 in omega arith)

-- each row of an accepted call has a weight and a value
module _ (ts vs zs : List ℕ) (k : ℕ) (hs : List ℕ) (n : ℕ) (a : NeighboursAccepted ts vs zs k hs n) (minutes : AtMost max_u16 ts)
    (values : AtMost max_u16 vs) (z : ℕ) (point : z ≤ max_u16) where
  is_kth : Kth ts z k (kth_distance ts z k)
  is_kth = kth_distance_is_kth ts z k a.low a.high

  pub row_weighs : 0 < (estimate ts vs z (neighbour_bandwidth ts z k)).weight
  unfolding estimate
  row_weighs = kth_weighs ts z k (kth_distance ts z k) a.ordered a.low is_kth

  pub row_fits : EvaluateAccepted ts vs (neighbour_bandwidth ts z k)
  row_fits =
      let s = kth_small ts z k (kth_distance ts z k) minutes point a.high is_kth in
      record { even = a.even; few = a.few; ordered = a.ordered; positive = omega arith; bandwidth = omega arith }

  pub row_value : (estimate ts vs z (neighbour_bandwidth ts z k)).value ≤ max_u16
  unfolding estimate
  row_value =
      let f = row_fits in
      value_bound ts vs z (neighbour_bandwidth ts z k)
      (record { even = f.even; few = f.few; values = values; bandwidth = f.bandwidth })
      (kth_weighs ts z k (kth_distance ts z k) a.ordered a.low is_kth)

  pub row_not_missing : ¬ ((estimate ts vs z (neighbour_bandwidth ts z k)).value ≡ missing)
  row_not_missing e = let v = row_value in omega arith

-- values that have changed places among equal minutes
module _ (ts vs vs' : List ℕ) (r : Rearranged ts vs vs') where
  same_refusal : (L : Limits) (zs : List ℕ) (k : ℕ) (hs rs : List ℕ) → neighbours_refusal L ts vs zs k hs rs ≡ neighbours_refusal L ts vs' zs k hs rs
  same_refusal L zs k hs rs = rw (← r.even, ← r.even')

  same_rows : Ordered ts → (zs hs : List ℕ) (n : ℕ) → rows ts vs zs hs n ≡ rows ts vs' zs hs n
  same_rows o zs hs zero = refl
  same_rows o zs hs (suc n) =
      ap (λ (q : List ℕ). q ++ fields (estimate ts vs (get_or zs n 0) (get_or hs n 0))) (same_rows o zs hs n)
      ∙ ap (λ (e : Estimate). rows ts vs' zs hs n ++ fields e) ((same_curves ts vs vs' r).estimates o (get_or zs n 0) (get_or hs n 0))

  pub same_answer : (L : Limits) (zs : List ℕ) (k : ℕ) (hs rs : List ℕ) → neighbours L ts vs zs k hs rs ≡ neighbours L ts vs' zs k hs rs
  unfolding neighbours
  same_answer L zs k hs rs = ap (λ (f : Option Fault). unless f tt) (same_refusal L zs k hs rs)

  pub same_bandwidths_then : (L : Limits) (zs : List ℕ) (k : ℕ) (hs rs : List ℕ) → bandwidths_then L ts vs zs k hs rs ≡ bandwidths_then L ts vs' zs k hs rs
  unfolding bandwidths_then
  same_bandwidths_then L zs k hs rs =
      ap (λ (f : Option Fault). accepted_or f (neighbour_bandwidths ts zs k) hs) (same_refusal L zs k hs rs)

  pub same_rows_then : (L : Limits) → LimitsWithin L full → (zs : List ℕ) (k : ℕ) (hs rs : List ℕ)
      → rows_then L ts vs zs k hs rs ≡ rows_then L ts vs' zs k hs rs
  unfolding rows_then
  same_rows_then L w zs k hs rs = rw (← (same_refusal L zs k hs rs)) (by (neighbours_refusal L ts vs zs k hs rs) refl)
    where
      nb : List ℕ
      nb = neighbour_bandwidths ts zs k

      by : (f : Option Fault) → neighbours_refusal L ts vs zs k hs rs ≡ f
          → accepted_or f (rows ts vs zs nb (length zs)) rs ≡ accepted_or f (rows ts vs' zs nb (length zs)) rs
      by (Some e) q = refl
      by None q = same_rows (neighbours_accepts L ts vs zs k hs w (length rs) q).ordered zs nb (length zs)

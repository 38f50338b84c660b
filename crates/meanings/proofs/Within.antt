-- The kernel is no less than 0, so a greater value gives no smaller sum, and by one weight no smaller rounded quotient; edges and weight do not
-- look at values. The lowest values are themselves a choice, and so are the highest: each end is reached, by one choice for the whole curve.
use Prim.Native.Nat.{ℕ, zero, suc, ◌+◌, ◌-◌, ◌≤◌, ◌<◌, zero-le, ◌*◌}
use mathlib.Core.Path.{◌≡◌, refl, sym, ◌∙◌}
use mathlib.Core.Logic.{◌↔◌}
use mathlib.Core.List.{List, [], ◌∷◌}
use native.Mathlib.Nat.{le_refl, le_trans, mul-le-mul_left}
use native.Mathlib.Decide.{dec_lt, ℕ_discrete}
use native.Mathlib.Omega.{arith}
use lib.ListN.{length, get_or, get_or-eq_default}
use Rattle.meanings.specs.Lists.{total, AtMost}
use Rattle.meanings.specs.Limits.{max_u16}
use Rattle.meanings.specs.Estimate.{kernel, left_of, right_of, weight_of, sum_of, value_of, missing, estimate}
use Rattle.meanings.proofs.Bounds.{sum_at_most_times}
use Rattle.meanings.proofs.Rounding.{rounded_monotone, rounded_at_most, value_present, value_missing}
use Rattle.meanings.specs.ranges.Ranges.{range_estimate, range_fields}
use Rattle.meanings.specs.ranges.RangeLaws.{Choice, LiesWithin, MissingTogether}

total_grows : (f g : ℕ → ℕ) (a n : ℕ) → ((i : ℕ) → i < n → f (a + i) ≤ g (a + i)) → total f a n ≤ total g a n
total_grows f g a zero k = zero-le
total_grows f g a (suc n) k = omega (arith, total_grows f g a n (λ i l. k i (omega arith)), k n (omega arith))

-- a list of values that is nowhere less gives no smaller sum
sum_grows : (ts vs vs' : List ℕ) (z h : ℕ) → ((i : ℕ) → get_or vs i 0 ≤ get_or vs' i 0) → sum_of ts vs z h ≤ sum_of ts vs' z h
unfolding sum_of
sum_grows ts vs vs' z h m =
    total_grows (λ i. kernel z h (get_or ts i 0) * get_or vs i 0) (λ i. kernel z h (get_or ts i 0) * get_or vs' i 0) (left_of ts z h)
    (right_of ts z h - left_of ts z h) (λ i l. mul-le-mul_left (kernel z h (get_or ts (left_of ts z h + i) 0)) (m (left_of ts z h + i)))

value_grows : (s t w : ℕ) → s ≤ t → value_of s w ≤ value_of t w
value_grows s t w l = by (ℕ_discrete w 0)
  where
    by : Dec (w ≡ 0) → value_of s w ≤ value_of t w
    by (yes e) = rw (e, value_missing s, value_missing t) (le_refl missing)
    by (no n) =
        let p : 0 < w = omega arith in
        rw (value_present s w p, value_present t w p) (rounded_monotone s t w p l)

-- at every position, also behind the end, where all three lists read 0
module _ (ls us vs : List ℕ) (c : Choice ls us vs) where
  low_everywhere : (i : ℕ) → get_or ls i 0 ≤ get_or vs i 0
  low_everywhere i = by (dec_lt i (length vs))
    where
      by : Dec (i < length vs) → get_or ls i 0 ≤ get_or vs i 0
      by (yes l) = c.at_least i l
      by (no n) = rw (get_or-eq_default ls 0 {n = i} (let e = c.lows in omega arith)) zero-le

  high_everywhere : (i : ℕ) → get_or vs i 0 ≤ get_or us i 0
  high_everywhere i = by (dec_lt i (length vs))
    where
      by : Dec (i < length vs) → get_or vs i 0 ≤ get_or us i 0
      by (yes l) = c.at_most i l
      by (no n) = rw (get_or-eq_default vs 0 {n = i} (omega arith)) zero-le

-- for any minutes, in any order, and any mark and half width
pub row_lies_within : (ts ls us vs : List ℕ) (z h : ℕ) → Choice ls us vs → LiesWithin (estimate ts vs z h) (range_estimate ts ls us z h)
unfolding estimate range_estimate
row_lies_within ts ls us vs z h c =
    let low = sum_grows ts ls vs z h (low_everywhere ls us vs c) in
    let high = sum_grows ts vs us z h (high_everywhere ls us vs c) in
    record {
      left = refl;
      right = refl;
      weight = refl;
      sum_at_least = low;
      sum_at_most = high;
      value_at_least = value_grows _ _ (weight_of ts z h) low;
      value_at_most = value_grows _ _ (weight_of ts z h) high;
    }

-- values of 16 bits: the value is missing exactly if the weight is 0
missing_by_weight : (ts vs : List ℕ) (z h : ℕ) → length ts ≡ length vs → AtMost max_u16 vs
    → ((estimate ts vs z h).value ≡ missing) ↔ (weight_of ts z h ≡ 0)
unfolding estimate
missing_by_weight ts vs z h e m = (λ q. by (ℕ_discrete (weight_of ts z h) 0) q, λ q. rw q (value_missing _))
  where
    by : Dec (weight_of ts z h ≡ 0) → value_of (sum_of ts vs z h) (weight_of ts z h) ≡ missing → weight_of ts z h ≡ 0
    by (yes q) v = q
    by (no n) v =
        let p : 0 < weight_of ts z h = omega arith in
        let b = rounded_at_most _ _ max_u16 p (sum_at_most_times ts vs z h e m) in
        let f = value_present (sum_of ts vs z h) (weight_of ts z h) p in
        omega arith

module _ (ls us vs : List ℕ) (c : Choice ls us vs) (small : AtMost max_u16 us) where
  pub choice_small : AtMost max_u16 vs
  choice_small i l = le_trans (c.at_most i l) (small i (let e = c.highs in omega arith))

  pub lows_small : AtMost max_u16 ls
  lows_small i l =
      let m : i < length vs = (let e = c.lows in omega arith) in
      le_trans (c.at_least i m) (choice_small i m)

  pub missing_together : (ts : List ℕ) (z h : ℕ) → length ts ≡ length vs → MissingTogether (estimate ts vs z h) (range_estimate ts ls us z h)
  unfolding range_estimate
  missing_together ts z h e =
      let mine = missing_by_weight ts vs z h e choice_small in
      let low = missing_by_weight ts ls z h (e ∙ sym c.lows) lows_small in
      let high = missing_by_weight ts us z h (e ∙ sym c.highs) small in
      record { low = (λ q. low.1 (mine.0 q), λ q. mine.1 (low.0 q)); high = (λ q. high.1 (mine.0 q), λ q. mine.1 (high.0 q)) }

-- lists of one length that do not cross
pub record Uncrossed (ls us : List ℕ) : Type 0 where
  pub even : length ls ≡ length us
  pub each : (i : ℕ) → i < length ls → get_or ls i 0 ≤ get_or us i 0

-- the lowest values are a choice, and the highest are
pub lows_chosen : (ls us : List ℕ) → Uncrossed ls us → Choice ls us ls
lows_chosen ls us u = record { lows = refl; highs = sym u.even; at_least = λ i l. le_refl _; at_most = u.each }

pub highs_chosen : (ls us : List ℕ) → Uncrossed ls us → Choice ls us us
highs_chosen ls us u = record { lows = u.even; highs = refl; at_least = λ i l. u.each i (let e = u.even in omega arith); at_most = λ i l. le_refl _ }

-- they reach the ends of every row
pub low_ends_reached : (ts ls us : List ℕ) (z h : ℕ)
    → ((estimate ts ls z h).sum ≡ (range_estimate ts ls us z h).sum.low) × ((estimate ts ls z h).value ≡ (range_estimate ts ls us z h).value.low)
unfolding range_estimate
low_ends_reached ts ls us z h = (refl, refl)

pub high_ends_reached : (ts ls us : List ℕ) (z h : ℕ)
    → ((estimate ts us z h).sum ≡ (range_estimate ts ls us z h).sum.high) × ((estimate ts us z h).value ≡ (range_estimate ts ls us z h).value.high)
unfolding range_estimate
high_ends_reached ts ls us z h = (refl, refl)

-- ranges of one value each: the plain row, with sum and value standing twice
pub plain_doubled : (ts vs : List ℕ) (z h : ℕ)
    → let e = estimate ts vs z h in
    range_fields (range_estimate ts vs vs z h) ≡ e.left ∷ e.right ∷ e.weight ∷ e.sum ∷ e.sum ∷ e.value ∷ e.value ∷ []
unfolding range_estimate
plain_doubled ts vs z h = refl

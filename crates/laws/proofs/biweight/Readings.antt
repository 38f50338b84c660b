-- The biweight row stays among its readings, and its readings of equal minute may change places: a weight above zero is that of a reading nearer than
-- the half width, so weight and sum are totals over all readings, of which the laws for any weights and for any sum over readings speak.
use Prim.Native.Nat.{ℕ, ◌*◌, ◌<◌}
use mathlib.Core.Path.{◌≡◌, sym, ap, ◌∙◌}
use mathlib.Core.Logic.{◌↔◌}
use mathlib.Core.List.{List}
use native.Mathlib.Nat.{zero-mul}
use native.Mathlib.Decide.{dec_lt}
use native.Mathlib.Omega.{arith}
use lib.ListN.{length, get_or}
use Rattle.meanings.specs.Lists.{total, distance, Ordered}
use Rattle.meanings.specs.Limits.{full}
use Rattle.meanings.specs.Estimate.{Inside, missing, value_of}
use Rattle.meanings.proofs.Checks.{same_limits, evaluate_accepts}
use Rattle.meanings.proofs.Published.{total_is_over_run}
use Rattle.meanings.proofs.Rounding.{value_present, value_missing}
use Rattle.meanings.specs.biweight.Biweight.{biweight_kernel, biweight_weight, biweight_sum, biweight_row}
use Rattle.meanings.proofs.BiweightBounds as bounds
use Rattle.laws.specs.rows.AmongReadings.{weight_at, value_at, StaysAmong}
use Rattle.laws.specs.rows.Rearranged.{MayChangePlaces}
use Rattle.laws.specs.rows.Weighted.{Weighs, Extreme, Between}
use Rattle.laws.proofs.rows.AmongReadings as plain
use Rattle.laws.proofs.rows.Rearranged.{same_total}
use Rattle.laws.proofs.rows.Weighted.{mean_among}
use Rattle.laws.specs.biweight.Readings.{biweight_weight_at, BiweightAmong}

outside_is_zero : (z h t : ℕ) → ¬ Inside z h t → biweight_kernel z h t ≡ 0
unfolding distance
outside_is_zero z h t out = by (dec_lt 0 (biweight_kernel z h t))
  where
    by : Dec (0 < biweight_kernel z h t) → biweight_kernel z h t ≡ 0
    by (yes p) = let l = (bounds.weighs_near h (distance t z)).0 p in absurd (out (omega arith, omega arith))
    by (no p) = omega arith

module _ (ts vs : List ℕ) (z h : ℕ) (o : Ordered ts) where
  weight_of_all : biweight_weight ts z h ≡ total (biweight_weight_at ts z h) 0 (length ts)
  unfolding biweight_weight
  weight_of_all = sym (total_is_over_run _ ts z h o (λ i. outside_is_zero z h (get_or ts i 0)))

  sum_of_all : biweight_sum ts vs z h ≡ total (λ i. biweight_weight_at ts z h i * value_at vs i) 0 (length ts)
  unfolding biweight_sum
  sum_of_all = sym (total_is_over_run _ ts z h o (λ i out. ap (λ k. k * get_or vs i 0) (outside_is_zero z h (get_or ts i 0) out) ∙ zero-mul _))

  -- where the value is present the weight is above 0
  present_weighs : ¬ (value_of (biweight_sum ts vs z h) (biweight_weight ts z h) ≡ missing) → 0 < biweight_weight ts z h
  present_weighs n = by (dec_lt 0 (biweight_weight ts z h))
    where
      by : Dec (0 < biweight_weight ts z h) → 0 < biweight_weight ts z h
      by (yes l) = l
      by (no l) =
          let e : biweight_weight ts z h ≡ 0 = omega arith in
          absurd (n (ap (value_of (biweight_sum ts vs z h)) e ∙ value_missing (biweight_sum ts vs z h)))

  pub row_among : ¬ ((biweight_row ts vs z h).value ≡ missing) → BiweightAmong ts vs z h (biweight_row ts vs z h)
  unfolding biweight_row
  row_among n =
      let p = present_weighs n in
      record {
        weight_above_zero = p;
        between =
            rw (value_present (biweight_sum ts vs z h) (biweight_weight ts z h) p, sum_of_all, weight_of_all)
            (mean_among (biweight_weight_at ts z h) (value_at vs) (length ts) (rw weight_of_all at p));
        weighs_is_near = λ i. (
          λ g. (g.within, (bounds.weighs_near h (distance (get_or ts i 0) z)).0 g.above_zero),
          λ g. record { within = g.0; above_zero = (bounds.weighs_near h (distance (get_or ts i 0) z)).1 g.1 },
        );
      }

-- what lies between the extremes of weights lies between those of other weights that are above zero at the same positions
module _ (w u v : ℕ → ℕ) (n : ℕ) (to : (i : ℕ) → Weighs w n i → Weighs u n i) (from : (i : ℕ) → Weighs u n i → Weighs w n i) where
  same_extreme : (R : ℕ → ℕ → Type 0) (x : ℕ) → Extreme R w v n x → Extreme R u v n x
  same_extreme R x e = record {
    position = e.position;
    weighs = to _ e.weighs;
    reached = e.reached;
    each = λ i g. e.each i (from i g);
  }

  same_between : (x : ℕ) → Between w v n x → Between u v n x
  same_between x b = record {
    low = b.low;
    high = b.high;
    lowest = same_extreme _ _ b.lowest;
    highest = same_extreme _ _ b.highest;
    at_least = b.at_least;
    at_most = b.at_most;
  }

-- the landed claims, of this row
pub row_stays_among : StaysAmong biweight_row
row_stays_among ts vs z h e n =
    let o = (evaluate_accepts full (same_limits full) ts vs h e).ordered in
    let a = row_among ts vs z h o n in
    record {
      weight_above_zero = a.weight_above_zero;
      between = same_between _ (weight_at ts z h) (value_at vs) (length ts) to from _ a.between;
      weighs_is_near = near;
    }
  where
    near : (i : ℕ) → Weighs (weight_at ts z h) (length ts) i ↔ ((i < length ts) × (distance (get_or ts i 0) z < h))
    near i = (
      λ g. (g.within, (plain.weighs_near z h (get_or ts i 0)).0 g.above_zero),
      λ g. record { within = g.0; above_zero = (plain.weighs_near z h (get_or ts i 0)).1 g.1 },
    )

    to : (i : ℕ) → Weighs (biweight_weight_at ts z h) (length ts) i → Weighs (weight_at ts z h) (length ts) i
    to i g = (near i).1 (g.within, (bounds.weighs_near h (distance (get_or ts i 0) z)).0 g.above_zero)

    from : (i : ℕ) → Weighs (weight_at ts z h) (length ts) i → Weighs (biweight_weight_at ts z h) (length ts) i
    from i g = record { within = g.within; above_zero = (bounds.weighs_near h (distance (get_or ts i 0) z)).1 ((near i).0 g).1 }

pub row_may_change_places : MayChangePlaces biweight_row
unfolding biweight_row
row_may_change_places ts vs vs' z h o r =
    rw (sum_of_all ts vs z h o ∙ same_total ts vs vs' r (λ t v. biweight_kernel z h t * v) ∙ sym (sum_of_all ts vs' z h o))

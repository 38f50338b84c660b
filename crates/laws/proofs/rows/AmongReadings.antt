-- Outside of the run every weight is 0, so weight and sum of a row are totals over all readings, and a present value is their rounded quotient:
-- it lies between the values with a weight above zero, by the law for any weights.
use Prim.Native.Nat.{ℕ, ◌-◌, ◌*◌, ◌≤◌, ◌<◌}
use mathlib.Core.Path.{◌≡◌, sym, ap, ◌∙◌}
use mathlib.Core.Logic.{◌↔◌}
use mathlib.Core.List.{List}
use native.Mathlib.Nat.{mul-le-mul, zero-mul}
use native.Mathlib.Decide.{dec_lt}
use native.Mathlib.Omega.{arith}
use lib.ListN.{length, get_or}
use Rattle.meanings.specs.declared.Estimate.{Estimate}
use Rattle.meanings.specs.Lists.{total, distance, Ordered}
use Rattle.meanings.specs.Limits.{full}
use Rattle.meanings.specs.Reports.{given}
use Rattle.meanings.specs.Estimate.{kernel, weight_of, sum_of, missing, value_of, estimate}
use Rattle.meanings.specs.Calls.{evaluate, evaluate_refusal}
use Rattle.meanings.proofs.Checks.{same_limits, evaluate_accepts, given_accepted}
use Rattle.meanings.proofs.Published.{outside_is_zero, total_is_over_run}
use Rattle.meanings.proofs.Rounding.{value_present, value_missing}
use Rattle.laws.specs.rows.AmongReadings.{weight_at, value_at, Among, StaysAmong}
use Rattle.laws.proofs.rows.Weighted.{mean_among}

-- a weight above zero is that of a reading nearer than the half width
pub weighs_near : (z h t : ℕ) → (0 < kernel z h t) ↔ (distance t z < h)
unfolding kernel
weighs_near z h t = (λ p. by p (dec_lt (distance t z) h), λ l. let s = mul-le-mul l l in omega arith)
  where
    by : 0 < h * h - distance t z * distance t z → Dec (distance t z < h) → distance t z < h
    by p (yes l) = l
    by p (no l) = let g : h ≤ distance t z = omega arith in absurd (let s = mul-le-mul g g in omega arith)

module _ (ts vs : List ℕ) (z h : ℕ) (o : Ordered ts) where
  weight_of_all : weight_of ts z h ≡ total (weight_at ts z h) 0 (length ts)
  unfolding weight_of
  weight_of_all = sym (total_is_over_run _ ts z h o (λ i. outside_is_zero z h (get_or ts i 0)))

  pub sum_of_all : sum_of ts vs z h ≡ total (λ i. weight_at ts z h i * value_at vs i) 0 (length ts)
  unfolding sum_of
  sum_of_all = sym (total_is_over_run _ ts z h o (λ i out. ap (λ k. k * get_or vs i 0) (outside_is_zero z h (get_or ts i 0) out) ∙ zero-mul _))

  -- where the value is present the weight is above 0
  present_weighs : ¬ (value_of (sum_of ts vs z h) (weight_of ts z h) ≡ missing) → 0 < weight_of ts z h
  present_weighs n = by (dec_lt 0 (weight_of ts z h))
    where
      by : Dec (0 < weight_of ts z h) → 0 < weight_of ts z h
      by (yes l) = l
      by (no l) =
          let e : weight_of ts z h ≡ 0 = omega arith in
          absurd (n (ap (value_of (sum_of ts vs z h)) e ∙ value_missing (sum_of ts vs z h)))

  pub estimate_among : ¬ ((estimate ts vs z h).value ≡ missing) → Among ts vs z h (estimate ts vs z h)
  unfolding estimate
  estimate_among n =
      let p = present_weighs n in
      record {
        weight_above_zero = p;
        between =
            rw (value_present (sum_of ts vs z h) (weight_of ts z h) p, sum_of_all, weight_of_all)
            (mean_among (weight_at ts z h) (value_at vs) (length ts) (rw weight_of_all at p));
        weighs_is_near = λ i. (
          λ g. (g.within, (weighs_near z h (get_or ts i 0)).0 g.above_zero),
          λ g. record { within = g.0; above_zero = (weighs_near z h (get_or ts i 0)).1 g.1 },
        );
      }

pub estimate_stays_among : StaysAmong estimate
estimate_stays_among ts vs z h e n = estimate_among ts vs z h (evaluate_accepts full (same_limits full) ts vs h e).ordered n

-- each row that the question at one mark gives, and so each row of a sweep or a preview, which is one of these (smooth_row_is_evaluate)
pub evaluation_among : (ts vs : List ℕ) (z h : ℕ) (e : Estimate) → evaluate full ts vs z h ≡ given e → ¬ (e.value ≡ missing) → Among ts vs z h e
unfolding evaluate
evaluation_among ts vs z h e q n =
    let a = given_accepted (evaluate_refusal full ts vs h) (estimate ts vs z h) e q in
    rw (← a.1) (estimate_stays_among ts vs z h a.0 (rw (← a.1) at n))

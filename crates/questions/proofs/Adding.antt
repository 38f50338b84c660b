-- The first pass: what lies before the window has no weight, and weight and sum are those of the readings before i; behind the window there is
-- no weight again. Of 1,024 readings neither comes near 2^64.
use Prim.Native.Nat.{ℕ, ◌+◌, ◌-◌, ◌*◌, ◌^◌, ◌≤◌, ◌<◌}
use mathlib.Core.Path.{◌≡◌, sym, ap, ◌∙◌}
use mathlib.Core.List.{List}
use native.Mathlib.Nat.{le_refl, le_trans, mul-le-mul, zero-add, zero-mul}
use native.Mathlib.Numerals.{add-one}
use native.Mathlib.Omega.{arith}
use mir.Val.{Fits}
use mir.Syntax.{w16}
use lib.ListN.{length, get_or}
use Rattle.meanings.specs.Limits.{max_bandwidth, max_u16}
use Rattle.meanings.specs.Lists.{total, AtMost}
use Rattle.meanings.specs.Estimate.{kernel}
use Rattle.meanings.proofs.Bounds.{total_at_most}
use Rattle.meanings.proofs.Checks.{EvaluateAccepted}
use Rattle.meanings.proofs.Kernel.{kernel_at_most}
use Rattle.meanings.proofs.Published.{outside_is_zero}
use Rattle.meanings.proofs.Totals.{total_zero, total_narrow}
use Rattle.meanings.proofs.Removal.{weight_over_all, sum_over_all}
use Rattle.arithmetic.specs.Positions.{FirstAtLeast}
use Rattle.questions.specs.DecisiveSearch.{IsRun}

pub of_16_bits : (xs : List ℕ) → ((i : ℕ) → Fits w16 (get_or xs i 0)) → AtMost max_u16 xs
of_16_bits xs f i l = omega (arith, f i)

-- one reading's terms
pub kernel_small : (z h t : ℕ) → h ≤ max_bandwidth → kernel z h t ≤ 4294967296
kernel_small z h t l = le_trans (kernel_at_most z h t) (mul-le-mul l l)

pub term_small : (z h t v : ℕ) → h ≤ max_bandwidth → v ≤ max_u16 → kernel z h t * v ≤ 281470681743360
term_small z h t v l m = mul-le-mul (kernel_small z h t l) m

-- weight and sum of the readings before i; those before left and from right on have none
pub record TotalTo (ts vs : List ℕ) (z h left right i w s : ℕ) : Type 0 where
  pub accepted : EvaluateAccepted ts vs h
  pub upto : i ≤ right
  pub within : right ≤ length ts
  pub nothing_before : (j : ℕ) → j < left → kernel z h (get_or ts j 0) ≡ 0
  pub nothing_behind : (j : ℕ) → right ≤ j → j < length ts → kernel z h (get_or ts j 0) ≡ 0
  pub weight_is : w ≡ total (λ j. kernel z h (get_or ts j 0)) 0 i
  pub sum_is : s ≡ total (λ j. kernel z h (get_or ts j 0) * get_or vs j 0) 0 i

weightless_term : (k v : ℕ) → k ≡ 0 → k * v ≡ 0
weightless_term k v e = ap (λ (x : ℕ). x * v) e ∙ zero-mul v

pub total_begins : (ts vs : List ℕ) (z h low left right : ℕ) → EvaluateAccepted ts vs h → low ≡ z - h
    → FirstAtLeast ts low left → FirstAtLeast ts (z + h + 1) right → TotalTo ts vs z h left right left 0 0
total_begins ts vs z h low left right a e b d = record {
  accepted = a;
  upto = let n = in_order in omega arith;
  within = d.within;
  nothing_before = nothing;
  nothing_behind = λ j m n. outside_is_zero z h (get_or ts j 0) (λ inside. omega (arith, inside.1, d.rest a.ordered j m n));
  weight_is = sym (total_zero (λ j. kernel z h (get_or ts j 0)) 0 left (λ j m n. nothing j (omega arith)));
  sum_is =
      sym
      (total_zero (λ j. kernel z h (get_or ts j 0) * get_or vs j 0) 0 left
      (λ j m n. weightless_term (kernel z h (get_or ts j 0)) (get_or vs j 0) (nothing j (omega arith))));
}
  where
    nothing : (j : ℕ) → j < left → kernel z h (get_or ts j 0) ≡ 0
    nothing j l = outside_is_zero z h (get_or ts j 0) (λ inside. omega (arith, inside.0, b.below a.ordered j l))

    in_order : ¬ (right < left)
    in_order l = omega (arith, e, b.below a.ordered right l, d.rest a.ordered right (le_refl right) (omega (arith, b.within)))

module _ {ts vs : List ℕ} {z h left right i w s : ℕ} (c : TotalTo ts vs z h left right i w s) where
  pub run_ends : right ≤ i → IsRun ts vs z h (record { left = left; right = right; weight = w; sum = s })
  run_ends l = record {
    before = λ j l m. c.nothing_before j l;
    behind = c.nothing_behind;
    within = c.within;
    weight_is =
        c.weight_is
        ∙ sym
        (weight_over_all ts z h c.accepted.ordered
        ∙ total_narrow (λ j. kernel z h (get_or ts j 0)) 0 i (length ts) (omega (arith, c.upto, c.within)) (λ j l. absurd (omega arith))
        (λ j l m. nothing j (omega arith) m));
    sum_is =
        c.sum_is
        ∙ sym
        (sum_over_all ts z h c.accepted.ordered vs
        ∙ total_narrow (λ j. kernel z h (get_or ts j 0) * get_or vs j 0) 0 i (length ts) (omega (arith, c.upto, c.within)) (λ j l. absurd (omega arith))
        (λ j l m. weightless_term (kernel z h (get_or ts j 0)) (get_or vs j 0) (nothing j (omega arith) m)));
  }
    where
      nothing : (j : ℕ) → i ≤ j → j < length ts → kernel z h (get_or ts j 0) ≡ 0
      nothing j m n = c.nothing_behind j (omega arith) n

  module _ (l : i < right) where
    module _ {k : ℕ} (e : k ≡ kernel z h (get_or ts i 0)) where
      term : ((j : ℕ) → Fits w16 (get_or vs j 0)) → k * get_or vs i 0 ≤ 281470681743360
      term f = rw e (term_small z h (get_or ts i 0) (get_or vs i 0) c.accepted.bandwidth (of_16_bits vs f i (omega (arith, c.accepted.even, c.within))))

      pub weight_fits : w + k < 2 ^ 64
      weight_fits =
          let a = total_at_most (λ j. kernel z h (get_or ts j 0)) 4294967296 0 i (λ j m. kernel_small z h (get_or ts (0 + j) 0) c.accepted.bandwidth) in
          let b = kernel_small z h (get_or ts i 0) c.accepted.bandwidth in
          let n : i ≤ 1024 = omega (arith, c.accepted.few, c.within) in
          let q : k ≤ 4294967296 = omega (arith, e) in
          omega (arith, c.weight_is)

      pub term_fits : ((j : ℕ) → Fits w16 (get_or vs j 0)) → k * get_or vs i 0 < 2 ^ 64
      term_fits f = omega (arith, term f)

      pub sum_fits : ((j : ℕ) → Fits w16 (get_or vs j 0)) → s + k * get_or vs i 0 < 2 ^ 64
      sum_fits f =
          let a = total_at_most (λ j. kernel z h (get_or ts j 0) * get_or vs j 0) 281470681743360 0 i
          (λ j m.
          term_small z h (get_or ts (0 + j) 0) (get_or vs (0 + j) 0) c.accepted.bandwidth
          (of_16_bits vs f (0 + j) (omega (arith, c.accepted.even, c.within)))) in
          let n : i ≤ 1024 = omega (arith, c.accepted.few, c.within) in
          omega (arith, c.sum_is, term f)

      pub total_goes_on : TotalTo ts vs z h left right (i + 1) (w + k) (s + k * get_or vs i 0)
      total_goes_on = rw (add-one i) (record {
        accepted = c.accepted;
        upto = l;
        within = c.within;
        nothing_before = c.nothing_before;
        nothing_behind = c.nothing_behind;
        weight_is =
            ap (λ (x : ℕ). x + k) c.weight_is
            ∙ ap (λ (x : ℕ). total (λ j. kernel z h (get_or ts j 0)) 0 i + x) (e ∙ ap (λ (j : ℕ). kernel z h (get_or ts j 0)) (sym (zero-add i)));
        sum_is =
            ap (λ (x : ℕ). x + k * get_or vs i 0) c.sum_is
            ∙ ap (λ (x : ℕ). total (λ j. kernel z h (get_or ts j 0) * get_or vs j 0) 0 i + x)
            (ap (λ (x : ℕ). x * get_or vs i 0) e ∙ ap (λ (j : ℕ). kernel z h (get_or ts j 0) * get_or vs j 0) (sym (zero-add i)));
      })

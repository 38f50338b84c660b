-- Where no check of the comparison holds, each tank alone would be swept: the marks have been looked at with the first one, and the second one's
-- lists by themselves.
use Prim.Native.Nat.{ℕ}
use mathlib.Core.Path.{◌≡◌, refl}
use mathlib.Core.Bool.{false}
use mathlib.Core.List.{List, [], ◌∷◌}
use Rattle.std.specs.Prelude.{Option, None, Some}
use native.Mathlib.Nat.{le_trans}
use native.Mathlib.Omega.{arith}
use Rattle.meanings.specs.declared.Limits.{Limits}
use Rattle.meanings.specs.Limits.{full, LimitsWithin}
use Rattle.meanings.specs.Reports.{Fault, check, first_of, size_checks, sample_order_checks, series_checks, curve_checks}
use Rattle.meanings.proofs.Checks.{none_of_both, size_accepts, sample_order_accepts}
use Rattle.meanings.proofs.SmoothSteps.{CurveAccepted, curve_accepts}
use Rattle.meanings.specs.pair.Comparison.{fault_place, second_checks, compare_refusal}

-- both tanks are fit for the marks
pub record PairAccepted (ts vs us ws zs hs : List ℕ) : Type 0 where
  pub first : CurveAccepted ts vs zs hs
  pub second : CurveAccepted us ws zs hs

-- 16 holds nowhere: the lists earn nothing
pub none_earned : (L : Limits) (us ws : List ℕ) → first_of (second_checks L us ws) ≡ None → first_of (series_checks L us ws) ≡ None
none_earned L us ws e = by (first_of (series_checks L us ws)) refl e
  where
    by : (o : Option Fault) → first_of (series_checks L us ws) ≡ o → first_of (check 16 (fault_place o) ∷ []) ≡ None
        → first_of (series_checks L us ws) ≡ None
    by None q n = q
    by (Some f) q n = let z : ◌≡◌ {A = ℕ} 0 1 = cc in absurd (omega arith)

pub pair_accepts : (L : Limits) → LimitsWithin L full → (ts vs us ws zs hs : List ℕ) → compare_refusal L ts vs us ws zs hs ≡ None
    → PairAccepted ts vs us ws zs hs
pair_accepts L w ts vs us ws zs hs e =
    let both = none_of_both (curve_checks L ts vs zs hs false) (second_checks L us ws) e in
    let a = curve_accepts L w ts vs zs hs false both.0 in
    let own = none_of_both (size_checks L us ws) (sample_order_checks us) (none_earned L us ws both.1) in
    let s = size_accepts L us ws own.0 in
    record {
      first = a;
      second = record {
        even = s.even;
        even_points = a.even_points;
        few = le_trans s.few w.samples;
        few_points = a.few_points;
        ordered = sample_order_accepts us own.1;
        bandwidths = a.bandwidths;
        left_edges = a.left_edges;
        right_edges = a.right_edges;
      };
    }

-- The refusal is that of the question at one mark with 720 minutes on each side: that half width is in range, so report 9 falls away. It is 8 or
-- 6 at place 0, or 4 at a position of the minutes.
use Prim.Native.Nat.{ℕ}
use native.Mathlib.Omega.{arith}
use mathlib.Core.Path.{◌≡◌, refl, sym, ap, ◌∙◌}
use mathlib.Core.List.{List, [], ◌∷◌, ◌++◌}
use Rattle.std.specs.Prelude.{Option, None, Some}
use lib.Dec.{ltb}
use lib.ListN.{length}
use Rattle.meanings.specs.Lists.{lowest}
use Rattle.meanings.specs.declared.Limits.{Limits}
use Rattle.meanings.specs.Reports.{Fault, Check, check, at, first_of, uneven_samples, decreases, series_checks, bandwidth_checks}
use Rattle.meanings.specs.Calls.{evaluate_refusal}
use Rattle.meanings.proofs.Checks.{first_of_front, first_of_rest}
use Rattle.meanings.specs.biweight.Biweight.{biweight_bandwidth, biweight_refusal}

-- checks of which none holds may be left out behind others
nothing_behind : (cs ds : List Check) → first_of ds ≡ None → first_of cs ≡ first_of (cs ++ ds)
nothing_behind cs ds e = by (first_of cs) refl
  where
    by : (f : Option Fault) → first_of cs ≡ f → f ≡ first_of (cs ++ ds)
    by None q = sym (first_of_rest cs ds q ∙ e)
    by (Some x) q = sym (first_of_front cs ds x q)

pub refused_as_evaluate : (L : Limits) (ts vs : List ℕ) → biweight_refusal L ts vs ≡ evaluate_refusal L ts vs biweight_bandwidth
refused_as_evaluate L ts vs = nothing_behind (series_checks L ts vs) (bandwidth_checks biweight_bandwidth) refl

-- no half width is looked at
pub never_nine : (L : Limits) (ts vs : List ℕ) (p : ℕ) → ¬ (biweight_refusal L ts vs ≡ Some (record { number = 9; place = p }))
never_nine L ts vs p = by (at 0 (uneven_samples ts vs)) (at 0 (ltb L.samples (length ts))) (lowest (decreases ts) (length ts))
  where
    numbered : Option Fault → ℕ
    numbered None = 0
    numbered (Some f) = f.number

    by : (a b c : Option ℕ) → ¬ (first_of (check 8 a ∷ check 6 b ∷ check 4 c ∷ []) ≡ Some (record { number = 9; place = p }))
    by (Some x) b c e = let n : ◌≡◌ {A = ℕ} 8 9 = ap numbered e in omega arith
    by None (Some x) c e = let n : ◌≡◌ {A = ℕ} 6 9 = ap numbered e in omega arith
    by None None (Some x) e = let n : ◌≡◌ {A = ℕ} 4 9 = ap numbered e in omega arith
    by None None None e = let n : ◌≡◌ {A = ℕ} 0 9 = ap numbered e in omega arith

-- What the check finds is what the sweep is refused for; where it finds nothing the lists are accepted, and what the code then makes is the sweep's
-- answer.
use Prim.Native.Nat.{ℕ}
use Rattle.std.specs.Prelude.{Result, Ok}
use mathlib.Core.Path.{◌≡◌, sym, ap, ◌∙◌}
use mathlib.Core.List.{List}
use lib.ListN.{length}
use Rattle.meanings.specs.declared.Limits.{Limits}
use Rattle.meanings.specs.declared.Refusal.{Refusal}
use Rattle.meanings.specs.Limits.{full, LimitsWithin}
use Rattle.meanings.specs.Reports.{verdict_fault, first_of, smooth_checks}
use Rattle.meanings.proofs.SmoothSteps.{SmoothAccepted, smooth_accepts}

-- the sweep under limits at most the full ones
module _ (L : Limits) (ts vs zs hs R : List ℕ) {v : Result Unit Refusal} (f : verdict_fault v ≡ first_of (smooth_checks L ts vs zs hs (length R))) where
  of_smooth : {w : Result Unit Refusal} → v ≡ w → first_of (smooth_checks L ts vs zs hs (length R)) ≡ verdict_fault w
  of_smooth q = sym (ap verdict_fault (sym q) ∙ f)

  pub smooth_accepted : LimitsWithin L full → {unit : Unit {0}} → v ≡ Ok unit → SmoothAccepted ts vs zs hs (length R)
  smooth_accepted w q = smooth_accepts L w ts vs zs hs (length R) (of_smooth q)

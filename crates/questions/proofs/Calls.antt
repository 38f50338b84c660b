-- What the check finds is what the call is refused for. Where it finds nothing the half widths are filled in, and the sweep with them refuses
-- nothing either: no edge goes back, and no half width is out of range.
use Prim.Native.Nat.{ℕ}
use Rattle.std.specs.Prelude.{Result, Ok, Err}
use Rattle.meanings.specs.Calls.{answer_of}
use mathlib.Core.Path.{◌≡◌, sym, ap, ◌∙◌}
use mathlib.Core.List.{List}
use Rattle.std.specs.Prelude.{None}
use native.Mathlib.Omega.{arith}
use lib.ListN.{length, get_or}
use mir.Val.{Fits}
use mir.Syntax.{w16}
use Rattle.meanings.specs.declared.Refusal.{Refusal}
use Rattle.meanings.specs.Limits.{full}
use Rattle.meanings.specs.Reports.{given, refused, fault_of, verdict_fault, first_of}
use Rattle.meanings.specs.Moves.{moves}
use Rattle.meanings.specs.Running.{fresh, passes}
use Rattle.meanings.specs.Estimate.{rows}
use Rattle.meanings.specs.Calls.{smooth, smooth_refusal, smooth_rows}
use Rattle.meanings.proofs.Checks.{same_limits}
use Rattle.meanings.specs.neighbours.Neighbours.{neighbour_bandwidths, neighbours_checks, neighbours_refusal, rows_then}
use Rattle.laws.proofs.neighbours.Refusals.{neighbours_accepts, sweep_accepts}
use Rattle.regression.specs.Rows.{Of16Bits}
use Rattle.questions.specs.Nearest.{Fillable}

module _ (ts vs zs : List ℕ) (k : ℕ) (hs rs : List ℕ) {v : Result Unit Refusal}
    (f : verdict_fault v ≡ first_of (neighbours_checks full ts vs zs k hs (length rs))) where
  found : {w : Result Unit Refusal} → v ≡ w → neighbours_refusal full ts vs zs k hs rs ≡ verdict_fault w
  found q = sym (ap verdict_fault (sym q) ∙ f)

  -- lists that the check finds nothing in
  pub fillable : {unit : Unit {0}} → v ≡ Ok unit → Fillable ts zs k hs
  fillable q =
      let a = neighbours_accepts full ts vs zs k hs (same_limits full) (length rs) (found q) in
      record {
        low = a.low;
        high = a.high;
        ordered = a.ordered;
        ordered_points = a.ordered_points;
        even = a.even_points;
      }

  module _ {unit : Unit {0}} (q : v ≡ Ok unit) where
    module _ {P : List ℕ} (filled : P ≡ neighbour_bandwidths ts zs k) where
      -- the sweep with the new half widths
      module _ (minutes : Of16Bits ts) (points : (i : ℕ) → Fits w16 (get_or zs i 0)) where
        accepts : smooth_refusal full ts vs zs P rs ≡ None
        accepts =
            ap (λ (h : List ℕ). smooth_refusal full ts vs zs h rs) filled
            ∙ sweep_accepts full ts vs zs k hs rs (λ i l. omega (arith, minutes.fits i)) (λ i l. omega (arith, points i)) (found q)

        pub rows_given : {R : List ℕ} → R ≡ smooth_rows full ts vs zs P rs → R ≡ rows_then full ts vs zs k hs rs
        unfolding rows_then smooth_rows
        rows_given e = rw (found q) (e ∙ rw accepts (ap (λ (h : List ℕ). rows ts vs zs h (length zs)) filled))

        -- a refusal of it never comes
        pub never_refused : {a : Result ℕ Refusal} → answer_of a ≡ smooth full ts vs zs P rs → (e : Refusal) → a ≡ Err e → ⊥
        unfolding smooth
        never_refused g e m =
            let r : refused (fault_of e) ≡ given (passes ts vs fresh (moves zs P)) = sym (ap answer_of m) ∙ g ∙ rw accepts in
            let z : ◌≡◌ {A = ℕ} 0 1 = cc in
            omega arith

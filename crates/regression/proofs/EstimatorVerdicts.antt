-- What a check of the code finds is what the call is refused for; where it finds nothing the lists are accepted, and
-- what the code then makes is the call's answer.
use Prim.Native.Nat.{ℕ, ◌+◌, ◌-◌, ◌*◌, ◌^◌, ◌≤◌, ◌<◌}
use Rattle.std.specs.Prelude.{Result, Ok, Err}
use mathlib.Core.Path.{◌≡◌, sym, ap, ◌∙◌}
use mathlib.Core.List.{List, []}
use native.Mathlib.Omega.{arith}
use lib.ListN.{length, take, drop}
use Rattle.meanings.specs.declared.Limits.{Limits}
use Rattle.meanings.specs.declared.Refusal.{Refusal}
use Rattle.meanings.specs.Limits.{full}
use Rattle.meanings.specs.Lists.{Ordered}
use Rattle.meanings.specs.Reports.{verdict_fault, first_of, evaluate_checks}
use Rattle.meanings.specs.Calls.{window, window_start}
use Rattle.meanings.proofs.Checks.{same_limits, EvaluateAccepted, evaluate_accepts}
use Rattle.meanings.proofs.Window.{left_at_most_right, right_at_most_length}
use Rattle.regression.specs.declared.estimator.point.Span.{Span}
use Rattle.regression.specs.Rows.{IsSpan}

module _ (ts vs : List ℕ) (h : ℕ) {L : Limits} {v : Result Unit Refusal} (l : L ≡ full)
    (f : verdict_fault v ≡ first_of (evaluate_checks L ts vs h)) where
  refusal_is : {w : Result Unit Refusal} → v ≡ w → first_of (evaluate_checks full ts vs h) ≡ verdict_fault w
  refusal_is q = sym (ap verdict_fault (sym q) ∙ f ∙ ap (λ (M : Limits). first_of (evaluate_checks M ts vs h)) l)

  pub evaluate_accepted : {unit : Unit {0}} → v ≡ Ok unit → EvaluateAccepted ts vs h
  evaluate_accepted q = evaluate_accepts full (same_limits full) ts vs h (refusal_is q)

  pub accepted_ordered : {unit : Unit {0}} → v ≡ Ok unit → Ordered ts
  accepted_ordered q = (evaluate_accepted q).ordered

  pub window_refused : (z : ℕ) {e : Refusal} → v ≡ Err e → [] ≡ window full ts vs z h
  unfolding window
  window_refused z q = rw (refusal_is q)

  pub start_refused : (z p : ℕ) {e : Refusal} → v ≡ Err e → p ≡ p + window_start full ts vs z h * 2
  unfolding window_start
  start_refused z p q = rw (refusal_is q) (omega arith)

  module _ {unit : Unit {0}} (q : v ≡ Ok unit) {z : ℕ} {s : Span} (i : IsSpan ts z h s) where
    pub span_ordered : s.left ≤ s.right
    span_ordered = omega (arith, i.left_is, i.right_is, left_at_most_right ts z h)

    pub span_within : s.right ≤ length vs
    span_within = omega (arith, i.right_is, (evaluate_accepted q).even, right_at_most_length ts z h)

    pub span_fits : length vs * 2 < 2 ^ 63 → s.left * 2 < 2 ^ 64
    span_fits f = omega (arith, span_ordered, span_within)

    pub window_given : take (s.right - s.left) (drop s.left vs) ≡ window full ts vs z h
    unfolding window
    window_given = rw (refusal_is q, i.left_is, i.right_is)

    pub start_given : (p : ℕ) → s.left * 2 + p ≡ p + window_start full ts vs z h * 2
    unfolding window_start
    start_given p = rw (refusal_is q, i.left_is) (omega arith)

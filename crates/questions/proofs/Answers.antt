-- Where the checks find nothing both tanks are fit for the marks; where the tanks part, the run lies within the higher one's lists.
use Prim.Native.Nat.{ℕ, ◌*◌, ◌^◌, ◌≤◌, ◌<◌}
use mathlib.Core.Path.{◌≡◌, refl, sym, ap, ◌∙◌}
use mathlib.Core.List.{List}
use native.Mathlib.Omega.{arith}
use lib.ListN.{length, get_or}
use Rattle.std.specs.Prelude.{Option, Some, Result, Ok}
use Rattle.meanings.specs.declared.Limits.{Limits}
use denote.Ref.{Bor}
use Rattle.meanings.specs.declared.Refusal.{Refusal}
use Rattle.meanings.specs.Limits.{full}
use Rattle.meanings.specs.Calls.{answer_of}
use Rattle.meanings.specs.Reports.{given, verdict_fault, first_of}
use Rattle.meanings.specs.Estimate.{left_of, right_of}
use Rattle.meanings.proofs.Checks.{same_limits, given_accepted}
use Rattle.meanings.proofs.Window.{left_at_most_right, right_at_most_length}
use Rattle.meanings.specs.declared.pair.Bounded.{Bounded}
use Rattle.meanings.specs.declared.pair.Tank.{Tank}
use Rattle.meanings.specs.declared.pair.Tank.TheVariants.{First, Second}
use Rattle.meanings.specs.pair.Comparison.{of_tank, parted, compare_checks, compare_refusal, compare, compare_bounds}
use Rattle.meanings.proofs.Accepted.{PairAccepted, pair_accepts}

-- the checks found nothing
pub tanks_accepted : (ts vs us ws zs hs : List ℕ) {L : Limits} {v : Result Unit Refusal} → L ≡ full
    → verdict_fault v ≡ first_of (compare_checks L ts vs us ws zs hs) → {unit : Unit {0}} → v ≡ Ok unit → PairAccepted ts vs us ws zs hs
tanks_accepted ts vs us ws zs hs l f q =
    pair_accepts full (same_limits full) ts vs us ws zs hs
    (sym (ap verdict_fault (sym q) ∙ f ∙ ap (λ (M : Limits). compare_refusal M ts vs us ws zs hs) l))

-- the number of xs at the parting
abbrev at_parting : List ℕ → Bounded → ℕ
at_parting xs d = get_or xs d.parting.position 0

-- the parting with its bounds, r, was met as d
module _ (ts vs us ws zs hs : List ℕ) {r : Result (Option Bounded) Refusal} (answer : answer_of r ≡ compare_bounds full ts vs us ws zs hs)
    {o : Option Bounded} {d : Bounded} (q : r ≡ Ok o) (n : o ≡ Some d) where
  compare_apart : given (Some d.parting) ≡ compare full ts vs us ws zs hs
  unfolding compare_bounds
  compare_apart = grind arith

  -- minutes of the tank that is higher
  abbrev minutes : List ℕ
  minutes = of_tank d.parting.higher ts us

  left_met : d.left ≡ left_of minutes (at_parting zs d) (at_parting hs d)
  unfolding compare_bounds
  left_met = grind arith

  right_met : d.right ≡ right_of minutes (at_parting zs d) (at_parting hs d)
  unfolding compare_bounds
  right_met = grind arith

  accepted : PairAccepted ts vs us ws zs hs
  unfolding compare
  accepted =
      pair_accepts full (same_limits full) ts vs us ws zs hs
      (given_accepted (compare_refusal full ts vs us ws zs hs) (parted ts vs us ws zs hs) _ (sym compare_apart)).0

  pub run_ordered : d.left ≤ d.right
  run_ordered = omega (arith, left_met, right_met, left_at_most_right minutes (at_parting zs d) (at_parting hs d))

  -- xs are its values
  pub higher_within : (xs : List ℕ) → xs ≡ of_tank d.parting.higher vs ws → d.right ≤ length xs
  higher_within xs e =
      grind (arith, right_met, right_at_most_length minutes (at_parting zs d) (at_parting hs d), accepted.first.even, accepted.second.even)

  pub higher_fits : d.left * 2 < 2 ^ 64
  higher_fits =
      grind (arith, run_ordered, higher_within _ refl, accepted.first.even, accepted.first.few, accepted.second.even, accepted.second.few)

-- what a lent list holds that is chosen of two is chosen of what they hold
pub values_of : (u : Tank) (r a b : Bor (List ℕ)) → r ≡ of_tank u a b → r.now ≡ of_tank u a.now b.now
values_of First r a b e = ap (λ (x : Bor (List ℕ)). x.now) e
values_of Second r a b e = ap (λ (x : Bor (List ℕ)). x.now) e

-- The call is refused at a position of its lists, and passes are at most twice the readings. So no answer overflows.
use Prim.Native.Nat.{ℕ, ◌*◌, ◌^◌, ◌≤◌, ◌<◌}
use Rattle.std.specs.Prelude.{Ok}
use Rattle.std.specs.Prelude.{Result}
use Rattle.meanings.specs.declared.limit.Located.{Located}
use Rattle.meanings.specs.declared.Refusal.{Refusal}
use Rattle.meanings.specs.Calls.{answer_of}
use mathlib.Core.Path.{◌≡◌, sym, ap, ◌∙◌}
use mathlib.Core.Bool.{false}
use mathlib.Core.List.{List}
use native.Mathlib.Omega.{arith}
use Rattle.meanings.specs.Limits.{full, max_sheet}
use Rattle.meanings.specs.Codes.{detail_unit}
use Rattle.meanings.specs.Reports.{given}
use Rattle.meanings.specs.Running.{fresh, passes}
use Rattle.meanings.proofs.Checks.{same_limits, given_accepted}
use Rattle.meanings.proofs.Passes.{passes_at_most_twice}
use Rattle.meanings.proofs.SmoothSteps.{curve_accepts}
use Rattle.meanings.specs.limit.Crossing.{first_low, steps_to, located, crossing_refusal, first_at_most}
use Rattle.exports.proofs.CurvePlaces.{curve_place}
use Rattle.exports.proofs.AnswersPlaces.{refusal_place}

module _ (ts vs zs hs : List ℕ) (limit : ℕ) where
  pub crossing_place : refusal_place (first_at_most full ts vs zs hs limit) ≤ max_sheet
  unfolding first_at_most
  crossing_place = curve_place full (same_limits full) ts vs zs hs false (located ts vs zs hs limit)

  passes_small : (l : Located) → first_at_most full ts vs zs hs limit ≡ given l → l.passes ≤ 2048
  unfolding first_at_most
  passes_small l q =
      let a = given_accepted (crossing_refusal full ts vs zs hs) (located ts vs zs hs limit) l q in
      let s = curve_accepts full (same_limits full) ts vs zs hs false a.0 in
      let m = passes_at_most_twice ts vs (steps_to zs hs (first_low ts vs zs hs limit)) in
      let e : passes ts vs fresh (steps_to zs hs (first_low ts vs zs hs limit)) ≡ l.passes = ap (λ (x : Located). x.passes) a.1 in
      omega (arith, s.few)

  -- the call below was met as a position with its passes, which is what the answer tells and the list then holds
  module _ (r : Result Located Refusal) (answer : answer_of r ≡ first_at_most full ts vs zs hs limit) {l : Located} (met : r ≡ Ok l) where
    tells : given l ≡ first_at_most full ts vs zs hs limit
    tells = sym (ap answer_of met) ∙ answer

    pub passes_fit : detail_unit * l.passes < 2 ^ 64
    passes_fit = let few = passes_small l (sym tells) in omega arith

-- The second pass: no reading before i decides, and weight, sum and verdict are those of the whole lists. Less a reading's terms they are weight
-- and sum of the lists without it, and so their verdict.
use Prim.Native.Nat.{ℕ, ◌+◌, ◌-◌, ◌*◌, ◌^◌, ◌≤◌, ◌<◌}
use Rattle.std.specs.Prelude.{Some}
use Rattle.std.specs.Prelude.{None, Result, Ok}
use mathlib.Core.Path.{◌≡◌, refl, sym, ap, ◌∙◌}
use mathlib.Core.Bool.{Bool, true, false, not, beq}
use mathlib.Core.List.{List}
use native.Mathlib.Decide.{dec_lt}
use native.Mathlib.Omega.{arith}
use mir.Val.{Fits}
use mir.Syntax.{w16}
use lib.ListN.{length, get_or}
use Rattle.meanings.specs.declared.Limits.{Limits}
use Rattle.meanings.specs.declared.Refusal.{Refusal}
use Rattle.meanings.specs.Limits.{full}
use Rattle.meanings.specs.Reports.{verdict_fault, first_of, evaluate_checks}
use Rattle.meanings.specs.Estimate.{estimate, kernel, weight_of, sum_of, value_of}
use Rattle.meanings.specs.Calls.{evaluate_refusal}
use Rattle.meanings.proofs.Checks.{same_limits, EvaluateAccepted, evaluate_accepts}
use Rattle.meanings.proofs.Search.{none_lowest, lowest_at}
use Rattle.meanings.specs.limit.Threshold.{at_or_below}
use Rattle.meanings.specs.decisive.Decisive.{without, verdict, differs, decides}
use Rattle.meanings.proofs.Decides.{weightless_keeps}
use Rattle.meanings.proofs.Removal.{weight_without, sum_without}
use Rattle.questions.specs.declared.decisive.Run.{Run}
use Rattle.questions.specs.DecisiveSearch.{IsLow, IsRun, Searched}
use Rattle.questions.proofs.Adding.{of_16_bits, term_small}

low_of_totals : (ts vs : List ℕ) (z h limit w s : ℕ) → w ≡ weight_of ts z h → s ≡ sum_of ts vs z h
    → at_or_below limit w (value_of s w) ≡ verdict ts vs z h limit
unfolding verdict estimate
low_of_totals ts vs z h limit w s a b = rw (a, b)

-- the code's test of two verdicts
differ_alike : (a b : Bool) → differs a b ≡ not (beq a b)
differ_alike true true = refl
differ_alike true false = refl
differ_alike false true = refl
differ_alike false false = refl

pub record NoneDecides (ts vs : List ℕ) (z h limit : ℕ) (run : Run) (low : Bool) (i : ℕ) : Type 0 where
  pub accepted : EvaluateAccepted ts vs h
  pub run_is : IsRun ts vs z h run
  pub low_is : low ≡ verdict ts vs z h limit
  pub none_before : (j : ℕ) → j < i → j < length ts → decides ts vs z h limit j ≡ false

pub search_begins : {ts vs : List ℕ} {z h limit : ℕ} {run : Run} {low : Bool} → EvaluateAccepted ts vs h → IsRun ts vs z h run
    → IsLow run.weight run.sum limit low → NoneDecides ts vs z h limit run low run.left
search_begins {ts} {vs} {z} {h} {limit} a r q = record {
  accepted = a;
  run_is = r;
  low_is = q.tested ∙ low_of_totals ts vs z h limit _ _ r.weight_is r.sum_is;
  none_before = λ j l m. weightless_keeps ts vs z h limit a.ordered j m (r.before j l m);
}

module _ {ts vs : List ℕ} {z h limit : ℕ} {run : Run} {low : Bool} {i : ℕ} (c : NoneDecides ts vs z h limit run low i) where
  pub nobody : run.right ≤ i → Searched ts vs z h limit None
  nobody l = record { answer = sym (none_lowest (decides ts vs z h limit) (length ts) (λ j m. by j m (dec_lt j i))) }
    where
      by : (j : ℕ) → j < length ts → Dec (j < i) → decides ts vs z h limit j ≡ false
      by j m (yes p) = c.none_before j p m
      by j m (no p) = weightless_keeps ts vs z h limit c.accepted.ordered j m (c.run_is.behind j (omega arith) m)

  module _ (l : i < run.right) where
    inside : i < length ts
    inside = omega (arith, c.run_is.within)

    inside_values : i < length vs
    inside_values = omega (arith, c.run_is.within, c.accepted.even)

    module _ {k : ℕ} (e : k ≡ kernel z h (get_or ts i 0)) where
      pub weight_holds : k ≤ run.weight
      weight_holds = omega (arith, e, c.run_is.weight_is, weight_without ts vs z h c.accepted.ordered i inside)

      pub term_fits : ((j : ℕ) → Fits w16 (get_or vs j 0)) → k * get_or vs i 0 < 2 ^ 64
      term_fits f =
          let m = term_small z h (get_or ts i 0) (get_or vs i 0) c.accepted.bandwidth (of_16_bits vs f i inside_values) in
          rw e (omega arith)

      pub sum_holds : k * get_or vs i 0 ≤ run.sum
      sum_holds = rw e (omega (arith, c.run_is.sum_is, sum_without ts vs z h c.accepted.ordered i inside))

      module _ {rest : Bool} (q : IsLow (run.weight - k) (run.sum - k * get_or vs i 0) limit rest) where
        rest_is : rest ≡ verdict (without i ts) (without i vs) z h limit
        rest_is =
            let w = weight_without ts vs z h c.accepted.ordered i inside in
            let s = sum_without ts vs z h c.accepted.ordered i inside in
            let t : k * get_or vs i 0 ≡ kernel z h (get_or ts i 0) * get_or vs i 0 = ap (λ (x : ℕ). x * get_or vs i 0) e in
            let weight : run.weight - k ≡ weight_of (without i ts) z h = omega (arith, c.run_is.weight_is, e) in
            let sum : run.sum - k * get_or vs i 0 ≡ sum_of (without i ts) (without i vs) z h = omega (arith, c.run_is.sum_is) in
            q.tested ∙ low_of_totals (without i ts) (without i vs) z h limit _ _ weight sum

        decided : differs rest low ≡ decides ts vs z h limit i
        unfolding decides
        decided = ap (λ (x : Bool). differs x low) rest_is ∙ ap (differs (verdict (without i ts) (without i vs) z h limit)) c.low_is

        pub here : not (beq rest low) ≡ true → Searched ts vs z h limit (Some i)
        here n = record {
          answer =
              sym
              (lowest_at (decides ts vs z h limit) (length ts) i inside (sym decided ∙ differ_alike rest low ∙ n)
              (λ j m. c.none_before j m (omega (arith, inside))));
        }

        pub goes_on : not (beq rest low) ≡ false → NoneDecides ts vs z h limit run low (i + 1)
        goes_on p = record {
          accepted = c.accepted;
          run_is = c.run_is;
          low_is = c.low_is;
          none_before = λ j m n. by j n (dec_lt j i) m;
        }
          where
            by : (j : ℕ) → j < length ts → Dec (j < i) → j < i + 1 → decides ts vs z h limit j ≡ false
            by j n (yes a) m = c.none_before j a n
            by j n (no a) m = let q : j ≡ i = omega arith in rw q (sym decided ∙ differ_alike rest low ∙ p)

-- the call, by what its check found
module _ (ts vs : List ℕ) (h : ℕ) {L : Limits} {v : Result Unit Refusal} (l : L ≡ full)
    (f : verdict_fault v ≡ first_of (evaluate_checks L ts vs h)) where
  found : {w : Result Unit Refusal} → v ≡ w → evaluate_refusal full ts vs h ≡ verdict_fault w
  found q = sym (ap verdict_fault (sym q) ∙ f ∙ ap (λ (M : Limits). evaluate_refusal M ts vs h) l)

  pub lists_accepted : {unit : Unit {0}} → v ≡ Ok unit → EvaluateAccepted ts vs h
  lists_accepted q = evaluate_accepts full (same_limits full) ts vs h (found q)

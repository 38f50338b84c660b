-- The invariant of the search: the values of all marks before k agree, and both records are those of k steps. So the rows that they give are the
-- mark's, and the first two whose values differ are those of the first such mark.
use Prim.Native.Nat.{ℕ, ◌+◌, ◌≤◌, ◌<◌, zero-le}
use mathlib.Core.Path.{◌≡◌, sym, ap, ◌∙◌}
use mathlib.Core.Bool.{Bool, true, false}
use mathlib.Core.List.{List}
use native.Mathlib.Omega.{arith}
use lib.ListN.{length, get_or}
use Rattle.std.specs.Prelude.{None, Some}
use Rattle.meanings.specs.declared.Estimate.{Estimate}
use Rattle.meanings.specs.declared.RunningSums.{RunningSums}
use Rattle.meanings.specs.Reports.{given}
use Rattle.meanings.specs.Estimate.{estimate}
use Rattle.meanings.proofs.Accepted.{PairAccepted}
use Rattle.meanings.proofs.Search.{NoneBelow, one_more_below, none_lowest, lowest_at}
use Rattle.meanings.specs.declared.pair.Bounded.{Bounded}
use Rattle.meanings.specs.pair.Comparison.{unlike, unlike_at, split_of}
use Rattle.regression.specs.declared.step.Reached.{Reached}
use Rattle.regression.specs.Rows.{Of16Bits}
use Rattle.regression.specs.StepSteps.{IsFresh, SteppedRow}
use Rattle.regression.proofs.StepSweeping.{SteppedTo, steps_begin, steps_go_on, row_there}
use Rattle.questions.specs.PairSearch.{Searched}

pub record AlikeTo (ts vs us ws zs hs : List ℕ) (k : ℕ) (r s : RunningSums) : Type 0 where
  pub first : SteppedTo ts vs zs hs k r
  pub second : SteppedTo us ws zs hs k s
  pub upto : k ≤ length zs
  pub alike : NoneBelow (unlike_at ts vs us ws zs hs) k

pub search_begins : {ts vs us ws zs hs : List ℕ} {r s : RunningSums} → PairAccepted ts vs us ws zs hs → Of16Bits ts → Of16Bits vs → Of16Bits us
    → Of16Bits ws → IsFresh r → IsFresh s → AlikeTo ts vs us ws zs hs 0 r s
search_begins a t v u w f g = record {
  first = steps_begin a.first t v f;
  second = steps_begin a.second u w g;
  upto = zero-le;
  alike = λ j l. absurd (omega arith);
}

module _ {ts vs us ws zs hs : List ℕ} {k : ℕ} {r s : RunningSums} (w : AlikeTo ts vs us ws zs hs k r s) where
  pub alike_throughout : length zs ≤ k → Searched ts vs us ws zs hs None
  alike_throughout l = record {
    answer = rw (none_lowest (unlike_at ts vs us ws zs hs) (length zs) (λ j m. w.alike j (omega arith)));
  }

  module _ {x y : Reached} (l : k < length zs) (m : SteppedRow ts vs r (get_or zs k 0) (get_or hs k 0) x)
      (n : SteppedRow us ws s (get_or zs k 0) (get_or hs k 0) y) where
    tested : {b : Bool} → b ≡ unlike x.row y.row → b ≡ unlike_at ts vs us ws zs hs k
    unfolding unlike_at
    tested t =
        t
        ∙ ap (λ (e : Estimate). unlike e y.row) (row_there w.first l m)
        ∙ ap (unlike (estimate ts vs (get_or zs k 0) (get_or hs k 0))) (row_there w.second l n)

    pub alike_goes_on : {b : Bool} → b ≡ unlike x.row y.row → b ≡ false → AlikeTo ts vs us ws zs hs (k + 1) x.running y.running
    alike_goes_on t q = record {
      first = steps_go_on w.first l m;
      second = steps_go_on w.second l n;
      upto = omega arith;
      alike = one_more_below (unlike_at ts vs us ws zs hs) k w.alike (sym (tested t) ∙ q);
    }

    pub parts_here : {b : Bool} {d : Bounded} → b ≡ unlike x.row y.row → b ≡ true → d ≡ split_of k x.row y.row → Searched ts vs us ws zs hs (Some d)
    unfolding split_of estimate
    parts_here t q a = record {
      answer =
          rw (lowest_at (unlike_at ts vs us ws zs hs) (length zs) k l (sym (tested t) ∙ q) w.alike)
          (ap (λ (d : Bounded). given (Some d)) a
          ∙ ap (λ (e : Estimate). given (Some (split_of k e y.row))) (row_there w.first l m)
          ∙ ap (λ (e : Estimate). given (Some (split_of k (estimate ts vs (get_or zs k 0) (get_or hs k 0)) e))) (row_there w.second l n));
    }

-- For ordered minutes both searches find the row's edges; what is weighed between them makes the row. The call
-- is refused for what its check finds, and else gives that row.
use Prim.Native.Nat.{ℕ, zero, suc, ◌+◌, ◌-◌, ◌≤◌, ◌<◌}
use Rattle.std.specs.Prelude.{Result, Ok}
use mathlib.Core.Path.{◌≡◌, refl, sym, ap, ◌∙◌}
use mathlib.Core.List.{List}
use lib.ListN.{length, get_or, take, drop}
use Rattle.std.proofs.lemmas.List.{length-drop, length-take-le, get_or-take, get_or-drop}
use native.Mathlib.Nat.{zero-add}
use native.Mathlib.Omega.{arith}
use Rattle.meanings.specs.declared.Limits.{Limits}
use Rattle.meanings.specs.declared.Refusal.{Refusal}
use Rattle.meanings.specs.Limits.{full}
use Rattle.meanings.specs.Reports.{verdict_fault, first_of, size_checks, sample_order_checks, series_checks}
use Rattle.meanings.specs.Lists.{total}
use Rattle.meanings.specs.Estimate.{left_of, right_of, value_of}
use Rattle.meanings.proofs.Checks.{none_of_both, size_accepts, sample_order_accepts}
use Rattle.meanings.proofs.Window.{left_at_most_right, right_at_most_length}
use Rattle.arithmetic.specs.Positions.{FirstAtLeast}
use Rattle.arithmetic.proofs.Edges.{stands_at_right, stands_at_left}
use Rattle.meanings.specs.biweight.Biweight.{biweight_bandwidth, biweight_kernel, biweight_weight, biweight_sum, biweight_row, biweight_refusal}
use Rattle.questions.specs.Table.{IsTable}
use Rattle.questions.specs.declared.biweight.Weighed.{Weighed}
use Rattle.questions.specs.Rows as rows
use Rattle.questions.specs.Rows.{SeriesAccepted, ShortRun, RowAt, weight_term, sum_term}

-- terms of which each is the one a places further on
total_moved : (f g : ℕ → ℕ) (a n : ℕ) → ((i : ℕ) → i < n → f i ≡ g (a + i)) → total f 0 n ≡ total g a n
total_moved f g a zero e = refl
total_moved f g a (suc n) e = rw (total_moved f g a n (λ i l. e i (omega arith)), zero-add n, e n (omega arith))

module _ {ts vs : List ℕ} (z : ℕ) {right low left : ℕ} (a : SeriesAccepted ts vs) (f : FirstAtLeast ts (z + biweight_bandwidth + 1) right)
    (e : low ≡ z - biweight_bandwidth) (g : FirstAtLeast ts low left) where
  right_is : right ≡ right_of ts z biweight_bandwidth
  right_is = stands_at_right z biweight_bandwidth a.ordered f

  left_is : left ≡ left_of ts z biweight_bandwidth
  left_is = stands_at_left z biweight_bandwidth a.ordered e g

  between : left ≤ right
  between = let l = left_at_most_right ts z biweight_bandwidth in let p = left_is in let q = right_is in omega arith

  inside : right ≤ length ts
  inside = let r = right_at_most_length ts z biweight_bandwidth in let q = right_is in omega arith

  run_long : (xs : List ℕ) → right ≤ length xs → length (take (right - left) (drop left xs)) ≡ right - left
  run_long xs l = let n = between in length-take-le (right - left) (drop left xs) (rw (length-drop left xs) (omega arith))

  pub run_short : {ws : List ℕ} → IsTable ws → ShortRun (take (right - left) (drop left ts)) (take (right - left) (drop left vs)) ws
  run_short t =
      let l = inside in
      let m = run_long ts l in
      let n = run_long vs (omega (arith, a.even)) in
      record { table = t; even = m ∙ sym n; few = omega (arith, a.few) }

  -- element i of the run is element left + i of the list
  run_element : (xs : List ℕ) (i : ℕ) → i < right - left → get_or (take (right - left) (drop left xs)) i 0 ≡ get_or xs (left + i) 0
  run_element xs i l = get_or-take (right - left) (drop left xs) i 0 l ∙ get_or-drop left xs i 0

  pub row_made : {w : Weighed} {v : ℕ} → rows.Weighed (take (right - left) (drop left ts)) (take (right - left) (drop left vs)) z w
      → v ≡ value_of w.sum w.weight → RowAt ts vs z (record { left = left; right = right; weight = w.weight; sum = w.sum; value = v })
  unfolding biweight_row biweight_weight biweight_sum
  row_made {w} {v} o q = record {
    row_is = λ i. record {
      left = left_is i;
      right = right_is i;
      weight = weight_same i;
      sum = sum_same i;
      value = (q ∙ ap (λ (s : ℕ). value_of s w.weight) sum_same ∙ ap (value_of (biweight_sum ts vs z biweight_bandwidth)) weight_same) i;
    };
  }
    where
      long : length (take (right - left) (drop left ts)) ≡ right - left
      long = run_long ts inside

      weight_same : w.weight ≡ biweight_weight ts z biweight_bandwidth
      weight_same =
          o.weight_is
          ∙ ap (total (weight_term (take (right - left) (drop left ts)) z) 0) long
          ∙ total_moved (weight_term (take (right - left) (drop left ts)) z) (weight_term ts z) left (right - left)
          (λ i l. ap (biweight_kernel z biweight_bandwidth) (run_element ts i l))
          ∙ rw (left_is, right_is)

      sum_same : w.sum ≡ biweight_sum ts vs z biweight_bandwidth
      sum_same =
          o.sum_is
          ∙ ap (total (sum_term (take (right - left) (drop left ts)) (take (right - left) (drop left vs)) z) 0) long
          ∙ total_moved (sum_term (take (right - left) (drop left ts)) (take (right - left) (drop left vs)) z) (sum_term ts vs z) left (right - left)
          (λ i l. rw (run_element ts i l, run_element vs i l))
          ∙ rw (left_is, right_is)

-- the call, by what its check found
module _ (ts vs : List ℕ) {L : Limits} {v : Result Unit Refusal} (l : L ≡ full) (f : verdict_fault v ≡ first_of (series_checks L ts vs)) where
  found : {w : Result Unit Refusal} → v ≡ w → biweight_refusal full ts vs ≡ verdict_fault w
  found q = sym (ap verdict_fault (sym q) ∙ f ∙ ap (λ (M : Limits). first_of (series_checks M ts vs)) l)

  pub readings_accepted : {unit : Unit {0}} → v ≡ Ok unit → SeriesAccepted ts vs
  readings_accepted q =
      let b = none_of_both (size_checks full ts vs) (sample_order_checks ts) (found q) in
      let s = size_accepts full ts vs b.0 in
      record { even = s.even; few = s.few; ordered = sample_order_accepts ts b.1 }

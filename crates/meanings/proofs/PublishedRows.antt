-- Demand 2 about the meanings: the row of a mark is the published row wherever the question at one mark accepts, and no other row is.
use Prim.Native.Nat.{ℕ, ◌≤◌, ◌<◌}
use mathlib.Core.Path.{◌≡◌, sym, ◌∙◌}
use mathlib.Core.Logic.{◌↔◌}
use mathlib.Core.List.{List}
use native.Mathlib.Decide.{dec_le}
use native.Mathlib.Nat.{eq_of_mul-eq-mul_right}
use native.Mathlib.Omega.{arith}
use lib.ListN.{length}
use Rattle.meanings.specs.declared.Estimate.{Estimate}
use Rattle.meanings.specs.declared.Limits.{Limits}
use Rattle.meanings.specs.Lists.{AtMost}
use Rattle.meanings.specs.Limits.{full, LimitsWithin, max_u16}
use Rattle.meanings.specs.Reports.{given}
use Rattle.meanings.specs.Estimate.{WithinLimits, weight_of, sum_of, estimate}
use Rattle.meanings.specs.Calls.{evaluate, evaluate_refusal}
use Rattle.meanings.specs.Published.{Fraction, ◌≈◌, regression_above, regression_below}
use Rattle.meanings.specs.PublishedRow.{scaled, PublishedRow}
use Rattle.meanings.proofs.Bounds.{weight_bound, sum_bound, missing_exactly}
use Rattle.meanings.proofs.Checks.{EvaluateAccepted, evaluate_accepts, given_accepted}
use Rattle.meanings.proofs.Published.{density_is_weight, below_is_weight, above_is_sum, regression_is_quotient, weight_by_sums, sum_by_sums, scaled_adds}
use Rattle.meanings.proofs.Rounding.{rounded_nearest, nearest_unique, value_present}
use Rattle.meanings.proofs.Window.{left_at_most_right, right_at_most_length, before_left, before_right, run_is_inside}

pub published_row : (ts vs : List ℕ) (z h : ℕ) → AtMost max_u16 vs → EvaluateAccepted ts vs h → PublishedRow ts vs z h (estimate ts vs z h)
unfolding estimate
published_row ts vs z h v a = record {
  left_is = before_left ts z h a.ordered;
  right_is = before_right ts z h a.ordered;
  left_right = left_at_most_right ts z h;
  right_length = right_at_most_length ts z h;
  run_is = run_is_inside ts z h a.ordered;
  density_is = density_is_weight ts z h a.ordered a.positive;
  above_is = above;
  below_is = below;
  regression_is = regression_is_quotient ts vs z h a.ordered a.positive;
  above_by_sums = scaled_adds h (sum_of ts vs z h) _ _ _ _ _ above (sum_by_sums ts vs z h a.ordered);
  below_by_sums = scaled_adds h (weight_of ts z h) _ _ _ _ _ below (weight_by_sums ts vs z h a.ordered);
  sum_by_sums = sum_by_sums ts vs z h a.ordered;
  weight_by_sums = weight_by_sums ts vs z h a.ordered;
  value_is = λ p. rw (value_present _ _ p) (rounded_nearest _ _ p);
  value_missing = missing_exactly ts vs z h fit;
  weight_fits = weight_bound ts vs z h a.few a.bandwidth;
  sum_fits = sum_bound ts vs z h fit;
}
  where
    fit : WithinLimits ts vs h
    fit = record { even = a.even; few = a.few; values = v; bandwidth = a.bandwidth }

    above : regression_above ts vs z h ≈ scaled h (sum_of ts vs z h)
    above = above_is_sum ts vs z h a.ordered a.positive

    below : regression_below ts z h ≈ scaled h (weight_of ts z h)
    below = below_is_weight ts z h a.ordered a.positive

-- every row that the question at one mark gives, for values of 16 bits
pub accepted_row_is_published : (L : Limits) → LimitsWithin L full → (ts vs : List ℕ) (z h : ℕ) (e : Estimate) → AtMost max_u16 vs
    → evaluate L ts vs z h ≡ given e → PublishedRow ts vs z h e
unfolding evaluate
accepted_row_is_published L w ts vs z h e v q =
    let a = given_accepted (evaluate_refusal L ts vs h) (estimate ts vs z h) e q in
    rw a.1 at (published_row ts vs z h v (evaluate_accepts L w ts vs h a.0))

-- two ends of one front are one
one_end : (P : ℕ → Type 0) (n a b : ℕ) → a ≤ n → b ≤ n → ((i : ℕ) → i < n → (i < a) ↔ P i) → ((i : ℕ) → i < n → (i < b) ↔ P i) → a ≡ b
one_end P n a b l m f g = let x = not_before a b m f g in let y = not_before b a l g f in omega arith
  where
    not_before : (a b : ℕ) → b ≤ n → ((i : ℕ) → i < n → (i < a) ↔ P i) → ((i : ℕ) → i < n → (i < b) ↔ P i) → ¬ (a < b)
    not_before a b m f g k = let z = (f a (omega arith)).1 ((g a (omega arith)).0 k) in omega arith

-- a fraction is one whole number of weight at most
one_scaled : (h n m : ℕ) (f : Fraction) → f ≈ scaled h n → f ≈ scaled h m → n ≡ m
one_scaled h n m f a b = eq_of_mul-eq-mul_right f.den a.left_den n m (omega (arith, a.cross, b.cross))

-- at most one row is published
pub one_published_row : (ts vs : List ℕ) (z h : ℕ) (d e : Estimate) → PublishedRow ts vs z h d → PublishedRow ts vs z h e → d ≡ e
one_published_row ts vs z h d e a b = λ i. record { left = left i; right = right i; weight = weight i; sum = sum i; value = value i }
  where
    left : d.left ≡ e.left
    left = one_end _ (length ts) _ _ (omega (arith, a.left_right, a.right_length)) (omega (arith, b.left_right, b.right_length)) a.left_is b.left_is

    right : d.right ≡ e.right
    right = one_end _ (length ts) _ _ a.right_length b.right_length a.right_is b.right_is

    weight : d.weight ≡ e.weight
    weight = one_scaled h _ _ _ a.below_is b.below_is

    sum : d.sum ≡ e.sum
    sum = one_scaled h _ _ _ a.above_is b.above_is

    by : Dec (d.weight ≤ 0) → d.value ≡ e.value
    by (yes o) = a.value_missing.1 (omega arith) ∙ sym (b.value_missing.1 (omega arith))
    by (no o) =
        let n = b.value_is (omega arith) in
        nearest_unique d.sum d.weight _ _ (omega arith) (a.value_is (omega arith)) (rw (← sum, ← weight) at n)

    value : d.value ≡ e.value
    value = by (dec_le d.weight 0)

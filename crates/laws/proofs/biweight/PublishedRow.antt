-- The biweight row of accepted readings is the published one, and no other row is.
use Prim.Native.Nat.{ℕ, ◌*◌, ◌≤◌, ◌<◌}
use mathlib.Core.Path.{◌≡◌, sym, ◌∙◌}
use mathlib.Core.Logic.{◌↔◌}
use mathlib.Core.List.{List}
use native.Mathlib.Decide.{dec_le}
use native.Mathlib.Nat.{eq_of_mul-eq-mul_right}
use native.Mathlib.Omega.{arith}
use lib.ListN.{length}
use Rattle.meanings.specs.declared.Estimate.{Estimate}
use Rattle.meanings.specs.Lists.{Ordered, AtMost}
use Rattle.meanings.specs.Limits.{max_u16}
use Rattle.meanings.specs.Published.{Fraction, ◌≈◌}
use Rattle.meanings.proofs.Rounding.{rounded_nearest, nearest_unique, value_present}
use Rattle.meanings.proofs.Window.{left_at_most_right, right_at_most_length, before_left, before_right, run_is_inside}
use Rattle.meanings.specs.biweight.Biweight.{biweight_row}
use Rattle.meanings.proofs.BiweightBounds.{missing_exactly, missing_alone}
use Rattle.laws.specs.biweight.BetaKernels.{over}
use Rattle.laws.specs.biweight.PublishedRow.{PublishedBiweight}
use Rattle.laws.proofs.biweight.BetaKernels.{biweight_estimators}

pub published_biweight : (ts vs : List ℕ) (z h : ℕ) → length ts ≡ length vs → AtMost max_u16 vs → Ordered ts → 0 < h
    → PublishedBiweight ts vs z h (biweight_row ts vs z h)
unfolding biweight_row
published_biweight ts vs z h even v o pos = record {
  left_is = before_left ts z h o;
  right_is = before_right ts z h o;
  left_right = left_at_most_right ts z h;
  right_length = right_at_most_length ts z h;
  run_is = run_is_inside ts z h o;
  estimators = biweight_estimators ts vs z h o pos;
  value_is = λ p. rw (value_present _ _ p) (rounded_nearest _ _ p);
  value_missing = missing_exactly ts vs z h even v;
  sum_with_weight = missing_alone ts vs z h even v;
}

-- two ends of one front are one
one_end : (P : ℕ → Type 0) (n a b : ℕ) → a ≤ n → b ≤ n → ((i : ℕ) → i < n → (i < a) ↔ P i) → ((i : ℕ) → i < n → (i < b) ↔ P i) → a ≡ b
one_end P n a b l m f g = let x = not_before a b m f g in let y = not_before b a l g f in omega arith
  where
    not_before : (a b : ℕ) → b ≤ n → ((i : ℕ) → i < n → (i < a) ↔ P i) → ((i : ℕ) → i < n → (i < b) ↔ P i) → ¬ (a < b)
    not_before a b m f g k = let z = (f a (omega arith)).1 ((g a (omega arith)).0 k) in omega arith

-- a fraction is one whole number of weight at most
one_number : (f : Fraction) (d n m : ℕ) → f ≈ over (15 * n) d → f ≈ over (15 * m) d → n ≡ m
one_number f d n m a b = eq_of_mul-eq-mul_right f.den a.left_den n m (omega (arith, a.cross, b.cross))

-- at most one row is published
pub one_published_row : (ts vs : List ℕ) (z h : ℕ) (d e : Estimate) → PublishedBiweight ts vs z h d → PublishedBiweight ts vs z h e → d ≡ e
one_published_row ts vs z h d e a b = λ i. record { left = left i; right = right i; weight = weight i; sum = sum i; value = value i }
  where
    left : d.left ≡ e.left
    left = one_end _ (length ts) _ _ (omega (arith, a.left_right, a.right_length)) (omega (arith, b.left_right, b.right_length)) a.left_is b.left_is

    right : d.right ≡ e.right
    right = one_end _ (length ts) _ _ a.right_length b.right_length a.right_is b.right_is

    weight : d.weight ≡ e.weight
    weight = one_number _ _ _ _ a.estimators.below_is b.estimators.below_is

    sum : d.sum ≡ e.sum
    sum = one_number _ _ _ _ a.estimators.above_is b.estimators.above_is

    by : Dec (d.weight ≤ 0) → d.value ≡ e.value
    by (yes o) = a.value_missing.1 (omega arith) ∙ sym (b.value_missing.1 (omega (arith, weight)))
    by (no o) =
        let n = b.value_is (omega (arith, weight)) in
        nearest_unique d.sum d.weight _ _ (omega arith) (a.value_is (omega arith)) (rw (← sum, ← weight) at n)

    value : d.value ≡ e.value
    value = by (dec_le d.weight 0)

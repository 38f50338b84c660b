-- The call's checks find the conditions, test by test; and what lists satisfy that none of them refuses.
use Prim.Native.Nat.{ℕ, ◌<◌}
use mathlib.Core.Path.{◌≡◌, ap}
use mathlib.Core.Bool.{◌||◌}
use mathlib.Core.List.{List}
use mathlib.Core.Logic.{◌⊎◌, inl, inr}
use Rattle.std.specs.Prelude.{Option, None}
use native.Mathlib.Omega.{arith}
use lib.Dec.{ltb}
use lib.ListN.{length, get_or}
use Rattle.meanings.specs.Limits.{max_bandwidth}
use Rattle.meanings.specs.Lists.{lowest}
use Rattle.meanings.specs.Reports.{Fault, fault_or, first_of, outside_at, bandwidth_list_checks}
use Rattle.meanings.proofs.Checks.{none_holds}
use Rattle.meanings.specs.boxes.Boxes.{max_temperature_bandwidth, Axis, uneven_boxes, box_checks, box_refusal}
use Rattle.laws.specs.boxes.Accepted.{BoxesAccepted}
use Rattle.laws.proofs.boxes.Refusals.{bandwidths_within, boxes_accept}
use Rattle.promises.proofs.conditions.CallChecks.{Decides, above, equal, unequal, either, either_not, same_condition, finds, finds_fall}
use Rattle.promises.proofs.conditions.CallChecks.{bandwidth_list_finds, none_left}
use Rattle.promises.proofs.conditions.FirstFaults.{FindAll}
use Rattle.promises.specs.boxes.Filled.{TenLists, along_minutes, along_temperatures, Even, box_conditions}

-- the checks of these lists
abbrev pub refusal_of : TenLists → Option Fault
refusal_of q = box_refusal (along_minutes q) (along_temperatures q) q.values (length q.boxes) (length q.counts) (length q.sums)

module _ (q : TenLists) where
  lengths : Decides
      (uneven_boxes (along_minutes q) (along_temperatures q) q.values (length q.boxes) (length q.counts) (length q.sums))
      (¬ Even q)
  lengths =
      same_condition _ _ _ (λ k a. k ((((((a.0, a.1), a.2), a.3), a.4), a.5), a.6))
      (λ k a. k (a.0.0.0.0.0.0, a.0.0.0.0.0.1, a.0.0.0.0.1, a.0.0.0.1, a.0.0.1, a.0.1, a.1))
      (either_not _ _ _ _ (either_not _ _ _ _ (either_not _ _ _ _ (either_not _ _ _ _ (either_not _ _ _ _
      (either_not _ _ _ _ (unequal _ _) (unequal _ _)) (unequal _ _)) (unequal _ _)) (unequal _ _)) (unequal _ _)) (unequal _ _))

  too_many : Decides
      (ltb 1024 (length q.minutes) || ltb 32 (length q.points) || ltb 32 (length q.temperature_points))
      ((1024 < length q.minutes) ⊎ (32 < length q.points) ⊎ (32 < length q.temperature_points))
  too_many =
      same_condition _ _ _ regroup back (either _ _ _ _ (either _ _ _ _ (above _ _) (above _ _)) (above _ _))
    where
      regroup : {X Y Z : Type 0} → (X ⊎ Y) ⊎ Z → X ⊎ Y ⊎ Z
      regroup (inl (inl x)) = inl x
      regroup (inl (inr y)) = inr (inl y)
      regroup (inr z) = inr (inr z)

      back : {X Y Z : Type 0} → X ⊎ Y ⊎ Z → (X ⊎ Y) ⊎ Z
      back (inl x) = inl (inl x)
      back (inr (inl y)) = inl (inr y)
      back (inr (inr z)) = inr z

  pub finds_conditions : FindAll
      (box_checks (along_minutes q) (along_temperatures q) q.values (length q.boxes) (length q.counts) (length q.sums))
      (box_conditions q)
  finds_conditions = record {
    each = (
      finds 8 lengths,
      (
        finds 6 too_many,
        (
          finds 7 (either _ _ _ _ (equal _ 0) (equal _ 0)),
          (
            finds_fall 5 q.points,
            (
              finds_fall 17 q.temperature_points,
              (bandwidth_list_finds max_bandwidth q.bandwidths (bandwidth_list_finds max_temperature_bandwidth q.temperature_bandwidths none_left)).each,
            ),
          ),
        ),
      ),
    );
  }

-- lists that are not refused: half widths are above 0 besides
pub record BoxesTaken (A B : Axis) (vs : List ℕ) (b c s : ℕ) : Type 0 where
  pub checked : BoxesAccepted A B vs b c s
  pub positive : (k : ℕ) → k < length A.points → 0 < get_or A.bandwidths k 0
  pub positive_other : (k : ℕ) → k < length B.points → 0 < get_or B.bandwidths k 0

pub accepts : (A B : Axis) (vs : List ℕ) (b c s : ℕ) → box_refusal A B vs b c s ≡ None → BoxesTaken A B vs b c s
accepts A B vs b c s e =
    let h = none_holds (box_checks A B vs b c s) e in
    let a = boxes_accept A B vs b c s e in
    let alone : (most : ℕ) (hs : List ℕ) → lowest (outside_at most hs) (length hs) ≡ None → first_of (bandwidth_list_checks most hs) ≡ None =
    λ most hs q. ap (λ (o : Option ℕ). fault_or 9 o None) q in
    record {
      checked = a;
      positive = λ k l.
          (bandwidths_within A.widest A.bandwidths (alone A.widest A.bandwidths h.1.1.1.1.1.0) k (omega (arith, a.even_points))).0;
      positive_other = λ k l.
          (bandwidths_within B.widest B.bandwidths (alone B.widest B.bandwidths h.1.1.1.1.1.1.0) k (omega (arith, a.even_others))).0;
    }

-- A row's value as one number ranks it: 65,536, missing, is above every number that a present value can be. So the higher of two rows is the one
-- with the greater number.
use Prim.Native.Nat.{ℕ, ◌≤◌, ◌<◌}
use mathlib.Core.Path.{◌≡◌, refl, sym}
use mathlib.Core.List.{List}
use mathlib.Core.Bool.{Bool, true, false}
use native.Mathlib.Omega.{arith}
use borrow.Author.Tests.{lt-ltb, le-ltb, eqb-true, eqb-false}
use lib.Dec.{ltb}
use Rattle.meanings.specs.declared.Estimate.{Estimate}
use Rattle.meanings.specs.Limits.{max_u16}
use Rattle.meanings.specs.Lists.{pick}
use Rattle.meanings.specs.Estimate.{WithinLimits, estimate, missing, weight_of}
use Rattle.meanings.proofs.Bounds.{value_bound, missing_exactly}
use Rattle.meanings.specs.declared.pair.Tank.TheVariants.{First, Second}
use Rattle.meanings.specs.pair.Comparison.{lacks_value, above, higher_of}

-- missing exactly if the weight is 0, and else of 16 bits
pub record Ranked (e : Estimate) : Type 0 where
  pub absent : e.weight ≡ 0 → e.value ≡ missing
  pub present : ¬ (e.weight ≡ 0) → e.value ≤ max_u16

pub row_ranked : (ts vs : List ℕ) (z h : ℕ) → WithinLimits ts vs h → Ranked (estimate ts vs z h)
unfolding estimate
row_ranked ts vs z h f = record {
  absent = λ e. (missing_exactly ts vs z h f).1 e;
  present = λ n. value_bound ts vs z h f (positive n);
}
  where
    positive : ¬ (weight_of ts z h ≡ 0) → 0 < weight_of ts z h
    positive n = omega arith

module _ (e f : Estimate) (p : Ranked e) (q : Ranked f) where
  pub above_by_number : above e f ≡ ltb f.value e.value
  unfolding above
  above_by_number = by (lacks_value e) (lacks_value f) refl refl
    where
      by : (x y : Bool) → lacks_value e ≡ x → lacks_value f ≡ y → pick y false (pick x true (ltb f.value e.value)) ≡ ltb f.value e.value
      by false false a b = refl
      by true false a b =
          let m = p.absent (eqb-true e.weight 0 a) in
          let l = q.present (eqb-false f.weight 0 b) in
          sym (lt-ltb f.value e.value (omega arith))
      by true true a b =
          let m = p.absent (eqb-true e.weight 0 a) in
          let n = q.absent (eqb-true f.weight 0 b) in
          sym (le-ltb f.value e.value (omega arith))
      by false true a b =
          let m = p.present (eqb-false e.weight 0 a) in
          let n = q.absent (eqb-true f.weight 0 b) in
          sym (le-ltb f.value e.value (omega arith))

  pub first_by_number : f.value < e.value → higher_of e f ≡ First
  unfolding higher_of
  first_by_number l = rw (above_by_number, lt-ltb f.value e.value l)

  pub second_by_number : e.value < f.value → higher_of e f ≡ Second
  unfolding higher_of
  second_by_number l = rw (above_by_number, le-ltb f.value e.value (omega arith))

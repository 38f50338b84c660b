-- Among ordered minutes the first that is not below the left edge stands at left, and the first beyond the right edge at right.
use Prim.Native.Nat.{ℕ, ◌+◌, ◌-◌, ◌<◌}
use mathlib.Core.Path.{◌≡◌}
use mathlib.Core.List.{List}
use native.Mathlib.Nat.{le_refl}
use native.Mathlib.Omega.{arith}
use lib.ListN.{length}
use Rattle.meanings.specs.Lists.{Ordered}
use Rattle.meanings.specs.Estimate.{left_of, right_of}
use Rattle.meanings.proofs.Window.{left_at_most_right, right_at_most_length, before_left, before_right}
use Rattle.arithmetic.specs.Positions.{FirstAtLeast}

module _ {ts : List ℕ} (z h : ℕ) (o : Ordered ts) where
  pub stands_at_right : {r : ℕ} → FirstAtLeast ts (z + h + 1) r → r ≡ right_of ts z h
  stands_at_right {r} f = let a = not_below in let b = not_above in omega arith
    where
      not_below : ¬ (r < right_of ts z h)
      not_below l =
          let n : r < length ts = omega (arith, right_at_most_length ts z h) in
          omega (arith, (before_right ts z h o r n).0 l, f.rest o r (le_refl r) n)

      not_above : ¬ (right_of ts z h < r)
      not_above l =
          let n : right_of ts z h < length ts = omega (arith, f.within) in
          let m = (before_right ts z h o _ n).1 (omega (arith, f.below o _ l)) in
          omega arith

  pub stands_at_left : {m r : ℕ} → m ≡ z - h → FirstAtLeast ts m r → r ≡ left_of ts z h
  stands_at_left {m} {r} e f = let a = not_below in let b = not_above in omega arith
    where
      not_below : ¬ (r < left_of ts z h)
      not_below l =
          let n : r < length ts = omega (arith, left_at_most_right ts z h, right_at_most_length ts z h) in
          omega (arith, (before_left ts z h o r n).0 l, f.rest o r (le_refl r) n)

      not_above : ¬ (left_of ts z h < r)
      not_above l =
          let n : left_of ts z h < length ts = omega (arith, f.within) in
          let k = (before_left ts z h o _ n).1 (omega (arith, f.below o _ l)) in
          omega arith

-- What the laws of rows say of one or two readings: how often a minute and a value occur together, and a value between the lowest and the highest.
use mathlib.Core.Path.{◌≡◌, refl}
use mathlib.Core.List.{[], ◌∷◌}
use native.Mathlib.Omega.{arith}
use Rattle.laws.specs.rows.Weighted.{Between}
use Rattle.laws.specs.rows.Rearranged.{occurrences}

-- a value counts at its own minute alone: of 5:1 and 6:2 none is 5:2
pub value_of_another_minute_is_not_counted : occurrences (5 ∷ 6 ∷ []) (1 ∷ 2 ∷ []) 5 2 ≡ 0
value_of_another_minute_is_not_counted = refl

-- a value can be the highest one: of one reading it is
pub value_can_be_the_highest : Between (λ i. 1) (λ i. 5) 1 5
value_can_be_the_highest = record {
  low = 5;
  high = 5;
  lowest = record { position = 0; weighs = record { within = omega arith; above_zero = omega arith }; reached = refl; each = λ i g. omega arith };
  highest = record { position = 0; weighs = record { within = omega arith; above_zero = omega arith }; reached = refl; each = λ i g. omega arith };
  at_least = omega arith;
  at_most = omega arith;
}

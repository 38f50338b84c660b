-- The promises' other definitions on concrete numbers: where sums stand, which record is held, whose window a record holds, what doubles tell.
use Rattle.std.specs.Prelude.{Err}
use mathlib.Core.Path.{◌≡◌, refl}
use mathlib.Core.List.{[], ◌∷◌}
use native.Mathlib.Omega.{arith}
use lib.Ieee.{Float}
use Rattle.meanings.specs.declared.Refusal.{Refusal}
use Rattle.meanings.specs.declared.RunningSums.{RunningSums}
use Rattle.meanings.specs.Estimate.{right_of}
use Rattle.meanings.specs.Running.{fresh}
use Rattle.meanings.specs.doubles.Doubles.{one}
use Rattle.promises.specs.Demands.{held}
use Rattle.promises.specs.boxes.Filled.{sum_place}
use Rattle.promises.specs.doubles.Doubles.{doubles_of_answer, HoldsWindow}

-- of three temperature marks, the sum of minute mark 1 and temperature mark 2: five pairs stand before it
pub sums_stand_temperature_fastest : sum_place 3 1 2 ≡ 11
sums_stand_temperature_fastest = refl

-- a refused step leaves the record as it was
pub refused_step_keeps_the_record : (r : RunningSums) (e : Refusal) → held r (Err e) ≡ r
refused_step_keeps_the_record r e = refl

-- a fresh record has the left edge of the window from 5 to 15, but not its right edge: the reading at 10 lies in it
pub right_edge_is_of_the_window : ¬ HoldsWindow (10 ∷ []) 10 5 fresh
unfolding right_of
right_edge_is_of_the_window w = let e = w.right_is in omega arith

-- the answer 256 tells one double, the first of the list
pub one_double_is_told : (d e : Float) → doubles_of_answer 256 (d ∷ e ∷ []) ≡ one d
one_double_is_told d e = refl

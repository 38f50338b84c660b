-- Conditions on concrete lists, each with the report that comes first and its place: if a condition, a limit or a place in the order is changed, a
-- case here fails. `inr` passes a condition that holds nowhere, `inl` is the first one that holds, at its lowest place.
use Prim.Native.Nat.{ℕ, ◌+◌, ◌*◌, ◌<◌}
use mathlib.Core.Path.{◌≡◌, refl}
use mathlib.Core.Logic.{inl, inr}
use mathlib.Core.List.{List, [], ◌∷◌}
use Rattle.std.specs.Prelude.{Some}
use native.Mathlib.Omega.{arith}
use lib.Ieee.{Float}
use lib.ListN.{length}
use Rattle.meanings.specs.declared.Limits.{Limits}
use Rattle.meanings.specs.Limits.{max_bandwidth}
use Rattle.promises.specs.conditions.Conditions.{NoFault, FirstFault, no_more, FallsAt, OutOfRange, size_conditions, record_conditions}
use Rattle.promises.specs.conditions.Conditions.{curve_size_conditions, order_conditions, fill_conditions, record_row_conditions, code_refusal}
use Rattle.promises.specs.neighbours.ByNeighbours.{neighbours_conditions}
use Rattle.promises.specs.biweight.Biweights.{biweight_conditions}
use Rattle.promises.specs.turn.Turns.{turn_conditions}
use Rattle.promises.specs.ranges.OverRanges.{range_conditions}
use Rattle.promises.specs.range_reader.BothKinds.{read_range_conditions}
use Rattle.promises.specs.doubles.Doubles.{doubles_conditions}
use Rattle.promises.specs.boxes.Filled.{TenLists, box_conditions}

-- at most three readings and one mark
abbrev three_one : Limits
three_one = record { samples = 3; points = 1 }

-- ---- single conditions

pub equal_minutes_do_not_fall : ¬ FallsAt (5 ∷ 5 ∷ []) 1
equal_minutes_do_not_fall f =
    let e : f.before ≡ 0 = omega (arith, f.next) in
    let l = rw e at f.falls in
    omega arith

pub second_falls : FallsAt (5 ∷ 4 ∷ []) 1
second_falls = record { before = 0; next = refl; within = omega arith; falls = omega arith }

pub none_falls_before_the_second : (xs : List ℕ) (q : ℕ) → q < 1 → ¬ FallsAt xs q
none_falls_before_the_second xs q l f = let e = f.next in omega arith

pub none_of_nothing_falls : (q : ℕ) → ¬ FallsAt [] q
none_of_nothing_falls q f = let l = f.within in omega arith

pub widest_half_width_is_in_range : ¬ OutOfRange max_bandwidth 65536
widest_half_width_is_in_range a = omega arith

-- as many readings as there may be
pub full_readings_are_accepted : NoFault (size_conditions three_one (1 ∷ 2 ∷ 3 ∷ []) (7 ∷ 8 ∷ 9 ∷ []) no_more)
full_readings_are_accepted = (λ q a. a.0 refl, (λ q a. omega arith, tt))

-- more marks than there may be, but no more than readings
pub two_marks_are_too_many : FirstFault (curve_size_conditions three_one [] [] (7 ∷ 8 ∷ []) (1 ∷ 1 ∷ []) Unit no_more) 6 0
two_marks_are_too_many = inr (λ q a. a.0 (refl, refl, tt), inl (refl, (inr (omega arith), refl), λ q l a. omega arith))

-- marks have an order of their own; and a report is told with the lowest place at which its condition holds
pub early_mark : FirstFault (order_conditions [] (5 ∷ 4 ∷ []) no_more) 5 1
early_mark = inr (none_of_nothing_falls, inl (refl, second_falls, none_falls_before_the_second (5 ∷ 4 ∷ [])))

-- left over right
pub foreign_record : FirstFault (record_conditions 3 2 1 no_more) 11 0
foreign_record = inl (refl, (inl (omega arith), refl), λ q l a. omega arith)

-- the last preset
pub last_preset_is_accepted : NoFault (fill_conditions 0 0 11 (7 ∷ []) (7 ∷ []))
last_preset_is_accepted = (λ q a. a.0 refl, (λ q a. omega arith, (λ q a. omega arith, (λ q a. omega arith, (λ q a. omega arith, tt)))))

-- a record of another length, with a row of five
pub record_of_no_numbers : FirstFault (record_row_conditions [] (7 ∷ 7 ∷ 7 ∷ 7 ∷ 7 ∷ [])) 8 0
record_of_no_numbers = inl (refl, (λ e. omega arith, refl), λ q l a. omega arith)

-- three doubles for two
pub three_doubles : (d : Float) → FirstFault (doubles_conditions (d ∷ d ∷ d ∷ [])) 8 0
three_doubles d = inl (refl, (λ e. omega arith, refl), λ q l a. omega arith)

-- no room for the highs, whatever the others have
pub highs_without_room : (ts ls zs hs : List ℕ) → FirstFault (read_range_conditions ts ls [] zs hs) 8 0
highs_without_room ts ls zs hs = inl (refl, (λ r. let e = r.highs in omega arith, refl), λ q l a. omega arith)

-- ---- the order, where two conditions hold

-- an early reading whose range is crossed: 4, not 15
pub four_before_fifteen : FirstFault (range_conditions (5 ∷ 4 ∷ []) (9 ∷ 1 ∷ []) (1 ∷ 9 ∷ []) (7 ∷ []) (1 ∷ []) 7) 4 1
four_before_fifteen =
    inr (
      λ q a. a.0 (refl, refl, (refl, refl)),
      inr (λ q a. omega arith, inr (λ q a. omega arith, inl (refl, second_falls, none_falls_before_the_second (5 ∷ 4 ∷ [])))),
    )

-- an early mark where K is 0: 5, not 14
pub five_before_fourteen : FirstFault (neighbours_conditions [] [] (5 ∷ 4 ∷ []) 0 (1 ∷ 1 ∷ []) 10) 5 1
five_before_fourteen =
    inr (
      λ q a. a.0 (refl, refl, refl),
      inr (
        λ q a. omega arith,
        inr (
          λ q a. omega arith,
          inr (none_of_nothing_falls, inl (refl, second_falls, none_falls_before_the_second (5 ∷ 4 ∷ []))),
        ),
      ),
    )

-- an early reading over a record whose left is over its right: 4, not 11
pub four_before_eleven : FirstFault (turn_conditions (5 ∷ 4 ∷ []) (1 ∷ 2 ∷ []) 2 1 1) 4 1
four_before_eleven =
    inr (λ q a. a.0 refl, inr (λ q a. omega arith, inl (refl, second_falls, none_falls_before_the_second (5 ∷ 4 ∷ []))))

-- minutes that fall, with values that do not
pub early_reading_for_biweight : FirstFault (biweight_conditions (5 ∷ 4 ∷ []) (1 ∷ 2 ∷ [])) 4 1
early_reading_for_biweight =
    inr (λ q a. a.0 refl, inr (λ q a. omega arith, inl (refl, second_falls, none_falls_before_the_second (5 ∷ 4 ∷ []))))

-- temperature marks that fall, with one minute mark; the cells have any numbers
abbrev falling_temperature_marks : List ℕ → TenLists
falling_temperature_marks cells = record {
  minutes = [];
  temperatures = [];
  values = [];
  points = 7 ∷ [];
  bandwidths = 1 ∷ [];
  temperature_points = 5 ∷ 4 ∷ [];
  temperature_bandwidths = 1 ∷ 1 ∷ [];
  boxes = 0 ∷ 0 ∷ 0 ∷ 0 ∷ [];
  counts = cells;
  sums = cells;
}

pub early_temperature_mark : (cells : List ℕ) → length cells ≡ 4225 → FirstFault (box_conditions (falling_temperature_marks cells)) 17 1
early_temperature_mark cells e =
    inr (
      λ q a. a.0 (refl, refl, refl, refl, refl, e, e),
      inr (
        λ q a. omega arith,
        inr (
          λ q a. omega arith,
          inr (λ q f. omega (arith, f.next, f.within), inl (refl, second_falls, none_falls_before_the_second (5 ∷ 4 ∷ []))),
        ),
      ),
    )

-- ---- the one number of an exported answer

-- 256 times the place, and the report's number
pub place_of_a_code : code_refusal (256 * 5 + 4) ≡ Some (record { number = 4; place = 5 })
place_of_a_code = refl

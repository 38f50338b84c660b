-- Wrong answers and wrong stores of the exported calls, each shut out on a concrete input.
use Prim.Native.Nat.{ℕ, ◌+◌, ◌-◌, ◌*◌, ◌^◌}
use mathlib.Core.Path.{◌≡◌, ap}
use mathlib.Core.List.{List, [], ◌∷◌}
use Rattle.std.specs.Prelude.{None, Some}
use native.Mathlib.Omega.{arith}
use lib.ListN.{get_or, replicate}
use Rattle.meanings.specs.declared.RunningSums.{RunningSums}
use Rattle.meanings.specs.Reports.{Answer}
use Rattle.meanings.specs.Codes.{answered, no_detail}
use Rattle.exports.specs.Answers.{sized, replaced, record_length}
use Rattle.exports.specs.Positions.{no_position, position_number, position_numbers}
use Rattle.exports.specs.Version.{version}

-- two numbers stored in front of a list of three
pub no_store_into_a_longer_list : ¬ (replaced {B = ℕ} (1 ∷ 2 ∷ []) (7 ∷ 7 ∷ 7 ∷ []) ≡ 1 ∷ 2 ∷ 7 ∷ [])
unfolding replaced
no_store_into_a_longer_list e = let n : ◌≡◌ {A = ℕ} 7 1 = ap (λ (xs : List ℕ). get_or xs 0 0) e in omega arith

-- a step or a turn of the first nine of ten numbers
pub no_record_of_ten_numbers : (a : Answer RunningSums) → ¬ (0 ≡ answered no_detail (sized {B = ℕ} record_length (replicate 10 0) a))
unfolding sized
no_record_of_ten_numbers a q = let z : ◌≡◌ {A = ℕ} 0 8 = q in omega arith

-- none told as another number
pub no_none_one_less : ¬ (position_number None ≡ 2 ^ 64 - 2)
no_none_one_less e = let n : ◌≡◌ {A = ℕ} 18446744073709551615 18446744073709551614 = e in omega arith

-- a position told as the next one, or as none
pub no_position_one_more : ¬ (position_number (Some 0) ≡ 1)
no_position_one_more e = let n : ◌≡◌ {A = ℕ} 0 1 = e in omega arith

pub no_position_untold : ¬ (position_numbers (Some 1) ≡ position_numbers None)
no_position_untold e = let n : ◌≡◌ {A = ℕ} 1 no_position = ap (λ (xs : List ℕ). get_or xs 0 0) e in omega arith

-- the first part of 3.1.0 counted as the second
pub no_major_part_as_minor : ¬ (version ≡ 3 * 256 + 1 * 256 + 0)
no_major_part_as_minor e = let n : ◌≡◌ {A = ℕ} 196864 1024 = e in omega arith

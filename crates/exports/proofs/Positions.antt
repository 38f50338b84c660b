-- No position of a list that a machine of 64 bits can hold is the number that stands for none, so what is stored is read back as it was.
use Prim.Native.Nat.{ℕ, ◌^◌, ◌<◌}
use mathlib.Core.Path.{◌≡◌, refl}
use mathlib.Core.List.{List}
use Rattle.std.specs.Prelude.{None, Some}
use native.Mathlib.Omega.{arith}
use borrow.Author.Tests.{ne_eqb}
use lib.ListN.{length}
use Rattle.exports.specs.Positions.{no_position, position_number, position_of}

pub no_position_of_a_list : (xs : List ℕ) → length xs < 2 ^ 64 → (k : ℕ) → k < length xs → ¬ (k ≡ no_position)
no_position_of_a_list xs f k l e = omega arith

pub position_read_back : (k : ℕ) → ¬ (k ≡ no_position) → position_of (position_number (Some k)) ≡ Some k
position_read_back k n = rw (ne_eqb k no_position n)

pub none_read_back : position_of (position_number None) ≡ None
none_read_back = refl

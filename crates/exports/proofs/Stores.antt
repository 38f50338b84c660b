-- A record stored as numbers is read back as it was.
use Prim.Native.Nat.{ℕ}
use mathlib.Core.Path.{◌≡◌, refl}
use mathlib.Core.List.{List}
use borrow.Author.Tests.{eq-eqb}
use lib.ListN.{length}
use Rattle.meanings.specs.declared.RunningSums.{RunningSums}
use Rattle.exports.specs.Answers.{record_numbers, record_of, record_length, record_in}

-- so a list of exported steps is a list of steps on records, and demand 3 is said of it too
pub record_read_back : (r : RunningSums) → record_of (record_numbers r) ≡ r
record_read_back r = refl

-- of a list of nine numbers that record
pub record_of_length : (xs : List ℕ) → length xs ≡ record_length → record_of xs ≡ record_in xs
unfolding record_in
record_of_length xs e = rw (eq-eqb (length xs) record_length e)

-- A position, or none, as one number of a lent list.
use Rattle.std.specs.Prelude.{ℕ, ◌-◌, ◌^◌, List, [], ◌∷◌, eqb}
use Rattle.std.specs.Prelude.{Option, None, Some}
use Rattle.meanings.specs.Lists.{pick}

-- the number that stands for no position
abbrev pub no_position : ℕ
no_position = 2 ^ 64 - 1

abbrev pub position_number : Option ℕ → ℕ
position_number None = no_position
position_number (Some k) = k

-- as a list of one number
abbrev pub position_numbers : Option ℕ → List ℕ
position_numbers p = position_number p ∷ []

-- and back
abbrev pub position_of : ℕ → Option ℕ
position_of n = pick (eqb n no_position) None (Some n)

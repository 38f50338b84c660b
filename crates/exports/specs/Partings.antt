-- What the exported comparison answers, and what its lent list holds at exit.
use Rattle.std.specs.Prelude.{ℕ, List, [], ◌∷◌, Option, None, Some}
use Rattle.meanings.specs.Reports.{Answer, given, refused}
use Rattle.meanings.specs.declared.pair.Bounded.{Bounded}
use Rattle.meanings.specs.pair.Comparison.{of_tank}

-- how many numbers a parting has
abbrev pub parting_length : ℕ
parting_length = 3

-- the higher tank: 0 where the tanks are alike, else 1 for the first and 2 for the second
abbrev pub tank_detail : Option Bounded → ℕ
tank_detail None = 0
tank_detail (Some b) = of_tank b.parting.higher 1 2

-- position, left, right
abbrev pub parting_numbers : Bounded → List ℕ
parting_numbers b = b.parting.position ∷ b.left ∷ b.right ∷ []

-- a lent list at exit: these numbers where the tanks part, else what it held
abbrev pub stored_parting : Answer (Option Bounded) → List ℕ → List ℕ
stored_parting (given (Some b)) xs = parting_numbers b
stored_parting (given None) xs = xs
stored_parting (refused e) xs = xs

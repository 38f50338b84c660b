-- What the search in accepted lists says.
use Rattle.std.specs.Prelude.{ℕ, ◌≡◌, List, Option}
use Rattle.meanings.specs.Reports.{given}
use Rattle.meanings.specs.declared.pair.Bounded.{Bounded}
use Rattle.meanings.specs.pair.Comparison.{with_bounds, parted}

-- c is what accepted lists answer
pub record Searched (ts vs us ws zs hs : List ℕ) (c : Option Bounded) : Type 0 where
  pub answer : given c ≡ with_bounds ts us zs hs (given (parted ts vs us ws zs hs))

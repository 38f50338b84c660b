-- What the search under the call says.
use Rattle.std.specs.Prelude.{ℕ, ◌≡◌, List}
use Rattle.meanings.specs.declared.limit.Located.{Located}
use Rattle.meanings.specs.limit.Crossing.{located}

-- c is what accepted lists answer
pub record Searched (ts vs zs hs : List ℕ) (limit : ℕ) (c : Located) : Type 0 where
  pub answer : c ≡ located ts vs zs hs limit

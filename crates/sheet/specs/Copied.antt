-- The front of one list at the front of another.
use Rattle.std.specs.Prelude.{ℕ, ◌&&◌, List, ◌++◌, leb, length, take, drop}
use Rattle.meanings.specs.Lists.{pick}

-- the first n elements of xs before what stood behind the first n of out; where either is shorter, out as it was
unfoldable pub copied : {A : Type 0} → List A → ℕ → List A → List A
copied xs n out = pick (leb n (length xs) && leb n (length out)) (take n xs ++ drop n out) out

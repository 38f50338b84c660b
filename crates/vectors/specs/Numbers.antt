-- The numbers of a case: digits, each up to a byte below '0'.
use Rattle.std.specs.Prelude.{ℕ, ◌+◌, ◌-◌, ◌*◌, ◌%◌, ◌^◌, List, [], ◌∷◌, leb}
use Rattle.meanings.specs.Lists.{pick}

-- v and behind it the digits that stand at the front, as one number modulo 2^64
unfoldable pub number_onto : ℕ → List ℕ → ℕ
number_onto v [] = v
number_onto v (b ∷ bs) = pick (leb 48 b) (number_onto ((v * 10 % 2 ^ 64 + (b - 48)) % 2 ^ 64) bs) v

-- what stands behind the digits and the byte that ends them
unfoldable pub after_number : List ℕ → List ℕ
after_number [] = []
after_number (b ∷ bs) = pick (leb 48 b) (after_number bs) bs

-- Code and list together tell what was handed over.
use mathlib.Core.Path.{◌≡◌, refl}
use mathlib.Core.List.{List, [], ◌∷◌}
use native.Mathlib.Omega.{arith}
use lib.ListN.{length, drop}
use lib.Ieee.{Float}
use Rattle.meanings.specs.doubles.Doubles.{Doubles, empty, one, pair}
use Rattle.exports.specs.Lists.{used, in_front, read_back}

-- how many are used and the list tell what was handed over
pub doubles_read_back : (d : Doubles) (xs : List Float) → read_back (used d) (in_front d xs) ≡ d
doubles_read_back empty xs = refl
doubles_read_back (one a) xs = refl
doubles_read_back (pair a b) xs = refl

-- and the others are as they were
pub others_stay : (d : Doubles) (xs : List Float) → drop (used d) (in_front d xs) ≡ drop (used d) xs
others_stay empty xs = refl
others_stay (one a) xs = refl
others_stay (pair a b) xs = refl

pub length_stays : (d : Doubles) (xs : List Float) → length xs ≡ 2 → length (in_front d xs) ≡ 2
length_stays empty xs e = e
length_stays (one a) [] e = absurd (omega arith)
length_stays (one a) (x ∷ xs) e = e
length_stays (pair a b) [] e = absurd (omega arith)
length_stays (pair a b) (x ∷ []) e = absurd (omega arith)
length_stays (pair a b) (x ∷ y ∷ xs) e = e

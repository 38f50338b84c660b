-- What is handed over as a list of doubles, in front of a lent list, and read back from there.
use Rattle.std.specs.Prelude.{ℕ, zero, suc, List, [], ◌∷◌, ◌++◌, length, get_or, drop, Float}
use Rattle.std.specs.Float.{nan}
use Rattle.meanings.specs.Reports.{Answer}
use Rattle.meanings.specs.doubles.Doubles.{Doubles, empty, one, pair}
use Rattle.exports.specs.Answers.{stored}

abbrev pub listed : Doubles → List Float
listed empty = []
listed (one d) = d ∷ []
listed (pair high low) = high ∷ low ∷ []

-- how many they are
abbrev pub used : Doubles → ℕ
used d = length (listed d)

-- a lent list with them in front; the others stay
abbrev pub in_front : Doubles → List Float → List Float
in_front d xs = listed d ++ drop (used d) xs

-- a lent list at exit: what is handed over in front of the others, or what it held
abbrev pub filled : Answer Doubles → List Float → List Float
filled a xs = stored (λ (d : Doubles). in_front d xs) a xs

-- of so many used doubles of a list what they were; no call tells more than two
abbrev pub read_back : ℕ → List Float → Doubles
read_back zero xs = empty
read_back (suc zero) xs = one (get_or xs 0 nan)
read_back (suc (suc n)) xs = pair (get_or xs 0 nan) (get_or xs 1 nan)

-- Of the lines before, only the last one's minute decides whether a minute falls below them.
use Prim.Native.Nat.{ℕ}
use mathlib.Core.Path.{◌≡◌, refl, sym, ◌∙◌}
use mathlib.Core.List.{List, [], ◌∷◌, ◌++◌}
use lib.Dec.{ltb}
use lib.ListN.{length}
use Rattle.meanings.specs.Reports.{decreases}

-- two lists of minutes that any next minute falls below alike
abbrev pub Alike : List ℕ → List ℕ → Type 0
Alike a b = (y : ℕ) → decreases (a ++ y ∷ []) (length a) ≡ decreases (b ++ y ∷ []) (length b)

last_decides : (xs : List ℕ) (m y : ℕ) → decreases ((xs ++ m ∷ []) ++ y ∷ []) (length (xs ++ m ∷ [])) ≡ ltb y m
last_decides [] m y = refl
last_decides (a ∷ []) m y = refl
last_decides (a ∷ b ∷ r) m y = last_decides (b ∷ r) m y

pub alike_behind : (a b : List ℕ) (m : ℕ) → Alike (a ++ m ∷ []) (b ++ m ∷ [])
alike_behind a b m y = last_decides a m y ∙ sym (last_decides b m y)

-- What a writer leaves in the list that is lent to it: a text at its front, or nothing where there is no room.
use Rattle.std.specs.Prelude.{ℕ, ◌≡◌, ◌≤◌, Bool, List, [], ◌∷◌, ◌++◌, leb, length, drop, Option, None, Some}
use Rattle.meanings.specs.Lists.{pick}

-- parts of a text, joined
abbrev pub joined : List (List ℕ) → List ℕ
joined [] = []
joined (t ∷ ts) = t ++ joined ts

-- a list of bytes with a text stored at its front
unfoldable pub written : List ℕ → List ℕ → List ℕ
written out t = t ++ drop (length t) out

-- a text t is stored at the front of a list that has room for it, and has n bytes
pub record Stored (out t now : List ℕ) (n : ℕ) : Type 0 where
  pub text : now ≡ written out t
  pub size : n ≡ length t
  pub within : n ≤ length out
  pub same : length now ≡ length out

-- the list has room for a text
unfoldable pub fits : List ℕ → List ℕ → Bool
fits out t = leb (length t) (length out)

-- how many bytes the text has, if there is room for it
unfoldable pub put_size : List ℕ → List ℕ → Option ℕ
put_size out t = pick (fits out t) (Some (length t)) None

-- the list with the text at its front, or as it was if there is no room for it
unfoldable pub put_list : List ℕ → List ℕ → List ℕ
put_list out t = pick (fits out t) (written out t) out

-- what a call that puts a text answers and leaves
pub record Put (out t now : List ℕ) (r : Option ℕ) : Type 0 where
  pub size : r ≡ put_size out t
  pub list : now ≡ put_list out t

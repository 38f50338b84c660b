-- What holds of each reading line holds of the kept ones, and a rule of neighbours that carries over from line to line holds of the kept
-- ones too: it holds of a line and every later one, so leaving lines out breaks it nowhere.
use mathlib.Core.Bool.{Bool, true, false}
use mathlib.Core.List.{List, [], ◌∷◌}
use Rattle.meanings.specs.Lists.{pick}
use Rattle.meanings.specs.Sheet.{Injection, kept}
use Rattle.meanings.specs.SheetForm.{kept_of, Neighbours, Each}

pub each_kept : (P : Injection → Type 0) (js : List Injection) → Each P js → Each P (kept_of js)
each_kept P [] e = tt
each_kept P (j ∷ js) e = by (kept j) (each_kept P js e.1)
  where
    by : (b : Bool) → Each P (kept_of js) → Each P (pick b (j ∷ kept_of js) (kept_of js))
    by true h = (e.0, h)
    by false h = h

module _ (R : Injection → Injection → Type 0) where
  each_later : ((a b c : Injection) → R a b → R b c → R a c) → (a : Injection) (js : List Injection) → Neighbours R (a ∷ js) → Each (R a) js
  each_later t a [] n = tt
  each_later t a (b ∷ []) n = (n.0, tt)
  each_later t a (b ∷ c ∷ js) n = (n.0, each_later t a (c ∷ js) (t a b c n.0 n.1.0, n.1.1))

  neighbours_after : (a : Injection) (js : List Injection) → Neighbours R (a ∷ js) → Neighbours R js
  neighbours_after a [] n = tt
  neighbours_after a (b ∷ js) n = n.1

  neighbours_with : (a : Injection) (js : List Injection) → Each (R a) js → Neighbours R js → Neighbours R (a ∷ js)
  neighbours_with a [] e n = tt
  neighbours_with a (b ∷ js) e n = (e.0, n)

  pub neighbours_kept : ((a b c : Injection) → R a b → R b c → R a c) → (js : List Injection) → Neighbours R js → Neighbours R (kept_of js)
  neighbours_kept t [] n = tt
  neighbours_kept t (j ∷ js) n = by (kept j) (neighbours_kept t js (neighbours_after j js n))
    where
      by : (b : Bool) → Neighbours R (kept_of js) → Neighbours R (pick b (j ∷ kept_of js) (kept_of js))
      by true h = neighbours_with j (kept_of js) (each_kept (R j) js (each_later t j js n)) h
      by false h = h

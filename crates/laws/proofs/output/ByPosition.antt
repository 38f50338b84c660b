-- What holds of each line, or of each two neighbours, holds at every position of the list: the rules of the sheet's lines are said line by
-- line, those of the sweep's lists by position.
use Prim.Native.Nat.{ℕ, zero, suc, ◌<◌}
use mathlib.Core.List.{List, [], ◌∷◌}
use native.Mathlib.Nat.{not-suc-le-zero, le_of_suc-le-suc}
use lib.ListN.{length, get_or}
use Rattle.meanings.specs.SheetForm.{Neighbours, Each}

pub each_at : {A : Type 0} (P : A → Type 0) (d : A) (xs : List A) → Each P xs → (i : ℕ) → i < length xs → P (get_or xs i d)
each_at P d [] e i l = absurd (not-suc-le-zero l)
each_at P d (x ∷ xs) e zero l = e.0
each_at P d (x ∷ xs) e (suc i) l = each_at P d xs e.1 i (le_of_suc-le-suc l)

pub neighbours_at : {A : Type 0} (R : A → A → Type 0) (d : A) (xs : List A) → Neighbours R xs → (k : ℕ) → suc k < length xs
    → R (get_or xs k d) (get_or xs (suc k) d)
neighbours_at R d [] n k l = absurd (not-suc-le-zero l)
neighbours_at R d (x ∷ []) n k l = absurd (not-suc-le-zero (le_of_suc-le-suc l))
neighbours_at R d (x ∷ y ∷ xs) n zero l = n.0
neighbours_at R d (x ∷ y ∷ xs) n (suc k) l = neighbours_at R d (y ∷ xs) n.1 k (le_of_suc-le-suc l)

-- What a test of the last line of a list with one line more finds: the reader tests these two only, and the rest of the lines keep the rule.
use mathlib.Core.Path.{◌≡◌, refl, ap}
use mathlib.Core.Bool.{Bool, true, false}
use mathlib.Core.List.{List, [], ◌∷◌, ◌++◌}
use Prim.Native.Nat.{ℕ}
use native.Mathlib.Omega.{arith}
use Rattle.meanings.specs.SheetForm.{Neighbours, Each}

-- the test of the last of the list and one more
abbrev pub last_fails : {A : Type 0} → (A → A → Bool) → List A → A → Bool
last_fails f [] x = false
last_fails f (a ∷ []) x = f a x
last_fails f (a ∷ b ∷ r) x = last_fails f (b ∷ r) x

module _ {A : Type 0} (f : A → A → Bool) (R : A → A → Type 0) where
  pub neighbours_more : ((a x : A) → f a x ≡ false → R a x) → (xs : List A) (x : A) → Neighbours R xs → last_fails f xs x ≡ false
      → Neighbours R (xs ++ x ∷ [])
  neighbours_more g [] x n e = tt
  neighbours_more g (a ∷ []) x n e = (g a x e, tt)
  neighbours_more g (a ∷ b ∷ r) x n e = (n.0, neighbours_more g (b ∷ r) x n.1 e)

  pub last_holds : ((a x : A) → R a x → f a x ≡ false) → (xs : List A) (x : A) (ys : List A) → Neighbours R (xs ++ x ∷ ys)
      → last_fails f xs x ≡ false
  last_holds g [] x ys n = refl
  last_holds g (a ∷ []) x ys n = g a x n.0
  last_holds g (a ∷ b ∷ r) x ys n = last_holds g (b ∷ r) x ys n.1

pub each_more : {A : Type 0} (P : A → Type 0) (xs : List A) (x : A) → Each P xs → P x → Each P (xs ++ x ∷ [])
each_more P [] x e p = (p, tt)
each_more P (a ∷ xs) x e p = (e.0, each_more P xs x e.1 p)

pub last_found : {A : Type 0} (f : A → A → Bool) (xs : List A) (x : A) → last_fails f xs x ≡ true
    → (before : List A) × ((a : A) × ((xs ≡ before ++ a ∷ []) × (f a x ≡ true)))
last_found f [] x e = let z : ◌≡◌ {A = ℕ} 0 1 = cc in absurd (omega arith)
last_found f (a ∷ []) x e = ([], (a, (refl, e)))
last_found {A} f (a ∷ b ∷ r) x e =
    let o = last_found f (b ∷ r) x e in
    (a ∷ o.0, (o.1.0, (ap (λ (t : List A). a ∷ t) o.1.1.0, o.1.1.1)))

pub last_is_tested : {A : Type 0} (f : A → A → Bool) (before : List A) (a x : A) → last_fails f (before ++ a ∷ []) x ≡ f a x
last_is_tested f [] a x = refl
last_is_tested f (b ∷ []) a x = refl
last_is_tested f (b ∷ c ∷ r) a x = last_is_tested f (c ∷ r) a x

pub neighbours_weaker : {A : Type 0} (R Q : A → A → Type 0) → ((a b : A) → R a b → Q a b) → (xs : List A) → Neighbours R xs → Neighbours Q xs
neighbours_weaker R Q w [] n = tt
neighbours_weaker R Q w (a ∷ []) n = tt
neighbours_weaker R Q w (a ∷ b ∷ r) n = (w a b n.0, neighbours_weaker R Q w (b ∷ r) n.1)

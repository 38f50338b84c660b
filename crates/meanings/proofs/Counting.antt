-- How many elements of a list pass a test, by the run of positions at which they do.
use Prim.Native.Nat.{ℕ, zero, suc, ◌+◌, ◌≤◌, ◌<◌, zero-le, suc-le-suc}
use mathlib.Core.Path.{◌≡◌, refl}
use mathlib.Core.Bool.{Bool, true, false}
use mathlib.Core.List.{List, [], ◌∷◌}
use native.Mathlib.Nat.{le_trans}
use native.Mathlib.Omega.{arith}
use lib.ListN.{length, get_or}
use Rattle.meanings.specs.Lists.{pick, count}

-- one element more counts no less
more_counted : (p : ℕ → Bool) (x : ℕ) (xs : List ℕ) → count p xs ≤ count p (x ∷ xs)
more_counted p x xs = by (p x)
  where
    by : (b : Bool) → count p xs ≤ pick b (suc (count p xs)) (count p xs)
    by true = omega arith
    by false = omega arith

-- m positions from a on that all pass are at least m
pub run_counted : (p : ℕ → Bool) (xs : List ℕ) (a m : ℕ) → a + m ≤ length xs → ((i : ℕ) → a ≤ i → i < a + m → p (get_or xs i 0) ≡ true)
    → m ≤ count p xs
run_counted p [] a m l f = omega arith
run_counted p (x ∷ xs) zero zero l f = zero-le
run_counted p (x ∷ xs) zero (suc m) l f =
    rw (f 0 zero-le (omega arith))
    (suc-le-suc (run_counted p xs zero m (omega arith) (λ i u v. f (suc i) zero-le (omega arith))))
run_counted p (x ∷ xs) (suc a) m l f =
    le_trans (run_counted p xs a m (omega arith) (λ i u v. f (suc i) (omega arith) (omega arith))) (more_counted p x xs)

-- where none passes but at those m positions, they are at most m
pub no_more_counted : (p : ℕ → Bool) (xs : List ℕ) (a m : ℕ) → ((i : ℕ) → i < length xs → p (get_or xs i 0) ≡ true → (a ≤ i) × (i < a + m))
    → count p xs ≤ m
no_more_counted p [] a m f = zero-le
no_more_counted p (x ∷ xs) zero zero f = by (p x) refl (no_more_counted p xs zero zero)
  where
    by : (b : Bool) → p x ≡ b → (((i : ℕ) → i < length xs → p (get_or xs i 0) ≡ true → (0 ≤ i) × (i < 0 + 0)) → count p xs ≤ 0)
        → pick b (suc (count p xs)) (count p xs) ≤ 0
    by true e g = absurd (let r = f 0 (omega arith) e in omega (arith, r.1))
    by false e g = g (λ i l q. let r = f (suc i) (omega arith) q in absurd (omega (arith, r.1)))
no_more_counted p (x ∷ xs) zero (suc m) f = by (p x) (no_more_counted p xs zero m later)
  where
    later : (i : ℕ) → i < length xs → p (get_or xs i 0) ≡ true → (0 ≤ i) × (i < 0 + m)
    later i l q = let r = f (suc i) (omega arith) q in (zero-le, omega (arith, r.1))

    by : (b : Bool) → count p xs ≤ m → pick b (suc (count p xs)) (count p xs) ≤ suc m
    by true g = suc-le-suc g
    by false g = omega arith
no_more_counted p (x ∷ xs) (suc a) m f = by (p x) refl (no_more_counted p xs a m later)
  where
    later : (i : ℕ) → i < length xs → p (get_or xs i 0) ≡ true → (a ≤ i) × (i < a + m)
    later i l q = let r = f (suc i) (omega arith) q in (omega (arith, r.0), omega (arith, r.1))

    by : (b : Bool) → p x ≡ b → count p xs ≤ m → pick b (suc (count p xs)) (count p xs) ≤ m
    by true e g = absurd (let r = f 0 (omega arith) e in omega (arith, r.0))
    by false e g = g

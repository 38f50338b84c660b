-- Laws of total. Each is by induction over the number of terms, the last term first; a range may be cut at any place, and the parts add
-- up, so a stretch whose terms are all 0 may be left out.
use Prim.Native.Nat.{ℕ, zero, suc, ◌+◌, ◌-◌, ◌*◌, ◌≤◌, ◌<◌}
use mathlib.Core.Path.{◌≡◌, refl, ap, ◌∙◌}
use mathlib.Core.Logic.{◌↔◌}
use mathlib.Core.Bool.{Bool, true, false}
use native.Mathlib.Nat.{zero-add, add-zero, add-suc, add_assoc, add-sub_of_le}
use native.Mathlib.Omega.{arith}
use Rattle.meanings.specs.Lists.{pick, total}

-- equal terms on the range
pub total_ext : (f g : ℕ → ℕ) (a n : ℕ) → ((i : ℕ) → a ≤ i → i < a + n → f i ≡ g i) → total f a n ≡ total g a n
total_ext f g a zero same = refl
total_ext f g a (suc n) same =
    omega (arith, total_ext f g a n (λ i l r. same i l (omega arith)), same (a + n) (omega arith) (omega arith))

-- terms that are all 0
pub total_zero : (g : ℕ → ℕ) (a n : ℕ) → ((i : ℕ) → a ≤ i → i < a + n → g i ≡ 0) → total g a n ≡ 0
total_zero g a zero zeros = refl
total_zero g a (suc n) zeros =
    omega (arith, total_zero g a n (λ i l r. zeros i l (omega arith)), zeros (a + n) (omega arith) (omega arith))

pub total_split : (g : ℕ → ℕ) (a m n : ℕ) → total g a (m + n) ≡ total g a m + total g (a + m) n
total_split g a m zero = simp add-zero
total_split g a m (suc n) = rw (add-suc, add_assoc a m n) (omega (arith, total_split g a m n))

pub total_factor : (c : ℕ) (g : ℕ → ℕ) (a n : ℕ) → total (λ i. c * g i) a n ≡ c * total g a n
total_factor c g a zero = omega arith
total_factor c g a (suc n) = omega (arith, total_factor c g a n)

-- terms that are 0 outside of the m positions from a on
pub total_narrow : (g : ℕ → ℕ) (a m n : ℕ) → a + m ≤ n → ((i : ℕ) → i < a → g i ≡ 0) → ((i : ℕ) → a + m ≤ i → i < n → g i ≡ 0)
    → total g 0 n ≡ total g a m
total_narrow g a m n fits before behind =
    let front = total_zero g 0 a (λ i l r. before i (omega arith)) in
    let back = total_zero g (a + m) (n - (a + m)) (λ i l r. behind i l (omega arith)) in
    rw (← (add-sub_of_le fits), total_split g 0 (a + m) (n - (a + m)), total_split g 0 a m, zero-add a, zero-add (a + m)) (omega arith)

-- a test that is true exactly at the m positions from a on
pub total_where : (test : ℕ → Bool) (g : ℕ → ℕ) (a m n : ℕ) → a + m ≤ n
    → ((i : ℕ) → i < n → (test i ≡ true) ↔ ((a ≤ i) × (i < a + m)))
    → total (λ i. pick (test i) (g i) 0) 0 n ≡ total g a m
total_where test g a m n fits exact =
    total_narrow _ a m n fits
    (λ i l. untrue (test i) (g i) (λ e. omega (arith, (exact i (omega arith)).0 e)))
    (λ i l r. untrue (test i) (g i) (λ e. omega (arith, (exact i r).0 e)))
    ∙ total_ext _ g a m (λ i l r. ap (λ b. pick b (g i) 0) ((exact i (omega arith)).1 (l, r)))
  where
    untrue : (b : Bool) (x : ℕ) → ¬ (b ≡ true) → pick b x 0 ≡ 0
    untrue true x not = absurd (not refl)
    untrue false x not = refl

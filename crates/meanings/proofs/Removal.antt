-- Weight and sum over the run are those over all readings, since what lies outside the window has no weight. A total less one of its terms is
-- the total over the other positions; so without reading i both lose its term, and of a reading outside the run nothing.
use Prim.Native.Nat.{ℕ, zero, suc, ◌+◌, ◌-◌, ◌*◌, ◌≤◌, ◌<◌}
use mathlib.Core.Path.{◌≡◌, refl, sym, ap, ◌∙◌}
use mathlib.Core.List.{List, [], ◌∷◌}
use native.Mathlib.Nat.{not-suc-le-zero, le_of_suc-le-suc, zero-add, add-zero, zero-mul}
use native.Mathlib.Decide.{dec_lt}
use native.Mathlib.Omega.{arith}
use lib.ListN.{length, get_or}
use Rattle.meanings.specs.Lists.{total, distance, Ordered}
use Rattle.meanings.specs.Estimate.{kernel, left_of, right_of, weight_of, sum_of}
use Rattle.meanings.proofs.Kernel.{distance_inside}
use Rattle.meanings.proofs.Published.{outside_is_zero, total_is_over_run}
use Rattle.meanings.proofs.Totals.{total_ext, total_split}
use Rattle.meanings.proofs.Window.{run_is_inside}
use Rattle.meanings.specs.decisive.Decisive.{without}
use Rattle.meanings.proofs.Kernels.{kernel_product}

-- the list without position i: as long less one, the same before i, one further from i on
pub length_without : (i : ℕ) (xs : List ℕ) → i < length xs → suc (length (without i xs)) ≡ length xs
length_without i [] l = absurd (not-suc-le-zero l)
length_without zero (x ∷ xs) l = refl
length_without (suc i) (x ∷ xs) l = ap suc (length_without i xs (le_of_suc-le-suc l))

pub before_removed : (i j : ℕ) (xs : List ℕ) → j < i → get_or (without i xs) j 0 ≡ get_or xs j 0
before_removed zero j xs l = absurd (not-suc-le-zero l)
before_removed (suc i) j [] l = refl
before_removed (suc i) zero (x ∷ xs) l = refl
before_removed (suc i) (suc j) (x ∷ xs) l = before_removed i j xs (le_of_suc-le-suc l)

pub behind_removed : (i j : ℕ) (xs : List ℕ) → i ≤ j → get_or (without i xs) j 0 ≡ get_or xs (suc j) 0
behind_removed zero j [] l = refl
behind_removed zero j (x ∷ xs) l = refl
behind_removed (suc i) j [] l = refl
behind_removed (suc i) zero (x ∷ xs) l = absurd (not-suc-le-zero l)
behind_removed (suc i) (suc j) (x ∷ xs) l = behind_removed i j xs (le_of_suc-le-suc l)

-- ordered minutes stay ordered
pub without_ordered : (i : ℕ) (xs : List ℕ) → i < length xs → Ordered xs → Ordered (without i xs)
without_ordered i xs l o a b m n = by (dec_lt a i) (dec_lt b i)
  where
    long : suc b < length xs
    long = omega (arith, length_without i xs l)

    by : Dec (a < i) → Dec (b < i) → get_or (without i xs) a 0 ≤ get_or (without i xs) b 0
    by (yes p) (yes q) = rw (before_removed i a xs p, before_removed i b xs q) (o a b m (omega arith))
    by (yes p) (no q) = rw (before_removed i a xs p, behind_removed i b xs (omega arith)) (o a (suc b) (omega arith) long)
    by (no p) (yes q) = absurd (omega arith)
    by (no p) (no q) = rw (behind_removed i a xs (omega arith), behind_removed i b xs (omega arith)) (o (suc a) (suc b) (omega arith) long)

module _ (ts : List ℕ) (z h : ℕ) (o : Ordered ts) where
  pub weight_over_all : weight_of ts z h ≡ total (λ i. kernel z h (get_or ts i 0)) 0 (length ts)
  unfolding weight_of
  weight_over_all = sym (total_is_over_run _ ts z h o (λ i. outside_is_zero z h (get_or ts i 0)))

  pub sum_over_all : (vs : List ℕ) → sum_of ts vs z h ≡ total (λ i. kernel z h (get_or ts i 0) * get_or vs i 0) 0 (length ts)
  unfolding sum_of
  sum_over_all vs =
      sym
      (total_is_over_run _ ts z h o (λ i n. ap (λ (k : ℕ). k * get_or vs i 0) (outside_is_zero z h (get_or ts i 0) n) ∙ zero-mul _))

-- a total less one of its terms
pub total_without : (g : ℕ → ℕ → ℕ) (xs ys : List ℕ) (i : ℕ) → i < length xs
    → total (λ j. g (get_or (without i xs) j 0) (get_or (without i ys) j 0)) 0 (length (without i xs)) + g (get_or xs i 0) (get_or ys i 0)
    ≡ total (λ j. g (get_or xs j 0) (get_or ys j 0)) 0 (length xs)
total_without g xs ys i l = joined (length xs - suc i) (omega arith) (omega (arith, length_without i xs l))
  where
    f : ℕ → ℕ
    f j = g (get_or xs j 0) (get_or ys j 0)

    f' : ℕ → ℕ
    f' j = g (get_or (without i xs) j 0) (get_or (without i ys) j 0)

    before : (j : ℕ) → j < i → f' j ≡ f j
    before j b = rw (before_removed i j xs b, before_removed i j ys b)

    behind : (j : ℕ) → i ≤ j → f' j ≡ f (suc j)
    behind j b = rw (behind_removed i j xs b, behind_removed i j ys b)

    shifted : (k : ℕ) → total f' i k ≡ total f (i + 1) k
    shifted zero = refl
    shifted (suc k) =
        let e = behind (i + k) (omega arith) in
        let s : i + 1 + k ≡ suc (i + k) = omega arith in
        rw s (omega (arith, shifted k))

    core : (k : ℕ) → total f' 0 (i + k) + f i ≡ total f 0 (i + (1 + k))
    core k =
        let front = total_ext f' f 0 i (λ j a b. before j (omega arith)) in
        let there : total f i 1 ≡ f i = omega (arith, ap f (add-zero i)) in
        let left : total f' 0 (i + k) ≡ total f' 0 i + total f' i k = total_split f' 0 i k ∙ ap (λ (a : ℕ). total f' 0 i + total f' a k) (zero-add i) in
        let right : total f 0 (i + (1 + k)) ≡ total f 0 i + total f i (1 + k) =
        total_split f 0 i (1 + k) ∙ ap (λ (a : ℕ). total f 0 i + total f a (1 + k)) (zero-add i) in
        omega (arith, total_split f i 1 k, shifted k)

    joined : (k : ℕ) → length xs ≡ i + (1 + k) → length (without i xs) ≡ i + k
        → total f' 0 (length (without i xs)) + f i ≡ total f 0 (length xs)
    joined k n m = ap (λ (q : ℕ). total f' 0 q + f i) m ∙ core k ∙ ap (total f 0) (sym n)

-- so the row without reading i has weight and sum less that reading's terms
module _ (ts vs : List ℕ) (z h : ℕ) (o : Ordered ts) (i : ℕ) (l : i < length ts) where
  pub weight_without : weight_of (without i ts) z h + kernel z h (get_or ts i 0) ≡ weight_of ts z h
  weight_without =
      ap (λ (n : ℕ). n + kernel z h (get_or ts i 0)) (weight_over_all (without i ts) z h (without_ordered i ts l o))
      ∙ total_without (λ t v. kernel z h t) ts vs i l
      ∙ sym (weight_over_all ts z h o)

  pub sum_without : sum_of (without i ts) (without i vs) z h + kernel z h (get_or ts i 0) * get_or vs i 0 ≡ sum_of ts vs z h
  sum_without =
      ap (λ (n : ℕ). n + kernel z h (get_or ts i 0) * get_or vs i 0) (sum_over_all (without i ts) z h (without_ordered i ts l o) (without i vs))
      ∙ total_without (λ t v. kernel z h t * v) ts vs i l
      ∙ sym (sum_over_all ts z h o vs)

  -- a reading without weight takes nothing with it
  module _ (e : kernel z h (get_or ts i 0) ≡ 0) where
    pub weight_stays : weight_of (without i ts) z h ≡ weight_of ts z h
    weight_stays = omega (arith, weight_without, e)

    pub sum_stays : sum_of (without i ts) (without i vs) z h ≡ sum_of ts vs z h
    sum_stays =
        let n : kernel z h (get_or ts i 0) * get_or vs i 0 ≡ 0 = ap (λ (k : ℕ). k * get_or vs i 0) e ∙ zero-mul _ in
        omega (arith, sum_without)

  -- of the run: what a reading takes with it is (h − d)(h + d), and that times its value
  module _ (r : (left_of ts z h ≤ i) × (i < right_of ts z h)) where
    pub run_kernel : kernel z h (get_or ts i 0) ≡ (h - distance (get_or ts i 0) z) * (h + distance (get_or ts i 0) z)
    run_kernel = kernel_product z h (get_or ts i 0) (distance_inside z h (get_or ts i 0) ((run_is_inside ts z h o i l).0 r))

  -- outside of the run: nothing
  pub no_weight_outside : ¬ ((left_of ts z h ≤ i) × (i < right_of ts z h)) → kernel z h (get_or ts i 0) ≡ 0
  no_weight_outside n = outside_is_zero z h (get_or ts i 0) (λ inside. n ((run_is_inside ts z h o i l).1 inside))

-- The entry k − 1 of the sorted distances is the d of the second reading, there is one such d at most, and one exactly if k is from 1 up to
-- the number of readings.
use Prim.Native.Nat.{ℕ, ◌+◌, ◌-◌, ◌≤◌, ◌<◌, zero-le}
use mathlib.Core.Path.{◌≡◌, ◌∙◌}
use mathlib.Core.Logic.{◌↔◌}
use mathlib.Core.List.{List}
use native.Mathlib.Decide.{dec_lt}
use native.Mathlib.Nat.{le_trans}
use native.Mathlib.Omega.{arith}
use borrow.Author.Tests.{ltb-true, lt-ltb, leb-true, le-leb}
use lib.Dec.{ltb, leb}
use lib.ListN.{length, get_or}
use Rattle.meanings.specs.Lists.{count, distance, Ordered}
use Rattle.meanings.proofs.Window.{count_at_most_length, count_grows}
use Rattle.meanings.specs.neighbours.Neighbours.{distances, sorted, kth_distance, nearer, within, Kth}
use Rattle.meanings.proofs.Counting.{run_counted, no_more_counted}
use Rattle.meanings.proofs.Sorting.{sorted_is_ordered, sorted_counts, sorted_length, distances_length, distances_count}

-- of an ordered list at most j numbers are below its entry j, and j + 1 or more are not above it
module _ (ys : List ℕ) (o : Ordered ys) (j : ℕ) (l : j < length ys) where
  few_below_entry : count (λ d. ltb d (get_or ys j 0)) ys ≤ j
  few_below_entry = no_more_counted (λ d. ltb d (get_or ys j 0)) ys 0 j (λ i m e. (zero-le, before i m (ltb-true _ _ e) (dec_lt i j)))
    where
      before : (i : ℕ) → i < length ys → get_or ys i 0 < get_or ys j 0 → Dec (i < j) → i < 0 + j
      before i m b (yes k) = omega arith
      before i m b (no k) = absurd (let q = o j i (omega arith) m in omega arith)

  enough_to_entry : j + 1 ≤ count (λ d. leb d (get_or ys j 0)) ys
  enough_to_entry =
      run_counted (λ d. leb d (get_or ys j 0)) ys 0 (j + 1) (omega arith) (λ i u v. le-leb _ _ (o i j (omega arith) l))

-- the sorted list and the second reading say the same
pub kth_distance_is_kth : (ts : List ℕ) (z k : ℕ) → 1 ≤ k → k ≤ length ts → Kth ts z k (kth_distance ts z k)
unfolding kth_distance nearer within
kth_distance_is_kth ts z k low high =
    let ys = sorted (distances ts z) in
    let n : length ys ≡ length ts = sorted_length (distances ts z) ∙ distances_length ts z in
    let l : k - 1 < length ys = omega arith in
    let d = get_or ys (k - 1) 0 in
    let below = few_below_entry ys (sorted_is_ordered (distances ts z)) (k - 1) l in
    let upto = enough_to_entry ys (sorted_is_ordered (distances ts z)) (k - 1) l in
    let same_below = sorted_counts (λ x. ltb x d) (distances ts z) ∙ distances_count (λ x. ltb x d) ts z in
    let same-upto = sorted_counts (λ x. leb x d) (distances ts z) ∙ distances_count (λ x. leb x d) ts z in
    record { few_nearer = omega arith; enough_within = omega arith }

-- readings no further than c are nearer than any greater d
pub within_nearer : (ts : List ℕ) (z c d : ℕ) → c < d → within ts z c ≤ nearer ts z d
unfolding nearer within
within_nearer ts z c d l =
    count_grows (λ t. leb (distance t z) c) (λ t. ltb (distance t z) d)
    (λ t e. lt-ltb (distance t z) d (let m = leb-true (distance t z) c e in omega arith)) ts

-- there is one such d at most
pub kth_unique : (ts : List ℕ) (z k c d : ℕ) → Kth ts z k c → Kth ts z k d → c ≡ d
kth_unique ts z k c d a b = let x = not_below c d a b in let y = not_below d c b a in omega arith
  where
    not_below : (c d : ℕ) → Kth ts z k c → Kth ts z k d → ¬ (c < d)
    not_below c d a b l = let w = within_nearer ts z c d l in omega (arith, a.enough_within, b.few_nearer)

-- and none unless k is from 1 up to the number of readings
pub kth_range : (ts : List ℕ) (z k d : ℕ) → Kth ts z k d → (1 ≤ k) × (k ≤ length ts)
unfolding within
kth_range ts z k d a =
    (omega (arith, a.few_nearer), le_trans a.enough_within (count_at_most_length (λ t. leb (distance t z) d) ts))

pub kth_is_kth_distance : (ts : List ℕ) (z k d : ℕ) → Kth ts z k d → d ≡ kth_distance ts z k
kth_is_kth_distance ts z k d a =
    let r = kth_range ts z k d a in
    kth_unique ts z k d (kth_distance ts z k) a (kth_distance_is_kth ts z k r.0 r.1)

-- whether there is one does not hang on the mark
pub kth_exists : (ts : List ℕ) (z k : ℕ) → ((d : ℕ) × Kth ts z k d) ↔ ((1 ≤ k) × (k ≤ length ts))
kth_exists ts z k =
    (λ p. kth_range ts z k p.0 p.1, λ r. (kth_distance ts z k, kth_distance_is_kth ts z k r.0 r.1))

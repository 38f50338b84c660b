-- Each of the four sums of (18) is a block of cells from the first one on, so a box is four cumulative sums of cells; and the lists of cells add
-- up to all readings.
use Prim.Native.Nat.{ℕ, ◌+◌, ◌≤◌, ◌<◌, zero-le}
use mathlib.Core.Path.{◌≡◌, refl, sym, ap, ◌∙◌}
use mathlib.Core.Bool.{◌&&◌}
use mathlib.Core.List.{List}
use native.Mathlib.Decide.{dec_lt, dec_le}
use native.Mathlib.Nat.{zero-add}
use native.Mathlib.Omega.{arith}
use borrow.Author.Tests.{lt-ltb, le-ltb, le-leb, lt-leb}
use lib.Dec.{ltb, leb}
use lib.ListN.{length, get_or}
use Rattle.meanings.specs.Lists.{total}
use Rattle.meanings.proofs.Totals.{total_ext}
use Rattle.meanings.specs.boxes.Boxes.{Axis, shift, left_cut, right_cut, cuts_to, cuts, strip_of, gathered, strips, cells, cell, cell_list, box, one, value}
use Rattle.laws.specs.boxes.Windows.{first_strip, end_strip, to_right_edge, below_left_edge, Narrow}
use Rattle.laws.proofs.boxes.Strips.{cut_above, left_cut_member, right_cut_member, end_strip_most, window_strips_in_order}
use Rattle.laws.proofs.boxes.Sums.{among, gathered_ext, listed_at, listed_length, total_ones}
use Rattle.laws.proofs.boxes.Cells.{block, block_by_readings, box_by_four_sums, cells_hold_all}

-- the edges of (18) by strips
module _ (A : Axis) (k i : ℕ) (l : k < length A.points) (b : get_or A.bandwidths k 0 ≤ A.widest) where
  pub right_edge_by_strips : to_right_edge A k i ≡ ltb (strip_of A i) (end_strip A k)
  unfolding end_strip cuts
  right_edge_by_strips =
      moved (dec_le (get_or A.samples i 0) (get_or A.points k 0 + get_or A.bandwidths k 0))
      ∙ cut_above (cuts_to (shift A) A.points A.bandwidths (length A.points))
      (right_cut (shift A) (get_or A.points k 0) (get_or A.bandwidths k 0))
      (get_or A.samples i 0 + shift A)
      (right_cut_member (shift A) A.points A.bandwidths (length A.points) k l)
    where
      moved : Dec (get_or A.samples i 0 ≤ get_or A.points k 0 + get_or A.bandwidths k 0)
          → leb (get_or A.samples i 0) (get_or A.points k 0 + get_or A.bandwidths k 0)
          ≡ ltb (get_or A.samples i 0 + shift A) (right_cut (shift A) (get_or A.points k 0) (get_or A.bandwidths k 0))
      moved (yes d) =
          le-leb _ _ d
          ∙ sym (lt-ltb (get_or A.samples i 0 + shift A) (right_cut (shift A) (get_or A.points k 0) (get_or A.bandwidths k 0)) (omega arith))
      moved (no d) =
          lt-leb (get_or A.samples i 0) (get_or A.points k 0 + get_or A.bandwidths k 0) (omega arith)
          ∙ sym (le-ltb (get_or A.samples i 0 + shift A) (right_cut (shift A) (get_or A.points k 0) (get_or A.bandwidths k 0)) (omega arith))

  pub left_edge_by_strips : below_left_edge A k i ≡ ltb (strip_of A i) (first_strip A k)
  unfolding first_strip cuts
  left_edge_by_strips =
      moved (dec_lt (get_or A.samples i 0 + get_or A.bandwidths k 0) (get_or A.points k 0))
      ∙ cut_above (cuts_to (shift A) A.points A.bandwidths (length A.points))
      (left_cut (shift A) (get_or A.points k 0) (get_or A.bandwidths k 0))
      (get_or A.samples i 0 + shift A)
      (left_cut_member (shift A) A.points A.bandwidths (length A.points) k l)
    where
      moved : Dec (get_or A.samples i 0 + get_or A.bandwidths k 0 < get_or A.points k 0)
          → ltb (get_or A.samples i 0 + get_or A.bandwidths k 0) (get_or A.points k 0)
          ≡ ltb (get_or A.samples i 0 + shift A) (left_cut (shift A) (get_or A.points k 0) (get_or A.bandwidths k 0))
      moved (yes d) =
          lt-ltb _ _ d
          ∙ sym (lt-ltb (get_or A.samples i 0 + shift A) (left_cut (shift A) (get_or A.points k 0) (get_or A.bandwidths k 0)) (omega arith))
      moved (no d) =
          le-ltb (get_or A.samples i 0 + get_or A.bandwidths k 0) (get_or A.points k 0) (omega arith)
          ∙ sym (le-ltb (get_or A.samples i 0 + shift A) (left_cut (shift A) (get_or A.points k 0) (get_or A.bandwidths k 0)) (omega arith))

-- the cells of the first m minute strips and the first k temperature strips
abbrev pub corner : Axis → Axis → (ℕ → ℕ) → ℕ → ℕ → ℕ → ℕ
corner A B w n m k = block A B w n 0 m 0 k

pub corner_by_readings : (A B : Axis) (w : ℕ → ℕ) (n m k : ℕ) → length B.points ≤ 32 → k ≤ strips
    → gathered (λ i. ltb (strip_of A i) m && ltb (strip_of B i) k) w n ≡ corner A B w n m k
corner_by_readings A B w n m k l r =
    gathered_ext _ _ w n (λ i u. rw (from_zero m (strip_of A i), from_zero k (strip_of B i)) refl)
    ∙ sym (block_by_readings A B w n 0 m 0 k l (omega arith))
  where
    from_zero : (m x : ℕ) → among 0 m x ≡ ltb x m
    from_zero m x = rw (le-leb 0 x zero-le, zero-add m) refl

-- The four sums of (18), each as a corner.
module _ (A B : Axis) (p : Narrow A) (q : Narrow B) (w : ℕ → ℕ) (n j k : ℕ) (l : j < length A.points) (m : k < length B.points) where
  few_strips : end_strip B k ≤ strips
  few_strips = let e = end_strip_most B k in omega (arith, q.few)

  pub right_right_corner : gathered (λ i. to_right_edge A j i && to_right_edge B k i) w n ≡ corner A B w n (end_strip A j) (end_strip B k)
  right_right_corner =
      gathered_ext _ _ w n (λ i u. rw (right_edge_by_strips A j i l (p.within j l), right_edge_by_strips B k i m (q.within k m)) refl)
      ∙ corner_by_readings A B w n (end_strip A j) (end_strip B k) q.few few_strips

  pub left_right_corner : gathered (λ i. below_left_edge A j i && to_right_edge B k i) w n ≡ corner A B w n (first_strip A j) (end_strip B k)
  left_right_corner =
      gathered_ext _ _ w n (λ i u. rw (left_edge_by_strips A j i l (p.within j l), right_edge_by_strips B k i m (q.within k m)) refl)
      ∙ corner_by_readings A B w n (first_strip A j) (end_strip B k) q.few few_strips

  pub right_left_corner : gathered (λ i. to_right_edge A j i && below_left_edge B k i) w n ≡ corner A B w n (end_strip A j) (first_strip B k)
  right_left_corner =
      let o = window_strips_in_order B k in
      gathered_ext _ _ w n (λ i u. rw (right_edge_by_strips A j i l (p.within j l), left_edge_by_strips B k i m (q.within k m)) refl)
      ∙ corner_by_readings A B w n (end_strip A j) (first_strip B k) q.few (omega (arith, few_strips))

  pub left_left_corner : gathered (λ i. below_left_edge A j i && below_left_edge B k i) w n ≡ corner A B w n (first_strip A j) (first_strip B k)
  left_left_corner =
      let o = window_strips_in_order B k in
      gathered_ext _ _ w n (λ i u. rw (left_edge_by_strips A j i l (p.within j l), left_edge_by_strips B k i m (q.within k m)) refl)
      ∙ corner_by_readings A B w n (first_strip A j) (first_strip B k) q.few (omega (arith, few_strips))

  -- a box is the signed sum of four corners
  pub box_by_corners :
      box A B w n j k + corner A B w n (first_strip A j) (end_strip B k) + corner A B w n (end_strip A j) (first_strip B k)
      ≡ corner A B w n (end_strip A j) (end_strip B k) + corner A B w n (first_strip A j) (first_strip B k)
  box_by_corners =
      rw (← right_right_corner, ← left_right_corner, ← right_left_corner, ← left_left_corner) (box_by_four_sums A B w n j k)

-- The lists of cells.
pub cell_list_length : (A B : Axis) (w : ℕ → ℕ) (n : ℕ) → length (cell_list A B w n) ≡ cells
unfolding cell_list
cell_list_length A B w n = listed_length (cell A B w n) 0 cells

pub cell_list_at : (A B : Axis) (w : ℕ → ℕ) (n c : ℕ) → c < cells → get_or (cell_list A B w n) c 0 ≡ cell A B w n c
unfolding cell_list
cell_list_at A B w n c l = listed_at (cell A B w n) 0 cells c l ∙ ap (cell A B w n) (zero-add c)

-- their numbers add up to those of all readings
pub cell_list_adds_up : (A B : Axis) → length A.points ≤ 32 → length B.points ≤ 32 → (w : ℕ → ℕ) (n m : ℕ) → m ≡ cells
    → total (λ c. get_or (cell_list A B w n) c 0) 0 m ≡ total w 0 n
cell_list_adds_up A B p q w n m e =
    total_ext _ (cell A B w n) 0 m (λ c u o. cell_list_at A B w n c (omega arith)) ∙ cells_hold_all A B p q w n m e

pub counts_add_up : (A B : Axis) → length A.points ≤ 32 → length B.points ≤ 32 → (n m : ℕ) → m ≡ cells
    → total (λ c. get_or (cell_list A B one n) c 0) 0 m ≡ n
counts_add_up A B p q n m e = cell_list_adds_up A B p q one n m e ∙ total_ones 0 n

pub sums_add_up : (A B : Axis) → length A.points ≤ 32 → length B.points ≤ 32 → (vs : List ℕ) (n m : ℕ) → m ≡ cells
    → total (λ c. get_or (cell_list A B (value vs) n) c 0) 0 m ≡ total (value vs) 0 n
sums_add_up A B p q vs n m e = cell_list_adds_up A B p q (value vs) n m e

-- Boxes by cells: a mark's window is a run of strips, so a box is the block of cells of its two runs, and by equation (18) of the source the
-- signed sum of four corners. All cells together hold all readings, and no cell more than 32 bits.
use Prim.Native.Nat.{ℕ, zero, suc, ◌+◌, ◌-◌, ◌*◌, ◌≤◌, ◌<◌}
use mathlib.Core.Path.{◌≡◌, refl, sym, ◌∙◌}
use mathlib.Core.Bool.{Bool, true, false, ◌&&◌}
use mathlib.Core.List.{List}
use native.Mathlib.Decide.{dec_lt, dec_le}
use native.Mathlib.Omega.{arith}
use borrow.Author.Tests.{lt-ltb, le-ltb, le-leb, lt-leb}
use lib.Dec.{ltb, leb, eqb}
use lib.ListN.{length, get_or}
use Rattle.meanings.specs.Lists.{pick, total, distance}
use Rattle.meanings.specs.boxes.Boxes.{Axis, shift, strip_of, inside, gathered, one, value}
use Rattle.meanings.specs.boxes.Boxes.{strips, cells, cell_of, cell, box}
use Rattle.laws.specs.boxes.Windows.{first_strip, end_strip, to_right_edge, below_left_edge, Narrow}
use Rattle.laws.proofs.boxes.Strips.{inside_by_strips, window_strips_in_order, end_strip_most, axis_strip_most}
use Rattle.laws.proofs.boxes.Sums.{among, gathered_ext, gathered_more, gathered_none, gathered_most, block_gathered, all_gathered}
use Rattle.laws.proofs.boxes.Sums.{pair_by_one_number}

-- the cells of m minute strips from a on and k temperature strips from b on, added up
unfoldable pub block : Axis → Axis → (ℕ → ℕ) → ℕ → ℕ → ℕ → ℕ → ℕ → ℕ
block A B w n a m b k = total (λ x. total (λ y. cell A B w n (strips * x + y)) b k) a m

-- a reading's strip is at most 64
pub strip_at_most : (A : Axis) → length A.points ≤ 32 → (i : ℕ) → strip_of A i ≤ 64
strip_at_most A l i = let m = axis_strip_most A (get_or A.samples i 0 + shift A) in omega arith

-- so its cell is one of the 4,225, and tells both its strips
pub cell_at_most : (A B : Axis) → length A.points ≤ 32 → length B.points ≤ 32 → (i : ℕ) → cell_of A B i < cells
cell_at_most A B l m i = let p = strip_at_most A l i in let q = strip_at_most B m i in omega arith

pub cell_tells_strips : (A B : Axis) → length B.points ≤ 32 → (i x y : ℕ) → y < strips
    → eqb (cell_of A B i) (strips * x + y) ≡ eqb (strip_of A i) x && eqb (strip_of B i) y
cell_tells_strips A B m i x y l = let q = strip_at_most B m i in pair_by_one_number strips (strip_of A i) (strip_of B i) x y (omega arith) l

-- a block of cells, by readings
pub block_by_readings : (A B : Axis) (w : ℕ → ℕ) (n a m b k : ℕ) → length B.points ≤ 32 → b + k ≤ strips
    → block A B w n a m b k ≡ gathered (λ i. among a m (strip_of A i) && among b k (strip_of B i)) w n
unfolding block cell
block_by_readings A B w n a m b k l r =
    block_gathered strips (strip_of A) (strip_of B) w a m b k r n (λ i u. let q = strip_at_most B l i in omega arith)

-- a box is the sum of its cells
pub box_of_cells : (A B : Axis) → Narrow A → Narrow B → (w : ℕ → ℕ) (n j k : ℕ) → j < length A.points → k < length B.points
    → box A B w n j k
    ≡ block A B w n (first_strip A j) (end_strip A j - first_strip A j) (first_strip B k) (end_strip B k - first_strip B k)
unfolding box
box_of_cells A B p q w n j k l m =
    let oj = window_strips_in_order A j in
    let ok = window_strips_in_order B k in
    let ek = end_strip_most B k in
    let sj : first_strip A j + (end_strip A j - first_strip A j) ≡ end_strip A j = omega arith in
    let sk : first_strip B k + (end_strip B k - first_strip B k) ≡ end_strip B k = omega arith in
    gathered_ext _ _ w n (λ i u. rw (sj, sk, inside_by_strips A j i l (p.within j l), inside_by_strips B k i m (q.within k m)) refl)
    ∙ sym (block_by_readings A B w n (first_strip A j) (end_strip A j - first_strip A j) (first_strip B k) (end_strip B k - first_strip B k)
    q.few (omega (arith, q.few)))

-- Equation (18): the four sums of the source over all readings.
-- one direction: inside is up to the right edge and not below the left one
data Side (inner right left : Bool) : Type 0 where
  before : inner ≡ false → right ≡ true → left ≡ true → Side inner right left
  within : inner ≡ true → right ≡ true → left ≡ false → Side inner right left
  behind : inner ≡ false → right ≡ false → left ≡ false → Side inner right left

side : (A : Axis) (k i : ℕ) → Side (inside A k i) (to_right_edge A k i) (below_left_edge A k i)
unfolding distance
side A k i = by (dec_le x (z + h)) (dec_lt (x + h) z)
  where
    x : ℕ
    x = get_or A.samples i 0

    z : ℕ
    z = get_or A.points k 0

    h : ℕ
    h = get_or A.bandwidths k 0

    by : Dec (x ≤ z + h) → Dec (x + h < z) → Side (leb ((x - z) + (z - x)) h) (leb x (z + h)) (ltb (x + h) z)
    by (yes r) (yes l) = before (lt-leb _ h (omega arith)) (le-leb x (z + h) r) (lt-ltb (x + h) z l)
    by (yes r) (no l) = within (le-leb _ h (omega arith)) (le-leb x (z + h) r) (le-ltb (x + h) z (omega arith))
    by (no r) d = behind (lt-leb _ h (omega arith)) (lt-leb x (z + h) (omega arith)) (le-ltb (x + h) z (omega arith))

pub box_by_four_sums : (A B : Axis) (w : ℕ → ℕ) (n j k : ℕ)
    → box A B w n j k
    + gathered (λ i. below_left_edge A j i && to_right_edge B k i) w n
    + gathered (λ i. to_right_edge A j i && below_left_edge B k i) w n
    ≡ gathered (λ i. to_right_edge A j i && to_right_edge B k i) w n
    + gathered (λ i. below_left_edge A j i && below_left_edge B k i) w n
unfolding box
box_by_four_sums A B w zero j k = rw (gathered_none, gathered_none, gathered_none, gathered_none, gathered_none) refl
box_by_four_sums A B w (suc n) j k =
    let t = one_reading (inside A j n) (to_right_edge A j n) (below_left_edge A j n) (inside B k n) (to_right_edge B k n) (below_left_edge B k n)
    (w n) (side A j n) (side B k n) in
    rw (
      gathered_more (λ i. inside A j i && inside B k i) w n,
      gathered_more (λ i. below_left_edge A j i && to_right_edge B k i) w n,
      gathered_more (λ i. to_right_edge A j i && below_left_edge B k i) w n,
      gathered_more (λ i. to_right_edge A j i && to_right_edge B k i) w n,
      gathered_more (λ i. below_left_edge A j i && below_left_edge B k i) w n,
    )
    (omega (arith, t, box_by_four_sums A B w n j k))
  where
    one_reading : (c r l d s m : Bool) (v : ℕ) → Side c r l → Side d s m
        → pick (c && d) v 0 + pick (l && s) v 0 + pick (r && m) v 0 ≡ pick (r && s) v 0 + pick (l && m) v 0
    one_reading c r l d s m v (before a b e) q = rw (a, b, e) (omega arith)
    one_reading c r l d s m v (within a b e) (before f g h) = rw (a, b, e, f, g, h) (omega arith)
    one_reading c r l d s m v (within a b e) (within f g h) = rw (a, b, e, f, g, h) (omega arith)
    one_reading c r l d s m v (within a b e) (behind f g h) = rw (a, b, e, f, g, h) (omega arith)
    one_reading c r l d s m v (behind a b e) q = rw (a, b, e) (omega arith)

-- All cells.
pub cells_hold_all : (A B : Axis) → length A.points ≤ 32 → length B.points ≤ 32 → (w : ℕ → ℕ) (n m : ℕ) → m ≡ cells
    → total (cell A B w n) 0 m ≡ total w 0 n
unfolding cell
cells_hold_all A B p q w n m e = all_gathered (cell_of A B) w m n (λ i l. rw e (cell_at_most A B p q i))

-- a cell's count is at most the number of readings; its sum fits 32 bits
pub cell_count_most : (A B : Axis) (n c : ℕ) → n ≤ 1024 → cell A B one n c ≤ 1024
unfolding cell
cell_count_most A B n c l = let h = gathered_most (λ i. eqb (cell_of A B i) c) one 1 n (λ i u. omega arith) in omega arith

pub cell_sum_most : (A B : Axis) (vs : List ℕ) (n c : ℕ) → n ≤ 1024 → ((i : ℕ) → i < n → get_or vs i 0 ≤ 65535)
    → cell A B (value vs) n c ≤ 67107840
unfolding cell
cell_sum_most A B vs n c l f = let h = gathered_most (λ i. eqb (cell_of A B i) c) (value vs) 65535 n f in omega arith

-- What an accepted call leaves: the laws of the meaning, read at the places of the lists.
use Prim.Native.Nat.{ℕ, zero, suc, ◌+◌, ◌-◌, ◌*◌, ◌≤◌, ◌<◌}
use mathlib.Core.Path.{◌≡◌, refl, sym, ap, ◌∙◌}
use mathlib.Core.Bool.{Bool, true, false, true≢false, ◌||◌, ◌&&◌, and-eq-true_iff}
use mathlib.Core.Logic.{◌↔◌, ◌⊎◌, inl, inr}
use mathlib.Core.List.{List}
use native.Mathlib.Omega.{arith}
use borrow.Author.Tests.{lt-ltb, ltb-true, le-leb, leb-true, eqb-true, eq-eqb, ne_eqb}
use lib.Dec.{ltb, leb, eqb}
use lib.ListN.{length, get_or}
use Rattle.meanings.specs.Limits.{max_u16}
use Rattle.meanings.specs.Lists.{AtMost, pick}
use Rattle.meanings.proofs.Totals.{total_ext, total_zero}
use Rattle.meanings.proofs.Sorting.{sorted_length}
use Rattle.meanings.specs.boxes.Boxes.{Axis, shift, left_cut, right_cut, cuts_to, cuts, member, distinct, strip, strip_of, inside, gathered, one, value}
use Rattle.meanings.specs.boxes.Boxes.{strips, cell_of, cell, cell_list, box, box_list}
use Rattle.laws.specs.boxes.Published.{rising_cuts, grid_size, grid_point, place}
use Rattle.laws.specs.boxes.Windows.{first_strip, end_strip, Narrow}
use Rattle.laws.proofs.boxes.Strips.{distinct_length, cuts_length, left_cut_member, right_cut_member, strips_stay}
use Rattle.laws.proofs.boxes.Strips.{inside_by_strips, window_strips_in_order, end_strip_most}
use Rattle.laws.proofs.boxes.Sums.{gathered_ext}
use Rattle.laws.proofs.boxes.Cells.{block, strip_at_most, cell_at_most, cell_tells_strips}
use Rattle.laws.proofs.boxes.Cells.{cell_count_most, cell_sum_most}
use Rattle.laws.proofs.boxes.Cells as by_cells
use Rattle.laws.proofs.boxes.Corners.{right_right_corner, left_right_corner, right_left_corner, left_left_corner, cell_list_length, cell_list_at}
use Rattle.laws.proofs.boxes.Corners.{cell_list_adds_up, counts_add_up, sums_add_up}
use Rattle.laws.proofs.boxes.Published.{strip_to_rising, rising_positive, grid_rises, rising_is_cut, cut_is_rising, narrow_cuts}
use Rattle.laws.proofs.boxes.Published.{local_sum_is_cell, uniform_density_is_box}
use Rattle.promises.specs.boxes.Filled.{TenLists, along_minutes, along_temperatures, readings, block_of, Weighed, OneDirection, FilledIn, IsCut}
use Rattle.promises.proofs.boxes.Positions.{box_list_length, count_stands, sum_stands}
use Rattle.promises.proofs.boxes.Accepted.{BoxesTaken}

-- ---- cuts
edge_of : (s : ℕ) (zs hs : List ℕ) (n c : ℕ) → member c (cuts_to s zs hs n) ≡ true
    → (k : ℕ)
    × ((k < n) × ((c ≡ left_cut s (get_or zs k 0) (get_or hs k 0)) ⊎ (c ≡ right_cut s (get_or zs k 0) (get_or hs k 0))))
edge_of s zs hs zero c m = absurd (true≢false (sym m))
edge_of s zs hs (suc n) c m =
    by (eqb c (left_cut s (get_or zs n 0) (get_or hs n 0))) refl (eqb c (right_cut s (get_or zs n 0) (get_or hs n 0))) refl m (edge_of s zs hs n c)
  where
    by : (a : Bool) → eqb c (left_cut s (get_or zs n 0) (get_or hs n 0)) ≡ a → (b : Bool) → eqb c (right_cut s (get_or zs n 0) (get_or hs n 0)) ≡ b
        → a || (b || member c (cuts_to s zs hs n)) ≡ true
        → (member c (cuts_to s zs hs n) ≡ true
        → (k : ℕ)
        × ((k < n) × ((c ≡ left_cut s (get_or zs k 0) (get_or hs k 0)) ⊎ (c ≡ right_cut s (get_or zs k 0) (get_or hs k 0)))))
        → (k : ℕ)
        × ((k < suc n) × ((c ≡ left_cut s (get_or zs k 0) (get_or hs k 0)) ⊎ (c ≡ right_cut s (get_or zs k 0) (get_or hs k 0))))
    by true e b f g rest = (n, (omega arith, inl (eqb-true c _ e)))
    by false e true f g rest = (n, (omega arith, inr (eqb-true c _ f)))
    by false e false f g rest = let r = rest g in (r.0, (let l = r.1.0 in omega arith, r.1.1))

pub cuts_are_edges : (A : Axis) (c : ℕ) → (member c (cuts A) ≡ true) ↔ IsCut A c
unfolding cuts
cuts_are_edges A c = (edge_of (shift A) A.points A.bandwidths (length A.points) c, λ k. is_member k.0 k.1.0 k.1.1)
  where
    is_member : (k : ℕ) → k < length A.points
        → (c ≡ left_cut (shift A) (get_or A.points k 0) (get_or A.bandwidths k 0))
        ⊎ (c ≡ right_cut (shift A) (get_or A.points k 0) (get_or A.bandwidths k 0))
        → member c (cuts_to (shift A) A.points A.bandwidths (length A.points)) ≡ true
    is_member k l (inl e) = rw e (left_cut_member (shift A) A.points A.bandwidths (length A.points) k l)
    is_member k l (inr e) = rw e (right_cut_member (shift A) A.points A.bandwidths (length A.points) k l)

-- ---- one direction
module _ (A : Axis) (p : Narrow A) where
  grid_small : grid_size A ≤ 64
  unfolding rising_cuts cuts
  grid_small =
      let s = sorted_length (distinct (cuts_to (shift A) A.points A.bandwidths (length A.points))) in
      let d = distinct_length (cuts_to (shift A) A.points A.bandwidths (length A.points)) in
      let l = cuts_length (shift A) A.points A.bandwidths (length A.points) in
      omega (arith, s, d, l, p.few)

  stay : (d i : ℕ)
      → strip (cuts_to (shift A + d) A.points A.bandwidths (length A.points)) (get_or A.samples i 0 + (shift A + d)) ≡ strip_of A i
  unfolding cuts
  stay d i =
      strips_stay (shift A) d A.points A.bandwidths (length A.points) (get_or A.samples i 0) (λ k l. let h = p.within k l in omega arith)

  window_strips : (k i : ℕ) → k < length A.points
      → (inside A k i ≡ true) ↔ ((first_strip A k ≤ strip_of A i) × (strip_of A i < end_strip A k))
  window_strips k i l =
      let e = inside_by_strips A k i l (p.within k l) in (
        λ t.
            let b = (and-eq-true_iff (leb (first_strip A k) (strip_of A i)) (ltb (strip_of A i) (end_strip A k))).0 (sym e ∙ t) in
            (leb-true _ _ b.0, ltb-true _ _ b.1),
        λ b. e ∙ (rw (le-leb _ _ b.0, lt-ltb _ _ b.1) refl),
      )

  -- a point of the grid plus 1 is the cut that it stands for
  point_by_cut : (a : ℕ) → a < grid_size A → grid_point A (suc a) + 1 ≡ get_or (rising_cuts (cuts A)) a 0
  point_by_cut a l = let z = rising_positive (cuts A) a l (narrow_cuts A p) in omega arith

  on_grid : (c : ℕ) → member c (cuts A) ≡ true → (a : ℕ) × ((a < grid_size A) × (grid_point A (suc a) + 1 ≡ c))
  on_grid c m = let r = cut_is_rising (cuts A) c (narrow_cuts A p) m in (r.0, (r.1.0, point_by_cut r.0 r.1.0 ∙ r.1.1))

  one_direction : OneDirection A
  one_direction = record {
    grid_small = grid_small;
    no_cut_zero = narrow_cuts A p;
    grid_rises = λ a l.
        let r = grid_rises (cuts A) a (narrow_cuts A p) l in
        let z = rising_positive (cuts A) a (omega arith) (narrow_cuts A p) in
        omega arith;
    grid_is_cuts = λ a l. rw (point_by_cut a l) (rising_is_cut (cuts A) a l (narrow_cuts A p));
    cuts_on_grid = on_grid;
    strip_small = strip_at_most A p.few;
    strips_stay = stay;
    window_strips = window_strips;
  }

-- ---- boxes and cells of one kind of number
gathered_nothing : (test : ℕ → Bool) (w : ℕ → ℕ) (n : ℕ) → ((i : ℕ) → i < n → test i ≡ false) → gathered test w n ≡ 0
unfolding gathered
gathered_nothing test w n f = total_zero _ 0 n (λ i u o. ap (λ b. pick b (w i) 0) (f i (omega arith)))

module _ (A B : Axis) (vs : List ℕ) {b c s : ℕ} (a : BoxesTaken A B vs b c s) (w : ℕ → ℕ) (n : ℕ) (at : ℕ → ℕ → ℕ) (bs : List ℕ)
    (stands : (j k : ℕ) → j < length A.points → k < length B.points → get_or bs (at j k) 0 ≡ box A B w n j k) where
  box_is : (j k : ℕ) → box A B w n j k ≡ gathered (λ i. inside A j i && inside B k i) w n
  unfolding box
  box_is j k = refl

  cell_by_strips : (p q : ℕ) → q ≤ 64 → cell A B w n (strips * p + q) ≡ gathered (λ i. eqb (strip_of A i) p && eqb (strip_of B i) q) w n
  unfolding cell
  cell_by_strips p q l = gathered_ext _ _ w n (λ i u. cell_tells_strips A B a.checked.narrow_other.few i p q (omega arith))

  cell_stands : (p q : ℕ) → p ≤ 64 → q ≤ 64 → get_or (cell_list A B w n) (65 * p + q) 0 ≡ cell A B w n (strips * p + q)
  cell_stands p q l m = cell_list_at A B w n (65 * p + q) (omega arith)

  block_is : (x m y k : ℕ) → x + m ≤ 65 → y + k ≤ 65 → block_of (cell_list A B w n) x m y k ≡ block A B w n x m y k
  unfolding block
  block_is x m y k r s = total_ext _ _ x m (λ p u o. total_ext _ _ y k (λ q t z. cell_stands p q (omega arith) (omega arith)))

  -- no strip is above the grid
  off : (p q : ℕ) → q ≤ 64 → (grid_size A < p) ⊎ (grid_size B < q) → cell A B w n (strips * p + q) ≡ 0
  off p q l o = cell_by_strips p q l ∙ gathered_nothing _ w n (λ i u. apart i o)
    where
      second_false : (b c : Bool) → c ≡ false → b && c ≡ false
      second_false true c e = e
      second_false false c e = refl

      apart : (i : ℕ) → (grid_size A < p) ⊎ (grid_size B < q) → eqb (strip_of A i) p && eqb (strip_of B i) q ≡ false
      apart i (inl g) = let s = strip_to_rising (cuts A) (place A i) in rw (ne_eqb (strip_of A i) p (λ e. omega arith)) refl
      apart i (inr g) =
          let s = strip_to_rising (cuts B) (place B i) in
          second_false (eqb (strip_of A i) p) (eqb (strip_of B i) q) (ne_eqb (strip_of B i) q (λ e. omega arith))

  module _ (j k : ℕ) (l : j < length A.points) (m : k < length B.points) where
    ends : (end_strip A j ≤ 64) × (first_strip A j ≤ end_strip A j) × (end_strip B k ≤ 64) × (first_strip B k ≤ end_strip B k)
    ends =
        let x = end_strip_most A j in
        let y = end_strip_most B k in
        (omega (arith, a.checked.narrow.few), window_strips_in_order A j, omega (arith, a.checked.narrow_other.few), window_strips_in_order B k)

    box_by_block : get_or bs (at j k) 0
        ≡ block_of (cell_list A B w n) (first_strip A j) (end_strip A j - first_strip A j) (first_strip B k) (end_strip B k - first_strip B k)
    box_by_block =
        stands j k l m
        ∙ by_cells.box_of_cells A B a.checked.narrow a.checked.narrow_other w n j k l m
        ∙ sym (block_is (first_strip A j) (end_strip A j - first_strip A j) (first_strip B k) (end_strip B k - first_strip B k)
        (omega (arith, ends.0, ends.1)) (omega (arith, ends.2, ends.3)))

    corner_is : (x y : ℕ) → x ≤ 64 → y ≤ 64 → block A B w n 0 x 0 y ≡ block_of (cell_list A B w n) 0 x 0 y
    corner_is x y r s = sym (block_is 0 x 0 y (omega arith) (omega arith))

  weighed : Weighed A B w n at bs (cell_list A B w n)
  weighed = record {
    box_direct = λ j k l m. stands j k l m ∙ box_is j k;
    cell_direct = λ p q l m. cell_stands p q l m ∙ cell_by_strips p q m;
    box_of_cells = box_by_block;
    box_by_four_sums = λ j k l m. rw (stands j k l m) (by_cells.box_by_four_sums A B w n j k);
    right_right = λ j k l m.
        let e = ends j k l m in
        right_right_corner A B a.checked.narrow a.checked.narrow_other w n j k l m ∙ corner_is j k l m (end_strip A j) (end_strip B k) e.0 e.2;
    left_right = λ j k l m.
        let e = ends j k l m in
        left_right_corner A B a.checked.narrow a.checked.narrow_other w n j k l m
        ∙ corner_is j k l m (first_strip A j) (end_strip B k) (omega (arith, e.0, e.1)) e.2;
    right_left = λ j k l m.
        let e = ends j k l m in
        right_left_corner A B a.checked.narrow a.checked.narrow_other w n j k l m
        ∙ corner_is j k l m (end_strip A j) (first_strip B k) e.0 (omega (arith, e.2, e.3));
    left_left = λ j k l m.
        let e = ends j k l m in
        left_left_corner A B a.checked.narrow a.checked.narrow_other w n j k l m
        ∙ corner_is j k l m (first_strip A j) (first_strip B k) (omega (arith, e.0, e.1)) (omega (arith, e.2, e.3));
    local_sums = λ x y l m.
        let g = grid_small A a.checked.narrow in
        let h = grid_small B a.checked.narrow_other in
        local_sum_is_cell A B a.checked.narrow a.checked.narrow_other w n x y l m (omega arith) ∙ sym (cell_stands x y (omega arith) (omega arith));
    off_grid = λ x y l m o. cell_stands x y l m ∙ off x y m o;
    uniform = λ j k l m z. rw (stands j k l m) (uniform_density_is_box A B w n j k z (a.positive j l) (a.positive_other k m));
    adds_up = λ m e. cell_list_adds_up A B a.checked.narrow.few a.checked.narrow_other.few w n m e;
  }

-- ---- the three lists
module _ (q : TenLists) (small : AtMost max_u16 q.values) {b c s : ℕ}
    (a : BoxesTaken (along_minutes q) (along_temperatures q) q.values b c s) where
  abbrev A : Axis
  A = along_minutes q

  abbrev B : Axis
  B = along_temperatures q

  abbrev n : ℕ
  n = readings q

  cell_tells : (i p r : ℕ) → r ≤ 64 → (cell_of A B i ≡ 65 * p + r) ↔ ((strip_of A i ≡ p) × (strip_of B i ≡ r))
  cell_tells i p r l =
      let e = cell_tells_strips A B a.checked.narrow_other.few i p r (omega arith) in (
        λ h.
            let b = (and-eq-true_iff (eqb (strip_of A i) p) (eqb (strip_of B i) r)).0 (sym e ∙ eq-eqb _ _ h) in
            (eqb-true _ _ b.0, eqb-true _ _ b.1),
        λ h. ap (λ (x : ℕ). 65 * x + strip_of B i) h.0 ∙ ap (λ (y : ℕ). 65 * p + y) h.1,
      )

  pub filled : FilledIn q (box_list A B q.values n) (cell_list A B one n) (cell_list A B (value q.values) n)
  filled = record {
    boxes_are = refl;
    counts_are = refl;
    sums_are = refl;
    boxes_length = box_list_length A B q.values n;
    counts_length = cell_list_length A B one n;
    sums_length = cell_list_length A B (value q.values) n;
    minute_direction = one_direction A a.checked.narrow;
    temperature_direction = one_direction B a.checked.narrow_other;
    counted = weighed A B q.values a one n _ (box_list A B q.values n) (count_stands A B q.values n);
    summed = weighed A B q.values a (value q.values) n _ (box_list A B q.values n) (sum_stands A B q.values n);
    one_cell = cell_at_most A B a.checked.narrow.few a.checked.narrow_other.few;
    cell_tells = cell_tells;
    counts_add_up = counts_add_up A B a.checked.narrow.few a.checked.narrow_other.few n;
    sums_add_up = sums_add_up A B a.checked.narrow.few a.checked.narrow_other.few q.values n;
    counts_small = λ c l. rw (cell_list_at A B one n c l) (cell_count_most A B n c a.checked.few);
    sums_small = λ c l.
        rw (cell_list_at A B (value q.values) n c l)
        (cell_sum_most A B q.values n c a.checked.few (λ i u. small i (let e = a.checked.even_values in omega arith)));
  }

-- A number of the table over a list of cells is the sum of all cells below one strip of each direction, so a box is four numbers of the table.
use Prim.Native.Nat.{ℕ, ◌+◌, ◌*◌, ◌≤◌, ◌<◌}
use mathlib.Core.Path.{◌≡◌, ◌∙◌}
use mathlib.Core.List.{List}
use native.Mathlib.Omega.{arith}
use lib.ListN.{length, get_or}
use Rattle.meanings.proofs.Totals.{total_ext}
use Rattle.meanings.specs.boxes.Boxes.{Axis, cell_list, box}
use Rattle.laws.specs.boxes.Windows.{first_strip, end_strip, Narrow}
use Rattle.laws.proofs.boxes.Strips.{end_strip_most, window_strips_in_order}
use Rattle.laws.proofs.boxes.Sums.{gathered_most}
use Rattle.laws.proofs.boxes.Cells.{block}
use Rattle.laws.proofs.boxes.Corners.{corner, corner_by_readings, box_by_corners, cell_list_at}
use Rattle.boxes.specs.Tables.{row_sum, cumulative, Accumulated}

-- the first y cells of each of the first x minute strips
pub cumulative_is_corner : (A B : Axis) (w : ℕ → ℕ) (n x y : ℕ) → x ≤ 65 → y ≤ 65 → cumulative (cell_list A B w n) x y ≡ corner A B w n x y
unfolding cumulative row_sum block
cumulative_is_corner A B w n x y l m =
    total_ext _ _ 0 x (λ a u o. total_ext _ _ 0 y (λ b s t. cell_list_at A B w n (65 * a + b) (omega arith)))

module _ (A B : Axis) (w : ℕ → ℕ) (n : ℕ) {ts : List ℕ} (T : Accumulated (cell_list A B w n) ts) where
  pub table_holds_corner : (x y : ℕ) → x ≤ 65 → y ≤ 65 → get_or ts (66 * x + y) 0 ≡ corner A B w n x y
  table_holds_corner x y l m = T.holds x y l m ∙ cumulative_is_corner A B w n x y l m

  module _ (p : Narrow A) (q : Narrow B) where
    -- four numbers of the table make a box
    pub box_by_table : (j k : ℕ) → j < length A.points → k < length B.points
        → box A B w n j k + get_or ts (66 * first_strip A j + end_strip B k) 0 + get_or ts (66 * end_strip A j + first_strip B k) 0
        ≡ get_or ts (66 * end_strip A j + end_strip B k) 0 + get_or ts (66 * first_strip A j + first_strip B k) 0
    box_by_table j k l m =
        let ej = end_strip_most A j in
        let ek = end_strip_most B k in
        let oj = window_strips_in_order A j in
        let ok = window_strips_in_order B k in
        let fj : first_strip A j ≤ 65 = omega (arith, p.few) in
        let fk : first_strip B k ≤ 65 = omega (arith, q.few) in
        let gj : end_strip A j ≤ 65 = omega (arith, p.few) in
        let gk : end_strip B k ≤ 65 = omega (arith, q.few) in
        rw (
          table_holds_corner (first_strip A j) (end_strip B k) fj gk,
          table_holds_corner (end_strip A j) (first_strip B k) gj fk,
          table_holds_corner (end_strip A j) (end_strip B k) gj gk,
          table_holds_corner (first_strip A j) (first_strip B k) fj fk,
        ) (box_by_corners A B p q w n j k l m)

    -- none is more than all readings weigh
    pub table_most : (v x y : ℕ) → ((i : ℕ) → i < n → w i ≤ v) → x ≤ 65 → y ≤ 65 → get_or ts (66 * x + y) 0 ≤ n * v
    table_most v x y f l m =
        rw (table_holds_corner x y l m, ← (corner_by_readings A B w n x y q.few m)) (gathered_most _ w v n f)

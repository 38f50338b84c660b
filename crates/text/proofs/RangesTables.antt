-- The text from lists is that of the meanings: the seven numbers of mark k in the rows of a sweep are the row of that mark.
use Prim.Native.Nat.{ℕ, zero, suc, ◌+◌, ◌*◌, ◌≤◌, ◌<◌}
use mathlib.Core.Path.{◌≡◌, refl, sym, ap, ◌∙◌}
use mathlib.Core.List.{List, ◌++◌}
use Rattle.std.specs.Prelude.{Option, Some}
use native.Mathlib.Omega.{arith}
use lib.ListN.{length, get_or, drop}
use lib.Seq.{get_or-take, get_or-drop}
use Rattle.meanings.specs.Moves.{moves}
use Rattle.meanings.specs.Running.{fresh, passes}
use Rattle.meanings.specs.declared.ranges.RangeEstimate.{RangeEstimate}
use Rattle.meanings.specs.ranges.Ranges.{range_row_width, range_estimate, range_fields, range_rows}
use Rattle.meanings.specs.ranges.RangeOutput.{range_curve_line, range_curve_lines, range_curve_text}
use Rattle.meanings.proofs.Sweeps.{range_row_at_point}
use Rattle.text.specs.Written.{put_size, put_list}
use Rattle.text.specs.Whole.{whole_text}
use Rattle.text.proofs.RoomLaws.{put_is_stored}
use Rattle.text.proofs.Writing.{rest_of, given_back}
use Rattle.text.proofs.Whole.{LinesTo, next_fits, lines_go_on}
use Rattle.text.specs.RangeTable.{stored_range_row, range_mark_line, range_table_lines, range_table_text, ranges_of}

module _ (ts ls us zs hs : List ℕ) (n k : ℕ) (inside : k < n) where
  number_at : (i : ℕ) → i < range_row_width
      → get_or (range_rows ts ls us zs hs n) (range_row_width * k + i) 0 ≡ get_or (range_fields (range_estimate ts ls us (get_or zs k 0) (get_or hs k 0))) i 0
  number_at i l =
      sym (get_or-drop (range_row_width * k) (range_rows ts ls us zs hs n) i 0)
      ∙ sym (get_or-take range_row_width (drop (range_row_width * k) (range_rows ts ls us zs hs n)) i 0 l)
      ∙ ap (λ (r : List ℕ). get_or r i 0) (range_row_at_point ts ls us zs hs n k inside)

  stored_row_is_estimate : stored_range_row (range_rows ts ls us zs hs n) k ≡ range_estimate ts ls us (get_or zs k 0) (get_or hs k 0)
  stored_row_is_estimate =
      let first : range_row_width * k + 0 ≡ range_row_width * k = omega arith in
      let left = rw first at (number_at 0 (omega arith)) in
      rw (
        left,
        number_at 1 (omega arith),
        number_at 2 (omega arith),
        number_at 3 (omega arith),
        number_at 4 (omega arith),
        number_at 5 (omega arith),
        number_at 6 (omega arith),
      )

table_is_curve : (ts ls us zs hs : List ℕ) (m n : ℕ) → n ≤ m
    → range_table_lines zs hs (range_rows ts ls us zs hs m) n ≡ range_curve_lines (ranges_of ts ls us zs hs) n
table_is_curve ts ls us zs hs m zero l = refl
table_is_curve ts ls us zs hs m (suc n) l =
    ap (λ (t : List ℕ). t ++ range_curve_line (get_or zs n 0) (get_or hs n 0) (stored_range_row (range_rows ts ls us zs hs m) n))
    (table_is_curve ts ls us zs hs m n (omega arith))
    ∙ ap (λ (e : RangeEstimate). range_curve_lines (ranges_of ts ls us zs hs) n ++ range_curve_line (get_or zs n 0) (get_or hs n 0) e)
    (stored_row_is_estimate ts ls us zs hs m n (omega arith))

-- with the rows and the passes of the sweep
pub table_text_is_curve : (ts ls us zs hs : List ℕ)
    → range_table_text zs hs (range_rows ts ls us zs hs (length zs)) (length ts) (passes ts ls fresh (moves zs hs))
    ≡ range_curve_text (ranges_of ts ls us zs hs)
unfolding whole_text range_curve_text
table_text_is_curve ts ls us zs hs = rw (table_is_curve ts ls us zs hs (length zs) (length zs) (omega arith))

-- the lines of the first k marks are stored, with lists as long as they are to be
pub record TableTo (out zs hs rs now : List ℕ) (q k : ℕ) : Type 0 where
  pub even : length hs ≡ length zs
  pub seven : length rs ≡ range_row_width * length zs
  pub lines : LinesTo (range_mark_line zs hs rs) (length zs) out now q k

module _ {out zs hs rs now : List ℕ} {q k : ℕ} (w : TableTo out zs hs rs now q k) (more : k < length zs) where
  -- the next line fits
  pub next_line_fits : length (range_mark_line zs hs rs k) ≤ length (rest_of q now)
  next_line_fits = next_fits w.lines more

  -- and is put
  module _ (e : RangeEstimate) (row : e ≡ stored_range_row rs k) (o : Option ℕ)
      (size : o ≡ put_size (rest_of q now) (range_curve_line (get_or zs k 0) (get_or hs k 0) e)) where
    pub table_goes_on : (r : ℕ) → o ≡ Some r → (next : List ℕ) → next ≡ put_list (rest_of q now) (range_curve_line (get_or zs k 0) (get_or hs k 0) e)
        → TableTo out zs hs rs (given_back q now next) (q + r) (k + 1)
    table_goes_on r some next list =
        let s = put_is_stored (rest_of q now) _ (rw row next_line_fits) o size r some next list in
        record { even = w.even; seven = w.seven; lines = lines_go_on w.lines more (rw row at s) }

-- The text from lists is the curve: the five numbers of mark k in the rows of a sweep are the estimate at that mark.
use Prim.Native.Nat.{ℕ, zero, suc, ◌+◌, ◌*◌, ◌≤◌, ◌<◌}
use mathlib.Core.Path.{◌≡◌, refl, sym, ap, ◌∙◌}
use mathlib.Core.List.{List, ◌++◌}
use Rattle.std.specs.Prelude.{Option, Some}
use native.Mathlib.Omega.{arith}
use lib.ListN.{length, get_or, drop}
use lib.Seq.{get_or-take, get_or-drop}
use Rattle.meanings.specs.declared.Estimate.{Estimate}
use Rattle.meanings.specs.Limits.{row_width}
use Rattle.meanings.specs.Moves.{moves}
use Rattle.meanings.specs.Estimate.{estimate, fields, rows}
use Rattle.meanings.specs.Running.{fresh, passes}
use Rattle.meanings.specs.Output.{curve_line, curve_lines, curve_text}
use Rattle.meanings.proofs.SmoothRows.{row_at_point}
use Rattle.text.specs.Written.{put_size, put_list}
use Rattle.text.specs.Whole.{whole_text}
use Rattle.text.proofs.RoomLaws.{put_is_stored}
use Rattle.text.proofs.Writing.{rest_of, given_back}
use Rattle.text.proofs.Whole.{LinesTo, next_fits, lines_go_on}
use Rattle.text.specs.Table.{stored_row, mark_line, table_lines, table_text, contents_of, curve_of}

module _ (ts vs zs hs : List ℕ) (n k : ℕ) (inside : k < n) where
  number_at : (i : ℕ) → i < row_width → get_or (rows ts vs zs hs n) (row_width * k + i) 0 ≡ get_or (fields (estimate ts vs (get_or zs k 0) (get_or hs k 0))) i 0
  number_at i l =
      sym (get_or-drop (row_width * k) (rows ts vs zs hs n) i 0)
      ∙ sym (get_or-take row_width (drop (row_width * k) (rows ts vs zs hs n)) i 0 l)
      ∙ ap (λ (r : List ℕ). get_or r i 0) (row_at_point ts vs zs hs n k inside)

  stored_row_is_estimate : stored_row (rows ts vs zs hs n) k ≡ estimate ts vs (get_or zs k 0) (get_or hs k 0)
  stored_row_is_estimate =
      let first : row_width * k + 0 ≡ row_width * k = omega arith in
      let left = rw first at (number_at 0 (omega arith)) in
      rw (left, number_at 1 (omega arith), number_at 2 (omega arith), number_at 3 (omega arith), number_at 4 (omega arith))

table_is_curve : (ts vs zs hs : List ℕ) (m n : ℕ) → n ≤ m → table_lines zs hs (rows ts vs zs hs m) n ≡ curve_lines (contents_of ts vs zs hs) n
table_is_curve ts vs zs hs m zero l = refl
table_is_curve ts vs zs hs m (suc n) l =
    ap (λ (t : List ℕ). t ++ curve_line (get_or zs n 0) (get_or hs n 0) (stored_row (rows ts vs zs hs m) n)) (table_is_curve ts vs zs hs m n (omega arith))
    ∙ ap (λ (e : Estimate). curve_lines (contents_of ts vs zs hs) n ++ curve_line (get_or zs n 0) (get_or hs n 0) e)
    (stored_row_is_estimate ts vs zs hs m n (omega arith))

-- with the rows and the passes of the sweep
pub table_text_is_curve : (ts vs zs hs : List ℕ)
    → table_text zs hs (rows ts vs zs hs (length zs)) (length ts) (passes ts vs fresh (moves zs hs)) ≡ curve_of ts vs zs hs
unfolding whole_text curve_text
table_text_is_curve ts vs zs hs = rw (table_is_curve ts vs zs hs (length zs) (length zs) (omega arith))

-- the lines of the first k marks are stored, with lists as long as they are to be
pub record TableTo (out zs hs rs now : List ℕ) (q k : ℕ) : Type 0 where
  pub even : length hs ≡ length zs
  pub five : length rs ≡ row_width * length zs
  pub lines : LinesTo (mark_line zs hs rs) (length zs) out now q k

module _ {out zs hs rs now : List ℕ} {q k : ℕ} (w : TableTo out zs hs rs now q k) (more : k < length zs) where
  -- the next line fits
  pub next_line_fits : length (mark_line zs hs rs k) ≤ length (rest_of q now)
  next_line_fits = next_fits w.lines more

  -- and is put
  module _ (e : Estimate) (row : e ≡ stored_row rs k) (o : Option ℕ) (size : o ≡ put_size (rest_of q now) (curve_line (get_or zs k 0) (get_or hs k 0) e)) where
    pub table_goes_on : (r : ℕ) → o ≡ Some r → (next : List ℕ) → next ≡ put_list (rest_of q now) (curve_line (get_or zs k 0) (get_or hs k 0) e)
        → TableTo out zs hs rs (given_back q now next) (q + r) (k + 1)
    table_goes_on r some next list =
        let s = put_is_stored (rest_of q now) _ (rw row next_line_fits) o size r some next list in
        record { even = w.even; five = w.five; lines = lines_go_on w.lines more (rw row at s) }

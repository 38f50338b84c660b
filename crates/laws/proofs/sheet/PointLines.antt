-- What the reader makes of the bytes after faultless mark lines, each way: it refuses with 3 exactly if no mark line and no empty line
-- begins there, and a mark line's fault is its report. By the line that stands there.
use Prim.Native.Nat.{ℕ}
use mathlib.Core.Path.{◌≡◌, refl, sym, ap, ◌∙◌}
use mathlib.Core.List.{List, [], ◌∷◌, ◌++◌, append_assoc, append-nil}
use Rattle.std.specs.Prelude.{Option, None, Some}
use native.Mathlib.Omega.{arith}
use Rattle.meanings.specs.declared.Limits.{Limits}
use Rattle.meanings.specs.Bytes.{LineEnding, ending_bytes}
use Rattle.meanings.specs.Sheet.{EvaluationPoint}
use Rattle.meanings.specs.Reports.{Fault, refused, first_of}
use Rattle.meanings.specs.Sheet.{Lines, end, unended, line, lines, next_place, point_line, refused_at, point_checks, with_point, read_points}
use Rattle.meanings.specs.SheetForm.{Ended, point_text, print_point, print_points, PointForm, Begins}
use Rattle.laws.proofs.text.Texts.{first_line}
use Rattle.laws.proofs.sheet.ValueLines.{lines_of_point, point_line_of_text, point_line_text}
use Rattle.laws.proofs.sheet.Passed.{after_marks}
use Rattle.laws.proofs.sheet.LineOrder.{points_of, bandwidths_of}

-- no mark line begins where the first line is none
pub unread_no_point : (s t : List ℕ) (e : LineEnding) (ls : Lines) → lines s ≡ line t e ls → point_line t ≡ None → (m : Ended EvaluationPoint)
    → PointForm m.content → ¬ Begins (print_point m) s
unread_no_point s t e ls g n m f b =
    let p = sym g ∙ ap lines b.1 ∙ lines_of_point m b.0 in
    let q : t ≡ point_text m.content = cc in
    let o = sym n ∙ ap point_line q ∙ point_line_of_text m.content f in
    let z : ◌≡◌ {A = ℕ} 0 1 = cc in
    omega arith

-- a line that is read as a mark is the mark's line
pub point_begins : (s t : List ℕ) (e : LineEnding) (ls : Lines) (m : EvaluationPoint) → lines s ≡ line t e ls → point_line t ≡ Some m
    → PointForm m × ((r : List ℕ) × ((s ≡ print_point (record { content = m; ending = e }) ++ r) × (lines r ≡ ls)))
point_begins s t e ls m g h =
    let i = first_line s t e ls g in
    let w = point_line_text t m h in
    (w.1, (i.0, (i.1.0 ∙ sym (append_assoc t (ending_bytes e) i.0) ∙ ap (λ (u : List ℕ). (u ++ ending_bytes e) ++ i.0) w.0, i.1.2)))

pub no_point_refused : (L : Limits) (p : ℕ) (zs hs : List ℕ) (b : ℕ) (rest : List ℕ)
    → ((e : LineEnding) → ¬ Begins (ending_bytes e) (b ∷ rest))
    → ((m : Ended EvaluationPoint) → PointForm m.content → ¬ Begins (print_point m) (b ∷ rest)) → read_points L p zs hs (lines (b ∷ rest)) ≡ refused_at p 3
no_point_refused L p zs hs b rest n w = by (lines (b ∷ rest)) refl
  where
    by : (ls : Lines) → lines (b ∷ rest) ≡ ls → read_points L p zs hs ls ≡ refused_at p 3
    by end g = refl
    by (unended t) g = refl
    by (line [] e ls) g = let h = first_line (b ∷ rest) [] e ls g in absurd (n e (h.0, h.1.0))
    by (line (c ∷ t) d ls) g = read (point_line (c ∷ t)) refl
      where
        read : (x : Option EvaluationPoint) → point_line (c ∷ t) ≡ x
            → with_point L p zs hs x (λ zs' hs'. read_points L (next_place p (c ∷ t) d) zs' hs' ls) ≡ refused_at p 3
        read None e = refl
        read (Some m) e =
            let o = point_begins (b ∷ rest) (c ∷ t) d ls m g e in
            absurd (w (record { content = m; ending = d }) o.0 (o.1.0, o.1.1.0))

pub faulty_point_refused : (L : Limits) (p : ℕ) (ms : List EvaluationPoint) (m : Ended EvaluationPoint) (r : List ℕ) (f : Fault) → PointForm m.content
    → first_of (point_checks L p (points_of ms) (bandwidths_of ms) m.content) ≡ Some f
    → after_marks L p ms (lines (print_point m ++ r)) ≡ refused f
faulty_point_refused L p ms m r f k e =
    ap (after_marks L p ms) (lines_of_point m r) ∙ by (point_text m.content) (point_line_of_text m.content k)
  where
    by : (t : List ℕ) → point_line t ≡ Some m.content → after_marks L p ms (line t m.ending (lines r)) ≡ refused f
    by [] q = let z : ◌≡◌ {A = ℕ} 0 1 = cc in absurd (omega arith)
    by (b ∷ t) q = rw (q, e)

-- the print of one mark line more
pub print_points_more : (ms : List (Ended EvaluationPoint)) (m : Ended EvaluationPoint) → print_points (ms ++ m ∷ []) ≡ print_points ms ++ print_point m
print_points_more [] m = append-nil (print_point m)
print_points_more (a ∷ ms) m =
    ap (λ (t : List ℕ). print_point a ++ t) (print_points_more ms m) ∙ sym (append_assoc (print_point a) (print_points ms) (print_point m))

pub one_point_more : (head s : List ℕ) (ms : List (Ended EvaluationPoint)) (m : Ended EvaluationPoint) (r : List ℕ)
    → s ≡ (head ++ print_points ms) ++ (print_point m ++ r)
    → s ≡ (head ++ print_points (ms ++ m ∷ [])) ++ r
one_point_more head s ms m r e =
    e ∙ sym (append_assoc (head ++ print_points ms) (print_point m) r)
    ∙ ap (λ (t : List ℕ). t ++ r) (append_assoc head (print_points ms) (print_point m) ∙ ap (λ (t : List ℕ). head ++ t) (sym (print_points_more ms m)))

-- The reader comes to the byte after faultless lines with what these lines say, whatever stands there: line by line, none of the checks
-- holds.
use Prim.Native.Nat.{ℕ, ◌+◌, ◌≤◌}
use mathlib.Core.Path.{◌≡◌, sym, ap, ◌∙◌}
use mathlib.Core.List.{List, [], ◌∷◌, ◌++◌, append_assoc, append-nil, map-append}
use Rattle.std.specs.Prelude.{None, Some}
use native.Mathlib.Nat.{zero-add}
use native.Mathlib.Omega.{arith}
use borrow.Author.Tests.{le-ltb, ne_eqb}
use lib.ListN.{length, length-append, length-map}
use Rattle.meanings.specs.declared.Limits.{Limits}
use Rattle.meanings.specs.Limits.{max_sheet}
use Rattle.meanings.specs.Bytes.{LineEnding, ending_bytes, point_header, sample_header}
use Rattle.meanings.specs.Sheet.{EvaluationPoint}
use Rattle.meanings.specs.Sheet.{Lines, line, lines, next_place, point_line, Injection, sample_line, Outcome}
use Rattle.meanings.specs.Sheet.{point_checks, sample_checks, header, read_samples, read_points, read_sheet}
use Rattle.meanings.specs.SheetForm.{Ended, without_endings, point_text, print_point, print_points, sample_text, print_sample, print_samples}
use Rattle.meanings.specs.SheetForm.{point_head, print_front, empty_front, sample_head, sample_front, print_sheet, kept_of, PointForm}
use Rattle.meanings.specs.SheetForm.{SampleForm, Follows, Neighbours, Each, BandwidthRange, FitPoints, MinuteOrder, FitSamples}
use Rattle.meanings.specs.Reports.{first_of}
use Rattle.laws.proofs.text.Texts.{lines_of_ending}
use Rattle.laws.proofs.sheet.Headers.{point_header_line, sample_header_line, header_passed}
use Rattle.laws.proofs.sheet.ValueLines.{point_line_of_text, sample_line_of_text, lines_of_point, lines_of_sample}
use Rattle.laws.proofs.sheet.LineOrder.{kept_more, minutes_of, values_of, points_of, bandwidths_of, sample_checks_none, point_checks_none}

-- the reader at byte p after the mark lines ms
abbrev pub after_marks : Limits → ℕ → List EvaluationPoint → Lines → Outcome
after_marks L p ms ls = read_points L p (points_of ms) (bandwidths_of ms) ls

-- and after the reading lines js
abbrev pub after_samples : Limits → List ℕ → List ℕ → ℕ → List Injection → Lines → Outcome
after_samples L zs hs p js ls = read_samples L zs hs p (minutes_of js) (minutes_of (kept_of js)) (values_of (kept_of js)) ls

one_sample : (L : Limits) (zs hs : List ℕ) (p : ℕ) (js : List Injection) (t : List ℕ) (d : LineEnding) (j : Injection) (ls : Lines)
    → sample_line t ≡ Some j
    → first_of (sample_checks L p (minutes_of js) (length (minutes_of (kept_of js))) j) ≡ None
    → after_samples L zs hs p js (line t d ls) ≡ after_samples L zs hs (next_place p t d) (js ++ j ∷ []) ls
one_sample L zs hs p js t d j ls e f =
    rw (
      e,
      f,
      map-append (λ (j : Injection). j.minute) js (j ∷ []),
      kept_more (λ (j : Injection). j.minute) js j,
      kept_more (λ (j : Injection). j.value) js j,
    )

one_point : (L : Limits) (p : ℕ) (ms : List EvaluationPoint) (t : List ℕ) (d : LineEnding) (m : EvaluationPoint) (ls : Lines) → point_line t ≡ Some m
    → first_of (point_checks L p (points_of ms) (bandwidths_of ms) m) ≡ None
    → after_marks L p ms (line t d ls) ≡ after_marks L (next_place p t d) (ms ++ m ∷ []) ls
one_point L p ms [] d m ls e f = let z : ◌≡◌ {A = ℕ} 0 1 = cc in absurd (omega arith)
one_point L p ms (b ∷ t) d m ls e f =
    rw (e, f, map-append (λ (m : EvaluationPoint). m.point) ms (m ∷ []), map-append (λ (m : EvaluationPoint). m.bandwidth) ms (m ∷ []))

-- the place behind a printed line
line_length : (p : ℕ) (t : List ℕ) (d : LineEnding) (s : List ℕ) → next_place p t d + length s ≡ p + length ((t ++ ending_bytes d) ++ s)
line_length p t d s = omega (arith, length-append t (ending_bytes d), length-append (t ++ ending_bytes d) s)

points_passed : (L : Limits) (p : ℕ) (ms : List EvaluationPoint) (ns : List (Ended EvaluationPoint)) (s : List ℕ) → Each PointForm (without_endings ns)
    → Each BandwidthRange (without_endings ns) → Neighbours Follows (ms ++ without_endings ns) → length (ms ++ without_endings ns) ≤ L.points
    → after_marks L p ms (lines (print_points ns ++ s)) ≡ after_marks L (p + length (print_points ns)) (ms ++ without_endings ns) (lines s)
points_passed L p ms [] s f r n few = let e : p + 0 ≡ p = omega arith in rw (append-nil ms, e)
points_passed L p ms (l ∷ ns) s f r n few =
    let m = l.content in
    let t = point_text m in
    let q = next_place p t l.ending in
    let e : (ms ++ m ∷ []) ++ without_endings ns ≡ ms ++ m ∷ without_endings ns = append_assoc ms (m ∷ []) (without_endings ns) in
    ap (λ (t : List ℕ). after_marks L p ms (lines t)) (append_assoc (print_point l) (print_points ns) s)
    ∙ ap (after_marks L p ms) (lines_of_point l (print_points ns ++ s))
    ∙ one_point L p ms t l.ending m (lines (print_points ns ++ s)) (point_line_of_text m f.0)
    (point_checks_none L p ms m (without_endings ns) n r.0 few)
    ∙ points_passed L q (ms ++ m ∷ []) ns s f.1 r.1 (rw e n) (rw e few)
    ∙ ap (λ (t : List EvaluationPoint). after_marks L (q + length (print_points ns)) t (lines s)) e
    ∙ ap (λ (q : ℕ). after_marks L q (ms ++ m ∷ without_endings ns) (lines s)) (line_length p t l.ending (print_points ns))

samples_passed : (L : Limits) (zs hs : List ℕ) (p : ℕ) (js : List Injection) (ks : List (Ended Injection)) (s : List ℕ)
    → Each SampleForm (without_endings ks) → Neighbours MinuteOrder (js ++ without_endings ks) → length (kept_of (js ++ without_endings ks)) ≤ L.samples
    → after_samples L zs hs p js (lines (print_samples ks ++ s))
    ≡ after_samples L zs hs (p + length (print_samples ks)) (js ++ without_endings ks) (lines s)
samples_passed L zs hs p js [] s f n few = let e : p + 0 ≡ p = omega arith in rw (append-nil js, e)
samples_passed L zs hs p js (l ∷ ks) s f n few =
    let j = l.content in
    let t = sample_text j in
    let q = next_place p t l.ending in
    let e : (js ++ j ∷ []) ++ without_endings ks ≡ js ++ j ∷ without_endings ks = append_assoc js (j ∷ []) (without_endings ks) in
    ap (λ (t : List ℕ). after_samples L zs hs p js (lines t)) (append_assoc (print_sample l) (print_samples ks) s)
    ∙ ap (after_samples L zs hs p js) (lines_of_sample l (print_samples ks ++ s))
    ∙ one_sample L zs hs p js t l.ending j (lines (print_samples ks ++ s)) (sample_line_of_text j f.0)
    (sample_checks_none L p js j (without_endings ks) n few)
    ∙ samples_passed L zs hs q (js ++ j ∷ []) ks s f.1 (rw e n) (rw e few)
    ∙ ap (λ (t : List Injection). after_samples L zs hs (q + length (print_samples ks)) t (lines s)) e
    ∙ ap (λ (q : ℕ). after_samples L zs hs q (js ++ j ∷ without_endings ks) (lines s)) (line_length p t l.ending (print_samples ks))

-- after the faultless mark lines ms
pub sheet_at_points : (L : Limits) (s : List ℕ) (e : LineEnding) (ms : List (Ended EvaluationPoint)) (r : List ℕ) → length s ≤ max_sheet
    → FitPoints L (without_endings ms) → s ≡ print_front e ms ++ r → read_sheet L s ≡ after_marks L (length (print_front e ms)) (without_endings ms) (lines r)
unfolding read_sheet
sheet_at_points L s e ms r l f h =
    rw (le-ltb max_sheet (length s) l, h ∙ append_assoc (point_head e) (print_points ms) r)
    (header_passed point_header 0 e (print_points ms ++ r) (λ p ls. read_points L p [] [] ls) point_header_line
    ∙ points_passed L (next_place 0 point_header e) [] ms r f.forms f.ranges f.order f.few
    ∙ ap (λ (p : ℕ). after_marks L p (without_endings ms) (lines r)) (line_length 0 point_header e (print_points ms) ∙ zero-add _))

-- after the empty line that follows them
pub sheet_at_header : (L : Limits) (s : List ℕ) (e : LineEnding) (ms : List (Ended EvaluationPoint)) (d : LineEnding) (r : List ℕ) → length s ≤ max_sheet
    → FitPoints L (without_endings ms) → 1 ≤ length (without_endings ms) → s ≡ empty_front e ms d ++ r
    → read_sheet L s
    ≡ header sample_header (length (empty_front e ms d)) (lines r)
    (λ q ls. read_samples L (points_of (without_endings ms)) (bandwidths_of (without_endings ms)) q [] [] [] ls)
sheet_at_header L s e ms d r l f o h =
    let front = print_front e ms in
    let q : next_place (length front) [] d ≡ length (empty_front e ms d) = omega (arith, length-append front (ending_bytes d)) in
    sheet_at_points L s e ms (ending_bytes d ++ r) l f (h ∙ append_assoc front (ending_bytes d) r)
    ∙ rw (
      lines_of_ending d r,
      length-map (without_endings ms) (λ (m : EvaluationPoint). m.point),
      ne_eqb (length (without_endings ms)) 0 (λ e. omega arith),
      q,
    )

-- after the faultless reading lines js
pub sheet_at_samples : (L : Limits) (s : List ℕ) (e : LineEnding) (ms : List (Ended EvaluationPoint)) (d f : LineEnding) (js : List (Ended Injection))
    (r : List ℕ) → length s ≤ max_sheet → FitPoints L (without_endings ms) → 1 ≤ length (without_endings ms) → FitSamples L (without_endings js)
    → s ≡ print_sheet e ms d f js ++ r
    → read_sheet L s
    ≡ after_samples L (points_of (without_endings ms)) (bandwidths_of (without_endings ms)) (length (print_sheet e ms d f js)) (without_endings js) (lines r)
sheet_at_samples L s e ms d f js r l fit o g h =
    let zs = points_of (without_endings ms) in
    let hs = bandwidths_of (without_endings ms) in
    let front = empty_front e ms d in
    let rest = print_samples js ++ r in
    let start = next_place (length front) sample_header f in
    let q : start + length (print_samples js) ≡ length (print_sheet e ms d f js) =
    line_length (length front) sample_header f (print_samples js) ∙ sym (length-append front (sample_head f ++ print_samples js))
    ∙ ap length (sym (append_assoc front (sample_head f) (print_samples js))) in
    sheet_at_header L s e ms d (sample_head f ++ rest) l fit o
    (h ∙ append_assoc (sample_front e ms d f) (print_samples js) r ∙ append_assoc front (sample_head f) rest)
    ∙ header_passed sample_header (length front) f rest (λ q ls. read_samples L zs hs q [] [] [] ls) sample_header_line
    ∙ samples_passed L zs hs start [] js r g.forms g.order g.few
    ∙ ap (λ (p : ℕ). after_samples L zs hs p (without_endings js) (lines r)) q

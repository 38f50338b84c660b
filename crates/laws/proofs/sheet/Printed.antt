-- What the second reading says of a sheet is what the reader does: the sheet of fit lists is accepted with these lists, and a sheet with a
-- fault is refused with the fault's report at its place. The reader comes to the fault, or to the end, over faultless lines.
use Prim.Native.Nat.{ℕ}
use mathlib.Core.Path.{◌≡◌, sym, ap, ◌∙◌}
use mathlib.Core.List.{List, [], ◌∷◌, ◌++◌, append_assoc, append-nil}
use native.Mathlib.Omega.{arith}
use borrow.Author.Tests.{lt-ltb, le-ltb}
use lib.ListN.{length}
use Rattle.meanings.specs.declared.Limits.{Limits}
use Rattle.meanings.specs.Limits.{max_sheet}
use Rattle.meanings.specs.Bytes.{LineEnding, ending_bytes, point_header, sample_header}
use Rattle.meanings.specs.Reports.{given, refused}
use Rattle.meanings.specs.Sheet.{lines, Contents, refused_at, read_points, read_sheet}
use Rattle.meanings.specs.SheetForm.{without_endings, print_point, print_sample, point_head, print_front, print_sheet}
use Rattle.meanings.specs.SheetForm.{FitPoints, IsSheet, Refused, too_long, no_point_header, no_empty_line, malformed_point}
use Rattle.meanings.specs.SheetForm.{faulty_point, no_point, no_sample_header, malformed_sample, faulty_sample}
use Rattle.laws.proofs.text.Texts.{lines_of_ending}
use Rattle.laws.proofs.sheet.Headers.{no_header_refused}
use Rattle.laws.proofs.sheet.Passed.{sheet_at_points, sheet_at_header, sheet_at_samples}
use Rattle.laws.proofs.sheet.PointFaults.{check_of_point_fault}
use Rattle.laws.proofs.sheet.SampleFaults.{check_of_sample_fault}
use Rattle.laws.proofs.sheet.PointLines.{no_point_refused, faulty_point_refused}
use Rattle.laws.proofs.sheet.SampleLines.{no_sample_refused, faulty_sample_refused}

pub printed_is_read : (L : Limits) (s : List ℕ) (c : Contents) → IsSheet L s c → read_sheet L s ≡ given c
printed_is_read L s c i =
    sheet_at_samples L s i.header_ending i.point_lines i.empty_line_ending i.sample_header_ending i.sample_lines [] i.short
    i.fit_points i.some_point i.fit_samples (i.printed ∙ sym (append-nil _))
    ∙ rw (← i.points, ← i.bandwidths, ← i.minutes, ← i.values)

pub no_points_fit : (L : Limits) → FitPoints L []
no_points_fit L = record { forms = tt; ranges = tt; order = tt; few = omega arith }

-- an empty line where no mark has been read
empty_line_refused : (L : Limits) (p : ℕ) (d : LineEnding) (r : List ℕ) → read_points L p [] [] (lines (ending_bytes d ++ r)) ≡ refused_at p 7
empty_line_refused L p d r = rw (lines_of_ending d r)

pub refused_only : (L : Limits) (s : List ℕ) (n p : ℕ) → Refused L s n p → read_sheet L s ≡ refused (record { number = n; place = p })
unfolding read_sheet
refused_only L s n p (too_long l) = rw (lt-ltb max_sheet (length s) l)
refused_only L s n p (no_point_header l w) =
    rw (le-ltb max_sheet (length s) l) (no_header_refused point_header 0 s (λ p ls. read_points L p [] [] ls) w)
refused_only L s n p (no_empty_line l e ms f q) =
    sheet_at_points L s e ms [] l f (q ∙ sym (append-nil (print_front e ms))) ∙ ap (λ (q : ℕ). refused_at q 3) (sym (ap length q))
refused_only L s n p (malformed_point l e ms f b rest q c w) = sheet_at_points L s e ms (b ∷ rest) l f q ∙ no_point_refused L _ _ _ b rest c w
refused_only L s n p (faulty_point l e ms f m k b x) =
    sheet_at_points L s e ms (print_point m ++ b.0) l f (b.1 ∙ append_assoc (print_front e ms) (print_point m) b.0)
    ∙ faulty_point_refused L _ (without_endings ms) m b.0 _ k (check_of_point_fault L _ (without_endings ms) m.content f.order x)
refused_only L s n p (no_point l e d b) =
    let q = append-nil (point_head e) in
    sheet_at_points L s e [] (ending_bytes d ++ b.0) l (no_points_fit L)
    (b.1 ∙ append_assoc (point_head e) (ending_bytes d) b.0 ∙ ap (λ (t : List ℕ). t ++ (ending_bytes d ++ b.0)) (sym q))
    ∙ empty_line_refused L _ d b.0 ∙ ap (λ (t : List ℕ). refused_at (length t) 7) q
refused_only L s n p (no_sample_header l e ms f o d rest q w) =
    sheet_at_header L s e ms d rest l f o q ∙ no_header_refused sample_header _ rest _ w
refused_only L s n p (malformed_sample l e ms fit o d f js g b rest q w) =
    sheet_at_samples L s e ms d f js (b ∷ rest) l fit o g q ∙ no_sample_refused L _ _ _ _ _ _ b rest w
refused_only L s n p (faulty_sample l e ms fit o d f js g j k b x) =
    sheet_at_samples L s e ms d f js (print_sample j ++ b.0) l fit o g (b.1 ∙ append_assoc (print_sheet e ms d f js) (print_sample j) b.0)
    ∙ faulty_sample_refused L _ _ _ (without_endings js) j b.0 _ k (check_of_sample_fault L _ (without_endings js) j.content x)

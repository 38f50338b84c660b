-- Which sheets are of ranges, in both readings. The front hands on what faultless mark lines print to, whatever follows; and the reader of plain sheets
-- refuses the header line of ranges with 2, which by the landed reading says how the bytes before that line are printed.
use Prim.Native.Nat.{ℕ, ◌+◌, ◌≤◌}
use mathlib.Core.Path.{◌≡◌, refl, sym, ap, ◌∙◌}
use mathlib.Core.Bool.{Bool, true, false}
use mathlib.Core.List.{List, [], ◌∷◌, ◌++◌, append_assoc, append-nil, map-append}
use Rattle.std.specs.Prelude.{None, Some}
use native.Mathlib.Nat.{zero-add}
use native.Mathlib.Omega.{arith}
use borrow.Author.Tests.{le-ltb, ne_eqb}
use lib.Dec.{ltb}
use lib.ListN.{length, length-append, length-map}
use Rattle.meanings.specs.declared.Limits.{Limits}
use Rattle.meanings.specs.Lists.{pick}
use Rattle.meanings.specs.Limits.{max_sheet}
use Rattle.meanings.specs.Bytes.{LineEnding, ending_bytes, point_header}
use Rattle.meanings.specs.Reports.{Fault, Answer, given, refused, first_of}
use Rattle.meanings.specs.Sheet.{EvaluationPoint, Lines, end, unended, line, lines, next_place, same, point_line, point_checks, header, refused_at, read_sheet}
use Rattle.meanings.specs.SheetForm.{Ended, without_endings, point_text, print_point, print_points, point_head, print_front, empty_front, PointForm, Follows}
use Rattle.meanings.specs.SheetForm.{Neighbours, Each, BandwidthRange, FitPoints, Begins, PointFault, SampleFault, Refused, too_long, no_point_header}
use Rattle.meanings.specs.SheetForm.{no_empty_line, malformed_point, faulty_point, no_point, no_sample_header, malformed_sample, faulty_sample}
use Rattle.meanings.specs.Sheet.{Injection}
use Rattle.laws.proofs.text.Texts.{lines_of_ending, first_line}
use Rattle.laws.proofs.sheet.Headers.{OneLine, point_header_line, same_true}
use Rattle.laws.proofs.sheet.LineOrder.{points_of, bandwidths_of, point_checks_none}
use Rattle.laws.proofs.sheet.ValueLines.{point_line_of_text, lines_of_point}
use Rattle.laws.proofs.sheet.Outcomes.{refused_is_refused}
use Rattle.meanings.specs.declared.ranges.Kind.TheVariants.{Ranges}
use Rattle.meanings.specs.ranges.RangeSheet.{range_header, Front, front_points, sheet_front, no_readings, read_readings, range_contents}
use Rattle.meanings.specs.ranges.RangeSheet.{read_either_from, read_either}
use Rattle.meanings.specs.ranges.EitherKind.{RangesNamed}
use Rattle.meanings.proofs.Fronts.{front_then}
use Rattle.laws.proofs.ranges.EitherReader.{plain_of}
use Rattle.laws.specs.ranges.RangeForm.{range_head, NamesRanges, printed_to}
use Rattle.laws.proofs.ranges.RangePassed.{line_length}

-- refused before the second header line, a sheet is refused so whatever follows that line
pub refused_in_front : {A : Type 0} (L : Limits) (s : List ℕ) (e : Fault) → sheet_front L s given ≡ refused e → (next : Front → Answer A)
    → sheet_front L s next ≡ refused e
refused_in_front {A} L s e q next = sym (front_then L s next) ∙ rw q

-- the front over faultless mark lines
module _ {A : Type 0} (L : Limits) (next : Front → Answer A) where
  abbrev after_marks : ℕ → List EvaluationPoint → Lines → Answer A
  after_marks p ms ls = front_points L p (points_of ms) (bandwidths_of ms) ls next

  one_point : (p : ℕ) (ms : List EvaluationPoint) (t : List ℕ) (d : LineEnding) (m : EvaluationPoint) (ls : Lines) → point_line t ≡ Some m
      → first_of (point_checks L p (points_of ms) (bandwidths_of ms) m) ≡ None
      → after_marks p ms (line t d ls) ≡ after_marks (next_place p t d) (ms ++ m ∷ []) ls
  one_point p ms [] d m ls e f = let z : ◌≡◌ {A = ℕ} 0 1 = cc in absurd (omega arith)
  one_point p ms (b ∷ t) d m ls e f =
      rw (e, f, map-append (λ (m : EvaluationPoint). m.point) ms (m ∷ []), map-append (λ (m : EvaluationPoint). m.bandwidth) ms (m ∷ []))

  points_passed : (p : ℕ) (ms : List EvaluationPoint) (ns : List (Ended EvaluationPoint)) (s : List ℕ) → Each PointForm (without_endings ns)
      → Each BandwidthRange (without_endings ns) → Neighbours Follows (ms ++ without_endings ns) → length (ms ++ without_endings ns) ≤ L.points
      → after_marks p ms (lines (print_points ns ++ s)) ≡ after_marks (p + length (print_points ns)) (ms ++ without_endings ns) (lines s)
  points_passed p ms [] s f r n few = let e : p + 0 ≡ p = omega arith in rw (append-nil ms, e)
  points_passed p ms (l ∷ ns) s f r n few =
      let m = l.content in
      let t = point_text m in
      let q = next_place p t l.ending in
      let e : (ms ++ m ∷ []) ++ without_endings ns ≡ ms ++ m ∷ without_endings ns = append_assoc ms (m ∷ []) (without_endings ns) in
      ap (λ (t : List ℕ). after_marks p ms (lines t)) (append_assoc (print_point l) (print_points ns) s)
      ∙ ap (after_marks p ms) (lines_of_point l (print_points ns ++ s))
      ∙ one_point p ms t l.ending m (lines (print_points ns ++ s)) (point_line_of_text m f.0)
      (point_checks_none L p ms m (without_endings ns) n r.0 few)
      ∙ points_passed q (ms ++ m ∷ []) ns s f.1 r.1 (rw e n) (rw e few)
      ∙ ap (λ (t : List EvaluationPoint). after_marks (q + length (print_points ns)) t (lines s)) e
      ∙ ap (λ (q : ℕ). after_marks q (ms ++ m ∷ without_endings ns) (lines s)) (line_length p t l.ending (print_points ns))

  -- the header line, the mark lines and the empty line
  pub front_passed : (s : List ℕ) (e : LineEnding) (ms : List (Ended EvaluationPoint)) (d : LineEnding) (r : List ℕ) → length s ≤ max_sheet
      → FitPoints L (without_endings ms) → 1 ≤ length (without_endings ms) → s ≡ empty_front e ms d ++ r
      → sheet_front L s next
      ≡ next (record {
        place = length (empty_front e ms d);
        rest = lines r;
        points = points_of (without_endings ms);
        bandwidths = bandwidths_of (without_endings ms);
      })
  unfolding sheet_front
  front_passed s e ms d r l f o h =
      let front = print_front e ms in
      let rest = ending_bytes d ++ r in
      let q : next_place (length front) [] d ≡ length (empty_front e ms d) = omega (arith, length-append front (ending_bytes d)) in
      let cut : s ≡ point_header ++ (ending_bytes e ++ (print_points ms ++ rest)) =
      h ∙ append_assoc front (ending_bytes d) r ∙ append_assoc (point_head e) (print_points ms) rest
      ∙ append_assoc point_header (ending_bytes e) (print_points ms ++ rest) in
      let named : lines s ≡ line point_header e (lines (print_points ms ++ rest)) = ap lines cut ∙ point_header_line e (print_points ms ++ rest) in
      rw (le-ltb max_sheet (length s) l, named)
      (points_passed (next_place 0 point_header e) [] ms rest f.forms f.ranges f.order f.few
      ∙ ap (λ (p : ℕ). after_marks p (without_endings ms) (lines rest)) (line_length 0 point_header e (print_points ms) ∙ zero-add _)
      ∙ rw (
        lines_of_ending d r,
        length-map (without_endings ms) (λ (m : EvaluationPoint). m.point),
        ne_eqb (length (without_endings ms)) 0 (λ e. omega arith),
        q,
      ))

-- a text and its ending, joined to what stands before them
rejoined : (front t ending r s rest : List ℕ) → s ≡ front ++ rest → rest ≡ t ++ (ending ++ r) → s ≡ (front ++ (t ++ ending)) ++ r
rejoined front t ending r s rest q e =
    q ∙ ap (λ (u : List ℕ). front ++ u) (e ∙ sym (append_assoc t ending r)) ∙ sym (append_assoc front (t ++ ending) r)

range_header_line : OneLine range_header
range_header_line e r = rw (lines_of_ending e r)

module _ (L : Limits) (s : List ℕ) where
  -- what is handed on
  abbrev pub front_of : NamesRanges L s → Front
  front_of n = record {
    place = length (empty_front n.header_ending n.point_lines n.empty_line_ending);
    rest = lines (range_head n.range_header_ending ++ n.behind);
    points = points_of (without_endings n.point_lines);
    bandwidths = bandwidths_of (without_endings n.point_lines);
  }

  pub named_then : {A : Type 0} (n : NamesRanges L s) (next : Front → Answer A) → sheet_front L s next ≡ next (front_of n)
  named_then n next =
      front_passed L next s n.header_ending n.point_lines n.empty_line_ending (range_head n.range_header_ending ++ n.behind) n.short
      n.fit_points n.some_point
      (n.printed
      ∙ append_assoc (empty_front n.header_ending n.point_lines n.empty_line_ending) (range_head n.range_header_ending) n.behind)

  lines_named : (n : NamesRanges L s)
      → lines (range_head n.range_header_ending ++ n.behind) ≡ line range_header n.range_header_ending (lines n.behind)
  lines_named n =
      ap lines (append_assoc range_header (ending_bytes n.range_header_ending) n.behind)
      ∙ range_header_line n.range_header_ending n.behind

  -- the reader of both kinds goes on with the reading lines
  pub named_read : (n : NamesRanges L s)
      → read_either L s
      ≡ read_readings L Ranges (length (printed_to n [])) no_readings (lines n.behind) (λ r. given (range_contents Ranges (front_of n) r))
  unfolding read_either
  named_read n =
      let front = empty_front n.header_ending n.point_lines n.empty_line_ending in
      let head = range_head n.range_header_ending in
      let q : next_place (length front) range_header n.range_header_ending ≡ length (printed_to n []) =
      omega (arith, length-append front head, length-append range_header (ending_bytes n.range_header_ending), length-append (front ++ head) []) in
      named_then n (read_either_from L) ∙ rw (lines_named n, q)

  -- the reader of plain sheets stops there
  pub named_refused : (n : NamesRanges L s) → read_sheet L s ≡ refused_at (front_of n).place 2
  named_refused n = plain_of L s (given (front_of n)) (named_then n given) ∙ rw (lines_named n)

  -- where the front goes on, the first header line is there
  first_header : (f : Front) → sheet_front L s given ≡ given f → (e : LineEnding) × Begins (point_head e) s
  unfolding sheet_front
  first_header f h = long (ltb max_sheet (length s)) h
    where
      next : ℕ → Lines → Answer Front
      next p rest = front_points L p [] [] rest given

      by : (ls : Lines) → lines s ≡ ls → header point_header 0 ls next ≡ given f → (e : LineEnding) × Begins (point_head e) s
      by end g h = let z : ◌≡◌ {A = ℕ} 0 1 = cc in absurd (omega arith)
      by (unended t) g h = let z : ◌≡◌ {A = ℕ} 0 1 = cc in absurd (omega arith)
      by (line t e ls) g h = tested (same t point_header) refl h
        where
          tested : (b : Bool) → same t point_header ≡ b → pick b (next (next_place 0 t e) ls) (refused_at 0 2) ≡ given f
              → (e : LineEnding) × Begins (point_head e) s
          tested true q h =
              let i = first_line s t e ls g in
              let n = same_true t point_header q in (
                e,
                (i.0, i.1.0 ∙ sym (append_assoc t (ending_bytes e) i.0) ∙ ap (λ (u : List ℕ). (u ++ ending_bytes e) ++ i.0) n),
              )
          tested false q h = let z : ◌≡◌ {A = ℕ} 0 1 = cc in absurd (omega arith)

      long : (b : Bool) → pick b (refused_at max_sheet 1) (header point_header 0 (lines s) next) ≡ given f → (e : LineEnding) × Begins (point_head e) s
      long true h = let z : ◌≡◌ {A = ℕ} 0 1 = cc in absurd (omega arith)
      long false h = by (lines s) refl h

  no_point_fault : {ms : List EvaluationPoint} {m : EvaluationPoint} (r : ℕ) → PointFault L ms m r → ¬ (r ≡ 2)
  no_point_fault r (PointFault.out_of_order before m₀ e l) q = omega arith
  no_point_fault r (PointFault.bandwidth o b) q = omega arith
  no_point_fault r (PointFault.edge o b e) q = omega arith
  no_point_fault r (PointFault.too_many o b l) q = omega arith

  no_sample_fault : {js : List Injection} {j : Injection} (r : ℕ) → SampleFault L js j r → ¬ (r ≡ 2)
  no_sample_fault r (SampleFault.out_of_order before j₀ e l) q = omega arith
  no_sample_fault r (SampleFault.too_many o k l) q = omega arith

  -- so the bytes are printed as a sheet of ranges
  pub names_of : (w : RangesNamed L s) → read_sheet L s ≡ refused_at w.front.place 2 → NamesRanges L s
  names_of w h = by 2 w.front.place (refused_is_refused L s 2 w.front.place h) refl
    where
      here : (e : LineEnding) (ms : List (Ended EvaluationPoint)) (d : LineEnding) (rest : List ℕ) → length s ≤ max_sheet → FitPoints L (without_endings ms)
          → 1 ≤ length (without_endings ms) → s ≡ empty_front e ms d ++ rest → NamesRanges L s
      here e ms d rest l f o q =
          let same-front = sym w.before ∙ front_passed L given s e ms d rest l f o q in
          let g : lines rest ≡ w.front.rest =
          ap (λ (a : Front). a.rest)
          (let k : record {
            place = length (empty_front e ms d);
            rest = lines rest;
            points = points_of (without_endings ms);
            bandwidths = bandwidths_of (without_endings ms);
          }
          ≡ w.front = cc in k) in
          let i = first_line rest range_header w.ending w.behind (g ∙ w.named) in
          record {
            header_ending = e;
            point_lines = ms;
            empty_line_ending = d;
            range_header_ending = w.ending;
            behind = i.0;
            printed = rejoined (empty_front e ms d) range_header (ending_bytes w.ending) i.0 s rest q i.1.0;
            short = l;
            some_point = o;
            fit_points = f;
          }

      by : (n p : ℕ) → Refused L s n p → n ≡ 2 → NamesRanges L s
      by n p (too_long l) q = absurd (omega arith)
      by n p (no_point_header l none-begins) q = let b = first_header w.front w.before in absurd (none-begins b.0 b.1)
      by n p (no_empty_line l e ms f q') q = absurd (omega arith)
      by n p (malformed_point l e ms f b rest q' c k) q = absurd (omega arith)
      by n p (faulty_point l e ms f m k b x) q = absurd (no_point_fault n x q)
      by n p (no_point l e d b) q = absurd (omega arith)
      by n p (no_sample_header l e ms f o d rest q' k) q = here e ms d rest l f o q'
      by n p (malformed_sample l e ms fit o d f js g b rest q' k) q = absurd (omega arith)
      by n p (faulty_sample l e ms fit o d f js g j k b x) q = absurd (no_sample_fault n x q)

-- The two readings of a sheet of either kind agree. What is no sheet of ranges has the landed reading; a sheet of ranges is read, line by line, as what
-- its lines are printed from, or refused where the second reading says, and never with 2.
use Prim.Native.Nat.{ℕ, ◌+◌}
use mathlib.Core.Path.{◌≡◌, refl, sym, ap, ◌∙◌}
use mathlib.Core.Logic.{◌⊎◌, inl, inr}
use mathlib.Core.List.{List, [], ◌∷◌, ◌++◌, append_assoc, append-nil}
use native.Mathlib.Omega.{arith}
use lib.ListN.{length, length-append}
use Rattle.meanings.specs.declared.Limits.{Limits}
use Rattle.meanings.specs.Reports.{Fault, Answer, given, refused}
use Rattle.meanings.specs.Sheet.{Contents, Outcome, lines, refused_at, read_sheet}
use Rattle.meanings.specs.SheetForm.{Ended, without_endings}
use Rattle.laws.proofs.sheet.Printed.{printed_is_read, refused_only}
use Rattle.laws.proofs.sheet.Outcomes.{read_is_printed, refused_is_refused}
use Rattle.meanings.specs.ranges.RangeSheet.{RangeInjection, Readings, RangeContents, range_contents, read_either}
use Rattle.meanings.specs.declared.ranges.Kind.TheVariants.{Ranges}
use Rattle.meanings.specs.ranges.EitherKind.{doubled_contents, doubled, EitherKind, plain, of_ranges}
use Rattle.laws.proofs.ranges.EitherReader.{either_kind}
use Rattle.laws.specs.ranges.RangeForm.{print_range, print_ranges, range_front, FitRanges, NamesRanges, printed_to, IsRangeSheet}
use Rattle.laws.specs.ranges.RangeForm.{RangeFault, RangeRefused}
use Rattle.laws.specs.ranges.RangeForm.{malformed_range, faulty_range, EitherSheet, plain_sheet, range_sheet, EitherRefused, as_plain, for_a_range}
use Rattle.laws.proofs.ranges.RangeOrder.{check_of_fault}
use Rattle.laws.proofs.ranges.RangePassed.{after_ranges, ranges_passed, no_range_refused, faulty_range_refused}
use Rattle.laws.proofs.ranges.RangeDecided.{RangeDecided, accepted, faulted, range_decided}
use Rattle.laws.proofs.ranges.NamedFronts.{front_of, named_read, named_refused, names_of}

module _ (L : Limits) (s : List ℕ) where
  abbrev contents_then : NamesRanges L s → Readings → Answer RangeContents
  contents_then n r = given (range_contents Ranges (front_of L s n) r)

  -- the reader after the faultless reading lines js of a sheet of ranges
  at_ranges : (n : NamesRanges L s) (js : List (Ended RangeInjection)) (r : List ℕ) → FitRanges L (without_endings js) → n.behind ≡ print_ranges js ++ r
      → read_either L s ≡ after_ranges L (contents_then n) (length (printed_to n js)) (without_endings js) (lines r)
  at_ranges n js r f q =
      let front = range_front n.header_ending n.point_lines n.empty_line_ending n.range_header_ending in
      let p : length (printed_to n []) + length (print_ranges js) ≡ length (printed_to n js) =
      omega (arith, length-append front [], length-append front (print_ranges js)) in
      named_read L s n
      ∙ ap (λ (t : List ℕ). after_ranges L (contents_then n) (length (printed_to n [])) [] (lines t)) q
      ∙ ranges_passed L (contents_then n) (length (printed_to n [])) [] js r f.forms f.order f.uncrossed f.few
      ∙ ap (λ (p : ℕ). after_ranges L (contents_then n) p (without_endings js) (lines r)) p

  range_printed_is_read : (c : RangeContents) → IsRangeSheet L s c → read_either L s ≡ given c
  range_printed_is_read c i =
      at_ranges i.front i.range_lines [] i.fit_ranges (i.lines_printed ∙ sym (append-nil _))
      ∙ rw (← i.kind, ← i.minutes, ← i.lows, ← i.highs, ← i.points, ← i.bandwidths)

  range_refused_only : (n : NamesRanges L s) (r p : ℕ) → RangeRefused L s n r p → read_either L s ≡ refused (record { number = r; place = p })
  range_refused_only n r p (malformed_range js f b rest q w) =
      at_ranges n js (b ∷ rest) f q ∙ no_range_refused L (contents_then n) _ (without_endings js) b rest w
  range_refused_only n r p (faulty_range js f j k b x) =
      at_ranges n js (print_range j ++ b.0) f (b.1 ∙ append_assoc (print_ranges js) (print_range j) b.0)
      ∙ faulty_range_refused L (contents_then n) _ (without_endings js) j b.0 _ k (check_of_fault L _ (without_endings js) j.content x)

  -- a reading line is not refused with 2
  never_two : (n : NamesRanges L s) (r p : ℕ) → RangeRefused L s n r p → ¬ (r ≡ 2)
  never_two n r p (malformed_range js f b rest q w) e = omega arith
  never_two n r p (faulty_range js f j k b x) e = by r x e
    where
      by : (r : ℕ) → RangeFault L (without_endings js) j.content r → ¬ (r ≡ 2)
      by r (RangeFault.out_of_order before j₀ q l) e = omega arith
      by r (RangeFault.crossed o l) e = omega arith
      by r (RangeFault.too_many o u k l) e = omega arith

  -- a sheet of ranges is not read as the reader of plain sheets reads it, which refuses its second header line with 2
  read_otherwise : NamesRanges L s → ¬ (read_either L s ≡ doubled (read_sheet L s))
  read_otherwise n e = by (range_decided L s n)
    where
      two : read_either L s ≡ refused_at (front_of L s n).place 2
      two = e ∙ ap doubled (named_refused L s n)

      by : RangeDecided L s n → ⊥
      by (accepted c i) = let q = sym (range_printed_is_read c i) ∙ two in let z : ◌≡◌ {A = ℕ} 0 1 = cc in omega arith
      by (faulted r p x) =
          let q = sym (range_refused_only n r p x) ∙ two in
          let f : ◌≡◌ {A = Fault} (record { number = r; place = p }) (record { number = 2; place = (front_of L s n).place }) = cc in
          never_two n r p x (ap (λ (f : Fault). f.number) f)

  -- every sheet is one of ranges, or none and read as the reader of plain sheets reads it
  pub of_ranges_or_plain : NamesRanges L s ⊎ (¬ NamesRanges L s × (read_either L s ≡ doubled (read_sheet L s)))
  of_ranges_or_plain = by (either_kind L s)
    where
      by : EitherKind L s → NamesRanges L s ⊎ (¬ NamesRanges L s × (read_either L s ≡ doubled (read_sheet L s)))
      by (plain e) = inr (λ n. read_otherwise n e, e)
      by (of_ranges r) = inl (names_of L s r.ranges r.heading)

  -- a plain sheet is none of ranges
  never_both_kinds : (c : Contents) → read_sheet L s ≡ given c → ¬ NamesRanges L s
  never_both_kinds c e n =
      let q = sym e ∙ named_refused L s n in
      let z : ◌≡◌ {A = ℕ} 0 1 = cc in omega arith

  pub form_is_read : (c : RangeContents) → EitherSheet L s c → read_either L s ≡ given c
  form_is_read c (plain_sheet d i) = by of_ranges_or_plain
    where
      by : NamesRanges L s ⊎ (¬ NamesRanges L s × (read_either L s ≡ doubled (read_sheet L s))) → read_either L s ≡ given (doubled_contents d)
      by (inl n) = absurd (never_both_kinds d (printed_is_read L s d i) n)
      by (inr e) = e.1 ∙ ap doubled (printed_is_read L s d i)
  form_is_read c (range_sheet d i) = range_printed_is_read c i

  pub refused_form_is_read : (n p : ℕ) → EitherRefused L s n p → read_either L s ≡ refused (record { number = n; place = p })
  refused_form_is_read n p (as_plain m q none_named r) = by of_ranges_or_plain
    where
      by : NamesRanges L s ⊎ (¬ NamesRanges L s × (read_either L s ≡ doubled (read_sheet L s)))
          → read_either L s ≡ refused (record { number = n; place = p })
      by (inl k) = absurd (none_named k)
      by (inr e) = e.1 ∙ ap doubled (refused_only L s n p r)
  refused_form_is_read n p (for_a_range m q names r) = range_refused_only names n p r

  same_fault : (n p n' p' : ℕ) → ◌≡◌ {A = Fault} (record { number = n; place = p }) (record { number = n'; place = p' }) → (n ≡ n') × (p ≡ p')
  same_fault n p n' p' h = (ap (λ (f : Fault). f.number) h, ap (λ (f : Fault). f.place) h)

  pub read_is_form : (c : RangeContents) → read_either L s ≡ given c → EitherSheet L s c
  read_is_form c e = by of_ranges_or_plain
    where
      of_plain : (o : Outcome) → read_sheet L s ≡ o → doubled o ≡ given c → EitherSheet L s c
      of_plain (given d) q h = let k : doubled_contents d ≡ c = cc in rw (← k) (plain_sheet d (read_is_printed L s d q))
      of_plain (refused f) q h = let z : ◌≡◌ {A = ℕ} 0 1 = cc in absurd (omega arith)

      decided : (n : NamesRanges L s) → RangeDecided L s n → EitherSheet L s c
      decided n (accepted d i) =
          let h = sym e ∙ range_printed_is_read d i in
          let k : c ≡ d = cc in
          rw k (range_sheet d i)
      decided n (faulted r p x) = let h = sym e ∙ range_refused_only n r p x in let z : ◌≡◌ {A = ℕ} 0 1 = cc in absurd (omega arith)

      by : NamesRanges L s ⊎ (¬ NamesRanges L s × (read_either L s ≡ doubled (read_sheet L s))) → EitherSheet L s c
      by (inl n) = decided n (range_decided L s n)
      by (inr q) = of_plain (read_sheet L s) refl (sym q.1 ∙ e)

  pub read_is_refused_form : (n p : ℕ) → read_either L s ≡ refused (record { number = n; place = p }) → EitherRefused L s n p
  read_is_refused_form n p e = by of_ranges_or_plain
    where
      of_plain : ¬ NamesRanges L s → (o : Outcome) → read_sheet L s ≡ o → doubled o ≡ refused (record { number = n; place = p }) → EitherRefused L s n p
      of_plain w (given d) q h = let z : ◌≡◌ {A = ℕ} 0 1 = cc in absurd (omega arith)
      of_plain w (refused f) q h =
          let k : f ≡ record { number = n; place = p } = cc in
          as_plain n p w (refused_is_refused L s n p (q ∙ ap refused k))

      decided : (m : NamesRanges L s) → RangeDecided L s m → EitherRefused L s n p
      decided m (accepted d i) = let h = sym e ∙ range_printed_is_read d i in let z : ◌≡◌ {A = ℕ} 0 1 = cc in absurd (omega arith)
      decided m (faulted n' p' x) =
          let h = sym e ∙ range_refused_only m n' p' x in
          let q = same_fault n p n' p' (cc) in
          rw (q.0, q.1) (for_a_range n' p' m x)

      by : NamesRanges L s ⊎ (¬ NamesRanges L s × (read_either L s ≡ doubled (read_sheet L s))) → EitherRefused L s n p
      by (inl m) = decided m (range_decided L s m)
      by (inr q) = of_plain q.0 (read_sheet L s) refl (sym q.1 ∙ e)

  -- so a sheet is never both accepted and refused, and is refused with one report at one place
  pub never_both : (c : RangeContents) (n p : ℕ) → EitherSheet L s c → ¬ EitherRefused L s n p
  never_both c n p i r = let e = sym (form_is_read c i) ∙ refused_form_is_read n p r in let z : ◌≡◌ {A = ℕ} 0 1 = cc in omega arith

  pub one_report : (n p n' p' : ℕ) → EitherRefused L s n p → EitherRefused L s n' p' → (n ≡ n') × (p ≡ p')
  one_report n p n' p' r r' =
      let e = sym (refused_form_is_read n p r) ∙ refused_form_is_read n' p' r' in
      same_fault n p n' p' (cc)

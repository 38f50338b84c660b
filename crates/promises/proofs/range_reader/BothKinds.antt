-- The reader's contract with the laws of its meaning: its answer and lists are those of the meaning, which by the second reading is what the bytes are
-- printed from, and by the front that both readers share is the plain reader's but for sheets of ranges.
use Prim.Native.Nat.{ℕ, ◌*◌, ◌<◌}
use Rattle.std.specs.Prelude.{Result, Ok, Err}
use Rattle.meanings.specs.declared.Counts.{Counts}
use Rattle.meanings.specs.declared.ranges.RangeCounts.{RangeCounts}
use Rattle.meanings.specs.declared.Refusal.{Refusal}
use Rattle.meanings.specs.Calls.{answer_of}
use mathlib.Core.Path.{◌≡◌, refl, sym, ap, subst, ◌∙◌}
use mathlib.Core.Bool.{Bool, true, false, true≢false, not, ◌||◌}
use mathlib.Core.Logic.{◌⊎◌, inl, inr}
use mathlib.Core.List.{List, [], ◌∷◌, ◌++◌}
use Rattle.std.specs.Prelude.{Option, None, Some}
use native.Mathlib.Omega.{arith}
use lib.Dec.{eqb}
use lib.ListN.{length, get_or, take, drop}
use lib.Seq.{take-append_seam}
use Rattle.meanings.specs.Limits.{full, row_width}
use Rattle.meanings.specs.Moves.{moves}
use Rattle.meanings.specs.Reports.{Fault, Answer, given, refused, Check, at, first_of, differ}
use Rattle.meanings.specs.Reports as reports
use Rattle.meanings.specs.Running.{fresh, passes}
use Rattle.meanings.specs.SheetForm.{without_endings, Each}
use Rattle.meanings.specs.Claim.{refusal}
use Rattle.meanings.specs.Output.{program}
use Rattle.meanings.specs.Sheet.{Outcome, or_next, read_sheet}
use Rattle.meanings.specs.Calls.{counts, read, read_minutes, read_values, read_evaluation_points, read_bandwidths}
use Rattle.meanings.specs.Codes.{answered, no_detail}
use Rattle.meanings.specs.Lists.{pick}
use Rattle.meanings.proofs.Checks.{differ_false, differ_same}
use Rattle.meanings.proofs.Codes.{Numbered}
use Rattle.exports.specs.Answers.{sized, stored}
use Rattle.laws.proofs.sheet.Printed.{printed_is_read}
use Rattle.text.specs.Table.{stored_row}
use Rattle.meanings.specs.declared.ranges.Kind.{Kind}
use Rattle.meanings.specs.declared.ranges.Kind.TheVariants.{Plain, Ranges}
use Rattle.meanings.specs.ranges.Ranges.{range_row_width, smooth_ranges}
use Rattle.meanings.specs.ranges.RangeSheet.{RangeInjection, RangeContents, read_either}
use Rattle.meanings.specs.ranges.EitherKind.{doubled_contents, doubled}
use Rattle.meanings.specs.ranges.RangeCalls.{read_range_checks, range_counts, range_front, minutes_of, lows_of, highs_of}
use Rattle.meanings.specs.ranges.RangeCalls.{points_of, bandwidths_of}
use Rattle.meanings.specs.ranges.RangeCalls as calls
use Rattle.meanings.specs.ranges.RangeOutput.{plain_contents, either_program}
use Rattle.meanings.proofs.RangesCases.{sheet_cases_hold}
use Rattle.laws.proofs.ranges.RangesSwept.{accepted_ranges, accepted_sheet_has_passes}
use Rattle.laws.proofs.ranges.RangeText.{plain_text_stays}
use Rattle.laws.specs.ranges.RangeForm.{NamesRanges, IsRangeSheet, EitherSheet, plain_sheet, range_sheet, EitherRefused, low_sheet, EqualEnds}
use Rattle.laws.specs.ranges.RangeForm.{RangeFault, malformed_range, faulty_range, as_plain, for_a_range}
use Rattle.laws.proofs.ranges.NamedFronts.{named_refused}
use Rattle.laws.proofs.ranges.EitherForms.{of_ranges_or_plain, form_is_read, read_is_form, read_is_refused_form, never_both, one_report}
use Rattle.laws.proofs.ranges.LowSheets.{low_sheet_is_sheet, equal_ends}
use Rattle.sheet.proofs.range_reader.read_ranges.Met as read_met
use Rattle.exports.specs.KindNumbers.{kind_number, range_count_numbers}
use Rattle.exports.proofs.range_reader.tankcurve_read_ranges.Met as exported_met
use Rattle.promises.specs.Calls.{SmoothCall, ReadCall}
use Rattle.promises.specs.conditions.Conditions.{Conditions, FirstOrElse, RefusedExactly, length_first, code_refusal}
use Rattle.promises.proofs.conditions.FirstFaults.{FindAll, first_found, none_found, one_first, none_or_first, exactly, at_finds}
use Rattle.promises.proofs.conditions.Refusals.{accepted_given, length_check, length_first_finds, numbered, first_numbered, sheet_numbered}
use Rattle.promises.proofs.conditions.Refusals.{exported_refusal, exported_stays, stored_stays, sized_opens}
use Rattle.promises.specs.ranges.OverRanges.{RangesCall, stored_range_row, twice}
use Rattle.promises.proofs.ranges.OverRanges.{over_ranges, coded}
use Rattle.promises.specs.range_reader.BothKinds.{ReadRangesCall, Roomy, read_range_conditions, FilledIn, plain_counts, ReadAlike, RefusedThere}
use Rattle.promises.specs.range_reader.BothKinds.{ExportedReadRanges, ReadAsPlain}
use Rattle.promises.specs.range_reader.BothKinds.{EveryReaderTaken, BothKinds}

-- ---- the five lists
module _ (ts ls us zs hs : List ℕ) where
  -- lists of their lengths are not refused
  roomy_free : Roomy ts ls us zs hs → first_of (read_range_checks full (length ts) (length ls) (length us) (length zs) (length hs)) ≡ None
  roomy_free r =
      rw (
        differ_same (length ts) full.samples r.minutes,
        differ_same (length ls) full.samples r.lows,
        differ_same (length us) full.samples r.highs,
        differ_same (length zs) full.points r.points,
        differ_same (length hs) full.points r.bandwidths,
      )

  roomy_if_even : (a b c d e : Bool) → differ (length ts) full.samples ≡ a → differ (length ls) full.samples ≡ b
      → differ (length us) full.samples ≡ c → differ (length zs) full.points ≡ d → differ (length hs) full.points ≡ e
      → (a || b || c || d || e) ≡ false → Roomy ts ls us zs hs
  roomy_if_even false false false false false p q r s t f = record {
    minutes = differ_false _ _ p;
    lows = differ_false _ _ q;
    highs = differ_false _ _ r;
    points = differ_false _ _ s;
    bandwidths = differ_false _ _ t;
  }
  roomy_if_even true b c d e p q r s t f = absurd (true≢false f)
  roomy_if_even false true c d e p q r s t f = absurd (true≢false f)
  roomy_if_even false false true d e p q r s t f = absurd (true≢false f)
  roomy_if_even false false false true e p q r s t f = absurd (true≢false f)
  roomy_if_even false false false false true p q r s t f = absurd (true≢false f)

  finds : FindAll (read_range_checks full (length ts) (length ls) (length us) (length zs) (length hs)) (read_range_conditions ts ls us zs hs)
  finds = record { each = (at_finds 8 _ (¬ Roomy ts ls us zs hs) holds fails, tt) }
    where
      holds :
          (differ (length ts) 1024 || differ (length ls) 1024 || differ (length us) 1024 || differ (length zs) 512 || differ (length hs) 512) ≡ true
          → ¬ Roomy ts ls us zs hs
      holds e r = true≢false (sym e ∙ rw (
        differ_same (length ts) full.samples r.minutes,
        differ_same (length ls) full.samples r.lows,
        differ_same (length us) full.samples r.highs,
        differ_same (length zs) full.points r.points,
        differ_same (length hs) full.points r.bandwidths,
      ))

      fails :
          (differ (length ts) 1024 || differ (length ls) 1024 || differ (length us) 1024 || differ (length zs) 512 || differ (length hs) 512) ≡ false
          → ¬ (¬ Roomy ts ls us zs hs)
      fails e k = k (roomy_if_even _ _ _ _ _ refl refl refl refl refl e)

-- ---- what the reader makes of a sheet
module _ (s ts ls us zs hs : List ℕ) where
  abbrev outcome : Answer RangeContents
  outcome = calls.read_ranges full s ts ls us zs hs

  roomy_outcome : Roomy ts ls us zs hs → outcome ≡ read_either full s
  unfolding calls.read_ranges
  roomy_outcome r = ap (λ (o : Option Fault). or_next o (read_either full s)) (roomy_free ts ls us zs hs r)

  -- accepted, the lists have their lengths and the sheet is accepted
  given_either : (c : RangeContents) → outcome ≡ given c → read_either full s ≡ given c
  unfolding calls.read_ranges
  given_either c = by (first_of (read_range_checks full (length ts) (length ls) (length us) (length zs) (length hs)))
    where
      by : (o : Option Fault) → or_next o (read_either full s) ≡ given c → read_either full s ≡ given c
      by None q = q
      by (Some e) q = let z : ◌≡◌ {A = ℕ} 0 1 = cc in absurd (omega arith)

counts_refused : (o : Answer RangeContents) → refusal (range_counts o) ≡ refusal o
counts_refused (given c) = refl
counts_refused (refused e) = refl

front_stays : (o : Answer RangeContents) (part : RangeContents → List ℕ) (xs : List ℕ) (e : Fault) → refusal o ≡ Some e → range_front o part xs ≡ xs
front_stays (given c) part xs e q = let z : ◌≡◌ {A = ℕ} 0 1 = cc in absurd (omega arith)
front_stays (refused f) part xs e q = refl

-- every report of a sheet has a number that an exported answer can tell
fault_numbered : {js : List RangeInjection} {j : RangeInjection} (n : ℕ) → RangeFault full js j n → Numbered n
fault_numbered n (RangeFault.out_of_order before j₀ e l) = (omega arith, omega arith)
fault_numbered n (RangeFault.crossed o l) = (omega arith, omega arith)
fault_numbered n (RangeFault.too_many o u k l) = (omega arith, omega arith)

form_numbered : (s : List ℕ) (n p : ℕ) → EitherRefused full s n p → Numbered n
form_numbered s n p (as_plain m q w r) = sheet_numbered s n p r
form_numbered s n p (for_a_range m q w (malformed_range js f b rest e k)) = (omega arith, omega arith)
form_numbered s n p (for_a_range m q w (faulty_range js f j k b x)) = fault_numbered n x

first_or_else_numbered : (cs : Conditions) → numbered cs ≡ true → (s : List ℕ) (n p : ℕ) → FirstOrElse cs (EitherRefused full s) n p → Numbered n
first_or_else_numbered cs a s n p (inl f) = first_numbered cs a n p f
first_or_else_numbered cs a s n p (inr f) = form_numbered s n p f.1

-- what the reader makes of a sheet, after the checks ks
module _ {ks : List Check} {cs : Conditions} (found_all : FindAll ks cs) (s : List ℕ) where
  sheet_exactly : RefusedExactly (refusal (or_next (first_of ks) (read_either full s))) (FirstOrElse cs (EitherRefused full s))
  sheet_exactly =
      exactly _ (FirstOrElse cs (EitherRefused full s)) (found (first_of ks) refl (read_either full s) refl)
      (absent (first_of ks) refl (read_either full s) refl) one
    where
      found : (f : Option Fault) → first_of ks ≡ f → (o : Answer RangeContents) → read_either full s ≡ o → (n p : ℕ)
          → refusal (or_next f o) ≡ Some (record { number = n; place = p }) → FirstOrElse cs (EitherRefused full s) n p
      found None q (given c) r n p e = let z : ◌≡◌ {A = ℕ} 0 1 = cc in absurd (omega arith)
      found None q (refused g) r n p e =
          let same : g ≡ record { number = n; place = p } = cc in
          inr (none_found ks cs found_all.each q, read_is_refused_form full s n p (r ∙ ap refused same))
      found (Some g) q o r n p e = inl (first_found ks cs found_all.each n p (q ∙ e))

      absent : (f : Option Fault) → first_of ks ≡ f → (o : Answer RangeContents) → read_either full s ≡ o → refusal (or_next f o) ≡ None → (n p : ℕ)
          → ¬ FirstOrElse cs (EitherRefused full s) n p
      absent None q (given c) r e n p (inl a) = none_or_first cs n p (none_found ks cs found_all.each q) a
      absent None q (given c) r e n p (inr b) = never_both full s c n p (read_is_form full s c r) b.1
      absent None q (refused g) r e n p a = let z : ◌≡◌ {A = ℕ} 0 1 = cc in omega arith
      absent (Some g) q o r e n p a = let z : ◌≡◌ {A = ℕ} 0 1 = cc in omega arith

      one : (n p m q : ℕ) → FirstOrElse cs (EitherRefused full s) n p → FirstOrElse cs (EitherRefused full s) m q → (n ≡ m) × (p ≡ q)
      one n p m q (inl a) (inl b) = one_first cs n p m q a b
      one n p m q (inl a) (inr b) = absurd (none_or_first cs n p b.0 a)
      one n p m q (inr a) (inl b) = absurd (none_or_first cs m q a.0 b)
      one n p m q (inr a) (inr b) = one_report full s n p m q a.1 b.1

-- behind a list of n counts
sized_is_checked : {A : Type 0} (n : ℕ) (xs : List ℕ) (ks : List Check) (o : Answer A)
    → sized n xs (or_next (first_of ks) o) ≡ or_next (first_of (length_check n xs ∷ ks)) o
unfolding sized
sized_is_checked {A} n xs ks o = by (eqb (length xs) n)
  where
    by : (b : Bool) → pick b (or_next (first_of ks) o) (refused (record { number = 8; place = 0 })) ≡ or_next (first_of (reports.check 8 (at 0 (not b)) ∷ ks)) o
    by true = refl
    by false = refl

module _ (s ts ls us zs hs : List ℕ) where
  read_exactly : RefusedExactly (refusal (calls.read_ranges full s ts ls us zs hs)) (FirstOrElse (read_range_conditions ts ls us zs hs) (EitherRefused full s))
  unfolding calls.read_ranges
  read_exactly = sheet_exactly (finds ts ls us zs hs) s

  exported_exactly : (ns : List ℕ) → RefusedExactly (refusal (range_counts (sized 3 ns (calls.read_ranges full s ts ls us zs hs))))
      (FirstOrElse (length_first 3 ns (read_range_conditions ts ls us zs hs)) (EitherRefused full s))
  unfolding calls.read_ranges
  exported_exactly ns =
      let ks = read_range_checks full (length ts) (length ls) (length us) (length zs) (length hs) in
      subst (λ (o : Option Fault). RefusedExactly o (FirstOrElse (length_first 3 ns (read_range_conditions ts ls us zs hs)) (EitherRefused full s)))
      (sym
      (counts_refused (sized 3 ns (or_next (first_of ks) (read_either full s))) ∙ ap refusal (sized_is_checked 3 ns ks (read_either full s))))
      (sheet_exactly (length_first_finds 3 ns (finds ts ls us zs hs)) s)

  exported_coded : (ns : List ℕ) (a : ℕ) → a ≡ answered no_detail (range_counts (sized 3 ns (calls.read_ranges full s ts ls us zs hs)))
      → code_refusal a ≡ refusal (range_counts (sized 3 ns (calls.read_ranges full s ts ls us zs hs)))
  exported_coded ns a q =
      exported_refusal no_detail (range_counts (sized 3 ns (calls.read_ranges full s ts ls us zs hs))) a _ q
      (first_or_else_numbered (length_first 3 ns (read_range_conditions ts ls us zs hs)) refl s) (exported_exactly ns)

-- the front of a list
front_taken : (xs ys zs : List ℕ) (n : ℕ) → zs ≡ xs ++ ys → length xs ≡ n → take n zs ≡ xs
front_taken xs ys zs n e l = ap (take n) e ∙ ap (λ (i : ℕ). take i (xs ++ ys)) (sym l) ∙ take-append_seam xs ys

-- ---- an accepted sheet's lists c, and the lent lists with n readings and m marks of them in front
module _ (s ts ls us zs hs : List ℕ) (n m : ℕ) (ts' ls' us' zs' hs' : List ℕ) (c : RangeContents) (r : read_either full s ≡ given c) where
  filled_from : length c.minutes ≡ n → length c.points ≡ m → ts' ≡ range_front (given c) minutes_of ts → ls' ≡ range_front (given c) lows_of ls
      → us' ≡ range_front (given c) highs_of us → zs' ≡ range_front (given c) points_of zs → hs' ≡ range_front (given c) bandwidths_of hs
      → FilledIn c n m ts ls us zs hs ts' ls' us' zs' hs'
  filled_from kept marks t l u z h =
      let w = accepted_ranges full s c r in
      let lows : length c.lows ≡ n = sym w.even_lows ∙ kept in
      let highs : length c.highs ≡ n = sym w.even_highs ∙ kept in
      let widths : length c.bandwidths ≡ m = sym w.marks.even ∙ marks in
      record {
        samples = kept;
        lows_count = lows;
        highs_count = highs;
        marks = marks;
        bandwidths_count = widths;
        minutes = t ∙ ap (λ (i : ℕ). c.minutes ++ drop i ts) kept;
        lows = l ∙ ap (λ (i : ℕ). c.lows ++ drop i ls) lows;
        highs = u ∙ ap (λ (i : ℕ). c.highs ++ drop i us) highs;
        points = z ∙ ap (λ (i : ℕ). c.points ++ drop i zs) marks;
        bandwidths = h ∙ ap (λ (i : ℕ). c.bandwidths ++ drop i hs) widths;
      }

  module _ (filled : FilledIn c n m ts ls us zs hs ts' ls' us' zs' hs') where
    minutes_taken : take n ts' ≡ c.minutes
    minutes_taken = front_taken _ _ ts' n filled.minutes filled.samples

    lows_taken : take n ls' ≡ c.lows
    lows_taken = front_taken _ _ ls' n filled.lows filled.lows_count

    highs_taken : take n us' ≡ c.highs
    highs_taken = front_taken _ _ us' n filled.highs filled.highs_count

    points_taken : take m zs' ≡ c.points
    points_taken = front_taken _ _ zs' m filled.points filled.marks

    bandwidths_taken : take m hs' ≡ c.bandwidths
    bandwidths_taken = front_taken _ _ hs' m filled.bandwidths filled.bandwidths_count

    -- as many marks as were told
    points_count : length (take m zs') ≡ m
    points_count = ap length points_taken ∙ filled.marks

    -- the sweep over the lists' fronts accepts
    swept : (rs : List ℕ) → length rs ≡ range_row_width * m
        → smooth_ranges full (take n ts') (take n ls') (take n us') (take m zs') (take m hs') rs
        ≡ given (passes c.minutes c.lows fresh (moves c.points c.bandwidths))
    swept rs seven =
        rw (minutes_taken, lows_taken, highs_taken, points_taken, bandwidths_taken)
        (accepted_sheet_has_passes s c r rs (seven ∙ ap (λ (i : ℕ). range_row_width * i) (sym filled.marks)))

    answer_swept : (rs : List ℕ) (a : Result ℕ Refusal) (rs' : List ℕ) → length rs ≡ range_row_width * m
        → RangesCall (take n ts') (take n ls') (take n us') (take m zs') (take m hs') rs a rs' → (q : ℕ) × (a ≡ Ok q)
    answer_swept rs a rs' seven x = opened a (x.ensured.0 ∙ swept rs seven)
      where
        opened : (a : Result ℕ Refusal) {p : ℕ} → answer_of a ≡ given p → (q : ℕ) × (a ≡ Ok q)
        opened (Ok q) e = (q, refl)
        opened (Err r) e = let z : ◌≡◌ {A = ℕ} 0 1 = cc in absurd (omega arith)

    -- where lows are highs the rows stand doubled
    doubled_rows : (rs : List ℕ) (a : Result ℕ Refusal) (rs' rs₀ : List ℕ) (b : Result ℕ Refusal) (rs₀' : List ℕ) → take n ls' ≡ take n us'
        → length rs ≡ range_row_width * m → length rs₀ ≡ row_width * m
        → RangesCall (take n ts') (take n ls') (take n us') (take m zs') (take m hs') rs a rs'
        → SmoothCall (take n ts') (take n ls') (take m zs') (take m hs') rs₀ b rs₀' → (i : ℕ) → i < m
        → stored_range_row rs' i ≡ twice (stored_row rs₀' i)
    doubled_rows rs a rs' rs₀ b rs₀' e seven five x d i l =
        let o = answer_swept rs a rs' seven x in
        let passed = subst (λ (a : Result ℕ Refusal). RangesCall (take n ts') (take n ls') (take n us') (take m zs') (take m hs') rs a rs') o.1 x in
        let same = subst (λ (v : List ℕ). RangesCall (take n ts') (take n ls') v (take m zs') (take m hs') rs (Ok o.0) rs') (sym e) passed in
        over_ranges.rows_doubled (take n ts') (take n ls') (take m zs') (take m hs') rs o.0 rs' rs₀ b rs₀'
        (five ∙ ap (λ (i : ℕ). row_width * i) (sym points_count)) same d i (rw points_count l)

-- ---- an accepted call
taken : (s ts ls us zs hs : List ℕ) (n m : ℕ) (k : Kind) (ts' ls' us' zs' hs' : List ℕ)
    → ReadRangesCall s ts ls us zs hs (Ok (record { samples = n; points = m; kind = k })) ts' ls' us' zs' hs'
    → (c : RangeContents) × ((read_either full s ≡ given c) × ((c.kind ≡ k) × FilledIn c n m ts ls us zs hs ts' ls' us' zs' hs'))
taken s ts ls us zs hs n m k ts' ls' us' zs' hs' x =
    by (calls.read_ranges full s ts ls us zs hs) refl x.ensured.0 x.ensured.1.0 x.ensured.1.1.0 x.ensured.1.1.1.0
    x.ensured.1.1.1.1.0 x.ensured.1.1.1.1.1
  where
    by : (o : Answer RangeContents) → calls.read_ranges full s ts ls us zs hs ≡ o
        → answer_of (Ok (record { samples = n; points = m; kind = k })) ≡ range_counts o
        → ts' ≡ range_front o minutes_of ts → ls' ≡ range_front o lows_of ls → us' ≡ range_front o highs_of us → zs' ≡ range_front o points_of zs
        → hs' ≡ range_front o bandwidths_of hs
        → (c : RangeContents) × ((read_either full s ≡ given c) × ((c.kind ≡ k) × FilledIn c n m ts ls us zs hs ts' ls' us' zs' hs'))
    by (refused f) e q t l u z h = let z : ◌≡◌ {A = ℕ} 0 1 = cc in absurd (omega arith)
    by (given c) e q t l u z h =
        let r = given_either s ts ls us zs hs c e in
        let same : ◌≡◌ {A = RangeCounts} (record { samples = n; points = m; kind = k })
        (record { samples = length c.minutes; points = length c.points; kind = c.kind }) = cc in
        let kept : length c.minutes ≡ n = sym (ap (λ (a : RangeCounts). a.samples) same) in
        let marks : length c.points ≡ m = sym (ap (λ (a : RangeCounts). a.points) same) in
        (c, (r, (sym (ap (λ (a : RangeCounts). a.kind) same), filled_from s ts ls us zs hs n m ts' ls' us' zs' hs' c r kept marks t l u z h)))

-- and one of the exported call
exported_taken : (s ts ls us zs hs ns : List ℕ) (a : ℕ) (ts' ls' us' zs' hs' ns' : List ℕ)
    → ExportedReadRanges s ts ls us zs hs ns a ts' ls' us' zs' hs' ns' → code_refusal a ≡ None
    → (c : RangeContents)
    × ((read_either full s ≡ given c) × ((a ≡ 0) × ((ns' ≡ length c.minutes ∷ length c.points ∷ kind_number c.kind ∷ [])
    × FilledIn c (length c.minutes) (length c.points) ts ls us zs hs ts' ls' us' zs' hs')))
exported_taken s ts ls us zs hs ns a ts' ls' us' zs' hs' ns' x e =
    let o = sized 3 ns (calls.read_ranges full s ts ls us zs hs) in
    let accepted : refusal o ≡ None = sym (counts_refused o) ∙ sym (exported_coded s ts ls us zs hs ns a x.ensured.0) ∙ e in
    let g = accepted_given o accepted in
    let c = g.0 in
    let q : o ≡ given c = g.1 in
    let r = given_either s ts ls us zs hs c (sym (sized_opens 3 ns (calls.read_ranges full s ts ls us zs hs) accepted) ∙ q) in (
      c,
      (
        r,
        (
          x.ensured.0 ∙ ap (λ (t : Answer RangeContents). answered no_detail (range_counts t)) q,
          (
            x.ensured.1.1.1.1.1.1 ∙ ap (λ (t : Answer RangeContents). stored range_count_numbers (range_counts t) ns) q,
            filled_from s ts ls us zs hs (length c.minutes) (length c.points) ts' ls' us' zs' hs' c r refl refl
                (x.ensured.1.0 ∙ ap (λ (t : Answer RangeContents). range_front t minutes_of ts) q)
                (x.ensured.1.1.0 ∙ ap (λ (t : Answer RangeContents). range_front t lows_of ls) q)
                (x.ensured.1.1.1.0 ∙ ap (λ (t : Answer RangeContents). range_front t highs_of us) q)
                (x.ensured.1.1.1.1.0 ∙ ap (λ (t : Answer RangeContents). range_front t points_of zs) q)
                (x.ensured.1.1.1.1.1.0 ∙ ap (λ (t : Answer RangeContents). range_front t bandwidths_of hs) q),
          ),
        ),
      ),
    )

-- the lists of a plain sheet
plain_ends : (s : List ℕ) (c : RangeContents) → EitherSheet full s c → c.kind ≡ Plain → c.lows ≡ c.highs
plain_ends s c (plain_sheet d i) q = refl
plain_ends s c (range_sheet d i) q = let e : Ranges ≡ Plain = sym i.kind ∙ q in let z : ◌≡◌ {A = ℕ} 0 1 = cc in absurd (omega arith)

-- ---- both readers
plain_reads : (s ts ls us vs zs hs : List ℕ) → Roomy ts ls us zs hs → length vs ≡ full.samples → read full s ts vs zs hs ≡ read_sheet full s
unfolding read
plain_reads s ts ls us vs zs hs room even =
    rw (
      differ_same (length ts) full.samples room.minutes,
      differ_same (length vs) full.samples even,
      differ_same (length zs) full.points room.points,
      differ_same (length hs) full.points room.bandwidths,
    )

module _ (s ts ls us vs zs hs : List ℕ) (a : Result RangeCounts Refusal) (b : Result Counts Refusal) (ts' ls' us' zs' hs' ts'' vs'' zs'' hs'' : List ℕ)
    (room : Roomy ts ls us zs hs)
    (even : length vs ≡ full.samples) (x : ReadRangesCall s ts ls us zs hs a ts' ls' us' zs' hs') (y : ReadCall s ts vs zs hs b ts'' vs'' zs'' hs'') where
  plain_outcome : read full s ts vs zs hs ≡ read_sheet full s
  plain_outcome = plain_reads s ts ls us vs zs hs room even

  alike : read_either full s ≡ doubled (read_sheet full s) → ReadAlike a b ts' ls' us' zs' hs' ts'' vs'' zs'' hs''
  alike e =
      by (read_sheet full s) refl (roomy_outcome s ts ls us zs hs room ∙ e) plain_outcome
    where
      by : (o : Outcome) → read_sheet full s ≡ o → calls.read_ranges full s ts ls us zs hs ≡ doubled o → read full s ts vs zs hs ≡ o
          → ReadAlike a b ts' ls' us' zs' hs' ts'' vs'' zs'' hs''
      by (refused f) q h g =
          let answer_is : answer_of a ≡ refused f = x.ensured.0 ∙ ap range_counts h in
          let never : (n m : ℕ) (k : Kind) → ¬ (a ≡ Ok (record { samples = n; points = m; kind = k })) = λ n m k u. never_used n m k u answer_is in
          record {
            answers = answer_is ∙ sym (ap plain_counts (y.ensured.0 ∙ ap counts g));
            minutes = x.ensured.1.0 ∙ ap (λ (o : Answer RangeContents). range_front o minutes_of ts) h
                ∙ sym (y.ensured.1.0 ∙ ap (λ (o : Outcome). read_minutes o ts) g);
            points = x.ensured.1.1.1.1.0 ∙ ap (λ (o : Answer RangeContents). range_front o points_of zs) h
                ∙ sym (y.ensured.1.1.1.0 ∙ ap (λ (o : Outcome). read_evaluation_points o zs) g);
            bandwidths = x.ensured.1.1.1.1.1 ∙ ap (λ (o : Answer RangeContents). range_front o bandwidths_of hs) h
                ∙ sym (y.ensured.1.1.1.1 ∙ ap (λ (o : Outcome). read_bandwidths o hs) g);
            lows = λ n m k u. absurd (never n m k u);
            highs = λ n m k u. absurd (never n m k u);
          }
        where
          never_used : (n m : ℕ) (k : Kind) → a ≡ Ok (record { samples = n; points = m; kind = k }) → answer_of a ≡ refused f → ⊥
          never_used n m k u w =
              let q : answer_of (Ok (record { samples = n; points = m; kind = k })) ≡ refused f = rw u at w in
              let z : ◌≡◌ {A = ℕ} 0 1 = cc in omega arith
      by (given c) q h g =
          let answer_is : answer_of a ≡ range_counts (given (doubled_contents c)) = x.ensured.0 ∙ ap range_counts h in
          let values : vs'' ≡ c.values ++ drop (length c.values) vs = y.ensured.1.1.0 ∙ ap (λ (o : Outcome). read_values o vs) g in
          record {
            answers = answer_is ∙ sym (ap plain_counts (y.ensured.0 ∙ ap counts g));
            minutes = x.ensured.1.0 ∙ ap (λ (o : Answer RangeContents). range_front o minutes_of ts) h
                ∙ sym (y.ensured.1.0 ∙ ap (λ (o : Outcome). read_minutes o ts) g);
            points = x.ensured.1.1.1.1.0 ∙ ap (λ (o : Answer RangeContents). range_front o points_of zs) h
                ∙ sym (y.ensured.1.1.1.0 ∙ ap (λ (o : Outcome). read_evaluation_points o zs) g);
            bandwidths = x.ensured.1.1.1.1.1 ∙ ap (λ (o : Answer RangeContents). range_front o bandwidths_of hs) h
                ∙ sym (y.ensured.1.1.1.1 ∙ ap (λ (o : Outcome). read_bandwidths o hs) g);
            lows = λ n m k u.
                let l = values_count n m k u answer_is in
                front_taken c.values _ ls' n (x.ensured.1.1.0 ∙ ap (λ (o : Answer RangeContents). range_front o lows_of ls) h) l
                ∙ sym (front_taken c.values _ vs'' n values l);
            highs = λ n m k u.
                let l = values_count n m k u answer_is in
                front_taken c.values _ us' n (x.ensured.1.1.1.0 ∙ ap (λ (o : Answer RangeContents). range_front o highs_of us) h) l
                ∙ sym (front_taken c.values _ vs'' n values l);
          }
        where
          values_count : (n m : ℕ) (k : Kind) → a ≡ Ok (record { samples = n; points = m; kind = k }) → answer_of a ≡ range_counts (given (doubled_contents c))
              → length c.values ≡ n
          values_count n m k u w =
              let r : answer_of (Ok (record { samples = n; points = m; kind = k })) ≡ range_counts (given (doubled_contents c)) = rw u at w in
              let same : ◌≡◌ {A = RangeCounts} (record { samples = n; points = m; kind = k })
              (record { samples = length c.minutes; points = length c.points; kind = Plain }) = cc in
              let fit = accepted_ranges full s (doubled_contents c) (e ∙ ap doubled q) in
              sym fit.even_lows ∙ sym (ap (λ (a : RangeCounts). a.samples) same)

  either_way : NamesRanges full s ⊎ (¬ NamesRanges full s × (read_either full s ≡ doubled (read_sheet full s)))
      → (¬ NamesRanges full s × ReadAlike a b ts' ls' us' zs' hs' ts'' vs'' zs'' hs'') ⊎ RefusedThere s b
  either_way (inl n) =
      inr
      (record { names = n; with_two = ap refusal (y.ensured.0 ∙ ap counts (plain_outcome ∙ named_refused full s n)) })
  either_way (inr e) = inl (e.0, alike e.1)

-- the plain sheet of a sheet whose ranges are one value each
module _ (s : List ℕ) (c : RangeContents) (i : IsRangeSheet full s c) (ts ls us vs zs hs : List ℕ) (n m : ℕ) (k : Kind) (ts' ls' us' zs' hs' : List ℕ)
    (room : Roomy ts ls us zs hs) (even : length vs ≡ full.samples) (ends : Each EqualEnds (without_endings i.range_lines))
    (x : ReadRangesCall s ts ls us zs hs (Ok (record { samples = n; points = m; kind = k })) ts' ls' us' zs' hs') where
  filled_so : FilledIn c n m ts ls us zs hs ts' ls' us' zs' hs'
  filled_so =
      let t = taken s ts ls us zs hs n m k ts' ls' us' zs' hs' x in
      let both = sym t.1.0 ∙ form_is_read full s c (range_sheet c i) in
      let same : t.0 ≡ c = cc in
      subst (λ (c : RangeContents). FilledIn c n m ts ls us zs hs ts' ls' us' zs' hs') same t.1.1.1

  read_as_plain : (b : Result Counts Refusal) (ts'' vs'' zs'' hs'' : List ℕ) → ReadCall (low_sheet i.front i.range_lines) ts vs zs hs b ts'' vs'' zs'' hs''
      → ReadAsPlain n m b ts' ls' us' zs' hs' ts'' vs'' zs'' hs''
  read_as_plain b ts'' vs'' zs'' hs'' y =
      let f = filled_so in
      let r : read full (low_sheet i.front i.range_lines) ts vs zs hs ≡ given (plain_contents c) =
      plain_reads (low_sheet i.front i.range_lines) ts ls us vs zs hs room even
      ∙ printed_is_read full (low_sheet i.front i.range_lines) (plain_contents c) (low_sheet_is_sheet full s c i) in
      let values : take n vs'' ≡ c.lows =
      front_taken c.lows _ vs'' n (y.ensured.1.1.0 ∙ ap (λ (o : Outcome). read_values o vs) r) f.lows_count in
      record {
        answer = y.ensured.0 ∙ ap counts r ∙ (λ t. given (record { samples = f.samples t; points = f.marks t }));
        minutes = y.ensured.1.0 ∙ ap (λ (o : Outcome). read_minutes o ts) r ∙ ap (λ (j : ℕ). c.minutes ++ drop j ts) f.samples ∙ sym f.minutes;
        lows = values ∙ sym (front_taken c.lows _ ls' n f.lows f.lows_count);
        highs = values ∙ equal_ends full s c i ends ∙ sym (front_taken c.highs _ us' n f.highs f.highs_count);
        points = y.ensured.1.1.1.0 ∙ ap (λ (o : Outcome). read_evaluation_points o zs) r ∙ ap (λ (j : ℕ). c.points ++ drop j zs) f.marks
            ∙ sym f.points;
        bandwidths = y.ensured.1.1.1.1 ∙ ap (λ (o : Outcome). read_bandwidths o hs) r
            ∙ ap (λ (j : ℕ). c.bandwidths ++ drop j hs) f.bandwidths_count ∙ sym f.bandwidths;
      }

text_stays : (s : List ℕ) → ¬ NamesRanges full s → either_program s ≡ program s
text_stays s w = by (of_ranges_or_plain full s)
  where
    by : NamesRanges full s ⊎ (¬ NamesRanges full s × (read_either full s ≡ doubled (read_sheet full s))) → either_program s ≡ program s
    by (inl n) = absurd (w n)
    by (inr e) = plain_text_stays s e.1

-- three counts that are these
counted : (c : RangeContents) (n m k : ℕ) → n ∷ m ∷ k ∷ [] ≡ length c.minutes ∷ length c.points ∷ kind_number c.kind ∷ []
    → (n ≡ length c.minutes) × (m ≡ length c.points)
counted c n m k e = (ap (λ (xs : List ℕ). get_or xs 0 0) e, ap (λ (xs : List ℕ). get_or xs 1 0) e)

pub reader_taken : EveryReaderTaken
reader_taken = record {
  ends = read_met.met;
  asks_nothing = λ κs a. tt;
  exported_ends = exported_met.met;
  exported_asks_nothing = λ κs a. tt;
}

pub both_kinds : BothKinds
both_kinds = record {
  refused = λ s ts ls us zs hs a ts' ls' us' zs' hs' x.
      let o = calls.read_ranges full s ts ls us zs hs in
      let same : refusal (answer_of a) ≡ refusal o = ap refusal x.ensured.0 ∙ counts_refused o in
      record {
        exactly = rw same (read_exactly s ts ls us zs hs);
        stays = λ e q.
            let r = sym same ∙ q in (
              x.ensured.1.0 ∙ front_stays o _ ts e r,
              x.ensured.1.1.0 ∙ front_stays o _ ls e r,
              x.ensured.1.1.1.0 ∙ front_stays o _ us e r,
              x.ensured.1.1.1.1.0 ∙ front_stays o _ zs e r,
              x.ensured.1.1.1.1.1 ∙ front_stays o _ hs e r,
            );
      };
  exported_refused = λ s ts ls us zs hs ns a ts' ls' us' zs' hs' ns' x.
      let o = sized 3 ns (calls.read_ranges full s ts ls us zs hs) in
      exported_stays (range_counts o) a _ (exported_coded s ts ls us zs hs ns a x.ensured.0) (exported_exactly s ts ls us zs hs ns)
      ((ts' ≡ ts) × (ls' ≡ ls) × (us' ≡ us) × (zs' ≡ zs) × (hs' ≡ hs) × (ns' ≡ ns))
      (λ e q.
      let r = sym (counts_refused o) ∙ q in (
        x.ensured.1.0 ∙ front_stays o _ ts e r,
        x.ensured.1.1.0 ∙ front_stays o _ ls e r,
        x.ensured.1.1.1.0 ∙ front_stays o _ us e r,
        x.ensured.1.1.1.1.0 ∙ front_stays o _ zs e r,
        x.ensured.1.1.1.1.1.0 ∙ front_stays o _ hs e r,
        x.ensured.1.1.1.1.1.1 ∙ stored_stays range_count_numbers (range_counts o) ns e q,
      ));
  accepted = λ s ts ls us zs hs n m k ts' ls' us' zs' hs' x.
      let c = taken s ts ls us zs hs n m k ts' ls' us' zs' hs' x in
      (c.0, (read_is_form full s c.0 c.1.0, c.1.1));
  exported_accepted = λ s ts ls us zs hs ns a ts' ls' us' zs' hs' ns' x e.
      let c = exported_taken s ts ls us zs hs ns a ts' ls' us' zs' hs' ns' x e in
      (c.0, (read_is_form full s c.0 c.1.0, c.1.1));
  both_readers = λ s ts ls us vs zs hs a b ts' ls' us' zs' hs' ts'' vs'' zs'' hs'' room even x y.
      either_way s ts ls us vs zs hs a b ts' ls' us' zs' hs' ts'' vs'' zs'' hs'' room even x y (of_ranges_or_plain full s);
  same_text = text_stays;
  accepted_is_swept = λ s ts ls us zs hs n m k ts' ls' us' zs' hs' rs a rs' x.
      let c = taken s ts ls us zs hs n m k ts' ls' us' zs' hs' x in
      answer_swept s ts ls us zs hs n m ts' ls' us' zs' hs' c.0 c.1.0 c.1.1.1 rs a rs';
  exported_accepted_is_swept = λ s ts ls us zs hs ns n m k a ts' ls' us' zs' hs' rs b rs' x e seven y.
      let c = exported_taken s ts ls us zs hs ns a ts' ls' us' zs' hs' (n ∷ m ∷ k ∷ []) x e in
      let f = counted c.0 n m k c.1.1.1.0 in
      let filled = subst (λ (i : ℕ). FilledIn c.0 i m ts ls us zs hs ts' ls' us' zs' hs') (sym f.0)
      (subst (λ (i : ℕ). FilledIn c.0 (length c.0.minutes) i ts ls us zs hs ts' ls' us' zs' hs') (sym f.1) c.1.1.1.1) in
      coded _ _ _ _ _ rs b y.ensured.0 ∙ ap refusal (swept s ts ls us zs hs n m ts' ls' us' zs' hs' c.0 c.1.0 filled rs seven);
  plain_ends_equal = λ s ts ls us zs hs n m ts' ls' us' zs' hs' x.
      let c = taken s ts ls us zs hs n m Plain ts' ls' us' zs' hs' x in
      lows_taken s ts ls us zs hs n m ts' ls' us' zs' hs' c.0 c.1.0 c.1.1.1
      ∙ plain_ends s c.0 (read_is_form full s c.0 c.1.0) c.1.1.0
      ∙ sym (highs_taken s ts ls us zs hs n m ts' ls' us' zs' hs' c.0 c.1.0 c.1.1.1);
  rows_doubled = λ s ts ls us zs hs n m k ts' ls' us' zs' hs' rs a rs' rs₀ b rs₀' x.
      let c = taken s ts ls us zs hs n m k ts' ls' us' zs' hs' x in
      doubled_rows s ts ls us zs hs n m ts' ls' us' zs' hs' c.0 c.1.0 c.1.1.1 rs a rs' rs₀ b rs₀';
  equal_ends_as_plain = λ s c i ts ls us vs zs hs n m k ts' ls' us' zs' hs' b ts'' vs'' zs'' hs'' room even ends x.
      read_as_plain s c i ts ls us vs zs hs n m k ts' ls' us' zs' hs' room even ends x b ts'' vs'' zs'' hs'';
  cases = sheet_cases_hold;
}

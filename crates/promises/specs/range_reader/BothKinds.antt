-- What is promised of the reader of both kinds of sheet, of the call as a caller has it, beside the reader of plain sheets and before the sweep over
-- ranges. SPECIFICATION, "Ranges". s is a sheet, ts minutes, ls and us the lowest and the highest values, vs values, zs marks, hs half widths, rs rows;
-- a list at exit has a prime. Which sheets are accepted and refused stands in RangeForm.antt of crates/laws.
use Rattle.std.specs.Prelude.{ℕ, ◌*◌, ◌<◌, ◌≡◌, ◌⊎◌, List, [], ◌∷◌, map, ◌++◌, length, take, drop}
use Rattle.std.specs.Prelude.{Result, Ok}
use Rattle.meanings.specs.declared.Counts.{Counts}
use Rattle.meanings.specs.declared.ranges.RangeCounts.{RangeCounts}
use Rattle.meanings.specs.declared.Refusal.{Refusal}
use Rattle.meanings.specs.Calls.{answer_of}
use Rattle.std.specs.Prelude.{None, Some}
use contract.Lifetimes.{Lfts}
use borrow.Fn.Kinds.{Dens}
use Rattle.meanings.specs.Limits.{full, row_width}
use Rattle.meanings.specs.Reports.{Answer, given, refused}
use Rattle.meanings.specs.SheetForm.{without_endings, empty_front, Each}
use Rattle.meanings.specs.Output.{program}
use Rattle.meanings.specs.Claim.{refusal}
use Rattle.text.specs.Table.{stored_row}
use Rattle.meanings.specs.declared.ranges.Kind.{Kind}
use Rattle.meanings.specs.declared.ranges.Kind.TheVariants.{Plain}
use Rattle.meanings.specs.ranges.Ranges.{range_row_width}
use Rattle.meanings.specs.ranges.RangeSheet.{RangeContents}
use Rattle.meanings.specs.ranges.RangeOutput.{either_program}
use Rattle.meanings.specs.ranges.SheetCases.{SheetCase, sheet_result, sheet_cases}
use Rattle.laws.specs.ranges.RangeForm.{NamesRanges, IsRangeSheet, EitherSheet, EitherRefused, low_sheet, EqualEnds}
use Rattle.sheet.proofs.range_reader.read_ranges.Reads as read_ranges
use Rattle.sheet.proofs.range_reader.read_ranges.Kinds as read_ranges_kinds
use Rattle.sheet.proofs.range_reader.read_ranges.Statement as read_ranges_code
use Rattle.exports.specs.KindNumbers.{kind_number}
use Rattle.exports.proofs.range_reader.tankcurve_read_ranges.Reads as exported_read
use Rattle.exports.proofs.range_reader.tankcurve_read_ranges.Kinds as exported_read_kinds
use Rattle.exports.proofs.range_reader.tankcurve_read_ranges.Statement as exported_read_code
use Rattle.promises.specs.Calls.{Place, lent, lent_mut, SmoothCall, ReadCall}
use Rattle.promises.specs.conditions.Conditions.{Conditions, no_more, condition, FirstOrElse, AtZero, length_first, code_refusal}
use Rattle.promises.specs.Demands.{RefusedAndStays}
use Rattle.promises.specs.ranges.OverRanges.{RangesCall, ExportedRanges, stored_range_row, twice}

-- a call that was made
pub record ReadRangesCall (s ts ls us zs hs : List ℕ) (a : Result RangeCounts Refusal) (ts' ls' us' zs' hs' : List ℕ) : Type 0 where
  pub lifetimes : Lfts 6
  pub sheet_at : Place
  pub minutes_at : Place
  pub lows_at : Place
  pub highs_at : Place
  pub points_at : Place
  pub bandwidths_at : Place
  pub ensured :
      read_ranges.Post lifetimes
      (lent sheet_at s, (lent_mut minutes_at ts, (lent_mut lows_at ls, (lent_mut highs_at us, (lent_mut points_at zs, (lent_mut bandwidths_at hs, tt)))))) a
      (lent sheet_at s, (lent_mut minutes_at ts', (lent_mut lows_at ls', (lent_mut highs_at us', (lent_mut points_at zs', (lent_mut bandwidths_at hs', tt))))))

-- the call for C and Rust, with a list ns for its counts
pub record ExportedReadRanges (s ts ls us zs hs ns : List ℕ) (a : ℕ) (ts' ls' us' zs' hs' ns' : List ℕ) : Type 0 where
  pub lifetimes : Lfts 7
  pub sheet_at : Place
  pub minutes_at : Place
  pub lows_at : Place
  pub highs_at : Place
  pub points_at : Place
  pub bandwidths_at : Place
  pub counts_at : Place
  pub ensured :
      exported_read.Post lifetimes (
        lent sheet_at s,
        (
          lent_mut minutes_at ts,
          (lent_mut lows_at ls, (lent_mut highs_at us, (lent_mut points_at zs, (lent_mut bandwidths_at hs, (lent_mut counts_at ns, tt))))),
        ),
      ) a (
        lent sheet_at s,
        (
          lent_mut minutes_at ts',
          (lent_mut lows_at ls', (lent_mut highs_at us', (lent_mut points_at zs', (lent_mut bandwidths_at hs', (lent_mut counts_at ns', tt))))),
        ),
      )

-- the lists for a sheet have their lengths
pub record Roomy (ts ls us zs hs : List ℕ) : Type 0 where
  pub minutes : length ts ≡ full.samples
  pub lows : length ls ≡ full.samples
  pub highs : length us ≡ full.samples
  pub points : length zs ≡ full.points
  pub bandwidths : length hs ≡ full.points

-- the five lists: 8
abbrev pub read_range_conditions : List ℕ → List ℕ → List ℕ → List ℕ → List ℕ → Conditions
read_range_conditions ts ls us zs hs = condition 8 (AtZero (¬ Roomy ts ls us zs hs)) no_more

-- what an accepted call leaves: n readings and m marks of the sheet's lists c in front, and behind them what stood there
pub record FilledIn (c : RangeContents) (n m : ℕ) (ts ls us zs hs ts' ls' us' zs' hs' : List ℕ) : Type 0 where
  pub samples : length c.minutes ≡ n
  pub lows_count : length c.lows ≡ n
  pub highs_count : length c.highs ≡ n
  pub marks : length c.points ≡ m
  pub bandwidths_count : length c.bandwidths ≡ m
  pub minutes : ts' ≡ c.minutes ++ drop n ts
  pub lows : ls' ≡ c.lows ++ drop n ls
  pub highs : us' ≡ c.highs ++ drop n us
  pub points : zs' ≡ c.points ++ drop m zs
  pub bandwidths : hs' ≡ c.bandwidths ++ drop m hs

-- counts of a plain sheet
abbrev pub plain_counts : Answer Counts → Answer RangeCounts
plain_counts (given c) = given (record { samples = c.samples; points = c.points; kind = Plain })
plain_counts (refused e) = refused e

-- both readers have said the same: accepted or refused alike, the kind plain, and each value as low and as high
pub record ReadAlike (a : Result RangeCounts Refusal) (b : Result Counts Refusal) (ts' ls' us' zs' hs' ts'' vs'' zs'' hs'' : List ℕ) : Type 0 where
  pub answers : answer_of a ≡ plain_counts (answer_of b)
  pub minutes : ts' ≡ ts''
  pub points : zs' ≡ zs''
  pub bandwidths : hs' ≡ hs''
  pub lows : (n m : ℕ) (k : Kind) → a ≡ Ok (record { samples = n; points = m; kind = k }) → take n ls' ≡ take n vs''
  pub highs : (n m : ℕ) (k : Kind) → a ≡ Ok (record { samples = n; points = m; kind = k }) → take n us' ≡ take n vs''

-- the sheet is one of ranges, and the reader of plain sheets refuses its second header line
pub record RefusedThere (s : List ℕ) (b : Result Counts Refusal) : Type 0 where
  pub names : NamesRanges full s
  pub with_two : refusal (answer_of b)
      ≡ Some (record { number = 2; place = length (empty_front names.header_ending names.point_lines names.empty_line_ending) })

-- the reader of plain sheets has read the same n readings and m marks from another sheet, its values both lows and highs
pub record ReadAsPlain (n m : ℕ) (b : Result Counts Refusal) (ts' ls' us' zs' hs' ts'' vs'' zs'' hs'' : List ℕ) : Type 0 where
  pub answer : answer_of b ≡ given (record { samples = n; points = m })
  pub minutes : ts'' ≡ ts'
  pub lows : take n vs'' ≡ take n ls'
  pub highs : take n vs'' ≡ take n us'
  pub points : zs'' ≡ zs'
  pub bandwidths : hs'' ≡ hs'

-- every input is taken, each call ends, and nothing is left for the caller to check
pub record EveryReaderTaken : Type 2 where
  pub ends : {M : Type 1} → read_ranges_code.statement M
  pub asks_nothing : (κs : Lfts 6) (a : Dens κs read_ranges_kinds.ps) → read_ranges.Asked κs a
  pub exported_ends : {M : Type 1} → exported_read_code.statement M
  pub exported_asks_nothing : (κs : Lfts 7) (a : Dens κs exported_read_kinds.ps) → exported_read.Asked κs a

pub record BothKinds : Type 0 where
  -- refused exactly for its lists' lengths, else as the sheet is; then all five lists stay
  pub refused : (s ts ls us zs hs : List ℕ) (a : Result RangeCounts Refusal) (ts' ls' us' zs' hs' : List ℕ)
      → ReadRangesCall s ts ls us zs hs a ts' ls' us' zs' hs'
      → RefusedAndStays (refusal (answer_of a)) (FirstOrElse (read_range_conditions ts ls us zs hs) (EitherRefused full s))
      ((ts' ≡ ts) × (ls' ≡ ls) × (us' ≡ us) × (zs' ≡ zs) × (hs' ≡ hs))
  -- the exported call looks first at its list for three counts
  pub exported_refused : (s ts ls us zs hs ns : List ℕ) (a : ℕ) (ts' ls' us' zs' hs' ns' : List ℕ)
      → ExportedReadRanges s ts ls us zs hs ns a ts' ls' us' zs' hs' ns'
      → RefusedAndStays (code_refusal a) (FirstOrElse (length_first 3 ns (read_range_conditions ts ls us zs hs)) (EitherRefused full s))
      ((ts' ≡ ts) × (ls' ≡ ls) × (us' ≡ us) × (zs' ≡ zs) × (hs' ≡ hs) × (ns' ≡ ns))
  -- accepted, the bytes are a sheet of just these lists and this kind
  pub accepted : (s ts ls us zs hs : List ℕ) (n m : ℕ) (k : Kind) (ts' ls' us' zs' hs' : List ℕ)
      → ReadRangesCall s ts ls us zs hs (Ok (record { samples = n; points = m; kind = k })) ts' ls' us' zs' hs'
      → (c : RangeContents) × (EitherSheet full s c × ((c.kind ≡ k) × FilledIn c n m ts ls us zs hs ts' ls' us' zs' hs'))
  -- the exported call tells kept readings, marks and the kind, 0 for a plain sheet and 1 for one with ranges
  pub exported_accepted : (s ts ls us zs hs ns : List ℕ) (a : ℕ) (ts' ls' us' zs' hs' ns' : List ℕ)
      → ExportedReadRanges s ts ls us zs hs ns a ts' ls' us' zs' hs' ns' → code_refusal a ≡ None
      → (c : RangeContents)
      × (EitherSheet full s c × ((a ≡ 0) × ((ns' ≡ length c.minutes ∷ length c.points ∷ kind_number c.kind ∷ [])
      × FilledIn c (length c.minutes) (length c.points) ts ls us zs hs ts' ls' us' zs' hs')))
  -- of every list of bytes both readers say the same, or it is a sheet of ranges, and the reader of plain sheets refuses it there with 2
  pub both_readers : (s ts ls us vs zs hs : List ℕ) (a : Result RangeCounts Refusal) (b : Result Counts Refusal)
      (ts' ls' us' zs' hs' ts'' vs'' zs'' hs'' : List ℕ)
      → Roomy ts ls us zs hs → length vs ≡ full.samples → ReadRangesCall s ts ls us zs hs a ts' ls' us' zs' hs' → ReadCall s ts vs zs hs b ts'' vs'' zs'' hs''
      → (¬ NamesRanges full s × ReadAlike a b ts' ls' us' zs' hs' ts'' vs'' zs'' hs'') ⊎ RefusedThere s b
  -- and what is written for bytes that are no sheet of ranges is what was written
  pub same_text : (s : List ℕ) → ¬ NamesRanges full s → either_program s ≡ program s
  -- what the reader accepts the sweep over ranges accepts, with room for its rows; that of the exported call too
  pub accepted_is_swept : (s ts ls us zs hs : List ℕ) (n m : ℕ) (k : Kind) (ts' ls' us' zs' hs' rs : List ℕ) (a : Result ℕ Refusal) (rs' : List ℕ)
      → ReadRangesCall s ts ls us zs hs (Ok (record { samples = n; points = m; kind = k })) ts' ls' us' zs' hs' → length rs ≡ range_row_width * m
      → RangesCall (take n ts') (take n ls') (take n us') (take m zs') (take m hs') rs a rs' → (q : ℕ) × (a ≡ Ok q)
  pub exported_accepted_is_swept : (s ts ls us zs hs ns : List ℕ) (n m k : ℕ) (a : ℕ) (ts' ls' us' zs' hs' rs : List ℕ) (b : ℕ) (rs' : List ℕ)
      → ExportedReadRanges s ts ls us zs hs ns a ts' ls' us' zs' hs' (n ∷ m ∷ k ∷ []) → code_refusal a ≡ None → length rs ≡ range_row_width * m
      → ExportedRanges (take n ts') (take n ls') (take n us') (take m zs') (take m hs') rs b rs' → code_refusal b ≡ None
  -- a plain sheet's lows are its highs; and wherever a sheet's are, each row is the plain one with its sum twice and its value twice
  pub plain_ends_equal : (s ts ls us zs hs : List ℕ) (n m : ℕ) (ts' ls' us' zs' hs' : List ℕ)
      → ReadRangesCall s ts ls us zs hs (Ok (record { samples = n; points = m; kind = Plain })) ts' ls' us' zs' hs' → take n ls' ≡ take n us'
  pub rows_doubled : (s ts ls us zs hs : List ℕ) (n m : ℕ) (k : Kind) (ts' ls' us' zs' hs' rs : List ℕ) (a : Result ℕ Refusal) (rs' rs₀ : List ℕ)
      (b : Result ℕ Refusal) (rs₀' : List ℕ) → ReadRangesCall s ts ls us zs hs (Ok (record { samples = n; points = m; kind = k })) ts' ls' us' zs' hs'
      → take n ls' ≡ take n us'
      → length rs ≡ range_row_width * m → length rs₀ ≡ row_width * m
      → RangesCall (take n ts') (take n ls') (take n us') (take m zs') (take m hs') rs a rs'
      → SmoothCall (take n ts') (take n ls') (take m zs') (take m hs') rs₀ b rs₀' → (i : ℕ) → i < m
      → stored_range_row rs' i ≡ twice (stored_row rs₀' i)
  -- a sheet with ranges of one value each is read as the plain sheet of the same lines with these values is
  pub equal_ends_as_plain : (s : List ℕ) (c : RangeContents) (i : IsRangeSheet full s c) (ts ls us vs zs hs : List ℕ) (n m : ℕ) (k : Kind)
      (ts' ls' us' zs' hs' : List ℕ) (b : Result Counts Refusal) (ts'' vs'' zs'' hs'' : List ℕ) → Roomy ts ls us zs hs → length vs ≡ full.samples
      → Each EqualEnds (without_endings i.range_lines) → ReadRangesCall s ts ls us zs hs (Ok (record { samples = n; points = m; kind = k })) ts' ls' us' zs' hs'
      → ReadCall (low_sheet i.front i.range_lines) ts vs zs hs b ts'' vs'' zs'' hs'' → ReadAsPlain n m b ts' ls' us' zs' hs' ts'' vs'' zs'' hs''
  -- worked cases
  pub cases : map (λ (c : SheetCase). sheet_result c) sheet_cases ≡ map (λ (c : SheetCase). c.expected) sheet_cases

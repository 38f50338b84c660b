-- What is promised of the sweep over ranges, of the call as a caller has it and of the call for C and Rust. SPECIFICATION, "Ranges".
-- ts are minutes, ls and us the lowest and the highest values, vs values, zs marks, hs half widths, rs rows; a list at exit has a prime.
use Rattle.std.specs.Prelude.{ℕ, ◌*◌, ◌≤◌, ◌<◌, ◌≡◌, ◌↔◌, List, [], ◌∷◌, map, length, get_or}
use Rattle.std.specs.Prelude.{Result, Ok}
use Rattle.meanings.specs.declared.Refusal.{Refusal}
use Rattle.meanings.specs.Calls.{answer_of}
use Rattle.std.specs.Prelude.{None}
use contract.Lifetimes.{Lfts}
use borrow.Fn.Kinds.{Dens}
use Rattle.meanings.specs.declared.Estimate.{Estimate}
use Rattle.meanings.specs.Limits.{full, max_u16, row_width}
use Rattle.meanings.specs.Lists.{AtMost}
use Rattle.meanings.specs.Moves.{moves}
use Rattle.meanings.specs.Claim.{refusal}
use Rattle.meanings.specs.Codes.{detail_unit}
use Rattle.meanings.specs.Estimate.{missing, estimate}
use Rattle.meanings.specs.PublishedRow.{PublishedRow}
use Rattle.laws.specs.rows.AmongReadings.{Among}
use Rattle.laws.specs.rows.Rearranged.{Rearranged}
use Rattle.text.specs.Table.{stored_row}
pub use Rattle.text.specs.RangeTable.{stored_range_row}
use Rattle.meanings.specs.declared.ranges.RangeEstimate.{RangeEstimate}
use Rattle.meanings.specs.declared.ranges.Ranges.{Ranges}
use Rattle.meanings.specs.ranges.Ranges.{range_estimate, range_row_width}
use Rattle.meanings.specs.ranges.RangeLaws.{Choice, LiesWithin, MissingTogether}
use Rattle.meanings.specs.ranges.Cases.{RangeCase, range_result, range_cases}
use Rattle.regression.proofs.ranges.smooth_ranges.Reads as smooth_ranges
use Rattle.regression.proofs.ranges.smooth_ranges.Kinds as smooth_ranges_kinds
use Rattle.regression.proofs.ranges.smooth_ranges.Statement as smooth_ranges_code
use Rattle.exports.proofs.ranges.tankcurve_smooth_ranges.Reads as exported_ranges
use Rattle.exports.proofs.ranges.tankcurve_smooth_ranges.Kinds as exported_ranges_kinds
use Rattle.exports.proofs.ranges.tankcurve_smooth_ranges.Statement as exported_ranges_code
use Rattle.promises.specs.Calls.{Place, lent, lent_mut, marks, SmoothCall, ExportedSmooth}
use Rattle.promises.specs.conditions.Conditions.{Conditions, no_more, condition, FirstFault, FallsAt, curve_size_conditions, windows_conditions, code_refusal}
use Rattle.promises.specs.Demands.{RefusedAndStays, log_passes}

-- readings known as ranges, their lists lent to be read
abbrev pub ranges : Place → Place → Place → List ℕ → List ℕ → List ℕ → Ranges
ranges x y z ts ls us = record { minutes = lent x ts; lows = lent y ls; highs = lent z us }

-- calls that were made
pub record RangesCall (ts ls us zs hs rs : List ℕ) (a : Result ℕ Refusal) (rs' : List ℕ) : Type 0 where
  pub lifetimes : Lfts 3
  pub minutes_at : Place
  pub lows_at : Place
  pub highs_at : Place
  pub points_at : Place
  pub bandwidths_at : Place
  pub rows_at : Place
  pub ensured :
      smooth_ranges.Post lifetimes (ranges minutes_at lows_at highs_at ts ls us, (marks points_at bandwidths_at zs hs, (lent_mut rows_at rs, tt))) a
      (ranges minutes_at lows_at highs_at ts ls us, (marks points_at bandwidths_at zs hs, (lent_mut rows_at rs', tt)))

pub record ExportedRanges (ts ls us zs hs rs : List ℕ) (c : ℕ) (rs' : List ℕ) : Type 0 where
  pub lifetimes : Lfts 6
  pub minutes_at : Place
  pub lows_at : Place
  pub highs_at : Place
  pub points_at : Place
  pub bandwidths_at : Place
  pub rows_at : Place
  pub ensured :
      exported_ranges.Post lifetimes
      (lent minutes_at ts, (lent lows_at ls, (lent highs_at us, (lent points_at zs, (lent bandwidths_at hs, (lent_mut rows_at rs, tt)))))) c
      (lent minutes_at ts, (lent lows_at ls, (lent highs_at us, (lent points_at zs, (lent bandwidths_at hs, (lent_mut rows_at rs', tt))))))

-- report 15: the lowest value at p is above the highest
pub record CrossedAt (ls us : List ℕ) (p : ℕ) : Type 0 where
  pub within : p < length ls
  pub crosses : get_or us p 0 < get_or ls p 0

-- with so many numbers for the rows: 8, 6, 7, 4, 15, 5, 9, 10
abbrev pub range_conditions : List ℕ → List ℕ → List ℕ → List ℕ → List ℕ → ℕ → Conditions
range_conditions ts ls us zs hs rows =
    curve_size_conditions full ts ls zs hs ((length ts ≡ length us) × (rows ≡ range_row_width * length zs))
    (condition 4 (FallsAt ts) (condition 15 (CrossedAt ls us) (condition 5 (FallsAt zs) (windows_conditions zs hs no_more))))

-- the plain row of the lowest values in it, and that of the highest
abbrev pub low_row : RangeEstimate → Estimate
low_row r = record { left = r.left; right = r.right; weight = r.weight; sum = r.sum.low; value = r.value.low }

abbrev pub high_row : RangeEstimate → Estimate
high_row r = record { left = r.left; right = r.right; weight = r.weight; sum = r.sum.high; value = r.value.high }

-- a plain row with its sum twice and its value twice
abbrev pub twice : Estimate → RangeEstimate
twice e = record {
  left = e.left;
  right = e.right;
  weight = e.weight;
  sum = record { low = e.sum; high = e.sum };
  value = record { low = e.value; high = e.value };
}

-- row by row the plain rows lie within the rows over ranges, and values are missing together
pub record RowsWithin (rs rs' : List ℕ) (points : ℕ) : Type 0 where
  pub within : (k : ℕ) → k < points → LiesWithin (stored_row rs k) (stored_range_row rs' k)
  pub missing : (k : ℕ) → k < points → MissingTogether (stored_row rs k) (stored_range_row rs' k)

-- what an accepted call that answers n passes leaves
pub record SweptRanges (ts ls us zs hs : List ℕ) (n : ℕ) (rs' : List ℕ) : Type 0 where
  -- a row a mark, whose parts are the published rows of the lowest values and of the highest
  pub rows_length : length rs' ≡ range_row_width * length zs
  pub low_published : (k : ℕ) → k < length zs → PublishedRow ts ls (get_or zs k 0) (get_or hs k 0) (low_row (stored_range_row rs' k))
  pub high_published : (k : ℕ) → k < length zs → PublishedRow ts us (get_or zs k 0) (get_or hs k 0) (high_row (stored_range_row rs' k))
  -- the passes are the insertions plus evictions of an event log of these lists, at most two for each reading
  pub passes_are : n ≡ log_passes ts ls (moves zs hs)
  pub passes_most : n ≤ 2 * length ts
  -- a present low value lies among the lowest values of the readings with a weight above zero, a present high value among the highest
  pub low_among : (k : ℕ) → k < length zs → ¬ ((stored_range_row rs' k).value.low ≡ missing)
      → Among ts ls (get_or zs k 0) (get_or hs k 0) (low_row (stored_range_row rs' k))
  pub high_among : (k : ℕ) → k < length zs → ¬ ((stored_range_row rs' k).value.high ≡ missing)
      → Among ts us (get_or zs k 0) (get_or hs k 0) (high_row (stored_range_row rs' k))
  -- with any values in the ranges the plain sweep with room for its rows accepts, makes as many passes, and its rows lie within
  pub plain_within : (vs rs : List ℕ) (b : Result ℕ Refusal) (rs'' : List ℕ) → Choice ls us vs → length rs ≡ row_width * length zs
      → SmoothCall ts vs zs hs rs b rs'' → (b ≡ Ok n) × RowsWithin rs'' rs' (length zs)
  pub exported_plain_within : (vs rs : List ℕ) (c : ℕ) (rs'' : List ℕ) → Choice ls us vs → length rs ≡ row_width * length zs
      → ExportedSmooth ts vs zs hs rs c rs'' → (c ≡ detail_unit * n) × RowsWithin rs'' rs' (length zs)
  -- the lowest values are such, and reach the lower ends of all rows at once; the highest reach the upper ends
  pub lows_are_chosen : Choice ls us ls
  pub low_ends_reached : (rs : List ℕ) (b : Result ℕ Refusal) (rs'' : List ℕ) → length rs ≡ row_width * length zs → SmoothCall ts ls zs hs rs b rs'' → (k : ℕ)
      → k < length zs → stored_row rs'' k ≡ low_row (stored_range_row rs' k)
  pub exported_low_ends_reached : (rs : List ℕ) (c : ℕ) (rs'' : List ℕ) → length rs ≡ row_width * length zs → ExportedSmooth ts ls zs hs rs c rs'' → (k : ℕ)
      → k < length zs → stored_row rs'' k ≡ low_row (stored_range_row rs' k)
  pub highs_are_chosen : Choice ls us us
  pub high_ends_reached : (rs : List ℕ) (b : Result ℕ Refusal) (rs'' : List ℕ) → length rs ≡ row_width * length zs → SmoothCall ts us zs hs rs b rs'' → (k : ℕ)
      → k < length zs → stored_row rs'' k ≡ high_row (stored_range_row rs' k)
  pub exported_high_ends_reached : (rs : List ℕ) (c : ℕ) (rs'' : List ℕ) → length rs ≡ row_width * length zs → ExportedSmooth ts us zs hs rs c rs'' → (k : ℕ)
      → k < length zs → stored_row rs'' k ≡ high_row (stored_range_row rs' k)

-- every input is taken, each call ends, and nothing is left for the caller to check
pub record EveryRangesTaken : Type 2 where
  pub ends : {M : Type 1} → smooth_ranges_code.statement M
  pub asks_nothing : (κs : Lfts 3) (a : Dens κs smooth_ranges_kinds.ps) → smooth_ranges.Asked κs a
  pub exported_ends : {M : Type 1} → exported_ranges_code.statement M
  pub exported_asks_nothing : (κs : Lfts 6) (a : Dens κs exported_ranges_kinds.ps) → exported_ranges.Asked κs a

pub record OverRanges : Type 0 where
  -- refused exactly for the first report whose condition holds; then the rows stay
  pub refused : (ts ls us zs hs rs : List ℕ) (a : Result ℕ Refusal) (rs' : List ℕ) → RangesCall ts ls us zs hs rs a rs'
      → RefusedAndStays (refusal (answer_of a)) (FirstFault (range_conditions ts ls us zs hs (length rs))) (rs' ≡ rs)
  pub exported_refused : (ts ls us zs hs rs : List ℕ) (c : ℕ) (rs' : List ℕ) → ExportedRanges ts ls us zs hs rs c rs'
      → RefusedAndStays (code_refusal c) (FirstFault (range_conditions ts ls us zs hs (length rs))) (rs' ≡ rs)
  -- accepted, the rows are filled in; lists have 16 bits as their types say
  pub swept : (ts ls us zs hs rs : List ℕ) (n : ℕ) (rs' : List ℕ) → AtMost max_u16 ts → AtMost max_u16 us
      → RangesCall ts ls us zs hs rs (Ok n) rs' → SweptRanges ts ls us zs hs n rs'
  pub exported_swept : (ts ls us zs hs rs : List ℕ) (c : ℕ) (rs' : List ℕ) → AtMost max_u16 ts → AtMost max_u16 us
      → ExportedRanges ts ls us zs hs rs c rs' → code_refusal c ≡ None → (n : ℕ) × ((c ≡ detail_unit * n) × SweptRanges ts ls us zs hs n rs')
  -- whatever the minutes are, in any order, and however many: with values in their ranges a row lies within, weight 0 is weight 0 in all, and with
  -- highs of 16 bits a value is missing in all or in none
  pub row_within : (ts ls us vs : List ℕ) (z h : ℕ) → Choice ls us vs → LiesWithin (estimate ts vs z h) (range_estimate ts ls us z h)
  pub weightless_together : (ts ls us vs : List ℕ) (z h : ℕ) → Choice ls us vs → ((estimate ts vs z h).weight ≡ 0) ↔ ((range_estimate ts ls us z h).weight ≡ 0)
  pub missing_together : (ts ls us vs : List ℕ) (z h : ℕ) → Choice ls us vs → AtMost max_u16 us → length ts ≡ length vs
      → MissingTogether (estimate ts vs z h) (range_estimate ts ls us z h)
  -- ranges of one value each: with room for the rows both sweeps answer alike, refused or accepted, and each row is the plain one with its sum twice
  -- and its value twice
  pub answered_alike : (ts vs zs hs rs : List ℕ) (a : Result ℕ Refusal) (rs' rs₀ : List ℕ) (b : Result ℕ Refusal) (rs₀' : List ℕ)
      → length rs ≡ range_row_width * length zs → length rs₀ ≡ row_width * length zs → RangesCall ts vs vs zs hs rs a rs'
      → SmoothCall ts vs zs hs rs₀ b rs₀' → answer_of a ≡ answer_of b
  pub rows_doubled : (ts vs zs hs rs : List ℕ) (n : ℕ) (rs' rs₀ : List ℕ) (b : Result ℕ Refusal) (rs₀' : List ℕ) → length rs₀ ≡ row_width * length zs
      → RangesCall ts vs vs zs hs rs (Ok n) rs' → SmoothCall ts vs zs hs rs₀ b rs₀' → (k : ℕ) → k < length zs
      → stored_range_row rs' k ≡ twice (stored_row rs₀' k)
  pub exported_alike : (ts vs zs hs rs : List ℕ) (c : ℕ) (rs' rs₀ : List ℕ) (d : ℕ) (rs₀' : List ℕ) → length rs ≡ range_row_width * length zs
      → length rs₀ ≡ row_width * length zs → ExportedRanges ts vs vs zs hs rs c rs' → ExportedSmooth ts vs zs hs rs₀ d rs₀' → c ≡ d
  pub exported_rows_doubled : (ts vs zs hs rs : List ℕ) (c : ℕ) (rs' rs₀ : List ℕ) (d : ℕ) (rs₀' : List ℕ) → length rs₀ ≡ row_width * length zs
      → ExportedRanges ts vs vs zs hs rs c rs' → code_refusal c ≡ None → ExportedSmooth ts vs zs hs rs₀ d rs₀' → (k : ℕ) → k < length zs
      → stored_range_row rs' k ≡ twice (stored_row rs₀' k)
  -- readings of equal minute may change places, each low with its high: where both calls are accepted, passes and rows are the same
  pub rearranged_alike : (ts ls us ls₀ us₀ zs hs rs : List ℕ) (n : ℕ) (rs' rs₀ : List ℕ) (m : ℕ) (rs₀' : List ℕ) → AtMost max_u16 ts → AtMost max_u16 us
      → AtMost max_u16 us₀ → Rearranged ts ls ls₀ → Rearranged ts us us₀ → RangesCall ts ls us zs hs rs (Ok n) rs'
      → RangesCall ts ls₀ us₀ zs hs rs₀ (Ok m) rs₀' → (n ≡ m) × ((k : ℕ) → k < length zs → stored_range_row rs' k ≡ stored_range_row rs₀' k)
  pub exported_rearranged_alike : (ts ls us ls₀ us₀ zs hs rs : List ℕ) (c : ℕ) (rs' rs₀ : List ℕ) (d : ℕ) (rs₀' : List ℕ) → AtMost max_u16 ts
      → AtMost max_u16 us → AtMost max_u16 us₀ → Rearranged ts ls ls₀ → Rearranged ts us us₀ → ExportedRanges ts ls us zs hs rs c rs'
      → code_refusal c ≡ None → ExportedRanges ts ls₀ us₀ zs hs rs₀ d rs₀' → code_refusal d ≡ None
      → (c ≡ d) × ((k : ℕ) → k < length zs → stored_range_row rs' k ≡ stored_range_row rs₀' k)
  -- some ranges are accepted, and some values between their ends are neither: one reading from 0 to 2, its value 1
  pub some_accepted : (a : Result ℕ Refusal) (rs' : List ℕ)
      → RangesCall (5 ∷ []) (0 ∷ []) (2 ∷ []) (5 ∷ []) (1 ∷ []) (7 ∷ 7 ∷ 7 ∷ 7 ∷ 7 ∷ 7 ∷ 7 ∷ []) a rs' → refusal (answer_of a) ≡ None
  pub some_between : Choice (0 ∷ []) (2 ∷ []) (1 ∷ [])
  -- worked cases, accepted ones and each report
  pub cases : map (λ (c : RangeCase). range_result c) range_cases ≡ map (λ (c : RangeCase). c.expected) range_cases

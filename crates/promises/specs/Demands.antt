-- What is promised: the three demands of docs/SPECIFICATION.md, "The three demands", about the program's bytes and about the calls that a
-- program makes. Promises.antt has all promises, these and those of later requests; the theorem is `demands` of
-- crates/demands_hold/proofs/Demands.antt.
-- A call is known by its contract alone: Calls.antt. When a call is refused stands in conditions/Conditions.antt, for a sheet in
-- crates/meanings/specs/SheetForm.antt, for one of either kind in RangeForm.antt of crates/laws; what a published row is in PublishedRow.antt of the
-- meanings, the step in Running.antt, the event log and the claim about a list of steps in EventLog.antt and Claim.antt, the texts in Output.antt and in
-- ranges/RangeOutput.antt of the meanings.
-- ts are minutes, vs values, z a mark, h a half width, zs and hs lists of these, rs rows, s the bytes of a sheet; a list at exit has a prime.
-- `AtMost max_u16` says that a list's numbers have 16 bits, as the type of the lent list has it; it stands where a bound is needed.
use Rattle.std.specs.Prelude.{ℕ, suc, ◌+◌, ◌-◌, ◌*◌, ◌%◌, ◌^◌, ◌≤◌, ◌<◌, ◌≡◌, ◌↔◌, ◌⊎◌, List, [], ◌∷◌, ◌++◌, map, length, get_or, take, drop, replicate}
use Rattle.std.specs.Prelude.{Result, Ok, Err}
use Rattle.meanings.specs.declared.Counts.{Counts}
use Rattle.meanings.specs.declared.Refusal.{Refusal}
use Rattle.meanings.specs.Calls.{answer_of}
use Rattle.std.specs.Prelude.{None, Some}
use Rattle.std.specs.Borrow.{Bor}
use Rattle.meanings.specs.declared.Estimate.{Estimate}
use Rattle.meanings.specs.declared.RunningSums.{RunningSums}
use Rattle.meanings.specs.Lists.{AtMost, Ordered}
use Rattle.meanings.specs.Limits.{full, preview, max_u16, row_width, max_sheet, max_output, max_plain_output}
use Rattle.meanings.specs.Moves.{Move, moves}
use Rattle.meanings.specs.Reports.{Fault, given}
use Rattle.meanings.specs.Estimate.{left_of, right_of, missing, estimate}
use Rattle.meanings.specs.PublishedRow.{Nearest, PublishedRow}
use Rattle.meanings.specs.Running.{window_sums, fresh, after, passes, record_row}
use Rattle.meanings.specs.EventLog.{empty_log, log_after, insertion_count, eviction_count, log_refusal}
use Rattle.meanings.specs.Claim.{last_accepted, NoEdgeBack, StepHolds, refusal, between, log_after_steps}
use Rattle.meanings.specs.Grid.{presets}
use Rattle.meanings.specs.Sheet.{Contents}
use Rattle.meanings.specs.SheetForm.{IsSheet, Refused}
use Rattle.meanings.specs.Output.{curve_text, refusal_text, program}
use Rattle.meanings.specs.ranges.RangeSheet.{RangeContents}
use Rattle.meanings.specs.ranges.RangeOutput.{range_curve_text, contents_text, either_program}
use Rattle.laws.specs.ranges.RangeForm.{NamesRanges, IsRangeSheet, EitherSheet, EitherRefused}
use Rattle.laws.specs.rows.AmongReadings.{Among}
use Rattle.laws.specs.rows.Rearranged.{Rearranged}
use Rattle.laws.specs.rows.TwoLimits.{Fits, Over}
use Rattle.text.specs.Table.{stored_row}
use Rattle.meanings.specs.Codes.{detail_unit}
use Rattle.exports.specs.Answers.{record_of, record_length}
use Rattle.exports.specs.Version.{version}
use Rattle.promises.specs.Calls.{Place, EvaluateCall, WindowCall, AdvanceCall, RecordRowCall, SmoothCall, PreviewCall}
use Rattle.promises.specs.Calls.{FillCall, ReadCall, TextCall, OverCall, RefusalTextCall, ExportedEvaluate, ExportedWindow}
use Rattle.promises.specs.Calls.{ExportedAdvance, ExportedRecordRow, ExportedSmooth, ExportedPreview, ExportedFill, ExportedRead, ExportedText}
use Rattle.promises.specs.Calls.{ExportedRefusalText, ExportedVersion}
pub use Rattle.promises.specs.conditions.Conditions.{RefusedAndStays}
use Rattle.promises.specs.conditions.Conditions.{RefusedExactly, NoFault, FirstFault, FirstOrElse, evaluate_conditions, advance_conditions}
use Rattle.promises.specs.conditions.Conditions.{smooth_conditions, fill_conditions, read_conditions, buffer_conditions, length_first}
use Rattle.promises.specs.conditions.Conditions.{record_row_conditions, code_refusal}

-- how many readings the event log of these steps, empty at first, inserts and evicts
abbrev pub log_passes : List ℕ → List ℕ → List Move → ℕ
log_passes ts vs ms =
    insertion_count (log_after ts vs empty_log ms) + eviction_count (log_after ts vs empty_log ms)

-- ---------------------------------------------------------------------------------------------------------------------------------------
-- The program

-- the program draws the curve of the lists c; of a plain sheet's lists each value stands as low and high
pub record Draws (s : List ℕ) (c : RangeContents) : Type 0 where
  -- the bytes are a sheet of just these lists
  pub sheet : EitherSheet full s c
  -- what it writes is their curve, by the kind: rows with one sum and one value, or with the lowest and the highest of each
  pub text : either_program s ≡ contents_text c
  -- in which each mark's row is the published one of the lowest values and of the highest
  pub low_rows : (k : ℕ) → k < length c.points
      → PublishedRow c.minutes c.lows (get_or c.points k 0) (get_or c.bandwidths k 0)
      (estimate c.minutes c.lows (get_or c.points k 0) (get_or c.bandwidths k 0))
  pub high_rows : (k : ℕ) → k < length c.points
      → PublishedRow c.minutes c.highs (get_or c.points k 0) (get_or c.bandwidths k 0)
      (estimate c.minutes c.highs (get_or c.points k 0) (get_or c.bandwidths k 0))
  -- and the passes are the insertions plus evictions of an event log of the sheet's marks, at most two for each kept reading
  pub passes_are : passes c.minutes c.lows fresh (moves c.points c.bandwidths)
      ≡ log_passes c.minutes c.lows (moves c.points c.bandwidths)
  pub passes_most : passes c.minutes c.lows fresh (moves c.points c.bandwidths) ≤ 2 * length c.minutes

-- the program refuses with report n at byte p
pub record Refuses (s : List ℕ) (n p : ℕ) : Type 0 where
  -- the report's condition holds at that byte, and nothing that comes before it is at fault
  pub condition : EitherRefused full s n p
  -- what it writes is number and place
  pub text : either_program s ≡ refusal_text (record { number = n; place = p })

-- whatever bytes the program is given; `either_program s` is what it writes: ProgramRuns of Runs.antt says so of each run
pub record ProgramHolds (s : List ℕ) : Type 0 where
  -- it draws a curve or refuses
  pub one_of_two : ((c : RangeContents) × Draws s c) ⊎ ((n : ℕ) × ((p : ℕ) × Refuses s n p))
  -- the curve wherever the bytes are a sheet of some lists, the refusal wherever a report's condition is the first to hold
  pub each_sheet : (c : RangeContents) → EitherSheet full s c → Draws s c
  pub each_report : (n p : ℕ) → EitherRefused full s n p → Refuses s n p
  -- they are never both, a sheet has one set of lists and one kind, and a refused one gets one report at one place
  pub not_both : (c : RangeContents) (n p : ℕ) → EitherSheet full s c → ¬ EitherRefused full s n p
  pub one_contents : (c d : RangeContents) → EitherSheet full s c → EitherSheet full s d → c ≡ d
  pub one_report : (n p n' p' : ℕ) → EitherRefused full s n p → EitherRefused full s n' p' → (n ≡ n') × (p ≡ p')
  -- a plain sheet's text has the rows of its values; a sheet's text with ranges those of the lowest and the highest
  pub plain_text : (c : Contents) → IsSheet full s c → either_program s ≡ curve_text c
  pub range_text : (c : RangeContents) → IsRangeSheet full s c → either_program s ≡ range_curve_text c
  -- unless the second header line is that of ranges, the text is the one that it was before there were sheets with ranges
  pub as_before : ¬ NamesRanges full s → either_program s ≡ program s
  -- it depends on the first 32,769 bytes alone, so that it need read no more
  pub front : either_program s ≡ either_program (take (suc max_sheet) s)
  -- it fits a buffer of 44,113 bytes
  pub fits : length (either_program s) ≤ max_output
  -- and for a plain sheet in 31,291 of them
  pub plain_fits : (c : Contents) → IsSheet full s c → length (either_program s) ≤ max_plain_output
  -- two calls put just that in front of such a buffer: the first where there is a curve; else the second, with the report and place that the
  -- first has answered
  pub by_curve : (out out' : List ℕ) (k : ℕ) → TextCall s out (Ok k) out'
      → (k ≡ length (either_program s)) × (out' ≡ either_program s ++ drop (length (either_program s)) out)
  pub by_refusal : (out out' out'' : List ℕ) (f : Fault) (a b : Result ℕ Refusal) → length out ≡ max_output → TextCall s out a out'
      → refusal (answer_of a) ≡ Some f → RefusalTextCall f.number f.place out' b out''
      → (answer_of b ≡ given (length (either_program s))) × (out'' ≡ either_program s ++ drop (length (either_program s)) out)
  -- and so does, in place of the first, the call that writes over its sheet, the front of the buffer: the program makes that one
  pub by_curve_over : (buf buf' : List ℕ) (n k : ℕ) → take n buf ≡ s → OverCall buf n (Ok k) buf'
      → (k ≡ length (either_program s)) × (buf' ≡ either_program s ++ drop (length (either_program s)) buf)
  pub by_refusal_over : (buf buf' buf'' : List ℕ) (n : ℕ) (f : Fault) (a b : Result ℕ Refusal) → take n buf ≡ s → length buf ≡ max_output
      → OverCall buf n a buf'
      → refusal (answer_of a) ≡ Some f → RefusalTextCall f.number f.place buf' b buf''
      → (answer_of b ≡ given (length (either_program s))) × (buf'' ≡ either_program s ++ drop (length (either_program s)) buf)

-- ---------------------------------------------------------------------------------------------------------------------------------------
-- Demand 1

-- that each call takes every input and ends, and what a run does of any reader and writer: EveryCallTaken of Promises.antt
pub record Demand1 : Type 0 where
  -- the program: what it writes for the bytes s
  pub program_holds : (s : List ℕ) → ProgramHolds s
  -- the question at one mark
  pub evaluate_refused : (ts vs : List ℕ) (z h : ℕ) (a : Result Estimate Refusal) → EvaluateCall ts vs z h a
      → RefusedExactly (refusal (answer_of a)) (FirstFault (evaluate_conditions ts vs h))
  -- its run: where the question is refused the part is empty, at the start of the values
  pub window_refused : (ts vs : List ℕ) (z h : ℕ) (values_at : Place) (part : Bor (List ℕ)) → WindowCall ts vs z h values_at part
      → (n p : ℕ) → FirstFault (evaluate_conditions ts vs h) n p
      → (part.now ≡ []) × (part.ref_ptr.0 ≡ values_at.ref_ptr.0) × (part.ref_ptr.1 ≡ values_at.ref_ptr.1)
  -- the single step, on a record of any origin
  pub advance_refused : (r : RunningSums) (ts vs : List ℕ) (z h : ℕ) (a : Result RunningSums Refusal) → AdvanceCall r ts vs z h a
      → RefusedExactly (refusal (answer_of a)) (FirstFault (advance_conditions ts vs r.left r.right h))
  -- the whole sweep
  pub smooth_refused : (ts vs zs hs rs : List ℕ) (a : Result ℕ Refusal) (rs' : List ℕ) → SmoothCall ts vs zs hs rs a rs'
      → RefusedAndStays (refusal (answer_of a)) (FirstFault (smooth_conditions full ts vs zs hs (length rs))) (rs' ≡ rs)
  -- the mark filler
  pub fill_refused : (z₀ spacing preset : ℕ) (zs hs : List ℕ) (a : Result Unit Refusal) (zs' hs' : List ℕ) → FillCall z₀ spacing preset zs hs a zs' hs'
      → RefusedAndStays (refusal (answer_of a)) (FirstFault (fill_conditions z₀ spacing preset zs hs)) ((zs' ≡ zs) × (hs' ≡ hs))
  -- the reader: its lists' lengths, then the sheet
  pub read_refused : (s ts vs zs hs : List ℕ) (a : Result Counts Refusal) (ts' vs' zs' hs' : List ℕ) → ReadCall s ts vs zs hs a ts' vs' zs' hs'
      → RefusedAndStays (refusal (answer_of a)) (FirstOrElse (read_conditions ts vs zs hs) (Refused full s))
      ((ts' ≡ ts) × (vs' ≡ vs) × (zs' ≡ zs) × (hs' ≡ hs))
  -- a sheet's text: the buffer's length, then the sheet
  pub text_refused : (s out : List ℕ) (a : Result ℕ Refusal) (out' : List ℕ) → TextCall s out a out'
      → RefusedAndStays (refusal (answer_of a)) (FirstOrElse (buffer_conditions out) (EitherRefused full s)) (out' ≡ out)
  -- and over the sheet itself
  pub text_over_refused : (buf : List ℕ) (n : ℕ) (a : Result ℕ Refusal) (buf' : List ℕ) → OverCall buf n a buf'
      → RefusedAndStays (refusal (answer_of a)) (FirstOrElse (buffer_conditions buf) (EitherRefused full (take n buf))) (buf' ≡ buf)
  -- the text of a refusal: the buffer's length alone
  pub refusal_text_refused : (n p : ℕ) (out : List ℕ) (a : Result ℕ Refusal) (out' : List ℕ) → RefusalTextCall n p out a out'
      → RefusedAndStays (refusal (answer_of a)) (FirstFault (buffer_conditions out)) (out' ≡ out)
  -- the same calls for C and Rust, whose lists of fixed length are looked at first
  pub exported_evaluate_refused : (ts vs : List ℕ) (z h : ℕ) (row : List ℕ) (c : ℕ) (row' : List ℕ) → ExportedEvaluate ts vs z h row c row'
      → RefusedAndStays (code_refusal c) (FirstFault (length_first row_width row (evaluate_conditions ts vs h))) (row' ≡ row)
  pub exported_window_refused : (ts vs : List ℕ) (z h : ℕ) (bounds : List ℕ) (c : ℕ) (bounds' : List ℕ)
      → ExportedWindow ts vs z h bounds c bounds'
      → RefusedAndStays (code_refusal c) (FirstFault (length_first 2 bounds (evaluate_conditions ts vs h))) (bounds' ≡ bounds)
  pub exported_advance_refused : (xs ts vs : List ℕ) (z h c : ℕ) (xs' : List ℕ) → ExportedAdvance xs ts vs z h c xs'
      → RefusedAndStays (code_refusal c)
      (FirstFault (length_first record_length xs (advance_conditions ts vs (record_of xs).left (record_of xs).right h))) (xs' ≡ xs)
  -- the row of a record, which refuses nothing in Rattle, has two lists of fixed length here
  pub exported_record_row_refused : (xs : List ℕ) (z h : ℕ) (row : List ℕ) (c : ℕ) (row' : List ℕ) → ExportedRecordRow xs z h row c row'
      → RefusedAndStays (code_refusal c) (FirstFault (record_row_conditions xs row)) (row' ≡ row)
  pub exported_smooth_refused : (ts vs zs hs rs : List ℕ) (c : ℕ) (rs' : List ℕ) → ExportedSmooth ts vs zs hs rs c rs'
      → RefusedAndStays (code_refusal c) (FirstFault (smooth_conditions full ts vs zs hs (length rs))) (rs' ≡ rs)
  pub exported_fill_refused : (z₀ spacing preset : ℕ) (zs hs : List ℕ) (c : ℕ) (zs' hs' : List ℕ)
      → ExportedFill z₀ spacing preset zs hs c zs' hs'
      → RefusedAndStays (code_refusal c) (FirstFault (fill_conditions z₀ spacing preset zs hs)) ((zs' ≡ zs) × (hs' ≡ hs))
  pub exported_read_refused : (s ts vs zs hs ns : List ℕ) (c : ℕ) (ts' vs' zs' hs' ns' : List ℕ)
      → ExportedRead s ts vs zs hs ns c ts' vs' zs' hs' ns'
      → RefusedAndStays (code_refusal c) (FirstOrElse (length_first 2 ns (read_conditions ts vs zs hs)) (Refused full s))
      ((ts' ≡ ts) × (vs' ≡ vs) × (zs' ≡ zs) × (hs' ≡ hs) × (ns' ≡ ns))
  pub exported_text_refused : (s out : List ℕ) (c : ℕ) (out' : List ℕ) → ExportedText s out c out'
      → RefusedAndStays (code_refusal c) (FirstOrElse (buffer_conditions out) (EitherRefused full s)) (out' ≡ out)
  pub exported_refusal_text_refused : (n p : ℕ) (out : List ℕ) (c : ℕ) (out' : List ℕ) → ExportedRefusalText n p out c out'
      → RefusedAndStays (code_refusal c) (FirstFault (buffer_conditions out)) (out' ≡ out)

-- ---------------------------------------------------------------------------------------------------------------------------------------
-- Demand 2

-- each row of accepted input is the published one; of the program's rows Draws says it above. Values are 16 bits wide, as their type is.
pub record Demand2 : Type 0 where
  -- where the question at one mark is not refused there is a published row
  pub a_row : (ts vs : List ℕ) (z h : ℕ) → AtMost max_u16 vs → NoFault (evaluate_conditions ts vs h)
      → (e : Estimate) × PublishedRow ts vs z h e
  -- and at most one, so each row below is that one
  pub one_row : (ts vs : List ℕ) (z h : ℕ) (d e : Estimate) → PublishedRow ts vs z h d → PublishedRow ts vs z h e → d ≡ e
  -- the row of the question at one mark
  pub evaluate_row : (ts vs : List ℕ) (z h : ℕ) (e : Estimate) → AtMost max_u16 vs → EvaluateCall ts vs z h (Ok e) → PublishedRow ts vs z h e
  -- its run is that part of the caller's own values, two bytes each
  pub window_run : (ts vs : List ℕ) (z h : ℕ) (e : Estimate) (values_at : Place) (part : Bor (List ℕ)) → EvaluateCall ts vs z h (Ok e)
      → WindowCall ts vs z h values_at part
      → (part.now ≡ take (e.right - e.left) (drop e.left vs))
      × (part.ref_ptr.0 ≡ values_at.ref_ptr.0) × (part.ref_ptr.1 ≡ values_at.ref_ptr.1 + e.left * 2)
  -- each five numbers of an accepted sweep's rows
  pub smooth_rows : (ts vs zs hs rs : List ℕ) (n : ℕ) (rs' : List ℕ) → AtMost max_u16 vs → SmoothCall ts vs zs hs rs (Ok n) rs'
      → (length rs' ≡ row_width * length zs)
      × ((k : ℕ) → k < length zs → PublishedRow ts vs (get_or zs k 0) (get_or hs k 0) (stored_row rs' k))
  -- the same of the calls for C and Rust
  pub exported_row : (ts vs : List ℕ) (z h : ℕ) (row : List ℕ) (c : ℕ) (row' : List ℕ) → AtMost max_u16 vs
      → ExportedEvaluate ts vs z h row c row' → code_refusal c ≡ None → (c ≡ 0) × (length row' ≡ row_width) × PublishedRow ts vs z h (stored_row row' 0)
  pub exported_bounds : (ts vs : List ℕ) (z h : ℕ) (bounds : List ℕ) (c : ℕ) (bounds' : List ℕ) (e : Estimate) → AtMost max_u16 vs
      → ExportedWindow ts vs z h bounds c bounds' → code_refusal c ≡ None → PublishedRow ts vs z h e
      → (c ≡ 0) × (bounds' ≡ e.left ∷ e.right ∷ [])
  pub exported_rows : (ts vs zs hs rs : List ℕ) (c : ℕ) (rs' : List ℕ) → AtMost max_u16 vs
      → ExportedSmooth ts vs zs hs rs c rs' → code_refusal c ≡ None
      → (length rs' ≡ row_width * length zs)
      × ((k : ℕ) → k < length zs → PublishedRow ts vs (get_or zs k 0) (get_or hs k 0) (stored_row rs' k))

-- ---------------------------------------------------------------------------------------------------------------------------------------
-- Demand 3

-- the record that the caller holds after a step: the new one, or the old one where the step was refused
abbrev pub held : RunningSums → Result RunningSums Refusal → RunningSums
held r (Ok r') = r'
held r (Err e) = r

-- calls of `advance` for the steps ms over the same readings, each with the record held after the one before: from the record r to r'
pub data Steps (ts vs : List ℕ) : RunningSums → List Move → RunningSums → Type 0 where
  no_step : {r : RunningSums} → Steps ts vs r [] r
  one_step : {r r' : RunningSums} {ms : List Move} (m : Move) (a : Result RunningSums Refusal) → AdvanceCall r ts vs m.point m.bandwidth a
      → Steps ts vs (held r a) ms r' → Steps ts vs r (m ∷ ms) r'

-- the same of the call for C and Rust, over one lent list of nine numbers that nobody else writes
pub data ExportedSteps (ts vs : List ℕ) : List ℕ → List Move → List ℕ → Type 0 where
  no_step : {xs : List ℕ} → ExportedSteps ts vs xs [] xs
  one_step : {xs xs' xs'' : List ℕ} {ms : List Move} (m : Move) (c : ℕ) → ExportedAdvance xs ts vs m.point m.bandwidth c xs'
      → ExportedSteps ts vs xs' ms xs'' → ExportedSteps ts vs xs (m ∷ ms) xs''

-- a fresh record as numbers
abbrev pub zeros : List ℕ
zeros = replicate record_length 0

-- readings of 16 bits whose minutes never fall, and steps whose accepted ones never take an edge back
pub record OrderedSteps (ts vs : List ℕ) (ms : List Move) : Type 0 where
  pub minutes : AtMost max_u16 ts
  pub values : AtMost max_u16 vs
  pub ordered : Ordered ts
  pub no_edge_back : NoEdgeBack ts vs ms

-- what the event log ("the book") holds beside the record r: each position up to an edge once, and none is evicted that was not inserted
pub record LogMatches (ts vs : List ℕ) (ms : List Move) (r : RunningSums) : Type 0 where
  pub inserted_once : (log_after_steps ts vs ms).inserted ≡ between 0 r.right
  pub evicted_once : (log_after_steps ts vs ms).evicted ≡ between 0 r.left
  pub evicted_were_inserted : r.left ≤ r.right
  pub within : r.right ≤ length ts

-- one claim about the whole list of steps, as calls of `advance` of which the first has a fresh record
pub record CallsHold (ts vs : List ℕ) (ms : List Move) : Type 0 where
  -- after each step, whatever stands before and after it: the claim of the answer, and of the records held before and after
  pub each_step : (before rest : List Move) (m : Move) (r : RunningSums) (a : Result RunningSums Refusal) → ms ≡ before ++ m ∷ rest
      → Steps ts vs fresh before r → AdvanceCall r ts vs m.point m.bandwidth a → StepHolds ts vs before m (refusal (answer_of a)) r (held r a)
  -- no reading is inserted twice, none is evicted twice, and none is evicted that was not inserted
  pub each_once : (r : RunningSums) → Steps ts vs fresh ms r → LogMatches ts vs ms r
  -- the record's own passes are the event log's insertions plus evictions, at most two for each reading
  pub passes_are : (r : RunningSums) → Steps ts vs fresh ms r → r.passes ≡ log_passes ts vs ms
  pub passes_most : (r : RunningSums) → Steps ts vs fresh ms r → r.passes ≤ 2 * length ts

-- the same of the call for C and Rust, from nine zeros
pub record ExportedCallsHold (ts vs : List ℕ) (ms : List Move) : Type 0 where
  pub each_exported_step : (before rest : List Move) (m : Move) (xs : List ℕ) (c : ℕ) (xs' : List ℕ) → ms ≡ before ++ m ∷ rest
      → ExportedSteps ts vs zeros before xs → ExportedAdvance xs ts vs m.point m.bandwidth c xs'
      → (length xs ≡ record_length) × (length xs' ≡ record_length) × StepHolds ts vs before m (code_refusal c) (record_of xs) (record_of xs')
  pub each_exported_once : (xs : List ℕ) → ExportedSteps ts vs zeros ms xs → LogMatches ts vs ms (record_of xs)
  pub exported_passes_are : (xs : List ℕ) → ExportedSteps ts vs zeros ms xs → (record_of xs).passes ≡ log_passes ts vs ms
  pub exported_passes_most : (xs : List ℕ) → ExportedSteps ts vs zeros ms xs → (record_of xs).passes ≤ 2 * length ts

pub record Demand3 : Type 0 where
  -- every list of steps, refused ones included, over readings whose minutes never fall, in which no accepted step takes an edge back
  pub every_list : (ts vs : List ℕ) (ms : List Move) → OrderedSteps ts vs ms → CallsHold ts vs ms
  pub every_exported_list : (ts vs : List ℕ) (ms : List Move) → OrderedSteps ts vs ms → ExportedCallsHold ts vs ms
  -- what the log refuses a step with, and so by each_step the call, is 8, 6 or 9 at place 0
  pub refused_with : (ts vs : List ℕ) (m : Move) (e : Fault) → log_refusal ts vs m ≡ Some e
      → ((e.number ≡ 8) ⊎ (e.number ≡ 6) ⊎ (e.number ≡ 9)) × (e.place ≡ 0)
  -- a list of another length gets 8 at place 0 from every call and stays; the event log has no such list
  pub other_length : (xs ts vs : List ℕ) (z h c : ℕ) (xs' : List ℕ) → ¬ (length xs ≡ record_length) → ExportedAdvance xs ts vs z h c xs'
      → (c ≡ 8) × (xs' ≡ xs)
  -- from a record of any origin, over any readings and with any edges, calls leave the records that the step's meaning gives
  pub steps_leave : (ts vs : List ℕ) (r r' : RunningSums) (ms : List Move) → Steps ts vs r ms r' → r' ≡ after ts vs r ms
  pub exported_steps_leave : (ts vs xs xs' : List ℕ) (ms : List Move) → length xs ≡ record_length → ExportedSteps ts vs xs ms xs'
      → (length xs' ≡ record_length) × (record_of xs' ≡ after ts vs (record_of xs) ms)
  pub exported_step_accepted : (xs ts vs : List ℕ) (z h c : ℕ) (xs' : List ℕ) → ExportedAdvance xs ts vs z h c xs' → code_refusal c ≡ None → c ≡ 0
  -- a record with the edges and sums of a mark's window, whatever it has come by, gives the row of the question at that mark
  pub window_record_row : (ts vs : List ℕ) (z h : ℕ) (r : RunningSums) (e e' : Estimate) → AtMost max_u16 vs → r.left ≡ left_of ts z h
      → r.right ≡ right_of ts z h → r.sums ≡ window_sums ts vs z h → EvaluateCall ts vs z h (Ok e') → RecordRowCall r z h e → e ≡ e'
  -- so does the record after each list of steps with an accepted one, at the mark and half width of the last of these
  pub steps_row : (ts vs : List ℕ) (ms : List Move) (m : Move) (r : RunningSums) (a : Result Estimate Refusal) (e : Estimate) → OrderedSteps ts vs ms
      → Steps ts vs fresh ms r → last_accepted ts vs ms ≡ Some m → EvaluateCall ts vs m.point m.bandwidth a
      → RecordRowCall r m.point m.bandwidth e → a ≡ Ok e
  -- the same of the calls for C and Rust: both are accepted and store the same five numbers
  pub exported_steps_row : (ts vs : List ℕ) (ms : List Move) (m : Move) (xs row₁ : List ℕ) (c₁ : ℕ) (row₁' row : List ℕ) (c : ℕ) (row' : List ℕ)
      → OrderedSteps ts vs ms → ExportedSteps ts vs zeros ms xs → last_accepted ts vs ms ≡ Some m → length row₁ ≡ row_width → length row ≡ row_width
      → ExportedEvaluate ts vs m.point m.bandwidth row₁ c₁ row₁' → ExportedRecordRow xs m.point m.bandwidth row c row'
      → (c₁ ≡ 0) × (c ≡ 0) × (row' ≡ row₁')
  -- an accepted sweep gives what one step a mark gives: the five numbers of mark k are the row of the record after k + 1 steps from fresh
  pub smooth_steps : (ts vs zs hs rs : List ℕ) (n : ℕ) (rs' : List ℕ) (k : ℕ) → AtMost max_u16 ts → AtMost max_u16 vs
      → SmoothCall ts vs zs hs rs (Ok n) rs' → k < length zs
      → stored_row rs' k ≡ record_row (after ts vs fresh (moves (take (suc k) zs) (take (suc k) hs))) (get_or zs k 0) (get_or hs k 0)
  -- its passes are the insertions plus evictions of an event log of its lists, at most two for each reading
  pub smooth_passes : (ts vs zs hs rs : List ℕ) (n : ℕ) (rs' : List ℕ) → AtMost max_u16 ts → AtMost max_u16 vs
      → SmoothCall ts vs zs hs rs (Ok n) rs' → (n ≡ log_passes ts vs (moves zs hs)) × (n ≤ 2 * length ts)
  -- the same of the call for C and Rust, whose answer is the passes in units of its detail
  pub exported_smooth_steps : (ts vs zs hs rs : List ℕ) (c : ℕ) (rs' : List ℕ) (k : ℕ) → AtMost max_u16 ts → AtMost max_u16 vs
      → ExportedSmooth ts vs zs hs rs c rs' → code_refusal c ≡ None → k < length zs
      → stored_row rs' k ≡ record_row (after ts vs fresh (moves (take (suc k) zs) (take (suc k) hs))) (get_or zs k 0) (get_or hs k 0)
  pub exported_smooth_passes : (ts vs zs hs rs : List ℕ) (c : ℕ) (rs' : List ℕ) → AtMost max_u16 ts → AtMost max_u16 vs
      → ExportedSmooth ts vs zs hs rs c rs' → code_refusal c ≡ None → (c ≡ detail_unit * log_passes ts vs (moves zs hs)) × (c ≤ detail_unit * (2 * length ts))

-- ---------------------------------------------------------------------------------------------------------------------------------------
-- What the calls beside rows and steps give where they are accepted

-- n marks, mark k at z₀ + k × spacing, each with the preset's half width
pub record FilledGrid (z₀ spacing preset n : ℕ) (zs hs : List ℕ) : Type 0 where
  pub points_length : length zs ≡ n
  pub bandwidths_length : length hs ≡ n
  pub point : (k : ℕ) → k < n → get_or zs k 0 ≡ z₀ + k * spacing
  pub bandwidth : (k : ℕ) → k < n → get_or hs k 0 ≡ get_or presets preset 0

-- the lists c of the sheet s stand in front of each lent list's untouched rest
pub record SheetRead (s : List ℕ) (c : Contents) (ts vs zs hs ts' vs' zs' hs' : List ℕ) : Type 0 where
  pub sheet : IsSheet full s c
  pub minutes : ts' ≡ c.minutes ++ drop (length c.minutes) ts
  pub values : vs' ≡ c.values ++ drop (length c.values) vs
  pub points : zs' ≡ c.points ++ drop (length c.points) zs
  pub bandwidths : hs' ≡ c.bandwidths ++ drop (length c.bandwidths) hs

-- the row e of a record of any origin: its edges, weight and sum by the formulas over its sums, with what is subtracted on the other side and
-- modulo 2^64, and their quotient to the nearest whole number
pub record RowOfRecord (r : RunningSums) (z h : ℕ) (e : Estimate) : Type 0 where
  pub left_is : e.left ≡ r.left
  pub right_is : e.right ≡ r.right
  pub weight_fits : e.weight < 2 ^ 64
  pub weight_is : (e.weight + (z * z * r.sums.s00 + r.sums.s20)) % 2 ^ 64 ≡ (h * h * r.sums.s00 + 2 * z * r.sums.s10) % 2 ^ 64
  pub sum_fits : e.sum < 2 ^ 64
  pub sum_is : (e.sum + (z * z * r.sums.s01 + r.sums.s21)) % 2 ^ 64 ≡ (h * h * r.sums.s01 + 2 * z * r.sums.s11) % 2 ^ 64
  pub value_is : 0 < e.weight → Nearest e.sum e.weight e.value
  pub value_missing : e.weight ≡ 0 → e.value ≡ missing

pub record OtherCalls : Type 0 where
  -- the row of a record, at any mark and half width; there is one such row
  pub record_row_is : (r : RunningSums) (z h : ℕ) (e : Estimate) → RecordRowCall r z h e → RowOfRecord r z h e
  pub one_record_row : (r : RunningSums) (z h : ℕ) (d e : Estimate) → RowOfRecord r z h d → RowOfRecord r z h e → d ≡ e
  pub fill_fills : (z₀ spacing preset : ℕ) (zs hs zs' hs' : List ℕ) → FillCall z₀ spacing preset zs hs (Ok tt) zs' hs'
      → FilledGrid z₀ spacing preset (length zs) zs' hs'
  -- n readings are kept, and there are m marks
  pub read_fills : (s ts vs zs hs : List ℕ) (n m : ℕ) (ts' vs' zs' hs' : List ℕ)
      → ReadCall s ts vs zs hs (Ok (record { samples = n; points = m })) ts' vs' zs' hs'
      → (c : Contents) × ((n ≡ length c.minutes) × (m ≡ length c.points) × SheetRead s c ts vs zs hs ts' vs' zs' hs')
  -- number and place in front of the buffer's untouched rest, and how many bytes that is; of an accepted sheet's text by_curve says it above
  pub refusal_text_writes : (n p : ℕ) (out : List ℕ) (k : ℕ) (out' : List ℕ) → RefusalTextCall n p out (Ok k) out'
      → (k ≡ length (refusal_text (record { number = n; place = p })))
      × (out' ≡ refusal_text (record { number = n; place = p }) ++ drop (length (refusal_text (record { number = n; place = p }))) out)
  -- the same of the calls for C and Rust
  pub exported_record_row_is : (xs : List ℕ) (z h : ℕ) (row : List ℕ) (c : ℕ) (row' : List ℕ) → ExportedRecordRow xs z h row c row'
      → code_refusal c ≡ None → (c ≡ 0) × (length row' ≡ row_width) × RowOfRecord (record_of xs) z h (stored_row row' 0)
  pub exported_fill_fills : (z₀ spacing preset : ℕ) (zs hs : List ℕ) (c : ℕ) (zs' hs' : List ℕ) → ExportedFill z₀ spacing preset zs hs c zs' hs'
      → code_refusal c ≡ None → (c ≡ 0) × FilledGrid z₀ spacing preset (length zs) zs' hs'
  pub exported_read_fills : (s ts vs zs hs ns : List ℕ) (c : ℕ) (ts' vs' zs' hs' ns' : List ℕ)
      → ExportedRead s ts vs zs hs ns c ts' vs' zs' hs' ns' → code_refusal c ≡ None
      → (c ≡ 0) × ((d : Contents) × ((ns' ≡ length d.minutes ∷ length d.points ∷ []) × SheetRead s d ts vs zs hs ts' vs' zs' hs'))
  pub exported_text_writes : (s out : List ℕ) (c : ℕ) (out' : List ℕ) → ExportedText s out c out' → code_refusal c ≡ None
      → (c ≡ detail_unit * length (either_program s)) × (out' ≡ either_program s ++ drop (length (either_program s)) out)
  pub exported_refusal_text_writes : (n p : ℕ) (out : List ℕ) (c : ℕ) (out' : List ℕ) → ExportedRefusalText n p out c out' → code_refusal c ≡ None
      → (c ≡ detail_unit * length (refusal_text (record { number = n; place = p })))
      × (out' ≡ refusal_text (record { number = n; place = p }) ++ drop (length (refusal_text (record { number = n; place = p }))) out)
  -- which build it is
  pub exported_version_is : (v : ℕ) → ExportedVersion v → v ≡ version

-- ---------------------------------------------------------------------------------------------------------------------------------------
-- The preview: the sweep under limits of its own

pub record Preview : Type 0 where
  -- refused by its own limits, otherwise as the sweep, and then the rows stay
  pub preview_refused : (ts vs zs hs rs : List ℕ) (a : Result ℕ Refusal) (rs' : List ℕ) → PreviewCall ts vs zs hs rs a rs'
      → RefusedAndStays (refusal (answer_of a)) (FirstFault (smooth_conditions preview ts vs zs hs (length rs))) (rs' ≡ rs)
  -- each five numbers of an accepted preview's rows are the published row
  pub preview_rows : (ts vs zs hs rs : List ℕ) (n : ℕ) (rs' : List ℕ) → AtMost max_u16 vs → PreviewCall ts vs zs hs rs (Ok n) rs'
      → (length rs' ≡ row_width * length zs)
      × ((k : ℕ) → k < length zs → PublishedRow ts vs (get_or zs k 0) (get_or hs k 0) (stored_row rs' k))
  -- and what the question at that mark answers
  pub row_of_question : (ts vs zs hs rs : List ℕ) (n : ℕ) (rs' : List ℕ) (k : ℕ) (a : Result Estimate Refusal) → PreviewCall ts vs zs hs rs (Ok n) rs'
      → k < length zs → EvaluateCall ts vs (get_or zs k 0) (get_or hs k 0) a → answer_of a ≡ given (stored_row rs' k)
  -- its passes are the insertions plus evictions of an event log of its lists, at most two for each reading
  pub preview_passes : (ts vs zs hs rs : List ℕ) (n : ℕ) (rs' : List ℕ) → AtMost max_u16 ts → AtMost max_u16 vs
      → PreviewCall ts vs zs hs rs (Ok n) rs' → (n ≡ log_passes ts vs (moves zs hs)) × (n ≤ 2 * length ts)
  -- a preview and a sweep of the same lists: the preview accepts exactly what the sweep accepts and its own limits allow
  pub accepted_by_both : (ts vs zs hs rs : List ℕ) (a b : Result ℕ Refusal) (rs₁ rs₂ : List ℕ) (n : ℕ) → PreviewCall ts vs zs hs rs a rs₁
      → SmoothCall ts vs zs hs rs b rs₂ → (answer_of a ≡ given n) ↔ ((answer_of b ≡ given n) × Fits preview ts zs)
  -- within its limits both give the same, refusals and places included, and leave the same rows
  pub within : (ts vs zs hs rs : List ℕ) (a b : Result ℕ Refusal) (rs₁ rs₂ : List ℕ) → Fits preview ts zs → PreviewCall ts vs zs hs rs a rs₁
      → SmoothCall ts vs zs hs rs b rs₂ → (answer_of a ≡ answer_of b) × (rs₁ ≡ rs₂)
  -- over them the preview gives 8 where the sweep does, and otherwise 6 at place 0
  pub over_uneven : (ts vs zs hs rs : List ℕ) (a b : Result ℕ Refusal) (rs₁ rs₂ : List ℕ) (p : ℕ) → Over preview ts zs → PreviewCall ts vs zs hs rs a rs₁
      → SmoothCall ts vs zs hs rs b rs₂ → refusal (answer_of b) ≡ Some (record { number = 8; place = p })
      → refusal (answer_of a) ≡ Some (record { number = 8; place = 0 })
  pub over_too_many : (ts vs zs hs rs : List ℕ) (a b : Result ℕ Refusal) (rs₁ rs₂ : List ℕ) → Over preview ts zs → PreviewCall ts vs zs hs rs a rs₁
      → SmoothCall ts vs zs hs rs b rs₂ → ((p : ℕ) → ¬ (refusal (answer_of b) ≡ Some (record { number = 8; place = p })))
      → refusal (answer_of a) ≡ Some (record { number = 6; place = 0 })
  -- the same of the calls for C and Rust
  pub exported_preview_refused : (ts vs zs hs rs : List ℕ) (c : ℕ) (rs' : List ℕ) → ExportedPreview ts vs zs hs rs c rs'
      → RefusedAndStays (code_refusal c) (FirstFault (smooth_conditions preview ts vs zs hs (length rs))) (rs' ≡ rs)
  pub exported_preview_rows : (ts vs zs hs rs : List ℕ) (c : ℕ) (rs' : List ℕ) → AtMost max_u16 vs → ExportedPreview ts vs zs hs rs c rs'
      → code_refusal c ≡ None
      → (length rs' ≡ row_width * length zs)
      × ((k : ℕ) → k < length zs → PublishedRow ts vs (get_or zs k 0) (get_or hs k 0) (stored_row rs' k))
  pub exported_preview_passes : (ts vs zs hs rs : List ℕ) (c : ℕ) (rs' : List ℕ) → AtMost max_u16 ts → AtMost max_u16 vs
      → ExportedPreview ts vs zs hs rs c rs' → code_refusal c ≡ None
      → (c ≡ detail_unit * log_passes ts vs (moves zs hs)) × (c ≤ detail_unit * (2 * length ts))
  pub exported_within : (ts vs zs hs rs : List ℕ) (c d : ℕ) (rs₁ rs₂ : List ℕ) → Fits preview ts zs → ExportedPreview ts vs zs hs rs c rs₁
      → ExportedSmooth ts vs zs hs rs d rs₂ → (c ≡ d) × (rs₁ ≡ rs₂)
  pub exported_over : (ts vs zs hs rs : List ℕ) (c d : ℕ) (rs₁ rs₂ : List ℕ) → Over preview ts zs → ExportedPreview ts vs zs hs rs c rs₁
      → ExportedSmooth ts vs zs hs rs d rs₂ → ((d ≡ 8) → c ≡ 8) × (¬ (d ≡ 8) → c ≡ 6)

-- ---------------------------------------------------------------------------------------------------------------------------------------
-- What holds of every curve

pub record EveryCurve : Type 0 where
  -- a present value lies between the lowest and the highest value of the readings with a weight above zero: at one mark
  pub evaluate_among : (ts vs : List ℕ) (z h : ℕ) (e : Estimate) → EvaluateCall ts vs z h (Ok e) → ¬ (e.value ≡ missing) → Among ts vs z h e
  -- in each five numbers of an accepted sweep's rows, and of a preview's
  pub smooth_among : (ts vs zs hs rs : List ℕ) (n : ℕ) (rs' : List ℕ) (k : ℕ) → SmoothCall ts vs zs hs rs (Ok n) rs' → k < length zs
      → ¬ ((stored_row rs' k).value ≡ missing) → Among ts vs (get_or zs k 0) (get_or hs k 0) (stored_row rs' k)
  pub preview_among : (ts vs zs hs rs : List ℕ) (n : ℕ) (rs' : List ℕ) (k : ℕ) → PreviewCall ts vs zs hs rs (Ok n) rs' → k < length zs
      → ¬ ((stored_row rs' k).value ≡ missing) → Among ts vs (get_or zs k 0) (get_or hs k 0) (stored_row rs' k)
  -- and in each row that the program writes for a plain sheet
  pub sheet_among : (s : List ℕ) (c : Contents) (k : ℕ) → IsSheet full s c → k < length c.points
      → ¬ ((estimate c.minutes c.values (get_or c.points k 0) (get_or c.bandwidths k 0)).value ≡ missing)
      → Among c.minutes c.values (get_or c.points k 0) (get_or c.bandwidths k 0)
      (estimate c.minutes c.values (get_or c.points k 0) (get_or c.bandwidths k 0))
  -- the same of the calls for C and Rust
  pub exported_evaluate_among : (ts vs : List ℕ) (z h : ℕ) (row : List ℕ) (c : ℕ) (row' : List ℕ) → ExportedEvaluate ts vs z h row c row'
      → code_refusal c ≡ None → ¬ ((stored_row row' 0).value ≡ missing) → Among ts vs z h (stored_row row' 0)
  pub exported_smooth_among : (ts vs zs hs rs : List ℕ) (c : ℕ) (rs' : List ℕ) (k : ℕ) → ExportedSmooth ts vs zs hs rs c rs' → code_refusal c ≡ None
      → k < length zs → ¬ ((stored_row rs' k).value ≡ missing) → Among ts vs (get_or zs k 0) (get_or hs k 0) (stored_row rs' k)
  pub exported_preview_among : (ts vs zs hs rs : List ℕ) (c : ℕ) (rs' : List ℕ) (k : ℕ) → ExportedPreview ts vs zs hs rs c rs'
      → code_refusal c ≡ None → k < length zs → ¬ ((stored_row rs' k).value ≡ missing)
      → Among ts vs (get_or zs k 0) (get_or hs k 0) (stored_row rs' k)
  -- and in the row of a record after steps, at the mark and half width of the last accepted one; after turns: Turns.antt
  pub record_row_among : (ts vs : List ℕ) (ms : List Move) (m : Move) (r : RunningSums) (e : Estimate) → OrderedSteps ts vs ms → Steps ts vs fresh ms r
      → last_accepted ts vs ms ≡ Some m → RecordRowCall r m.point m.bandwidth e → ¬ (e.value ≡ missing) → Among ts vs m.point m.bandwidth e
  pub exported_record_row_among : (ts vs : List ℕ) (ms : List Move) (m : Move) (xs row : List ℕ) (c : ℕ) (row' : List ℕ) → OrderedSteps ts vs ms
      → ExportedSteps ts vs zeros ms xs → last_accepted ts vs ms ≡ Some m → ExportedRecordRow xs m.point m.bandwidth row c row' → code_refusal c ≡ None
      → ¬ ((stored_row row' 0).value ≡ missing) → Among ts vs m.point m.bandwidth (stored_row row' 0)
  -- readings of equal minute may change places: both calls give the same answer and leave the same rows, refusals included
  pub evaluate_alike : (ts vs vs' : List ℕ) (z h : ℕ) (a b : Result Estimate Refusal) → Rearranged ts vs vs' → EvaluateCall ts vs z h a
      → EvaluateCall ts vs' z h b → answer_of a ≡ answer_of b
  pub smooth_alike : (ts vs vs' zs hs rs : List ℕ) (a b : Result ℕ Refusal) (rs₁ rs₂ : List ℕ) → Rearranged ts vs vs' → SmoothCall ts vs zs hs rs a rs₁
      → SmoothCall ts vs' zs hs rs b rs₂ → (answer_of a ≡ answer_of b) × (rs₁ ≡ rs₂)
  pub preview_alike : (ts vs vs' zs hs rs : List ℕ) (a b : Result ℕ Refusal) (rs₁ rs₂ : List ℕ) → Rearranged ts vs vs' → PreviewCall ts vs zs hs rs a rs₁
      → PreviewCall ts vs' zs hs rs b rs₂ → (answer_of a ≡ answer_of b) × (rs₁ ≡ rs₂)
  -- and the rows of both records after the same steps are the same
  pub record_row_alike : (ts vs vs' : List ℕ) (ms : List Move) (m : Move) (r s : RunningSums) (d e : Estimate) → Rearranged ts vs vs' → OrderedSteps ts vs ms
      → AtMost max_u16 vs' → Steps ts vs fresh ms r → Steps ts vs' fresh ms s → last_accepted ts vs ms ≡ Some m
      → RecordRowCall r m.point m.bandwidth d → RecordRowCall s m.point m.bandwidth e → d ≡ e
  pub exported_record_row_alike : (ts vs vs' : List ℕ) (ms : List Move) (m : Move) (xs ys row : List ℕ) (c d : ℕ) (row₁ row₂ : List ℕ)
      → Rearranged ts vs vs' → OrderedSteps ts vs ms → AtMost max_u16 vs' → ExportedSteps ts vs zeros ms xs → ExportedSteps ts vs' zeros ms ys
      → last_accepted ts vs ms ≡ Some m → length row ≡ row_width → ExportedRecordRow xs m.point m.bandwidth row c row₁
      → ExportedRecordRow ys m.point m.bandwidth row d row₂ → (c ≡ d) × (row₁ ≡ row₂)
  -- two plain sheets that differ only so print alike
  pub sheets_alike : (s s' : List ℕ) (c : Contents) (vs' : List ℕ) → Rearranged c.minutes c.values vs' → IsSheet full s c
      → IsSheet full s' (record { minutes = c.minutes; values = vs'; points = c.points; bandwidths = c.bandwidths }) → either_program s ≡ either_program s'
  -- the same of the calls for C and Rust
  pub exported_evaluate_alike : (ts vs vs' : List ℕ) (z h : ℕ) (row : List ℕ) (c d : ℕ) (row₁ row₂ : List ℕ) → Rearranged ts vs vs'
      → ExportedEvaluate ts vs z h row c row₁ → ExportedEvaluate ts vs' z h row d row₂ → (c ≡ d) × (row₁ ≡ row₂)
  pub exported_smooth_alike : (ts vs vs' zs hs rs : List ℕ) (c d : ℕ) (rs₁ rs₂ : List ℕ) → Rearranged ts vs vs' → ExportedSmooth ts vs zs hs rs c rs₁
      → ExportedSmooth ts vs' zs hs rs d rs₂ → (c ≡ d) × (rs₁ ≡ rs₂)
  pub exported_preview_alike : (ts vs vs' zs hs rs : List ℕ) (c d : ℕ) (rs₁ rs₂ : List ℕ) → Rearranged ts vs vs'
      → ExportedPreview ts vs zs hs rs c rs₁ → ExportedPreview ts vs' zs hs rs d rs₂ → (c ≡ d) × (rs₁ ≡ rs₂)

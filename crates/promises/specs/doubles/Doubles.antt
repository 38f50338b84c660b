-- What is promised of weights and sums as doubles, of the calls as a caller has them. SPECIFICATION, "Sums for the spreadsheet".
-- ts are minutes, vs values, z a mark, h a half width, zs and hs lists of these, rs rows, as in Demands.antt of the crate demands.
use Rattle.std.specs.Prelude.{ℕ, ◌*◌, ◌/◌, ◌^◌, ◌≤◌, ◌<◌, ◌≡◌, List, map, length, drop, Float}
use Rattle.std.specs.Prelude.{Ok}
use Rattle.std.specs.Prelude.{None, Some}
use Rattle.std.specs.Borrow.{MutBor}
use contract.Lifetimes.{Lfts}
use borrow.Fn.Kinds.{Dens}
use Rattle.meanings.specs.declared.Estimate.{Estimate}
use Rattle.meanings.specs.declared.RunningSums.{RunningSums}
use Rattle.meanings.specs.declared.Turning.{Turning}
use Rattle.meanings.specs.Claim.{NoEdgeBackAfter, accepted_after, last_accepted}
use Rattle.meanings.specs.Codes.{detail_unit}
use Rattle.meanings.specs.Estimate.{left_of, right_of}
use Rattle.meanings.specs.Limits.{max_u16, max_bandwidth, row_width}
use Rattle.meanings.specs.Lists.{AtMost, Ordered}
use Rattle.meanings.specs.Moves.{Move}
use Rattle.meanings.specs.Reports.{verdict_fault}
use Rattle.meanings.specs.Running.{fresh}
use Rattle.meanings.specs.Turn.{Motion}
use Rattle.meanings.specs.declared.doubles.Cell.{Cell}
use Rattle.meanings.specs.declared.doubles.RowCells.{RowCells}
use Rattle.meanings.specs.doubles.Cases.{NumberCase, number_result, number_cases, RowCase, weight_result, sum_result, row_cases}
use Rattle.meanings.specs.doubles.Doubles.{Doubles, pair, cell_doubles, HandedOver, HadBack, number_of, Parts, Tellable}
use Rattle.exports.specs.Answers.{record_of}
use Rattle.exports.specs.Lists.{used, read_back}
use Rattle.text.specs.Table.{stored_row}
use Rattle.questions.proofs.doubles.number_cell.Reads as number_cell
use Rattle.questions.proofs.doubles.number_cell.Kinds as number_cell_kinds
use Rattle.questions.proofs.doubles.number_cell.Statement as number_cell_code
use Rattle.questions.proofs.doubles.row_cells.Reads as row_cells
use Rattle.questions.proofs.doubles.row_cells.Kinds as row_cells_kinds
use Rattle.questions.proofs.doubles.row_cells.Statement as row_cells_code
use Rattle.exports.proofs.doubles.tankcurve_doubles.Reads as exported_doubles
use Rattle.exports.proofs.doubles.tankcurve_doubles.Kinds as exported_doubles_kinds
use Rattle.exports.proofs.doubles.tankcurve_doubles.Statement as exported_doubles_code
use Rattle.promises.specs.Calls.{Place, EvaluateCall, RecordRowCall, SmoothCall, PreviewCall}
use Rattle.promises.specs.Calls.{ExportedEvaluate, ExportedRecordRow, ExportedSmooth, ExportedPreview}
use Rattle.promises.specs.conditions.Conditions.{Conditions, no_more, condition, AtZero, FirstFault, code_refusal}
use Rattle.promises.specs.Demands.{RefusedAndStays, Steps, OrderedSteps, ExportedSteps, zeros}
use Rattle.promises.specs.turn.Turns.{TurnCall, ExportedTurn, Motions, ExportedMotions}

-- ---- calls that were made

-- of a weight and a number
pub record NumberCellCall (w n : ℕ) (c : Cell) : Type 0 where
  pub lifetimes : Lfts 0
  pub ensured : number_cell.Post lifetimes (w, (n, tt)) c (w, (n, tt))

-- of a row
pub record RowCellsCall (e : Estimate) (c : RowCells) : Type 0 where
  pub lifetimes : Lfts 0
  pub ensured : row_cells.Post lifetimes (e, tt) c (e, tt)

-- for C and Rust, on a lent list xs of doubles that is xs' at exit
abbrev pub lent_mut : Place → List Float → MutBor (List Float)
lent_mut x xs = record { ref_ptr = x.ref_ptr; ghost_name = x.ghost_name; now = xs }

pub record ExportedDoubles (w n : ℕ) (xs : List Float) (c : ℕ) (xs' : List Float) : Type 0 where
  pub lifetimes : Lfts 1
  pub doubles_at : Place
  pub ensured : exported_doubles.Post lifetimes (w, (n, (lent_mut doubles_at xs, tt))) c (w, (n, (lent_mut doubles_at xs', tt)))

-- both numbers of a row, each by a call with two doubles to write
pub record ExportedRow (e : Estimate) (c : ℕ) (xs' : List Float) (d : ℕ) (ys' : List Float) : Type 0 where
  pub weight_list : List Float
  pub weight_room : length weight_list ≡ 2
  pub weight_call : ExportedDoubles e.weight e.weight weight_list c xs'
  pub sum_list : List Float
  pub sum_room : length sum_list ≡ 2
  pub sum_call : ExportedDoubles e.weight e.sum sum_list d ys'

-- ---- what is said of them

-- the export is refused for the list's length alone
abbrev pub doubles_conditions : List Float → Conditions
doubles_conditions xs = condition 8 (AtZero (¬ (length xs ≡ 2))) no_more

-- what an answer and its list tell
abbrev pub doubles_of_answer : ℕ → List Float → Doubles
doubles_of_answer c xs = read_back (c / detail_unit) xs

-- weight and sum are had back
pub record RowHadBack (e : Estimate) (c : RowCells) : Type 0 where
  pub weight_had_back : HadBack (cell_doubles c.weight) e.weight
  pub sum_had_back : HadBack (cell_doubles c.sum) e.sum

pub record ExportedHadBack (e : Estimate) (c : ℕ) (xs' : List Float) (d : ℕ) (ys' : List Float) : Type 0 where
  pub weight_had_back : HadBack (doubles_of_answer c xs') e.weight
  pub sum_had_back : HadBack (doubles_of_answer d ys') e.sum

-- the record holds the window of z and h, over ordered readings
pub record HoldsWindow (ts : List ℕ) (z h : ℕ) (r : RunningSums) : Type 0 where
  pub ordered : Ordered ts
  pub bandwidth : h ≤ max_bandwidth
  pub left_is : r.left ≡ left_of ts z h
  pub right_is : r.right ≡ right_of ts z h

-- every input is taken, each call ends, and nothing is left for the caller to check
pub record EveryDoublesTaken : Type 2 where
  pub number_cell_ends : {M : Type 1} → number_cell_code.statement M
  pub number_cell_asks_nothing : (κs : Lfts 0) (a : Dens κs number_cell_kinds.ps) → number_cell.Asked κs a
  pub row_cells_ends : {M : Type 1} → row_cells_code.statement M
  pub row_cells_asks_nothing : (κs : Lfts 0) (a : Dens κs row_cells_kinds.ps) → row_cells.Asked κs a
  pub exported_doubles_ends : {M : Type 1} → exported_doubles_code.statement M
  pub exported_doubles_asks_nothing : (κs : Lfts 1) (a : Dens κs exported_doubles_kinds.ps) → exported_doubles.Asked κs a

pub record DoublesHold : Type 0 where
  -- each double handed over is exact, of every number of 64 bits: nothing without weight, one below 2^53, two parts from there on; and this
  -- decides what is handed over
  pub number_handed_over : (w n : ℕ) (c : Cell) → n < 2 ^ 64 → NumberCellCall w n c → HandedOver w n (cell_doubles c)
  pub nothing_else : (w n : ℕ) (c : Cell) (d : Doubles) → n < 2 ^ 64 → NumberCellCall w n c → HandedOver w n d → d ≡ cell_doubles c
  pub row_handed_over : (e : Estimate) (c : RowCells) → e.weight < 2 ^ 64 → e.sum < 2 ^ 64 → RowCellsCall e c
      → HandedOver e.weight e.weight (cell_doubles c.weight) × HandedOver e.weight e.sum (cell_doubles c.sum)
  -- of every pair the high part is a multiple of 2^32 and the low part below 2^32
  pub parts : (w n : ℕ) (c : Cell) (high low : Float) → n < 2 ^ 64 → NumberCellCall w n c → cell_doubles c ≡ pair high low → Parts high low n
  -- a number is had back that is 0 where the weight is
  pub number_had_back : (w n : ℕ) (c : Cell) → n < 2 ^ 64 → (w ≡ 0 → n ≡ 0) → NumberCellCall w n c → HadBack (cell_doubles c) n
  -- and no other: it is what the casts to whole numbers add up to
  pub had_back_once : (d : Doubles) (n m : ℕ) → HadBack d n → HadBack d m → n ≡ m
  pub by_casts : (d : Doubles) (n : ℕ) → n < 2 ^ 64 → HadBack d n → number_of d ≡ n
  -- both numbers of any row whose sum is 0 where its weight is
  pub row_had_back : (e : Estimate) (c : RowCells) → Tellable e → RowCellsCall e c → RowHadBack e c
  -- one of a record of any origin too, at any mark and half width; that its numbers have 64 bits is known
  pub foreign_had_back : (r : RunningSums) (z h : ℕ) (e : Estimate) (c : RowCells) → (e.weight ≡ 0 → e.sum ≡ 0) → RecordRowCall r z h e
      → RowCellsCall e c → RowHadBack e c
  -- such are all rows of the question at one mark, the sweep and the preview
  pub evaluated_had_back : (ts vs : List ℕ) (z h : ℕ) (e : Estimate) (c : RowCells) → AtMost max_u16 vs → EvaluateCall ts vs z h (Ok e)
      → RowCellsCall e c → RowHadBack e c
  pub swept_had_back : (ts vs zs hs rs : List ℕ) (n : ℕ) (rs' : List ℕ) (k : ℕ) (c : RowCells) → AtMost max_u16 vs
      → SmoothCall ts vs zs hs rs (Ok n) rs' → k < length zs → RowCellsCall (stored_row rs' k) c → RowHadBack (stored_row rs' k) c
  pub previewed_had_back : (ts vs zs hs rs : List ℕ) (n : ℕ) (rs' : List ℕ) (k : ℕ) (c : RowCells) → AtMost max_u16 vs
      → PreviewCall ts vs zs hs rs (Ok n) rs' → k < length zs → RowCellsCall (stored_row rs' k) c → RowHadBack (stored_row rs' k) c
  -- and those of a record after steps and turns, at the mark and half width whose window it holds
  pub record_had_back : (ts vs : List ℕ) (r : RunningSums) (ms : List Motion) (z h : ℕ) (e : Estimate) (c : RowCells) → AtMost max_u16 ts
      → AtMost max_u16 vs → Motions ts vs fresh ms r → HoldsWindow ts z h r → RecordRowCall r z h e → RowCellsCall e c → RowHadBack e c
  -- which is that of the last accepted step where no edge has gone back, and that of an accepted turn
  pub steps_hold_window : (ts vs : List ℕ) (ms : List Move) (m : Move) (r : RunningSums) → OrderedSteps ts vs ms → Steps ts vs fresh ms r
      → last_accepted ts vs ms ≡ Some m → HoldsWindow ts m.point m.bandwidth r
  pub turn_holds_window : (ts vs : List ℕ) (r : RunningSums) (ms : List Motion) (z h : ℕ) (t : Turning) → AtMost max_u16 ts → AtMost max_u16 vs
      → Motions ts vs fresh ms r → TurnCall r ts vs z h t → verdict_fault t.verdict ≡ None → HoldsWindow ts z h t.running
  -- and that of the last accepted step behind such a turn, where no edge has gone back from the turn on
  pub behind_turn_holds_window : (ts vs : List ℕ) (r r' : RunningSums) (ms : List Motion) (m n : Move) (t : Turning) (ns : List Move) → AtMost max_u16 ts
      → AtMost max_u16 vs → Motions ts vs fresh ms r → TurnCall r ts vs m.point m.bandwidth t → verdict_fault t.verdict ≡ None
      → Steps ts vs t.running ns r' → NoEdgeBackAfter ts vs (Some m) ns → accepted_after ts vs (Some m) ns ≡ Some n
      → HoldsWindow ts n.point n.bandwidth r'
  -- so the row there is had back after a turn
  pub turned_had_back : (ts vs : List ℕ) (r : RunningSums) (ms : List Motion) (z h : ℕ) (t : Turning) (e : Estimate) (c : RowCells)
      → AtMost max_u16 ts → AtMost max_u16 vs → Motions ts vs fresh ms r → TurnCall r ts vs z h t → verdict_fault t.verdict ≡ None
      → RecordRowCall t.running z h e → RowCellsCall e c → RowHadBack e c
  -- and after steps behind it
  pub behind_turn_had_back : (ts vs : List ℕ) (r r' : RunningSums) (ms : List Motion) (m n : Move) (t : Turning) (ns : List Move) (e : Estimate) (c : RowCells)
      → AtMost max_u16 ts → AtMost max_u16 vs → Motions ts vs fresh ms r → TurnCall r ts vs m.point m.bandwidth t
      → verdict_fault t.verdict ≡ None → Steps ts vs t.running ns r' → NoEdgeBackAfter ts vs (Some m) ns
      → accepted_after ts vs (Some m) ns ≡ Some n → RecordRowCall r' n.point n.bandwidth e → RowCellsCall e c → RowHadBack e c
  -- the call for C and Rust refuses a list of another length than two, and leaves it
  pub exported_refused : (w n : ℕ) (xs : List Float) (c : ℕ) (xs' : List Float) → ExportedDoubles w n xs c xs'
      → RefusedAndStays (code_refusal c) (FirstFault (doubles_conditions xs)) (xs' ≡ xs)
  -- else it tells what the call below hands over: the detail is how many doubles are used, they stand in front, and the others stay
  pub exported_tells : (w n : ℕ) (xs : List Float) (c : ℕ) (xs' : List Float) (a : Cell) → length xs ≡ 2 → ExportedDoubles w n xs c xs'
      → NumberCellCall w n a
      → (c ≡ detail_unit * used (cell_doubles a)) × (length xs' ≡ 2) × (doubles_of_answer c xs' ≡ cell_doubles a)
      × (drop (c / detail_unit) xs' ≡ drop (c / detail_unit) xs)
  pub exported_had_back : (w n : ℕ) (xs : List Float) (c : ℕ) (xs' : List Float) → n < 2 ^ 64 → (w ≡ 0 → n ≡ 0) → length xs ≡ 2
      → ExportedDoubles w n xs c xs' → HadBack (doubles_of_answer c xs') n
  -- so the rows that the calls for C and Rust store are had back
  pub exported_row_had_back : (e : Estimate) (c : ℕ) (xs' : List Float) (d : ℕ) (ys' : List Float) → Tellable e → ExportedRow e c xs' d ys'
      → ExportedHadBack e c xs' d ys'
  pub exported_evaluated_had_back : (ts vs : List ℕ) (z h : ℕ) (row : List ℕ) (k : ℕ) (row' : List ℕ) (c : ℕ) (xs' : List Float) (d : ℕ)
      (ys' : List Float) → AtMost max_u16 vs → ExportedEvaluate ts vs z h row k row' → code_refusal k ≡ None
      → ExportedRow (stored_row row' 0) c xs' d ys' → ExportedHadBack (stored_row row' 0) c xs' d ys'
  pub exported_swept_had_back : (ts vs zs hs rs : List ℕ) (k : ℕ) (rs' : List ℕ) (i c : ℕ) (xs' : List Float) (d : ℕ) (ys' : List Float)
      → AtMost max_u16 vs → ExportedSmooth ts vs zs hs rs k rs' → code_refusal k ≡ None → i < length zs
      → ExportedRow (stored_row rs' i) c xs' d ys' → ExportedHadBack (stored_row rs' i) c xs' d ys'
  pub exported_previewed_had_back : (ts vs zs hs rs : List ℕ) (k : ℕ) (rs' : List ℕ) (i c : ℕ) (xs' : List Float) (d : ℕ) (ys' : List Float)
      → AtMost max_u16 vs → ExportedPreview ts vs zs hs rs k rs' → code_refusal k ≡ None → i < length zs
      → ExportedRow (stored_row rs' i) c xs' d ys' → ExportedHadBack (stored_row rs' i) c xs' d ys'
  pub exported_record_had_back : (ts vs xs : List ℕ) (ms : List Motion) (z h : ℕ) (row : List ℕ) (k : ℕ) (row' : List ℕ) (c : ℕ)
      (xs' : List Float) (d : ℕ) (ys' : List Float) → AtMost max_u16 ts → AtMost max_u16 vs → ExportedMotions ts vs zeros ms xs
      → HoldsWindow ts z h (record_of xs) → length row ≡ row_width → ExportedRecordRow xs z h row k row'
      → ExportedRow (stored_row row' 0) c xs' d ys' → ExportedHadBack (stored_row row' 0) c xs' d ys'
  -- whose window such a record holds
  pub exported_steps_hold_window : (ts vs : List ℕ) (ms : List Move) (m : Move) (xs : List ℕ) → OrderedSteps ts vs ms → ExportedSteps ts vs zeros ms xs
      → last_accepted ts vs ms ≡ Some m → HoldsWindow ts m.point m.bandwidth (record_of xs)
  pub exported_turn_holds_window : (ts vs xs : List ℕ) (ms : List Motion) (z h a : ℕ) (xs' : List ℕ) → AtMost max_u16 ts → AtMost max_u16 vs
      → ExportedMotions ts vs zeros ms xs → ExportedTurn xs ts vs z h a xs' → code_refusal a ≡ None → HoldsWindow ts z h (record_of xs')
  pub exported_behind_turn_holds_window : (ts vs xs xs' xs'' : List ℕ) (ms : List Motion) (m n : Move) (a : ℕ) (ns : List Move) → AtMost max_u16 ts
      → AtMost max_u16 vs → ExportedMotions ts vs zeros ms xs → ExportedTurn xs ts vs m.point m.bandwidth a xs' → code_refusal a ≡ None
      → ExportedSteps ts vs xs' ns xs'' → NoEdgeBackAfter ts vs (Some m) ns → accepted_after ts vs (Some m) ns ≡ Some n
      → HoldsWindow ts n.point n.bandwidth (record_of xs'')
  -- so the row there is had back after a turn, and after steps behind it
  pub exported_behind_turn_had_back : (ts vs xs xs' xs'' : List ℕ) (ms : List Motion) (m n : Move) (a : ℕ) (ns : List Move) (row : List ℕ) (k : ℕ)
      (row' : List ℕ) (c : ℕ) (ds : List Float) (d : ℕ) (es : List Float) → AtMost max_u16 ts → AtMost max_u16 vs → ExportedMotions ts vs zeros ms xs
      → ExportedTurn xs ts vs m.point m.bandwidth a xs' → code_refusal a ≡ None → ExportedSteps ts vs xs' ns xs''
      → NoEdgeBackAfter ts vs (Some m) ns → accepted_after ts vs (Some m) ns ≡ Some n → length row ≡ row_width
      → ExportedRecordRow xs'' n.point n.bandwidth row k row' → ExportedRow (stored_row row' 0) c ds d es → ExportedHadBack (stored_row row' 0) c ds d es
  -- worked cases, by bit patterns
  pub number_cases_hold : map (λ (c : NumberCase). number_result c) number_cases ≡ map (λ (c : NumberCase). c.expected) number_cases
  pub weight_cases_hold : map (λ (c : RowCase). weight_result c) row_cases ≡ map (λ (c : RowCase). c.weight_expected) row_cases
  pub sum_cases_hold : map (λ (c : RowCase). sum_result c) row_cases ≡ map (λ (c : RowCase). c.sum_expected) row_cases

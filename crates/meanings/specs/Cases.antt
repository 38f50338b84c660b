-- What a case says: on one input a call gives this answer and leaves these lists.
use Rattle.std.specs.Prelude.{ℕ, ◌+◌, ◌≡◌, List, map, Option}
use Rattle.meanings.specs.declared.Counts.{Counts}
use Prim.Native.String.{String}
use Rattle.meanings.specs.declared.Estimate.{Estimate}
use Rattle.meanings.specs.declared.PowerSums.{PowerSums}
use Rattle.meanings.specs.declared.RunningSums.{RunningSums}
use Rattle.meanings.specs.declared.Limits.{Limits}
use Rattle.meanings.specs.Limits.{full}
use Rattle.meanings.specs.Bytes.{ascii}
use Rattle.meanings.specs.Moves.{Move}
use Rattle.meanings.specs.Reports.{Fault, Answer, given, refused}
use Rattle.meanings.specs.Running.{window_sums, advance, after, fresh, record_row}
use Rattle.meanings.specs.EventLog.{EventLog, empty_log, log_after}
use Rattle.meanings.specs.Turn.{Motion, turn_refusal, turn_record, after_motions}
use Rattle.meanings.specs.Sheet.{Contents, read_sheet}
use Rattle.meanings.specs.Calls.{evaluate, window, window_start, smooth, smooth_rows, fill, fill_points, fill_bandwidths, read, counts, read_minutes}
use Rattle.meanings.specs.Calls.{read_values, read_evaluation_points, read_bandwidths, write, write_buffer, write_refusal_text, refusal_buffer}
use Rattle.meanings.specs.Output.{program}

pub data Call : Type 0 where
  -- the question at one mark: minutes, values, mark, half width; its run; the six running sums over that run
  row run sums : List ℕ → List ℕ → ℕ → ℕ → Call
  -- the step: minutes, values, record, mark, half width
  step : List ℕ → List ℕ → RunningSums → ℕ → ℕ → Call
  -- the row that a record gives: record, mark, half width
  record_gives : RunningSums → ℕ → ℕ → Call
  -- a list of steps from a fresh record: minutes, values, steps
  steps : List ℕ → List ℕ → List Move → Call
  -- the turn: minutes, values, record, mark, half width
  turn_over : List ℕ → List ℕ → RunningSums → ℕ → ℕ → Call
  -- a list of steps and turns from a fresh record: minutes, values, steps and turns
  motions : List ℕ → List ℕ → List Motion → Call
  -- the sweep under limits at most the full ones: minutes, values, marks, half widths, rows at entry
  smooth_over : Limits → List ℕ → List ℕ → List ℕ → List ℕ → List ℕ → Call
  -- the filler: first mark, spacing, position, both lists at entry
  filler : ℕ → ℕ → ℕ → List ℕ → List ℕ → Call
  -- what the reader makes of a sheet, under any limits
  sheet : Limits → List ℕ → Call
  -- the reader: the sheet and its four lists at entry
  reader : Limits → List ℕ → List ℕ → List ℕ → List ℕ → List ℕ → Call
  -- the program: what it reads
  output : String → Call
  -- the curve of a sheet: the sheet and the buffer at entry
  curve_into : List ℕ → List ℕ → Call
  -- the text of a refusal: its number, its place and the buffer at entry
  refusal_into : ℕ → ℕ → List ℕ → Call

pub data Result : Type 0 where
  estimated : Answer Estimate → Result
  -- the run's values, and the position at which it begins
  part : List ℕ → ℕ → Result
  powers : PowerSums → Result
  stepped : Answer RunningSums → Result
  -- the record and the book after a list of steps
  logged : RunningSums → EventLog → Result
  -- what a turn is refused for, if it is, and the record at exit
  turned_to : Option Fault → RunningSums → Result
  -- the record after a list of steps and turns
  reached : RunningSums → Result
  -- passes, and rows at exit
  smooth_gives : Answer ℕ → List ℕ → Result
  -- both lists at exit
  filled : Answer Unit → List ℕ → List ℕ → Result
  outcome : Answer Contents → Result
  -- the four lists at exit
  read_into : Answer Counts → Contents → Result
  written : List ℕ → Result
  -- how many bytes are written, and the buffer at exit
  holds : Answer ℕ → List ℕ → Result

abbrev pub result : Call → Result
result (row ts vs z h) = estimated (evaluate full ts vs z h)
result (run ts vs z h) = part (window full ts vs z h) (window_start full ts vs z h)
result (sums ts vs z h) = powers (window_sums ts vs z h)
result (step ts vs r z h) = stepped (advance ts vs r z h)
result (record_gives r z h) = estimated (given (record_row r z h))
result (steps ts vs ms) = logged (after ts vs fresh ms) (log_after ts vs empty_log ms)
result (turn_over ts vs r z h) = turned_to (turn_refusal ts vs r h) (turn_record ts vs r z h)
result (motions ts vs ms) = reached (after_motions ts vs fresh ms)
result (smooth_over L ts vs zs hs rs) = smooth_gives (smooth L ts vs zs hs rs) (smooth_rows L ts vs zs hs rs)
result (filler z₀ d k zs hs) = filled (fill full z₀ d k zs hs) (fill_points full z₀ d k zs hs) (fill_bandwidths full z₀ d k zs hs)
result (sheet L s) = outcome (read_sheet L s)
result (reader L s ts vs zs hs) =
    let o = read L s ts vs zs hs in
    read_into (counts o)
    (record { minutes = read_minutes o ts; values = read_values o vs; points = read_evaluation_points o zs; bandwidths = read_bandwidths o hs })
result (output s) = written (program (ascii s))
result (curve_into s out) = holds (write s out) (write_buffer s out)
result (refusal_into n p out) = holds (write_refusal_text n p out) (refusal_buffer n p out)

pub record Case : Type 0 where
  pub call : Call
  pub expected : Result

infix 90 ◌⇒◌
abbrev pub ◌⇒◌ : Call → Result → Case
c ⇒ e = record { call = c; expected = e }

-- every case of the list gives what it should
abbrev pub AllHold : List Case → Type 0
AllHold cs = map (λ (c : Case). result c.call) cs ≡ map (λ (c : Case). c.expected) cs

-- a row; 65,536 stands for missing
abbrev pub is_row : ℕ → ℕ → ℕ → ℕ → ℕ → Answer Estimate
is_row left right weight sum value = given (record { left = left; right = right; weight = weight; sum = sum; value = value })

-- a report's number and place
abbrev pub is_report : {A : Type 0} → ℕ → ℕ → Answer A
is_report n p = refused (record { number = n; place = p })

abbrev pub is_sums : ℕ → ℕ → ℕ → ℕ → ℕ → ℕ → PowerSums
is_sums a b c d e f = record { s00 = a; s10 = b; s20 = c; s01 = d; s11 = e; s21 = f }

-- a record whose edges have only gone forth, from 0
abbrev pub is_record : ℕ → ℕ → PowerSums → RunningSums
is_record l r s = record { left = l; right = r; sums = s; passes = r + l }

-- a record with passes of its own
abbrev pub is_counted : ℕ → ℕ → PowerSums → ℕ → RunningSums
is_counted l r s n = record { left = l; right = r; sums = s; passes = n }

abbrev pub contents : List ℕ → List ℕ → List ℕ → List ℕ → Contents
contents ts vs zs hs = record { minutes = ts; values = vs; points = zs; bandwidths = hs }

-- Each call's whole outcome: its answer, and what each lent list holds at exit, for every input. On a refusal a lent list holds what it
-- held. A call's Result is read through `answer_of`, which gives the report's number and place, or the value.
use Rattle.std.specs.Prelude.{ℕ, List, [], ◌++◌, length, get_or, drop, replicate, Result, Ok, Err, Option}
use Rattle.meanings.specs.declared.Counts.{Counts}
use Rattle.meanings.specs.declared.Refusal.{Refusal}
use Rattle.meanings.specs.declared.Estimate.{Estimate}
use Rattle.meanings.specs.declared.Limits.{Limits}
use Rattle.meanings.specs.Limits.{full}
use Rattle.meanings.specs.Moves.{moves}
use Rattle.meanings.specs.Reports.{Fault, Answer, given, refused, unless, accepted_or, fault_of}
use Rattle.meanings.specs.Reports.{first_of, evaluate_checks, smooth_checks, fill_checks, read_checks, buffer_checks}
use Rattle.meanings.specs.Estimate.{estimate, left_of, run_of, rows}
use Rattle.meanings.specs.Running.{fresh, passes}
use Rattle.meanings.specs.Grid.{presets, grid}
use Rattle.meanings.specs.Sheet.{Contents, Outcome, or_next, read_sheet}
use Rattle.meanings.specs.Output.{curve_text, refusal_text}

-- what a call answers, read off its Result: the value, or the report's number and place
abbrev pub answer_of : {A : Type 0} → Result A Refusal → Answer A
answer_of (Ok a) = given a
answer_of (Err r) = refused (fault_of r)

-- the question at one mark, first call: the row or the report
abbrev pub evaluate_refusal : Limits → List ℕ → List ℕ → ℕ → Option Fault
evaluate_refusal L ts vs h = first_of (evaluate_checks L ts vs h)

unfoldable pub evaluate : Limits → List ℕ → List ℕ → ℕ → ℕ → Answer Estimate
evaluate L ts vs z h = unless (evaluate_refusal L ts vs h) (estimate ts vs z h)

-- second call: the run as a part of the caller's value list, empty on a refusal
unfoldable pub window : Limits → List ℕ → List ℕ → ℕ → ℕ → List ℕ
window L ts vs z h = accepted_or (evaluate_refusal L ts vs h) (run_of ts vs z h) []

-- and the position in that list at which the part begins: left, on a refusal 0
unfoldable pub window_start : Limits → List ℕ → List ℕ → ℕ → ℕ → ℕ
window_start L ts vs z h = accepted_or (evaluate_refusal L ts vs h) (left_of ts z h) 0

-- the whole sweep, under limits at most the full ones: its passes or the report
abbrev pub smooth_refusal : Limits → List ℕ → List ℕ → List ℕ → List ℕ → List ℕ → Option Fault
smooth_refusal L ts vs zs hs rs = first_of (smooth_checks L ts vs zs hs (length rs))

unfoldable pub smooth : Limits → List ℕ → List ℕ → List ℕ → List ℕ → List ℕ → Answer ℕ
smooth L ts vs zs hs rs = unless (smooth_refusal L ts vs zs hs rs) (passes ts vs fresh (moves zs hs))

-- and the rows at exit
unfoldable pub smooth_rows : Limits → List ℕ → List ℕ → List ℕ → List ℕ → List ℕ → List ℕ
smooth_rows L ts vs zs hs rs = accepted_or (smooth_refusal L ts vs zs hs rs) (rows ts vs zs hs (length zs)) rs

-- the mark filler, with the lists zs of marks and hs of half widths
abbrev pub fill_refusal : Limits → ℕ → ℕ → ℕ → List ℕ → List ℕ → Option Fault
fill_refusal L z₀ spacing preset zs hs = first_of (fill_checks L (length presets) z₀ spacing preset (length zs) (length hs))

unfoldable pub fill : Limits → ℕ → ℕ → ℕ → List ℕ → List ℕ → Answer Unit
fill L z₀ spacing preset zs hs = unless (fill_refusal L z₀ spacing preset zs hs) tt

-- and both lists at exit
unfoldable pub fill_points : Limits → ℕ → ℕ → ℕ → List ℕ → List ℕ → List ℕ
fill_points L z₀ spacing preset zs hs =
    accepted_or (fill_refusal L z₀ spacing preset zs hs) (grid z₀ spacing (length zs)) zs

unfoldable pub fill_bandwidths : Limits → ℕ → ℕ → ℕ → List ℕ → List ℕ → List ℕ
fill_bandwidths L z₀ spacing preset zs hs =
    accepted_or (fill_refusal L z₀ spacing preset zs hs) (replicate (length hs) (get_or presets preset 0)) hs

-- what the reader makes of a sheet with four lent lists
unfoldable pub read : Limits → List ℕ → List ℕ → List ℕ → List ℕ → List ℕ → Outcome
read L s ts vs zs hs = or_next (first_of (read_checks L (length ts) (length vs) (length zs) (length hs))) (read_sheet L s)

abbrev pub counts : Outcome → Answer Counts
counts (refused e) = refused e
counts (given c) = given (record { samples = length c.minutes; points = length c.points })

-- a lent list at exit: the used part in front of its untouched tail, or all of what it held
abbrev pub filled_front : Outcome → (Contents → List ℕ) → List ℕ → List ℕ
filled_front (refused e) part xs = xs
filled_front (given c) part xs = part c ++ drop (length (part c)) xs

-- the four lent lists at exit
abbrev pub read_minutes : Outcome → List ℕ → List ℕ
read_minutes o ts = filled_front o (λ c. c.minutes) ts

abbrev pub read_values : Outcome → List ℕ → List ℕ
read_values o vs = filled_front o (λ c. c.values) vs

abbrev pub read_evaluation_points : Outcome → List ℕ → List ℕ
read_evaluation_points o zs = filled_front o (λ c. c.points) zs

abbrev pub read_bandwidths : Outcome → List ℕ → List ℕ
read_bandwidths o hs = filled_front o (λ c. c.bandwidths) hs

-- what is looked at before all else: a buffer of another length
abbrev pub buffer_refusal : List ℕ → Option Fault
buffer_refusal out = first_of (buffer_checks (length out))

abbrev pub curve_size : Outcome → Answer ℕ
curve_size (refused e) = refused e
curve_size (given c) = given (length (curve_text c))

-- the curve of a sheet: its length, or the report of the buffer, else that of the sheet
unfoldable pub write : List ℕ → List ℕ → Answer ℕ
write s out = curve_size (or_next (buffer_refusal out) (read_sheet full s))

-- and the buffer at exit: the curve in front of its untouched rest, or all of what it held
unfoldable pub write_buffer : List ℕ → List ℕ → List ℕ
write_buffer s out = filled_front (or_next (buffer_refusal out) (read_sheet full s)) curve_text out

-- the text of a refusal with any number and place: its length, or the report of the buffer
unfoldable pub write_refusal_text : ℕ → ℕ → List ℕ → Answer ℕ
write_refusal_text n p out = unless (buffer_refusal out) (length (refusal_text (record { number = n; place = p })))

-- and the buffer at exit: the text in front of its untouched rest, or all of what it held
unfoldable pub refusal_buffer : ℕ → ℕ → List ℕ → List ℕ
refusal_buffer n p out =
    let t = refusal_text (record { number = n; place = p }) in
    accepted_or (buffer_refusal out) (t ++ drop (length t) out) out

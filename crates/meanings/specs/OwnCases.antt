-- Cases of our own: the closed right edge, which C1 to C12 leave open, each report of each call that can give it, with its place and where a
-- later report of the call's order holds too, and values at a half and beside it.
use Rattle.std.specs.Prelude.{ℕ, ◌+◌, ◌-◌, ◌^◌, List, [], ◌∷◌, ◌++◌, drop, replicate, Option, None, Some}
use Rattle.meanings.specs.declared.PowerSums.{PowerSums}
use Rattle.meanings.specs.declared.RunningSums.{RunningSums}
use Rattle.meanings.specs.declared.Limits.{Limits}
use Rattle.meanings.specs.Limits.{full, max_output}
use Rattle.meanings.specs.Bytes.{ascii}
use Rattle.meanings.specs.Moves.{Move}
use Rattle.meanings.specs.Reports.{Fault, given}
use Rattle.meanings.specs.EventLog.{EventLog}
use Rattle.meanings.specs.Sheet.{Contents}
use Rattle.meanings.specs.Turn.{step as a_step, turn as a_turn}
use Rattle.meanings.specs.Cases.{Case, ◌⇒◌, row, run, sums, step, record_gives, steps, smooth_over, filler, sheet}
use Rattle.meanings.specs.Cases.{reader, output, curve_into, refusal_into, estimated, part, powers, stepped, logged, smooth_gives, filled}
use Rattle.meanings.specs.Cases.{outcome, read_into, written, holds, is_row, is_report, is_sums, is_record, is_counted, contents}
use Rattle.meanings.specs.Cases.{turn_over, motions, turned_to, reached}

abbrev fives : ℕ → List ℕ
fives n = replicate n 5

abbrev small : Limits
small = record { samples = 2; points = 2 }

abbrev three_one : Limits
three_one = record { samples = 3; points = 1 }

-- lists of those lengths
abbrev sevens : List ℕ
sevens = 7 ∷ 7 ∷ 7 ∷ []

abbrev one : List ℕ
one = 7 ∷ []

abbrev move : ℕ → ℕ → Move
move z h = record { point = z; bandwidth = h }

abbrev log : List ℕ → List ℕ → EventLog
log a b = record { inserted = a; evicted = b }

-- a record of no run of steps, with sums that wrap
abbrev any_record : RunningSums
any_record = is_record 1 2 (is_sums 0 1 5 (2 ^ 64 - 1) 0 7)

abbrev pub one_point_cases : List Case
one_point_cases =
    -- a reading on the right edge is inside
    row (30 ∷ []) (40 ∷ []) 20 10 ⇒ estimated (is_row 0 1 0 0 65536)
    ∷ sums (30 ∷ []) (40 ∷ []) 20 10 ⇒ powers (is_sums 1 30 900 40 1200 36000)
    ∷ run (30 ∷ []) (40 ∷ []) 20 10 ⇒ part (40 ∷ []) 0
    -- outside on either side
    ∷ row (9 ∷ 31 ∷ []) (1 ∷ 2 ∷ []) 20 10 ⇒ estimated (is_row 1 1 0 0 65536)
    ∷ run (1 ∷ 10 ∷ 20 ∷ 31 ∷ []) (4 ∷ 5 ∷ 6 ∷ 7 ∷ []) 20 10 ⇒ part (5 ∷ 6 ∷ []) 1
    ∷ row (0 ∷ 0 ∷ 0 ∷ []) (2 ∷ 2 ∷ 3 ∷ []) 0 1 ⇒ estimated (is_row 0 3 3 7 2)
    -- a weight above 0 with a sum of 0 is not missing; the greatest weight and sum
    ∷ row (0 ∷ []) (0 ∷ []) 0 1 ⇒ estimated (is_row 0 1 1 0 0)
    ∷ row (replicate 1024 65535) (replicate 1024 65535) 65535 65536 ⇒ estimated (is_row 0 1024 (2 ^ 42) (2 ^ 58 - 2 ^ 42) 65535)
    -- 8, 6, 4, 9
    ∷ row (1 ∷ 0 ∷ []) (1 ∷ []) 0 0 ⇒ estimated (is_report 8 0)
    ∷ row (1 ∷ []) (1 ∷ 2 ∷ []) 0 1 ⇒ estimated (is_report 8 0)
    ∷ row (replicate 1025 0) [] 0 1 ⇒ estimated (is_report 8 0)
    ∷ row (1 ∷ replicate 1024 0) (replicate 1025 0) 0 0 ⇒ estimated (is_report 6 0)
    ∷ row (replicate 1024 3) (replicate 1024 4) 3 1 ⇒ estimated (is_row 0 1024 1024 4096 4)
    ∷ row (1 ∷ 2 ∷ 1 ∷ 0 ∷ []) (1 ∷ 1 ∷ 1 ∷ 1 ∷ []) 0 0 ⇒ estimated (is_report 4 2)
    ∷ row (1 ∷ 1 ∷ []) (1 ∷ 1 ∷ []) 0 0 ⇒ estimated (is_report 9 0)
    ∷ row [] [] 0 65537 ⇒ estimated (is_report 9 0)
    ∷ row [] [] 0 65536 ⇒ estimated (is_row 0 0 0 0 65536)
    ∷ run (2 ∷ 1 ∷ []) (1 ∷ 1 ∷ []) 0 9 ⇒ part [] 0
    ∷ run (2 ∷ []) [] 0 9 ⇒ part [] 0
    ∷ run (replicate 1025 0) (replicate 1025 0) 0 9 ⇒ part [] 0
    ∷ run (2 ∷ []) (1 ∷ []) 2 0 ⇒ part [] 0
    ∷ []

abbrev pub step_cases : List Case
step_cases =
    -- sums of any record, modulo 2^64: positions 2 and 3 are taken in, position 1 is let go
    step (1 ∷ 2 ∷ 3 ∷ 5 ∷ 9 ∷ []) (1 ∷ 1 ∷ 2 ∷ 1 ∷ 1 ∷ []) any_record 5 2
    ⇒ stepped (given (is_record 2 4 (is_sums 1 7 35 1 9 46)))
    -- a reading let go from sums below and above it
    ∷ step (1 ∷ []) (2 ∷ []) (is_record 0 1 (is_sums 0 0 0 (2 ^ 63 + 5) 9 1)) 9 1
    ⇒ stepped (given (is_record 1 1 (is_sums (2 ^ 64 - 1) (2 ^ 64 - 1) (2 ^ 64 - 1) (2 ^ 63 + 3) 7 (2 ^ 64 - 1))))
    -- neither edge goes back
    ∷ step (1 ∷ 2 ∷ 3 ∷ []) (1 ∷ 1 ∷ 1 ∷ []) (is_record 2 3 (is_sums 1 3 9 1 3 9)) 1 1
    ⇒ stepped (given (is_record 2 3 (is_sums 1 3 9 1 3 9)))
    -- new right first: left runs up to it (C9)
    ∷ step (50 ∷ []) (9 ∷ []) (is_record 0 0 (is_sums 0 0 0 0 0 0)) 100 1
    ⇒ stepped (given (is_record 1 1 (is_sums 0 0 0 0 0 0)))
    -- both edges are closed
    ∷ step (10 ∷ 30 ∷ []) (1 ∷ 1 ∷ []) (is_record 0 0 (is_sums 0 0 0 0 0 0)) 20 10
    ⇒ stepped (given (is_record 0 2 (is_sums 2 40 1000 2 40 1000)))
    -- order is not checked: the search stops at the first minute over the edge
    ∷ step (1 ∷ 9 ∷ 1 ∷ []) (1 ∷ 1 ∷ 1 ∷ []) (is_record 0 0 (is_sums 0 0 0 0 0 0)) 1 1
    ⇒ stepped (given (is_record 0 1 (is_sums 1 1 1 1 1 1)))
    ∷ step (0 ∷ 9 ∷ 0 ∷ []) (1 ∷ 1 ∷ 1 ∷ []) (is_record 0 3 (is_sums 3 9 81 3 9 81)) 9 1
    ⇒ stepped (given (is_record 1 3 (is_sums 2 9 81 2 9 81)))
    -- 8, 6, 11, 9
    ∷ step [] (1 ∷ []) (is_record 0 0 (is_sums 0 0 0 0 0 0)) 0 1 ⇒ stepped (is_report 8 0)
    ∷ step (replicate 1025 0) [] (is_record 0 0 (is_sums 0 0 0 0 0 0)) 0 1 ⇒ stepped (is_report 8 0)
    ∷ step [] [] (is_record 0 0 (is_sums 0 0 0 0 0 0)) 0 65536 ⇒ stepped (given (is_record 0 0 (is_sums 0 0 0 0 0 0)))
    ∷ step (1 ∷ []) [] (is_record 1 0 (is_sums 0 0 0 0 0 0)) 0 0 ⇒ stepped (is_report 8 0)
    ∷ step (replicate 1025 0) (replicate 1025 0) (is_record 1 0 (is_sums 0 0 0 0 0 0)) 0 0
    ⇒ stepped (is_report 6 0)
    ∷ step (replicate 1024 1) (replicate 1024 1) (is_record 1024 1024 (is_sums 0 0 0 0 0 0)) 1 1
    ⇒ stepped (given (is_record 1024 1024 (is_sums 0 0 0 0 0 0)))
    ∷ step (1 ∷ []) (1 ∷ []) (is_record 1 0 (is_sums 0 0 0 0 0 0)) 0 0 ⇒ stepped (is_report 11 0)
    ∷ step (1 ∷ []) (1 ∷ []) (is_record 0 2 (is_sums 0 0 0 0 0 0)) 0 0 ⇒ stepped (is_report 11 0)
    ∷ step (1 ∷ []) (1 ∷ []) (is_record 1 1 (is_sums 0 0 0 0 0 0)) 0 0 ⇒ stepped (is_report 9 0)
    ∷ step (1 ∷ []) (1 ∷ []) (is_record 1 1 (is_sums 0 0 0 0 0 0)) 0 65537 ⇒ stepped (is_report 9 0)
    -- accepted, refused, accepted; readings enter and leave, and one is jumped over
    ∷ steps (1 ∷ 5 ∷ 9 ∷ []) (1 ∷ 2 ∷ 3 ∷ []) [] ⇒ logged (is_record 0 0 (is_sums 0 0 0 0 0 0)) (log [] [])
    ∷ steps (1 ∷ 5 ∷ 9 ∷ []) (1 ∷ 2 ∷ 3 ∷ []) (move 2 1 ∷ move 3 0 ∷ move 9 1 ∷ [])
    ⇒ logged (is_record 2 3 (is_sums 1 9 81 3 27 243)) (log (0 ∷ 1 ∷ 2 ∷ []) (0 ∷ 1 ∷ []))
    ∷ steps (1 ∷ 5 ∷ 9 ∷ []) (1 ∷ 2 ∷ 3 ∷ []) (move 4 3 ∷ move 5 0 ∷ [])
    ⇒ logged (is_record 0 2 (is_sums 2 6 26 3 11 51)) (log (0 ∷ 1 ∷ []) [])
    -- 8 and 6: every step is refused, and the book stays
    ∷ steps (1 ∷ []) [] (move 1 1 ∷ move 2 1 ∷ []) ⇒ logged (is_record 0 0 (is_sums 0 0 0 0 0 0)) (log [] [])
    ∷ steps (replicate 1025 0) (replicate 1025 0) (move 0 1 ∷ [])
    ⇒ logged (is_record 0 0 (is_sums 0 0 0 0 0 0)) (log [] [])
    -- both edges are closed, in the book too
    ∷ steps (9 ∷ 10 ∷ 30 ∷ 31 ∷ []) (1 ∷ 1 ∷ 1 ∷ 1 ∷ []) (move 20 10 ∷ [])
    ⇒ logged (is_record 1 3 (is_sums 2 40 1000 2 40 1000)) (log (0 ∷ 1 ∷ 2 ∷ []) (0 ∷ []))
    -- the book goes by minutes, and adds to both lists the lowest position first, each once
    ∷ steps (1 ∷ 1 ∷ 2 ∷ 2 ∷ []) (1 ∷ 1 ∷ 1 ∷ 1 ∷ []) (move 1 1 ∷ move 2 1 ∷ move 3 1 ∷ move 4 1 ∷ [])
    ⇒ logged (is_record 4 4 (is_sums 0 0 0 0 0 0)) (log (0 ∷ 1 ∷ 2 ∷ 3 ∷ []) (0 ∷ 1 ∷ 2 ∷ 3 ∷ []))
    ∷ steps (5 ∷ 1 ∷ []) (1 ∷ 1 ∷ []) (move 1 1 ∷ move 5 1 ∷ []) ⇒ logged (is_record 0 2 (is_sums 2 6 26 2 6 26)) (log (1 ∷ 0 ∷ []) (1 ∷ []))
    ∷ []

abbrev pub smooth_cases : List Case
smooth_cases =
    -- 8, 6, 7, 4, 5, 9, 10
    smooth_over full (replicate 1025 0) [] [] [] [] ⇒ smooth_gives (is_report 8 0) []
    ∷ smooth_over full [] (1 ∷ []) (1 ∷ []) (1 ∷ []) (fives 5) ⇒ smooth_gives (is_report 8 0) (fives 5)
    ∷ smooth_over full [] [] (1 ∷ []) (1 ∷ 1 ∷ []) (fives 5) ⇒ smooth_gives (is_report 8 0) (fives 5)
    -- edges below 0
    ∷ smooth_over full [] [] (0 ∷ 1 ∷ []) (10 ∷ 12 ∷ []) (fives 10) ⇒ smooth_gives (is_report 10 1) (fives 10)
    ∷ smooth_over full [] [] (0 ∷ 1 ∷ []) (10 ∷ 11 ∷ []) (fives 10) ⇒ smooth_gives (given 0) (0 ∷ 0 ∷ 0 ∷ 0 ∷ 65536 ∷ 0 ∷ 0 ∷ 0 ∷ 0 ∷ 65536 ∷ [])
    -- each mark has its own half width
    ∷ smooth_over full (1 ∷ 5 ∷ 9 ∷ []) (1 ∷ 2 ∷ 3 ∷ []) (2 ∷ 6 ∷ []) (1 ∷ 3 ∷ []) (fives 10)
    ⇒ smooth_gives (given 4) (0 ∷ 1 ∷ 0 ∷ 0 ∷ 65536 ∷ 1 ∷ 3 ∷ 8 ∷ 16 ∷ 2 ∷ [])
    ∷ smooth_over full (1 ∷ []) [] [] [] [] ⇒ smooth_gives (is_report 8 0) []
    ∷ smooth_over full [] [] (1 ∷ []) [] (fives 5) ⇒ smooth_gives (is_report 8 0) (fives 5)
    ∷ smooth_over full [] [] (1 ∷ []) (1 ∷ []) (fives 4) ⇒ smooth_gives (is_report 8 0) (fives 4)
    ∷ smooth_over full [] [] (1 ∷ []) (1 ∷ []) (fives 6) ⇒ smooth_gives (is_report 8 0) (fives 6)
    ∷ smooth_over full (replicate 1025 0) (replicate 1025 0) [] [] [] ⇒ smooth_gives (is_report 6 0) []
    ∷ smooth_over full (1 ∷ 0 ∷ []) (0 ∷ 0 ∷ []) (replicate 513 0) (replicate 513 0) (fives 2565)
    ⇒ smooth_gives (is_report 6 0) (fives 2565)
    ∷ smooth_over full (1 ∷ 0 ∷ []) (0 ∷ 0 ∷ []) [] [] [] ⇒ smooth_gives (is_report 7 0) []
    ∷ smooth_over full (1 ∷ 2 ∷ 1 ∷ 0 ∷ []) (0 ∷ 0 ∷ 0 ∷ 0 ∷ []) (1 ∷ 0 ∷ []) (1 ∷ 1 ∷ []) (fives 10)
    ⇒ smooth_gives (is_report 4 2) (fives 10)
    ∷ smooth_over full [] [] (1 ∷ 1 ∷ 0 ∷ []) (0 ∷ 1 ∷ 1 ∷ []) (fives 15) ⇒ smooth_gives (is_report 5 2) (fives 15)
    ∷ smooth_over full [] [] (0 ∷ 0 ∷ 0 ∷ []) (3 ∷ 2 ∷ 0 ∷ []) (fives 15) ⇒ smooth_gives (is_report 9 2) (fives 15)
    ∷ smooth_over full [] [] (0 ∷ 0 ∷ []) (65537 ∷ 65536 ∷ []) (fives 10) ⇒ smooth_gives (is_report 9 0) (fives 10)
    ∷ smooth_over full [] [] (5 ∷ 5 ∷ 6 ∷ []) (9 ∷ 9 ∷ 7 ∷ []) (fives 15) ⇒ smooth_gives (is_report 10 2) (fives 15)
    ∷ smooth_over full [] [] (5 ∷ 6 ∷ []) (9 ∷ 8 ∷ []) (fives 10)
    ⇒ smooth_gives (given 0) (0 ∷ 0 ∷ 0 ∷ 0 ∷ 65536 ∷ 0 ∷ 0 ∷ 0 ∷ 0 ∷ 65536 ∷ [])
    -- as many readings and marks as there may be
    ∷ smooth_over small (1 ∷ 1 ∷ []) (2 ∷ 2 ∷ []) (1 ∷ 1 ∷ []) (1 ∷ 1 ∷ []) (fives 10) ⇒ smooth_gives (given 2) (0 ∷ 2 ∷ 2 ∷ 4 ∷ 2 ∷ 0 ∷ 2 ∷ 2 ∷ 4 ∷ 2 ∷ [])
    -- a reading taken in and let go, one jumped over, one left
    ∷ smooth_over full (1 ∷ 5 ∷ 9 ∷ []) (1 ∷ 2 ∷ 3 ∷ []) (2 ∷ 9 ∷ []) (2 ∷ 2 ∷ []) (fives 10)
    ⇒ smooth_gives (given 5) (0 ∷ 1 ∷ 3 ∷ 3 ∷ 1 ∷ 2 ∷ 3 ∷ 4 ∷ 12 ∷ 3 ∷ [])
    ∷ []

-- one mark, with the half width of a position
abbrev at_preset : ℕ → ℕ → Case
at_preset k h = filler 0 0 k (7 ∷ []) (7 ∷ []) ⇒ filled (given tt) (0 ∷ []) (h ∷ [])

abbrev pub fill_cases : List Case
fill_cases =
    -- each preset
    at_preset 0 30
    ∷ at_preset 1 45
    ∷ at_preset 2 60
    ∷ at_preset 3 90
    ∷ at_preset 4 120
    ∷ at_preset 5 180
    ∷ at_preset 6 240
    ∷ at_preset 7 360
    ∷ at_preset 8 480
    ∷ at_preset 9 720
    ∷ at_preset 10 1080
    ∷ at_preset 11 1440
    -- 8, 7, 6, 12, 13
    ∷ filler 0 0 0 (fives 513) (fives 512) ⇒ filled (is_report 8 0) (fives 513) (fives 512)
    ∷ filler 0 0 12 [] (7 ∷ []) ⇒ filled (is_report 8 0) [] (7 ∷ [])
    ∷ filler 0 0 12 (7 ∷ 7 ∷ []) (7 ∷ []) ⇒ filled (is_report 8 0) (7 ∷ 7 ∷ []) (7 ∷ [])
    ∷ filler 0 0 12 [] [] ⇒ filled (is_report 7 0) [] []
    ∷ filler 0 0 12 (fives 513) (fives 513) ⇒ filled (is_report 6 0) (fives 513) (fives 513)
    ∷ filler 65535 1 12 (7 ∷ 7 ∷ []) (7 ∷ 7 ∷ []) ⇒ filled (is_report 12 0) (7 ∷ 7 ∷ []) (7 ∷ 7 ∷ [])
    ∷ filler 65534 1 0 (7 ∷ 7 ∷ 7 ∷ []) (7 ∷ 7 ∷ 7 ∷ [])
    ⇒ filled (is_report 13 0) (7 ∷ 7 ∷ 7 ∷ []) (7 ∷ 7 ∷ 7 ∷ [])
    ∷ filler 65533 1 11 (7 ∷ 7 ∷ 7 ∷ []) (7 ∷ 7 ∷ 7 ∷ [])
    ⇒ filled (given tt) (65533 ∷ 65534 ∷ 65535 ∷ []) (1440 ∷ 1440 ∷ 1440 ∷ [])
    ∷ filler 9 0 0 (fives 512) (fives 512) ⇒ filled (given tt) (replicate 512 9) (replicate 512 30)
    ∷ filler 100 30 2 (7 ∷ 7 ∷ 7 ∷ []) (7 ∷ 7 ∷ 7 ∷ [])
    ⇒ filled (given tt) (100 ∷ 130 ∷ 160 ∷ []) (60 ∷ 60 ∷ 60 ∷ [])
    ∷ []

-- a sheet with a mark before its readings
abbrev readings : List ℕ → List ℕ
readings ls = ascii "mark,half\n0,1\n\nminute,inj,vdk\n" ++ ls

-- a sheet of a byte too many: 1
abbrev pub too_long_cases : List ℕ → List Case
too_long_cases s = sheet full s ⇒ outcome (is_report 1 32768) ∷ []

-- such sheets: carriage returns count as bytes too
abbrev pub too_many : ℕ → List ℕ
too_many byte = replicate 32769 byte

abbrev pub sheet_cases : List Case
sheet_cases =
    -- 2, also of as many bytes as there may be
    sheet full (replicate 32768 10) ⇒ outcome (is_report 2 0)
    ∷ sheet full (ascii "mark,half") ⇒ outcome (is_report 2 0)
    ∷ sheet full (ascii "mark,hal\n") ⇒ outcome (is_report 2 0)
    ∷ sheet full (ascii "mark,halff\n") ⇒ outcome (is_report 2 0)
    ∷ sheet full (ascii "mark,half\n0,1\n\n") ⇒ outcome (is_report 2 15)
    ∷ sheet full (ascii "mark,half\n0,1\n\nminute,inj,vdk") ⇒ outcome (is_report 2 15)
    ∷ sheet full (ascii "mark,half\n0,1\n\nminute,inj,vdl\n1\n") ⇒ outcome (is_report 2 15)
    -- 3, mark lines
    ∷ sheet full (ascii "mark,half\n5,1\n4,0") ⇒ outcome (is_report 3 14)
    ∷ sheet full (ascii "mark,half\n") ⇒ outcome (is_report 3 10)
    ∷ sheet full (ascii "mark,half\n0,1\n") ⇒ outcome (is_report 3 14)
    ∷ sheet full (ascii "mark,half\n0,1") ⇒ outcome (is_report 3 10)
    ∷ sheet full (ascii "mark,half\n0\n") ⇒ outcome (is_report 3 10)
    ∷ sheet full (ascii "mark,half\n0,1,2\n") ⇒ outcome (is_report 3 10)
    ∷ sheet full (ascii "mark,half\n00,1\n") ⇒ outcome (is_report 3 10)
    ∷ sheet full (ascii "mark,half\n,1\n") ⇒ outcome (is_report 3 10)
    ∷ sheet full (ascii "mark,half\n0,1:\n") ⇒ outcome (is_report 3 10)
    ∷ sheet full (ascii "mark,half\n0,/1\n") ⇒ outcome (is_report 3 10)
    ∷ sheet full (ascii "mark,half\n65536,1\n") ⇒ outcome (is_report 3 10)
    ∷ sheet full (ascii "mark,half\n0,100000\n") ⇒ outcome (is_report 3 10)
    ∷ sheet full (ascii "mark,half\n0,1 \n") ⇒ outcome (is_report 3 10)
    -- 3, reading lines
    ∷ sheet full (readings (ascii "9,3,0\n8,3,0")) ⇒ outcome (is_report 3 36)
    ∷ sheet full (readings (ascii "0,1,65536\n")) ⇒ outcome (is_report 3 30)
    ∷ sheet full (readings (ascii "0,3,1")) ⇒ outcome (is_report 3 30)
    ∷ sheet full (readings (ascii "\n")) ⇒ outcome (is_report 3 30)
    ∷ sheet full (readings (ascii "0,3\n")) ⇒ outcome (is_report 3 30)
    ∷ sheet full (readings (ascii "0\n")) ⇒ outcome (is_report 3 30)
    ∷ sheet full (readings (ascii "0,3,1,1\n")) ⇒ outcome (is_report 3 30)
    ∷ sheet full (readings (ascii "0,3,1\n0,0,1\n")) ⇒ outcome (is_report 3 36)
    ∷ sheet full (readings (ascii "0,65536,1\n")) ⇒ outcome (is_report 3 30)
    ∷ sheet full (readings (ascii "65536,3,1\n")) ⇒ outcome (is_report 3 30)
    ∷ sheet full (readings (ascii "0,3,65536\n")) ⇒ outcome (is_report 3 30)
    ∷ sheet full (readings (ascii ",3,1\n")) ⇒ outcome (is_report 3 30)
    ∷ sheet full (readings (ascii "0,03,1\n")) ⇒ outcome (is_report 3 30)
    ∷ sheet full (readings (ascii "0,3,\n")) ⇒ outcome (is_report 3 30)
    -- 4: against a dropped line too, and of one
    ∷ sheet full (readings (ascii "9,3,0\n8,1,0\n")) ⇒ outcome (is_report 4 36)
    ∷ sheet full (readings (ascii "9,1,0\n8,3,0\n")) ⇒ outcome (is_report 4 36)
    -- 5, 9, 10, 6 of a mark line
    ∷ sheet full (ascii "mark,half\n0,0\n") ⇒ outcome (is_report 9 10)
    ∷ sheet full (ascii "mark,half\n0,10\n1,12\n") ⇒ outcome (is_report 10 15)
    ∷ sheet full (ascii "mark,half\n0,10\n1,11\n\nminute,inj,vdk\n") ⇒ outcome (given (contents [] [] (0 ∷ 1 ∷ []) (10 ∷ 11 ∷ [])))
    ∷ sheet three_one (ascii "mark,half\n5,1\n5,1\n") ⇒ outcome (is_report 6 14)
    ∷ sheet small (ascii "mark,half\n5,1\n4,0\n") ⇒ outcome (is_report 5 14)
    ∷ sheet small (ascii "mark,half\n5,9\n5,0\n") ⇒ outcome (is_report 9 14)
    ∷ sheet small (ascii "mark,half\n5,99999\n") ⇒ outcome (is_report 9 10)
    ∷ sheet small (ascii "mark,half\n5,65537\n") ⇒ outcome (is_report 9 10)
    ∷ sheet small (ascii "mark,half\n5,1\n5,1\n5,2\n") ⇒ outcome (is_report 10 18)
    ∷ sheet small (ascii "mark,half\n5,2\n5,1\n") ⇒ outcome (is_report 10 14)
    ∷ sheet small (ascii "mark,half\n5,1\n5,1\n5,1\n") ⇒ outcome (is_report 6 18)
    -- 4, 6 of a reading line; dropped lines don't count
    ∷ sheet three_one (readings (ascii "1,3,0\n1,3,0\n1,3,0\n1,1,0\n1,3,0\n")) ⇒ outcome (is_report 6 54)
    ∷ sheet small (readings (ascii "1,3,0\n1,3,0\n0,3,0\n")) ⇒ outcome (is_report 4 42)
    ∷ sheet small (readings (ascii "1,3,0\n1,3,0\n1,3,0\n")) ⇒ outcome (is_report 6 42)
    ∷ sheet small (readings (ascii "1,3,5\n1,2,6\n1,1,7\n1,4,8\n1,2,9\n"))
    ⇒ outcome (given (contents (1 ∷ 1 ∷ []) (5 ∷ 8 ∷ []) (0 ∷ []) (1 ∷ [])))
    -- 7, before anything after it
    ∷ sheet full (ascii "mark,half\n\n") ⇒ outcome (is_report 7 10)
    -- the greatest of each number
    ∷ sheet full (ascii "mark,half\n0,65536\n65535,65536\n\nminute,inj,vdk\n65535,65535,65535\n")
    ⇒ outcome (given (contents (65535 ∷ []) (65535 ∷ []) (0 ∷ 65535 ∷ []) (65536 ∷ 65536 ∷ [])))
    -- no readings
    ∷ sheet full (readings []) ⇒ outcome (given (contents [] [] (0 ∷ []) (1 ∷ [])))
    -- 8 (its four lengths) before all else, and the lists at exit
    ∷ reader three_one (replicate 32769 10) [] sevens one one ⇒ read_into (is_report 8 0) (contents [] sevens one one)
    ∷ reader three_one [] (7 ∷ sevens) sevens one one ⇒ read_into (is_report 8 0) (contents (7 ∷ sevens) sevens one one)
    ∷ reader three_one [] sevens [] one one ⇒ read_into (is_report 8 0) (contents sevens [] one one)
    ∷ reader three_one [] sevens (7 ∷ sevens) one one ⇒ read_into (is_report 8 0) (contents sevens (7 ∷ sevens) one one)
    ∷ reader three_one [] sevens sevens [] one ⇒ read_into (is_report 8 0) (contents sevens sevens [] one)
    ∷ reader three_one [] sevens sevens sevens one ⇒ read_into (is_report 8 0) (contents sevens sevens sevens one)
    ∷ reader three_one [] sevens sevens one [] ⇒ read_into (is_report 8 0) (contents sevens sevens one [])
    ∷ reader three_one [] sevens sevens one sevens ⇒ read_into (is_report 8 0) (contents sevens sevens one sevens)
    ∷ reader three_one (ascii "mark,half\n0,1\n") sevens sevens one one ⇒ read_into (is_report 3 14) (contents sevens sevens one one)
    ∷ reader three_one (readings (ascii "4,3,5\n6,3,7\n")) (1 ∷ 2 ∷ 3 ∷ []) (4 ∷ 5 ∷ 6 ∷ []) (8 ∷ []) (9 ∷ [])
    ⇒ read_into (given (record { samples = 2; points = 1 })) (contents (4 ∷ 6 ∷ 3 ∷ []) (5 ∷ 7 ∷ 6 ∷ []) (0 ∷ []) (1 ∷ []))
    ∷ reader small (readings (ascii "4,3,5\n")) (6 ∷ 6 ∷ []) (7 ∷ 7 ∷ []) (8 ∷ 8 ∷ []) (9 ∷ 9 ∷ [])
    ⇒ read_into (given (record { samples = 1; points = 1 })) (contents (4 ∷ 6 ∷ []) (5 ∷ 7 ∷ []) (0 ∷ 8 ∷ []) (1 ∷ 9 ∷ []))
    -- what the program writes of a refusal
    ∷ output "mark,half\n20,10\n21,12\n" ⇒ written (ascii "refused,place\n10,16\n")
    -- and of the greatest numbers, and of 0
    ∷ output "mark,half\n65535,65536\n\nminute,inj,vdk\n65535,65535,65535\n"
    ⇒ written (ascii "mark,half,left,right,weight,sum,vdk\n65535,65536,0,1,4294967296,281470681743360,65535\n\nkept,passes\n1,1\n")
    ∷ output "mark,half\n0,1\n\nminute,inj,vdk\n0,3,0\n" ⇒ written (ascii "mark,half,left,right,weight,sum,vdk\n0,1,0,1,1,0,0\n\nkept,passes\n1,1\n")
    ∷ []

-- a sheet without readings, and its curve
abbrev pub empty_sheet : List ℕ
empty_sheet = readings []

abbrev pub empty_curve : List ℕ
empty_curve = ascii "mark,half,left,right,weight,sum,vdk\n0,1,0,0,0,0,-\n\nkept,passes\n0,0\n"

abbrev pub buffer : List ℕ
buffer = replicate max_output 7

-- a sheet with an edge that goes back, and its report
abbrev pub refused_sheet : List ℕ
refused_sheet = ascii "mark,half\n20,10\n21,12\n"

-- texts and a buffer b of the length that they are written into
abbrev pub text_cases : List ℕ → List Case
text_cases b =
    -- the curve in front of the untouched rest
    curve_into empty_sheet b ⇒ holds (given 67) (empty_curve ++ drop 67 b)
    -- a refused sheet: its own report, and the buffer as it was
    ∷ curve_into refused_sheet b ⇒ holds (is_report 10 16) b
    -- 8 of a buffer of another length, before every report of the sheet
    ∷ curve_into empty_sheet (7 ∷ b) ⇒ holds (is_report 8 0) (7 ∷ b)
    ∷ curve_into refused_sheet [] ⇒ holds (is_report 8 0) []
    -- the text of a refusal, also of no report
    ∷ refusal_into 10 16 b ⇒ holds (given 20) (ascii "refused,place\n10,16\n" ++ drop 20 b)
    ∷ refusal_into 0 (2 ^ 64 - 1) b ⇒ holds (given 37) (ascii "refused,place\n0,18446744073709551615\n" ++ drop 37 b)
    ∷ refusal_into 10 16 (7 ∷ b) ⇒ holds (is_report 8 0) (7 ∷ b)
    ∷ refusal_into 10 16 sevens ⇒ holds (is_report 8 0) sevens
    ∷ []

-- the row of a record: that of C1's window; a weight below 0 wraps; a sum without a weight; minutes and their squares count by the mark
abbrev pub record_cases : List Case
record_cases =
    record_gives (is_record 0 3 (is_sums 3 50 900 180 3200 60000)) 20 10 ⇒ estimated (is_row 0 3 200 14000 70)
    ∷ record_gives (is_record 5 2 (is_sums 0 0 1 0 0 2)) 0 1 ⇒ estimated (is_row 5 2 (2 ^ 64 - 1) (2 ^ 64 - 2) 1)
    ∷ record_gives (is_record 0 1 (is_sums 0 0 0 7 0 0)) 0 1 ⇒ estimated (is_row 0 1 0 7 65536)
    ∷ record_gives (is_record 0 1 (is_sums 0 5 3 0 7 4)) 2 1 ⇒ estimated (is_row 0 1 17 24 1)
    -- half widths that no step takes: none, and the widest of 32 bits, whose square times a sum wraps
    ∷ record_gives (is_record 2 1 (is_sums 1 5 3 2 9 4)) 3 0 ⇒ estimated (is_row 2 1 18 32 2)
    ∷ record_gives (is_record 9 4 (is_sums 1 0 0 3 0 0)) 0 4294967295 ⇒ estimated (is_row 9 4 18446744065119617025 18446744047939747843 1)
    -- every product wraps
    ∷ record_gives (is_record 0 0 (is_sums (2 ^ 64 - 1) (2 ^ 64 - 1) (2 ^ 64 - 1) (2 ^ 64 - 2) 5 (2 ^ 64 - 1))) 65535 4294967295
    ⇒ estimated (is_row 0 0 12884639747 25770196983 2)
    -- the greatest value
    ∷ record_gives (is_record 0 0 (is_sums 0 0 (2 ^ 64 - 1) 0 0 1)) 0 1 ⇒ estimated (is_row 0 0 1 (2 ^ 64 - 1) (2 ^ 64 - 1))
    ∷ []

-- halves go to the even neighbour, down and up; what lies beside a half goes to its nearest, over an odd quotient and over an even one
abbrev pub rounding_cases : List Case
rounding_cases =
    row (0 ∷ 0 ∷ []) (0 ∷ 1 ∷ []) 0 1 ⇒ estimated (is_row 0 2 2 1 0)
    ∷ row (0 ∷ 0 ∷ []) (1 ∷ 2 ∷ []) 0 1 ⇒ estimated (is_row 0 2 2 3 2)
    ∷ row (0 ∷ 0 ∷ []) (65534 ∷ 65535 ∷ []) 0 1 ⇒ estimated (is_row 0 2 2 131069 65534)
    -- weight 4
    ∷ row (0 ∷ 0 ∷ 0 ∷ 0 ∷ []) (1 ∷ 1 ∷ 1 ∷ 2 ∷ []) 0 1 ⇒ estimated (is_row 0 4 4 5 1)
    ∷ row (0 ∷ 0 ∷ 0 ∷ 0 ∷ []) (1 ∷ 1 ∷ 2 ∷ 2 ∷ []) 0 1 ⇒ estimated (is_row 0 4 4 6 2)
    ∷ row (0 ∷ 0 ∷ 0 ∷ 0 ∷ []) (1 ∷ 2 ∷ 2 ∷ 2 ∷ []) 0 1 ⇒ estimated (is_row 0 4 4 7 2)
    ∷ row (0 ∷ 0 ∷ 0 ∷ 0 ∷ []) (2 ∷ 2 ∷ 2 ∷ 3 ∷ []) 0 1 ⇒ estimated (is_row 0 4 4 9 2)
    ∷ row (0 ∷ 0 ∷ 0 ∷ 0 ∷ []) (2 ∷ 2 ∷ 3 ∷ 3 ∷ []) 0 1 ⇒ estimated (is_row 0 4 4 10 2)
    ∷ row (0 ∷ 0 ∷ 0 ∷ 0 ∷ []) (2 ∷ 3 ∷ 3 ∷ 3 ∷ []) 0 1 ⇒ estimated (is_row 0 4 4 11 3)
    -- the sweep, the row of a record, and the program: one half down and one up
    ∷ smooth_over full (0 ∷ 0 ∷ 9 ∷ 9 ∷ []) (2 ∷ 3 ∷ 3 ∷ 4 ∷ []) (0 ∷ 9 ∷ []) (1 ∷ 1 ∷ []) (fives 10)
    ⇒ smooth_gives (given 6) (0 ∷ 2 ∷ 2 ∷ 5 ∷ 2 ∷ 2 ∷ 4 ∷ 2 ∷ 7 ∷ 4 ∷ [])
    ∷ record_gives (is_record 0 2 (is_sums 2 0 0 5 0 0)) 0 1 ⇒ estimated (is_row 0 2 2 5 2)
    ∷ record_gives (is_record 0 2 (is_sums 2 0 0 7 0 0)) 0 1 ⇒ estimated (is_row 0 2 2 7 4)
    ∷ output "mark,half\n0,1\n9,1\n\nminute,inj,vdk\n0,3,2\n0,4,3\n9,5,3\n9,6,4\n"
    ⇒ written (ascii "mark,half,left,right,weight,sum,vdk\n0,1,0,2,2,5,2\n9,1,2,4,2,7,4\n\nkept,passes\n4,6\n")
    ∷ []

abbrev whole_curve : List ℕ
whole_curve = ascii "mark,half,left,right,weight,sum,vdk\n20,10,0,3,200,14000,70\n25,15,0,4,525,30500,58\n60,20,4,4,0,0,-\n\nkept,passes\n4,8\n"

abbrev one_of_each : Contents
one_of_each = contents (5 ∷ []) (9 ∷ []) (0 ∷ []) (1 ∷ [])

-- lines that end in a carriage return and a line feed
abbrev pub line_ending_cases : List Case
line_ending_cases =
    -- the whole sheet of SPECIFICATION 7.9 with that ending in every line, and in every second one: what is written is the same
    output "mark,half\r\n20,10\r\n25,15\r\n60,20\r\n\r\nminute,inj,vdk\r\n10,3,40\r\n12,1,900\r\n14,2,400\r\n20,3,60\r\n20,4,80\r\n35,5,20\r\n"
    ⇒ written whole_curve
    ∷ output "mark,half\r\n20,10\n25,15\r\n60,20\n\r\nminute,inj,vdk\n10,3,40\r\n12,1,900\n14,2,400\r\n20,3,60\n20,4,80\r\n35,5,20\n"
    ⇒ written whole_curve
    ∷ output "mark,half\n20,10\r\n25,15\n60,20\r\n\nminute,inj,vdk\r\n10,3,40\n12,1,900\r\n14,2,400\n20,3,60\r\n20,4,80\n35,5,20\r\n"
    ⇒ written whole_curve
    -- in a header line, a line of values and the empty line alone
    ∷ sheet full (ascii "mark,half\r\n0,1\n\nminute,inj,vdk\n5,3,9\n") ⇒ outcome (given one_of_each)
    ∷ sheet full (ascii "mark,half\n0,1\r\n\nminute,inj,vdk\n5,3,9\n") ⇒ outcome (given one_of_each)
    ∷ sheet full (ascii "mark,half\n0,1\n\r\nminute,inj,vdk\n5,3,9\n") ⇒ outcome (given one_of_each)
    ∷ sheet full (ascii "mark,half\n0,1\n\nminute,inj,vdk\r\n5,3,9\n") ⇒ outcome (given one_of_each)
    ∷ sheet full (ascii "mark,half\n0,1\n\nminute,inj,vdk\n5,3,9\r\n") ⇒ outcome (given one_of_each)
    -- a place is that of a line's first byte, and where nothing more comes the sheet's length: 2, 3, 4, 5, 6, 7, 9, 10
    ∷ sheet full (ascii "mark,half\r\n0,1\r\n\r\n") ⇒ outcome (is_report 2 18)
    ∷ sheet full (ascii "mark,half\r\n") ⇒ outcome (is_report 3 11)
    ∷ sheet full (ascii "mark,half\r\n0,1\r\n\r\nminute,inj,vdk\r\n9,3,5\r\n8,3,5\r\n") ⇒ outcome (is_report 4 41)
    ∷ sheet full (ascii "mark,half\r\n5,1\r\n4,1\r\n") ⇒ outcome (is_report 5 16)
    ∷ sheet three_one (ascii "mark,half\r\n5,1\r\n5,1\r\n") ⇒ outcome (is_report 6 16)
    ∷ sheet full (ascii "mark,half\r\n\r\n") ⇒ outcome (is_report 7 11)
    ∷ sheet full (ascii "mark,half\r\n5,0\r\n") ⇒ outcome (is_report 9 11)
    ∷ sheet full (ascii "mark,half\r\n20,10\r\n21,12\r\n") ⇒ outcome (is_report 10 18)
    -- one carriage return belongs to the ending, a second one to the text
    ∷ sheet full (ascii "mark,half\r\r\n") ⇒ outcome (is_report 2 0)
    ∷ sheet full (ascii "mark,half\r\n0,1\r\r\n") ⇒ outcome (is_report 3 11)
    ∷ sheet full (ascii "mark,half\n0,1\n\r\r\n") ⇒ outcome (is_report 3 14)
    ∷ sheet full (ascii "mark,half\n0,1\n\nminute,inj,vdk\r\r\n") ⇒ outcome (is_report 2 15)
    ∷ sheet full (readings (ascii "0,3,1\r\r\n")) ⇒ outcome (is_report 3 30)
    -- elsewhere it is a wrong byte: at a line's start, in its midst, before a digit
    ∷ sheet full (ascii "\rmark,half\n") ⇒ outcome (is_report 2 0)
    ∷ sheet full (ascii "mark\r,half\n") ⇒ outcome (is_report 2 0)
    ∷ sheet full (ascii "mark,half\r0,1\r\n") ⇒ outcome (is_report 2 0)
    ∷ sheet full (ascii "mark,half\n\r0,1\n") ⇒ outcome (is_report 3 10)
    ∷ sheet full (ascii "mark,half\n0\r,1\n") ⇒ outcome (is_report 3 10)
    ∷ sheet full (ascii "mark,half\n0,1\n\n\rminute,inj,vdk\n") ⇒ outcome (is_report 2 15)
    ∷ sheet full (readings (ascii "0,\r3,1\n")) ⇒ outcome (is_report 3 30)
    -- a line without its line feed has no ending
    ∷ sheet full (ascii "mark,half\r") ⇒ outcome (is_report 2 0)
    ∷ sheet full (ascii "mark,half\r\n0,1\r") ⇒ outcome (is_report 3 11)
    ∷ sheet full (ascii "mark,half\r\n0,1\r\n\r") ⇒ outcome (is_report 3 16)
    ∷ sheet full (ascii "mark,half\n0,1\n\nminute,inj,vdk\r") ⇒ outcome (is_report 2 15)
    ∷ sheet full (readings (ascii "0,3,1\r")) ⇒ outcome (is_report 3 30)
    ∷ sheet full (readings (ascii "\r")) ⇒ outcome (is_report 3 30)
    -- an empty line among the readings
    ∷ sheet full (readings (ascii "\r\n")) ⇒ outcome (is_report 3 30)
    ∷ []

-- the readings of most turns
abbrev four_minutes : List ℕ
four_minutes = 10 ∷ 20 ∷ 20 ∷ 35 ∷ []

abbrev four_values : List ℕ
four_values = 40 ∷ 60 ∷ 80 ∷ 20 ∷ []

-- the sums over both readings at 20, and over all four
abbrev two_sums : PowerSums
two_sums = is_sums 2 40 800 140 2800 56000

abbrev four_sums : PowerSums
four_sums = is_sums 4 85 2125 200 3900 84500

abbrev turn_report : ℕ → ℕ → Option Fault
turn_report n p = Some (record { number = n; place = p })

-- a record whose passes are at their greatest
abbrev full_record : RunningSums
full_record = is_counted 1 3 (is_sums 7 0 0 0 0 (2 ^ 64 - 1)) (2 ^ 64 - 1)

-- a record foreign to any readings
abbrev foreign : RunningSums
foreign = is_counted 1 0 (is_sums 5 5 5 5 5 5) 9

abbrev pub turn_cases : List Case
turn_cases =
    -- wider on both sides, narrower again, past all readings, and back: passes count both edges, forth and back
    motions four_minutes four_values (a_step (move 20 5) ∷ []) ⇒ reached (is_counted 1 3 two_sums 4)
    ∷ motions four_minutes four_values (a_step (move 20 5) ∷ a_turn (move 20 15) ∷ []) ⇒ reached (is_counted 0 4 four_sums 6)
    ∷ motions four_minutes four_values (a_step (move 20 5) ∷ a_turn (move 20 15) ∷ a_turn (move 20 5) ∷ []) ⇒ reached (is_counted 1 3 two_sums 8)
    ∷ motions four_minutes four_values (a_step (move 20 5) ∷ a_turn (move 20 15) ∷ a_turn (move 20 5) ∷ a_turn (move 60 20) ∷ [])
    ⇒ reached (is_counted 4 4 (is_sums 0 0 0 0 0 0) 12)
    ∷ motions four_minutes four_values
    (a_step (move 20 5) ∷ a_turn (move 20 15) ∷ a_turn (move 20 5) ∷ a_turn (move 60 20) ∷ a_turn (move 20 5) ∷ [])
    ⇒ reached (is_counted 1 3 two_sums 16)
    -- a step does not go back, a turn behind it does
    ∷ motions four_minutes four_values (a_step (move 35 5) ∷ a_step (move 20 5) ∷ []) ⇒ reached (is_counted 3 4 (is_sums 1 35 1225 20 700 24500) 7)
    ∷ motions four_minutes four_values (a_step (move 35 5) ∷ a_turn (move 20 5) ∷ []) ⇒ reached (is_counted 1 3 two_sums 10)
    -- refused ones leave the record, passes and all
    ∷ motions four_minutes four_values (a_turn (move 20 5) ∷ a_turn (move 20 0) ∷ a_step (move 20 0) ∷ []) ⇒ reached (is_counted 1 3 two_sums 4)
    -- a record from elsewhere: sums and passes wrap
    ∷ turn_over four_minutes four_values full_record 20 15 ⇒ turned_to None (is_counted 0 4 (is_sums 9 45 1325 60 1100 28499) 1)
    -- both edges are closed, and a window without readings has its place among them
    ∷ turn_over (9 ∷ 10 ∷ 30 ∷ 31 ∷ []) (1 ∷ 1 ∷ 1 ∷ 1 ∷ []) (is_record 0 0 (is_sums 0 0 0 0 0 0)) 20 10
    ⇒ turned_to None (is_record 1 3 (is_sums 2 40 1000 2 40 1000))
    ∷ turn_over four_minutes four_values (is_record 3 4 (is_sums 1 35 1225 20 700 24500)) 15 1 ⇒ turned_to None (is_counted 1 1 (is_sums 0 0 0 0 0 0) 12)
    ∷ turn_over [] [] (is_record 0 0 (is_sums 0 0 0 0 0 0)) 0 65536 ⇒ turned_to None (is_record 0 0 (is_sums 0 0 0 0 0 0))
    -- 8, 6, 4, 11, 9
    ∷ turn_over (1 ∷ 0 ∷ []) (1 ∷ []) foreign 0 0 ⇒ turned_to (turn_report 8 0) foreign
    ∷ turn_over [] (1 ∷ []) foreign 0 1 ⇒ turned_to (turn_report 8 0) foreign
    ∷ turn_over (1 ∷ replicate 1024 0) (replicate 1025 0) foreign 0 0 ⇒ turned_to (turn_report 6 0) foreign
    ∷ turn_over (1 ∷ 2 ∷ 1 ∷ 0 ∷ []) (1 ∷ 1 ∷ 1 ∷ 1 ∷ []) foreign 0 0 ⇒ turned_to (turn_report 4 2) foreign
    ∷ turn_over (1 ∷ []) (1 ∷ []) foreign 0 0 ⇒ turned_to (turn_report 11 0) foreign
    ∷ turn_over (1 ∷ []) (1 ∷ []) (is_record 0 2 (is_sums 0 0 0 0 0 0)) 0 0 ⇒ turned_to (turn_report 11 0) (is_record 0 2 (is_sums 0 0 0 0 0 0))
    ∷ turn_over (1 ∷ []) (1 ∷ []) (is_record 1 1 (is_sums 5 5 5 5 5 5)) 1 0 ⇒ turned_to (turn_report 9 0) (is_record 1 1 (is_sums 5 5 5 5 5 5))
    ∷ turn_over (1 ∷ []) (1 ∷ []) (is_record 1 1 (is_sums 5 5 5 5 5 5)) 1 65537
    ⇒ turned_to (turn_report 9 0) (is_record 1 1 (is_sums 5 5 5 5 5 5))
    ∷ []

abbrev pub own_cases : List Case
own_cases =
    one_point_cases
    ++ step_cases
    ++ smooth_cases
    ++ fill_cases
    ++ too_long_cases (too_many 10)
    ++ too_long_cases (too_many 13)
    ++ sheet_cases
    ++ text_cases buffer
    ++ record_cases
    ++ rounding_cases
    ++ line_ending_cases
    ++ turn_cases

-- Each turn reads one line: its reading joins those before or is not kept, or its report is the sheet's. A line is passed each turn, so the
-- loop ends.
use Prim.Native.Nat.{◌-◌}
use lib.ListN.{length}
use Rattle.sheet.proofs.ReadingLoop.{ReadingsSoFar}
use Rattle.sheet.proofs.readings.scan_readings.Given as goal

abbrev pub invariant-loop-line : goal.invariant-loop-line
invariant-loop-line l = ReadingsSoFar l.sheet l.from l.kind l.minutes l.lows l.highs l.at l.so_far

abbrev pub decreases-loop-line : goal.decreases-loop-line
decreases-loop-line l = length l.sheet - l.at

-- Each turn reads one line: its reading joins those before or is not kept, or its report is the sheet's. A line is passed each turn, so the
-- loop ends.
use Prim.Native.Nat.{◌-◌}
use lib.ListN.{length}
use Rattle.sheet.proofs.SampleLoop.{SamplesSoFar}
use Rattle.sheet.proofs.samples.scan_samples.Given as goal

abbrev pub invariant-loop-line : goal.invariant-loop-line
invariant-loop-line l = SamplesSoFar l.sheet l.from l.minutes l.values l.at l.so_far

abbrev pub decreases-loop-line : goal.decreases-loop-line
decreases-loop-line l = length l.sheet - l.at

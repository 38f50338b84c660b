-- Each turn reads one line: its mark joins those before, or it ends the marks, or its report is the sheet's. A line is passed each turn, so
-- the loop ends.
use Prim.Native.Nat.{◌-◌}
use lib.ListN.{length}
use Rattle.sheet.proofs.PointLoop.{PointsSoFar}
use Rattle.sheet.proofs.front.points.read_points.Given as goal

abbrev pub invariant-loop-line : goal.invariant-loop-line
invariant-loop-line l = PointsSoFar l.sheet l.from l.points l.bandwidths l.at l.count

abbrev pub decreases-loop-line : goal.decreases-loop-line
decreases-loop-line l = length l.sheet - l.at

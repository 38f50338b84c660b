-- Lists that are too short are left. Each turn searches both cuts of one mark more.
use Rattle.std.proofs.Common.{map}
use Rattle.boxes.proofs.WindowsStoring.{WindowsTo}
use Rattle.boxes.proofs.windows.put_windows.Given as goal

abbrev pub invariant-loop-i : goal.invariant-loop-i
invariant-loop-i g l =
    WindowsTo (map g.C.Coordinate.number l.marks.points.now) l.marks.bandwidths.now g.C.Coordinate.SHIFT l.cuts l.initial.windows l.windows l.i

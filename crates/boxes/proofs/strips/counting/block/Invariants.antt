-- Each turn looks at one cut more.
use Rattle.boxes.proofs.Counts.{BlockTo}
use Rattle.boxes.proofs.strips.counting.block.Given as goal

abbrev pub invariant-loop-i : goal.invariant-loop-i
invariant-loop-i l = BlockTo l.cuts l.from l.x l.count l.i

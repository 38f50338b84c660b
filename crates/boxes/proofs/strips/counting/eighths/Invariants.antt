-- Each turn looks at one eighth cut more.
use Rattle.boxes.proofs.Counts.{EighthsTo}
use Rattle.boxes.proofs.strips.counting.eighths.Given as goal

abbrev pub invariant-loop-i : goal.invariant-loop-i
invariant-loop-i l = EighthsTo l.cuts l.x l.count l.i

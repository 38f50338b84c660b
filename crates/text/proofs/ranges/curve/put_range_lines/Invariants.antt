-- Each turn stores one mark's line right behind those before.
use Rattle.text.proofs.RangesTables.{TableTo}
use Rattle.text.proofs.ranges.curve.put_range_lines.Given as goal

abbrev pub invariant-loop-k : goal.invariant-loop-k
invariant-loop-k l = TableTo l.initial.out l.marks.points.now l.marks.bandwidths.now l.rows l.out l.size l.k

-- Each turn stores one number or value behind those before.
use Rattle.text.proofs.LinesLines.{NumbersTo, ValuesTo}
use Rattle.text.proofs.lines.parts.put_whole_line.Given as goal

abbrev pub invariant-loop-n : goal.invariant-loop-n
invariant-loop-n l = NumbersTo l.fn.out l.first l.numbers l.values l.out l.end l.n-index

abbrev pub invariant-loop-v : goal.invariant-loop-v
invariant-loop-v l = ValuesTo l.fn.out l.first l.numbers l.values l.out l.end l.v-index

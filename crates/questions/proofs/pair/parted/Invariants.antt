-- Each turn keeps the invariant of Searching: a mark whose values agree is one more of those before; the first whose values differ is the parting.
use Rattle.questions.proofs.PairSearching.{AlikeTo}
use Rattle.questions.proofs.pair.parted.Given as goal

abbrev pub invariant-loop-k : goal.invariant-loop-k
invariant-loop-k l =
    AlikeTo l.first.minutes.now l.first.values.now l.second.minutes.now l.second.values.now l.marks.points.now l.marks.bandwidths.now l.k l.running1
    l.running2

-- Each turn keeps the invariant of Searching: a mark that is not low enough is one more of those before; the first that is, is the answer.
use Rattle.questions.proofs.LimitSearching.{NoneLowTo}
use Rattle.questions.proofs.limit.search.Given as goal

abbrev pub invariant-loop-k : goal.invariant-loop-k
invariant-loop-k l = NoneLowTo l.readings.minutes.now l.readings.values.now l.marks.points.now l.marks.bandwidths.now l.limit l.k l.running

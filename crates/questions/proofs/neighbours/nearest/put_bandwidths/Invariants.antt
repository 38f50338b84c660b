-- Each turn stores one half width more behind those before, and hands the start on: marks are in order, so the next one passes every start that
-- this one has passed.
use Rattle.questions.proofs.Starts.{StoredTo}
use Rattle.questions.proofs.neighbours.nearest.put_bandwidths.Given as goal

abbrev pub invariant-loop-i : goal.invariant-loop-i
invariant-loop-i l = StoredTo l.minutes l.points l.k l.initial.bandwidths l.i l.start l.bandwidths

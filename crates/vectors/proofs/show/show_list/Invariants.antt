-- Each element is written, or stands in what is left.
use Rattle.std.proofs.Common.{◌≡◌, ◌+◌, length}
use Rattle.vectors.proofs.show.show_list.Given as goal

abbrev pub invariant-loop-x : goal.invariant-loop-x
invariant-loop-x g l = l.written + length l.rest ≡ length l.list

abbrev pub decreases-loop-x : goal.decreases-loop-x
decreases-loop-x g l = length l.rest

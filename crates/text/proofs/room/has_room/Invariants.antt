-- The bytes of the numbers so far are taken off the room.
use Rattle.text.proofs.Sizes.{NumbersOff, ValuesOff}
use Rattle.text.proofs.room.has_room.Given as goal

abbrev pub invariant-loop-n : goal.invariant-loop-n
invariant-loop-n l = NumbersOff l.room l.first l.numbers l.values l.left l.n-index

abbrev pub invariant-loop-v : goal.invariant-loop-v
invariant-loop-v l = ValuesOff l.room l.first l.numbers l.values l.left l.v-index

-- Each number read leaves a rest no longer than before.
use Prim.Native.Nat.{◌≤◌}
use lib.ListN.{length}
use Rattle.vectors.proofs.input.Case.list.Given as goal

abbrev pub invariant-loop-x : goal.invariant-loop-x
invariant-loop-x g l = length l.self.rest.now ≤ length l.initial.self.rest.now

-- What is left, behind the value of the digits before it, gives the number; each turn takes a byte off it.
use Rattle.std.proofs.Common.{◌≡◌, ◌≤◌, length}
use Rattle.vectors.specs.Numbers.{number_onto, after_number}
use Rattle.vectors.proofs.input.Case.number.Given as goal

abbrev pub invariant-loop-byte : goal.invariant-loop-byte
invariant-loop-byte l = (number_onto l.value l.self.rest.now ≡ number_onto 0 l.initial.self.rest.now)
    × (after_number l.self.rest.now ≡ after_number l.initial.self.rest.now)
    × (length l.self.rest.now ≤ length l.initial.self.rest.now)

abbrev pub decreases-loop-byte : goal.decreases-loop-byte
decreases-loop-byte l = length l.self.rest.now

-- No write has succeeded yet: each was interrupted.
use Rattle.std.proofs.Common.{◌≡◌, [], ◌+◌, ◌<◌, ◌≤◌, length}
use Rattle.std.specs.Io.KnownBytes.{Keeps}
use Rattle.sheet_to_curve.specs.Ends.{Moved}
use Rattle.sheet_to_curve.proofs.output.write_some.Given as goal

abbrev pub invariant-loop : goal.invariant-loop
invariant-loop g l =
    Keeps (g.W.Write.contents l.initial.writer) (g.W.Write.contents l.writer)
    × (g.W.Sink.loan l.writer ≡ g.W.Sink.loan l.initial.writer)
    × (g.W.Sink.spare l.writer ≡ g.W.Sink.spare l.initial.writer)
    × Moved (g.W.Sink.log l.initial.writer) (g.W.Sink.log l.writer) []
    × (0 < length l.text → length l.text ≤ g.W.Sink.room l.initial.writer
    → (g.W.Sink.room l.initial.writer ≤ g.W.Sink.room l.writer)
    × (g.W.Sink.interruptions l.writer + l.counter ≤ g.W.Sink.interruptions l.initial.writer))

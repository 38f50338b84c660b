-- What has been written is the text's front. Each turn writes at least one byte more, so the loop ends; where the text fits, what is left of it does.
use Rattle.std.proofs.Common.{◌≡◌, ◌≤◌, ◌+◌, ◌-◌, length, take, drop}
use Rattle.std.specs.Io.KnownBytes.{Appends}
use Rattle.sheet_to_curve.specs.Ends.{IsFew, Moved}
use Rattle.sheet_to_curve.proofs.output.write_text.Given as goal

abbrev pub invariant-loop-done : goal.invariant-loop-done
invariant-loop-done g l =
    (l.done ≤ length l.text)
    × Appends (g.W.Write.contents l.initial.writer) (g.W.Write.contents l.writer) (take l.done l.text)
    × Moved (g.W.Sink.log l.initial.writer) (g.W.Sink.log l.writer) (take l.done l.text)
    × (g.W.Sink.loan l.writer ≡ g.W.Sink.loan l.initial.writer)
    × (g.W.Sink.spare l.writer ≡ drop l.done (g.W.Sink.spare l.initial.writer))
    × (length l.text ≤ g.W.Sink.room l.initial.writer → IsFew (g.W.Sink.interruptions l.initial.writer)
    → (g.W.Sink.room l.initial.writer ≤ g.W.Sink.room l.writer + l.done) × (g.W.Sink.interruptions l.writer ≤ g.W.Sink.interruptions l.initial.writer))

abbrev pub decreases-loop-done : goal.decreases-loop-done
decreases-loop-done g l = length l.text - l.done

-- What has been read stands at the buffer's front. Each turn reads at least one byte more and never past the buffer's end, so the loop ends.
use Rattle.std.proofs.Common.{◌≡◌, ◌≤◌, ◌-◌, length, take}
use Rattle.std.specs.Io.KnownBytes.{Consumes}
use Rattle.sheet_to_curve.specs.Ends.{IsFew, Moved}
use Rattle.sheet_to_curve.proofs.input.read_input.Given as goal

abbrev pub invariant-loop-done : goal.invariant-loop-done
invariant-loop-done g l =
    (length l.buf ≡ length l.initial.buf)
    × (l.done ≤ length l.buf)
    × Consumes (g.R.Read.remaining l.initial.reader) (g.R.Read.remaining l.reader) (take l.done l.buf)
    × Moved (g.R.Source.log l.initial.reader) (g.R.Source.log l.reader) (take l.done l.buf)
    × (g.R.Source.steady l.initial.reader → IsFew (g.R.Source.interruptions l.initial.reader)
    → g.R.Source.steady l.reader × (g.R.Source.interruptions l.reader ≤ g.R.Source.interruptions l.initial.reader))

abbrev pub decreases-loop-done : goal.decreases-loop-done
decreases-loop-done g l = length l.buf - l.done

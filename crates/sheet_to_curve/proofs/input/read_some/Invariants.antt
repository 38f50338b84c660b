-- No read has succeeded yet: each was interrupted.
use Rattle.std.proofs.Common.{[], ◌+◌, ◌≤◌}
use Rattle.std.specs.Io.KnownBytes.{Keeps}
use Rattle.sheet_to_curve.specs.Ends.{Moved}
use Rattle.sheet_to_curve.proofs.input.read_some.Given as goal

abbrev pub invariant-loop : goal.invariant-loop
invariant-loop g l =
    Keeps (g.R.Read.remaining l.initial.reader) (g.R.Read.remaining l.reader)
    × Moved (g.R.Source.log l.initial.reader) (g.R.Source.log l.reader) []
    × (g.R.Source.steady l.initial.reader
    → g.R.Source.steady l.reader × (g.R.Source.interruptions l.reader + l.counter ≤ g.R.Source.interruptions l.initial.reader))

-- Each turn takes one reading more into its cell.
use Rattle.boxes.proofs.CellsFilling.{FilledTo}
use Rattle.boxes.proofs.cells.readings.put_readings.Given as goal

abbrev pub invariant-loop-i : goal.invariant-loop-i
invariant-loop-i l =
    FilledTo l.readings.minutes.now l.readings.temperatures.now l.readings.values.now l.cuts.minutes.now l.cuts.temperatures.now l.counts l.sums l.i

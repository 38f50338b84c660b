-- A line's reading joins those before or is not kept, or its report is the sheet's; a line that does not end is its last.
use Rattle.std.proofs.lemmas.Result.{err_from_is_err_and}
use Rattle.sheet.proofs.ReadingLoop.{reading_line_unended, reading_line_refused, readings_go_on}
use Rattle.sheet.proofs.readings.scan_readings.Goals as goal

pub returns-in_err-so_far : goal.returns-in_err-so_far
returns-in_err-so_far c =
    let e = err_from_is_err_and c.from_residual.result c.from_residual.ensures.1 in
    rw (e.1, e.2) (reading_line_refused c.loop-line.invariant c.in-Some.ensures c.in_err-so_far.ensures)

pub loop-line-preserved : goal.loop-line-preserved
loop-line-preserved c = readings_go_on c.loop-line.invariant c.in-Some.ensures c.in_ok-so_far.ensures

pub returns-then-at-sheet : goal.returns-then-at-sheet
returns-then-at-sheet c = reading_line_unended c.loop-line.invariant c.if-at-sheet.true c.in_default.ensures c.at.ensures

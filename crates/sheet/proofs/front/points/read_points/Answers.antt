-- Each turn reads one line: its mark joins those before, or it ends the marks, or its report is the sheet's.
use Rattle.std.proofs.lemmas.Result.{err_from_is_err_and}
use Rattle.sheet.proofs.PointLoop.{points_end, point_line_refused, points_go_on}
use Rattle.sheet.proofs.front.points.read_points.Goals as goal

pub returns-then-line-at : goal.returns-then-line-at
returns-then-line-at c = points_end c.loop-line.invariant c.in-Some.ensures c.if-line-at.true c.if-count-eq0.false

pub returns-in_err-store_point : goal.returns-in_err-store_point
returns-in_err-store_point c =
    let e = err_from_is_err_and c.from_residual.result c.from_residual.ensures.1 in
    rw (e.1, e.2) (point_line_refused c.loop-line.invariant c.in-Some.ensures c.if-line-at.false c.in_err-store_point.ensures)

pub loop-line-preserved : goal.loop-line-preserved
loop-line-preserved c = points_go_on c.loop-line.invariant c.in-Some.ensures c.if-line-at.false c.in_ok-store_point.ensures c.store_point.array_long

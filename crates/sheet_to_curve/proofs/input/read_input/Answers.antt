use Rattle.std.proofs.Common.{rules}
use Rattle.sheet_to_curve.proofs.Pieces.{read_more, read_more_logged, read_whole, handed_on, read_until}
use Rattle.sheet_to_curve.proofs.input.read_input.Goals as goal

pub loop-done-preserved : goal.loop-done-preserved
loop-done-preserved g c =
    let before = c.loop-done.invariant in
    let read = c.in_ok-more.ensures in
    let n = c.in_ok-more.more in
    let further = read_more _ _ _ c.loop-done.done n _ c.loop-done.buf _ before.1 read.bound.0 before.2 read.bytes.0 in
    let logged = read_more_logged _ _ _ c.loop-done.done n _ c.loop-done.buf _ before.1 read.bound.0 (search rules) before.3 read.logged in
    (search rules, search rules, further, logged, search rules)

pub returns-then-more-eq0-clause-reads : goal.returns-then-more-eq0-clause-reads
returns-then-more-eq0-clause-reads g c =
    let before = c.loop-done.invariant in
    read_whole _ _ _ c.loop-done.done c.in_ok-more.more _ _ c.loop-done.buf _ before.1 c.if-more-eq0.true before.3 c.in_ok-more.ensures.logged

pub returns-in_err-more-clause-fails : goal.returns-in_err-more-clause-fails
returns-in_err-more-clause-fails g c =
    let before = c.loop-done.invariant in
    let failed = c.in_err-more.ensures in
    λ small. handed_on c.from_residual.result c.in_err-more.field-0.0 _ c.from_residual.ensures.1
    (read_until _ _ _ _ _ _ c.loop-done.done _ c.loop-done.buf _ _ small before.2 failed.bytes before.3 failed.logged)

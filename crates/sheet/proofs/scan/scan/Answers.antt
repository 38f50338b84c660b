-- The sheet's parts in order: each stage's contract says what is left of the meaning after it.
use Rattle.std.proofs.lemmas.Result.{err_from_is_err_and}
use Rattle.sheet.proofs.ScanScans.{front_refused, named_refused, either_used}
use Rattle.sheet.proofs.scan.scan.Goals as goal

pub returns-in_err-front : goal.returns-in_err-front
returns-in_err-front c =
    let e = err_from_is_err_and c.from_residual.result c.from_residual.ensures.1 in
    rw (e.1, e.2) (front_refused (search) (search) c.in_err-front.ensures)

pub returns-in_err-named : goal.returns-in_err-named
returns-in_err-named c =
    let e = err_from_is_err_and c.from_residual-in_err-named.result c.from_residual-in_err-named.ensures.1 in
    rw (e.1, e.2) (named_refused (search) (search) c.in_ok-front.ensures (search) (search) (search) c.in_err-named.ensures)

pub returns : goal.returns
returns c = either_used (search) (search) c.in_ok-front.ensures (search) (search) (search) c.in_ok-named.ensures

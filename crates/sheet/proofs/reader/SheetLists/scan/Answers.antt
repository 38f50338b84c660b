-- The sheet's parts in order: each stage's contract says what is left of the meaning after it.
-- A stage that refuses gives the sheet's refusal, and after the last stage nothing is left.
use Rattle.std.proofs.lemmas.Result.{err_from_is_err_and}
use Rattle.sheet.proofs.ReaderScans.{front_refused, samples_refused, sheet_used}
use Rattle.sheet.proofs.reader.SheetLists.scan.Goals as goal

pub returns-in_err-front-clause-scanned : goal.returns-in_err-front-clause-scanned
returns-in_err-front-clause-scanned c =
    let e = err_from_is_err_and c.from_residual.result c.from_residual.ensures.1 in
    rw (e.1, e.2) (front_refused (search) (search) c.in_err-front.ensures)

pub returns-in_err-samples-clause-scanned : goal.returns-in_err-samples-clause-scanned
returns-in_err-samples-clause-scanned c =
    let e = err_from_is_err_and c.from_residual-in_err-samples.result c.from_residual-in_err-samples.ensures.1 in
    rw (e.1, e.2) (samples_refused (search) (search) c.in_ok-front.ensures (search) (search) c.in_err-samples.ensures)

pub returns-clause-scanned : goal.returns-clause-scanned
returns-clause-scanned c = sheet_used (search) (search) c.in_ok-front.ensures (search) (search) c.in_ok-samples.ensures

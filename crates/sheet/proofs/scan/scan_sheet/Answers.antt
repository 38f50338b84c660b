-- The last list is of another length: what the call then answers.
use native.Mathlib.Omega.{arith}
use Rattle.std.proofs.lemmas.Grind.{common_steps}
use Rattle.std.proofs.lemmas.Result.{err_from_is_err_and}
use Rattle.sheet.proofs.ScanScans.{bandwidths_uneven}
use Rattle.sheet.proofs.scan.scan_sheet.Goals as goal

pub returns-in_err-bandwidths : goal.returns-in_err-bandwidths
returns-in_err-bandwidths c =
    let e = err_from_is_err_and c.from_residual-in_err-bandwidths.result c.from_residual-in_err-bandwidths.ensures.1 in
    rw e.1
    (bandwidths_uneven (grind (arith, common_steps)) (grind (arith, common_steps)) (grind (arith, common_steps)) (grind (arith, common_steps))
    (grind (arith, common_steps)) (grind (arith, common_steps)))

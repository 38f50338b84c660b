-- Each turn stores one mark's line right behind those before.
-- Tried on the function, the law does not close this.
use Rattle.text.proofs.PlainTables.{table_goes_on}
use Rattle.text.proofs.plain.curve.put_curve_lines.Goals as goal

pub loop-k-preserved : goal.loop-k-preserved
loop-k-preserved c = search (table_goes_on, c.in_ok-size.was)

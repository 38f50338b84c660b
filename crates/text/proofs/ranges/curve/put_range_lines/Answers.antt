-- Each turn stores one mark's line right behind those before.
-- Tried on the function, the law does not close this.
use Rattle.text.proofs.RangesTables.{table_goes_on}
use Rattle.text.proofs.ranges.curve.put_range_lines.Goals as goal

pub loop-k-preserved : goal.loop-k-preserved
loop-k-preserved c = search (table_goes_on, c.in_ok-size.was)

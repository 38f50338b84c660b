-- Every check is made before the first row is stored, so a refusal leaves the rows.
-- Where there is none the sweep stores them all and has counted its passes.
use Rattle.regression.proofs.RangesSweeping.{lists_accepted}
use Rattle.regression.proofs.ranges.smooth_ranges.Goals as goal

pub sweep_rows-requires : goal.sweep_rows-requires
sweep_rows-requires c = search (lists_accepted, c.in_ok-ranges_fault.was)

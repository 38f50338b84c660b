-- The buffer is checked before the sweep. The rows that the sweep leaves make the curve's text.
-- Tried on the function, the two laws do not close these.
use Rattle.text.proofs.RangesSwept.{curve_answered, curve_in_front}
use Rattle.text.proofs.ranges.swept_ranges_text.Goals as goal

pub returns-clause-result_value : goal.returns-clause-result_value
returns-clause-result_value c = rw c.ok_or.ensures.value (search (curve_answered, c.in_ok-passes.was))

pub returns-clause-out_after : goal.returns-clause-out_after
returns-clause-out_after c = search (curve_in_front, c.in_ok-passes.was)

-- Each turn looks at one cut more.
use Rattle.boxes.proofs.Counts.{block_goes_on, block_ends}
use Rattle.boxes.proofs.strips.counting.block.Goals as goal

pub loop-i-preserved : goal.loop-i-preserved
loop-i-preserved c = search block_goes_on

pub returns : goal.returns
returns c = search (block_ends, c.loop-i.auto.i-end)

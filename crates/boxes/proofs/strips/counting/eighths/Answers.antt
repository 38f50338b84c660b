-- Each turn looks at one eighth cut more.
use Rattle.boxes.proofs.Counts.{eighths_go_on, eighths_end}
use Rattle.boxes.proofs.strips.counting.eighths.Goals as goal

pub loop-i-preserved : goal.loop-i-preserved
loop-i-preserved c = search eighths_go_on

pub returns : goal.returns
returns c = search eighths_end

-- Each turn takes one reading more into its cell.
use Rattle.boxes.proofs.CellsFilling.{readings_begin, readings_go_on, readings_end}
use Rattle.boxes.proofs.cells.readings.put_readings.Goals as goal

pub loop-i-init : goal.loop-i-init
loop-i-init c = search readings_begin

pub loop-i-preserved : goal.loop-i-preserved
loop-i-preserved c = search readings_go_on

pub returns : goal.returns
returns c = search readings_end

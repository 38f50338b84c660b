-- Each turn searches both cuts of one mark more.
use Rattle.boxes.proofs.WindowsStoring.{marks_go_on, marks_end}
use Rattle.boxes.proofs.windows.put_windows.Goals as goal

pub loop-i-preserved : goal.loop-i-preserved
loop-i-preserved g c = search marks_go_on

pub returns : goal.returns
returns g c = search marks_end

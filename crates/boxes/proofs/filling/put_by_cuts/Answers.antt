-- Among ranked cuts the searches give the strips of every window.
use Rattle.boxes.proofs.Calls.{boxes_by_cuts}
use Rattle.boxes.proofs.filling.put_by_cuts.Goals as goal

pub returns : goal.returns
returns c = search (boxes_by_cuts, c.put_by_strips.ensures, c.put_windows-2.ensures, c.put_windows.ensures)

-- Every check is made before the first store, so a refusal leaves all three lists. Where there is none all three are filled.
use Rattle.boxes.proofs.Calls.{accepted}
use Rattle.boxes.proofs.boxes.Goals as goal

pub fill-requires : goal.fill-requires
fill-requires c = search (accepted, c.box_fault.ensures, c.in_ok-box_fault.was)

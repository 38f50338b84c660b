-- Both tables are filled from the cells of readings, so a box of windows is four numbers of them.
use Rattle.boxes.proofs.Combining.{boxes_by_strips}
use Rattle.boxes.proofs.filling.put_by_strips.Goals as goal

pub returns : goal.returns
returns c =
    search (
      boxes_by_strips,
      c.put_boxes.ensures,
      c.accumulate-2.ensures,
      c.accumulate.ensures,
    )

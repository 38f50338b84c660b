-- The call below, its answer as one number.
use Rattle.exports.proofs.BoxTablePlaces.{boxes_place}
use Rattle.exports.proofs.Answered.{refused_code}
use Rattle.exports.proofs.box_table.tankcurve_boxes.Goals as goal

pub returns-in-Err-clause-value : goal.returns-in-Err-clause-value
returns-in-Err-clause-value c = search (refused_code, boxes_place)

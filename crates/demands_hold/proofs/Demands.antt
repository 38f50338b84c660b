-- All promises hold, and every call takes every input: crates/promises has the answers of calls that end, and each function's own proof says that it
-- does.
use Rattle.questions.proofs.limit.first_at_most.Met as first_at_most_met
use Rattle.exports.proofs.limit.tankcurve_first_at_most.Met as exported_met
use Rattle.promises.specs.Crossing.{EveryCrossingTaken}
use Rattle.promises.specs.Promises.{EveryCallTaken, Demands}
use Rattle.promises.proofs.Promises.{promises}
use Rattle.promises.proofs.Runs.{program_runs}
use Rattle.promises.proofs.biweight.Biweights.{biweight_taken}
use Rattle.promises.proofs.boxes.InBoxes.{boxes_taken}
use Rattle.promises.proofs.decisive.Decisive.{decisive_taken}
use Rattle.promises.proofs.doubles.Doubles.{doubles_taken}
use Rattle.promises.proofs.neighbours.ByNeighbours.{neighbours_taken}
use Rattle.promises.proofs.pair.Pairs.{pair_taken}
use Rattle.promises.proofs.range_reader.BothKinds.{reader_taken}
use Rattle.promises.proofs.ranges.OverRanges.{ranges_taken}
use Rattle.promises.proofs.turn.Turns.{turn_taken}
use Rattle.demands_hold.proofs.EveryInput.{every_input, every_run_ends}

every_crossing : EveryCrossingTaken
every_crossing = record {
  first_at_most_ends = first_at_most_met.met;
  first_at_most_asks_nothing = λ κs a. tt;
  exported_ends = exported_met.met;
  exported_asks_nothing = λ κs a. tt;
}

taken : EveryCallTaken
taken = record {
  every_input = every_input;
  every_run_ends = every_run_ends;
  program_runs = program_runs;
  every_crossing = every_crossing;
  every_turn = turn_taken;
  every_neighbours = neighbours_taken;
  every_ranges = ranges_taken;
  every_reader = reader_taken;
  every_biweight = biweight_taken;
  every_doubles = doubles_taken;
  every_pair = pair_taken;
  every_boxes = boxes_taken;
  every_decisive = decisive_taken;
}

pub demands : Demands
demands = record { taken = taken; promises = promises }

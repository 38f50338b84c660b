-- All promises, from the contracts of the calls and the laws of the meanings: each is proved in the file of its subject.
use Rattle.meanings.specs.Limits.{full}
use Rattle.meanings.specs.Calls.{answer_of}
use Rattle.meanings.proofs.Cases.{document_cases_hold}
use Rattle.meanings.proofs.RangesCases.{program_cases_hold}
use Rattle.promises.specs.Demands.{Demand1}
use Rattle.promises.specs.Promises.{Promises}
use Rattle.promises.specs.Worked.{WorkedCases}
use Rattle.promises.proofs.Crossing.{crossings}
use Rattle.promises.proofs.Demand1.{evaluate_refused, window_refused, advance_refused, smooth_refused, fill_refused, read_refused}
use Rattle.promises.proofs.Demand1.{text_refused, text_over_refused, refusal_text_refused, exported_evaluate_refused}
use Rattle.promises.proofs.Demand1.{exported_window_refused, exported_advance_refused}
use Rattle.promises.proofs.Demand1.{exported_record_row_refused, exported_smooth_refused, exported_fill_refused, exported_read_refused}
use Rattle.promises.proofs.Demand1.{exported_text_refused, exported_refusal_text_refused}
use Rattle.promises.proofs.Demand2.{demand_2}
use Rattle.promises.proofs.Demand3.{demand_3_of_calls}
use Rattle.promises.proofs.EveryCurve.{every_curve}
use Rattle.promises.proofs.LineEndings.{line_endings}
use Rattle.promises.proofs.OtherCalls.{other_calls}
use Rattle.promises.proofs.Preview.{preview_holds}
use Rattle.promises.proofs.Program.{program_holds}
use Rattle.promises.proofs.biweight.Biweights.{biweights}
use Rattle.promises.proofs.boxes.InBoxes.{in_boxes}
use Rattle.promises.proofs.decisive.Decisive.{decisive_readings}
use Rattle.promises.proofs.doubles.Biweight.{biweight_rows_had_back}
use Rattle.promises.proofs.doubles.Doubles.{doubles_hold}
use Rattle.promises.proofs.doubles.Neighbours.{neighbours_rows_had_back}
use Rattle.promises.proofs.doubles.Ranges.{range_rows_had_back}
use Rattle.promises.proofs.neighbours.ByNeighbours.{by_neighbours}
use Rattle.promises.proofs.pair.Pairs.{pairs_hold}
use Rattle.promises.proofs.range_reader.BothKinds.{both_kinds}
use Rattle.promises.proofs.ranges.OverRanges.{over_ranges}
use Rattle.promises.proofs.turn.Turns.{turns_hold}

pub demand_1 : Demand1
demand_1 = record {
  program_holds = program_holds;
  evaluate_refused = evaluate_refused;
  window_refused = window_refused;
  advance_refused = advance_refused;
  smooth_refused = λ ts vs zs hs rs a rs' c. smooth_refused full ts vs zs hs rs (answer_of a) rs' c.ensured.0 c.ensured.1;
  fill_refused = fill_refused;
  read_refused = read_refused;
  text_refused = text_refused;
  text_over_refused = text_over_refused;
  refusal_text_refused = refusal_text_refused;
  exported_evaluate_refused = exported_evaluate_refused;
  exported_window_refused = exported_window_refused;
  exported_advance_refused = exported_advance_refused;
  exported_record_row_refused = exported_record_row_refused;
  exported_smooth_refused = λ ts vs zs hs rs c rs' k. exported_smooth_refused full ts vs zs hs rs c rs' k.ensured.0 k.ensured.1;
  exported_fill_refused = exported_fill_refused;
  exported_read_refused = exported_read_refused;
  exported_text_refused = exported_text_refused;
  exported_refusal_text_refused = exported_refusal_text_refused;
}

pub worked_cases : WorkedCases
worked_cases = record { worked_cases = document_cases_hold; printed_cases = program_cases_hold }

pub promises : Promises
promises = record {
  demand_1 = demand_1;
  demand_2 = demand_2;
  demand_3 = demand_3_of_calls;
  other_calls = other_calls;
  line_endings = line_endings;
  preview_holds = preview_holds;
  every_curve = every_curve;
  cases = worked_cases;
  crossings = crossings;
  turns = turns_hold;
  by_neighbours = by_neighbours;
  over_ranges = over_ranges;
  both_kinds = both_kinds;
  biweights = biweights;
  doubles = doubles_hold;
  biweight_doubles = biweight_rows_had_back;
  neighbours_doubles = neighbours_rows_had_back;
  ranges_doubles = range_rows_had_back;
  pairs = pairs_hold;
  in_boxes = in_boxes;
  decisive = decisive_readings;
}

-- Every call takes every input and ends: that is the proof of each function itself.
use Rattle.regression.proofs.estimator.evaluate.Met as evaluate_met
use Rattle.regression.proofs.estimator.window.Met as window_met
use Rattle.regression.proofs.estimator.advance.Met as advance_met
use Rattle.arithmetic.proofs.row.record_row.Met as record_row_met
use Rattle.regression.proofs.sweep.smooth.Met as smooth_met
use Rattle.regression.proofs.sweep.preview.Met as preview_met
use Rattle.regression.proofs.grid.fill_grid.Met as fill_grid_met
use Rattle.sheet.proofs.reader.read_sheet.Met as read_sheet_met
use Rattle.text.proofs.from_sheet.curve_text.Met as curve_text_met
use Rattle.text.proofs.over_sheet.curve_text_over.Met as curve_text_over_met
use Rattle.text.proofs.refusal.refusal_text.Met as refusal_text_met
use Rattle.exports.proofs.point.tankcurve_evaluate.Met as exported_evaluate_met
use Rattle.exports.proofs.point.tankcurve_window.Met as exported_window_met
use Rattle.exports.proofs.record.tankcurve_advance.Met as exported_advance_met
use Rattle.exports.proofs.record.tankcurve_row.Met as exported_record_row_met
use Rattle.exports.proofs.sweep.tankcurve_smooth.Met as exported_smooth_met
use Rattle.exports.proofs.sweep.tankcurve_preview.Met as exported_preview_met
use Rattle.exports.proofs.sweep.tankcurve_fill.Met as exported_fill_met
use Rattle.exports.proofs.reader.tankcurve_read.Met as exported_read_met
use Rattle.exports.proofs.texts.tankcurve_text.Met as exported_text_met
use Rattle.exports.proofs.texts.tankcurve_refusal_text.Met as exported_refusal_text_met
use Rattle.exports.proofs.version.tankcurve_version.Met as exported_version_met
use Rattle.sheet_to_curve.proofs.run.Met as run_met
use Rattle.sheet_to_curve.proofs.text_into.Met as text_into_met
use Rattle.promises.specs.Calls.{EveryInputTaken}
use Rattle.promises.specs.Runs.{EveryRunEnds}

pub every_input : EveryInputTaken
every_input = record {
  evaluate_ends = evaluate_met.met;
  evaluate_asks_nothing = λ κs a. tt;
  window_ends = window_met.met;
  window_asks_nothing = λ κs a. tt;
  advance_ends = advance_met.met;
  advance_asks_nothing = λ κs a. tt;
  record_row_ends = record_row_met.met;
  record_row_asks_nothing = λ κs a. tt;
  smooth_ends = smooth_met.met;
  smooth_asks_nothing = λ κs a. tt;
  preview_ends = preview_met.met;
  preview_asks_nothing = λ κs a. tt;
  fill_ends = fill_grid_met.met;
  fill_asks_nothing = λ κs a. tt;
  read_ends = read_sheet_met.met;
  read_asks_nothing = λ κs a. tt;
  text_ends = curve_text_met.met;
  text_asks_nothing = λ κs a. tt;
  text_over_ends = curve_text_over_met.met;
  text_over_asks_nothing = λ κs a. tt;
  refusal_text_ends = refusal_text_met.met;
  refusal_text_asks_nothing = λ κs a. tt;
  exported_evaluate_ends = exported_evaluate_met.met;
  exported_evaluate_asks_nothing = λ κs a. tt;
  exported_window_ends = exported_window_met.met;
  exported_window_asks_nothing = λ κs a. tt;
  exported_advance_ends = exported_advance_met.met;
  exported_advance_asks_nothing = λ κs a. tt;
  exported_record_row_ends = exported_record_row_met.met;
  exported_record_row_asks_nothing = λ κs a. tt;
  exported_smooth_ends = exported_smooth_met.met;
  exported_smooth_asks_nothing = λ κs a. tt;
  exported_preview_ends = exported_preview_met.met;
  exported_preview_asks_nothing = λ κs a. tt;
  exported_fill_ends = exported_fill_met.met;
  exported_fill_asks_nothing = λ κs a. tt;
  exported_read_ends = exported_read_met.met;
  exported_read_asks_nothing = λ κs a. tt;
  exported_text_ends = exported_text_met.met;
  exported_text_asks_nothing = λ κs a. tt;
  exported_refusal_text_ends = exported_refusal_text_met.met;
  exported_refusal_text_asks_nothing = λ κs a. tt;
  exported_version_ends = exported_version_met.met;
  exported_version_asks_nothing = λ κs a. tt;
}

-- and so does the program, on every reader and writer
pub every_run_ends : EveryRunEnds
every_run_ends = record {
  run_ends = run_met.met;
  run_asks_nothing = λ R W κs a reader writer. (reader, writer);
  text_into_ends = text_into_met.met;
  text_into_asks_nothing = λ κs a. tt;
}

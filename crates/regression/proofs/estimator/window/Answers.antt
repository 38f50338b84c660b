-- The part is cut at the span's edges, which lie within the values: for accepted readings the row's left and right.
-- On a refusal it is the empty part at the start.
use mathlib.Core.Path.{refl}
use Rattle.regression.proofs.EstimatorVerdicts.{accepted_ordered, window_refused, start_refused, span_ordered, span_within, span_fits, window_given}
use Rattle.regression.proofs.EstimatorVerdicts.{start_given}
use Rattle.regression.proofs.estimator.window.Goals as goal

pub returns-in-Err-clause-result_value : goal.returns-in-Err-clause-result_value
returns-in-Err-clause-result_value c = search window_refused

pub returns-in-Err-clause-ref_ptr_value : goal.returns-in-Err-clause-ref_ptr_value
returns-in-Err-clause-ref_ptr_value c = (refl, search start_refused)

pub returns-in-Ok-clause-result_value : goal.returns-in-Ok-clause-result_value
returns-in-Ok-clause-result_value c = search window_given

pub returns-in-Ok-clause-ref_ptr_value : goal.returns-in-Ok-clause-ref_ptr_value
returns-in-Ok-clause-ref_ptr_value c = (refl, search start_given)

pub span_at-span-requires : goal.span_at-span-requires
span_at-span-requires c = search accepted_ordered

pub offset_bounds-values-span : goal.offset_bounds-values-span
offset_bounds-values-span c = search span_fits

pub slice_bounds-result-count : goal.slice_bounds-result-count
slice_bounds-result-count c = search span_ordered

pub slice_bounds-result-start : goal.slice_bounds-result-start
slice_bounds-result-start c = search span_ordered

pub slice_bounds-result-end-in-Ok : goal.slice_bounds-result-end-in-Ok
slice_bounds-result-end-in-Ok c = search span_within

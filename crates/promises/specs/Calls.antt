-- Calls that were made: each record says that a call of the function with this name, on these inputs, gave this answer and left its lent
-- lists so. What is known of a call is its contract, word for word: the field ensured is the function's own `Post`, which Rattle makes of the
-- source's `ensures`, of the arguments, the answer and the arguments at exit. A list that is lent to be read is at exit what it was, by the
-- type of the loan; a lifetime is how long a loan lasts.
use Rattle.std.specs.Prelude.{ℕ, List}
use Rattle.std.specs.Prelude.{Result}
use Rattle.meanings.specs.declared.Counts.{Counts}
use Rattle.meanings.specs.declared.Mark.{Mark}
use Rattle.meanings.specs.declared.Marks.{Marks}
use Rattle.meanings.specs.declared.Readings.{Readings}
use Rattle.meanings.specs.declared.Refusal.{Refusal}
use denote.Ref.{Bor, MutBor, Gone}
use contract.Lifetimes.{Lfts}
use borrow.Fn.Kinds.{Dens}
use Rattle.meanings.specs.declared.Estimate.{Estimate}
use Rattle.meanings.specs.declared.RunningSums.{RunningSums}
use Rattle.regression.proofs.estimator.evaluate.Reads as evaluate
use Rattle.regression.proofs.estimator.window.Reads as window
use Rattle.regression.proofs.estimator.advance.Reads as advance
use Rattle.arithmetic.proofs.row.record_row.Reads as record_row
use Rattle.regression.proofs.sweep.smooth.Reads as smooth
use Rattle.regression.proofs.sweep.preview.Reads as preview
use Rattle.regression.proofs.grid.fill_grid.Reads as fill_grid
use Rattle.sheet.proofs.reader.read_sheet.Reads as read_sheet
use Rattle.text.proofs.from_sheet.curve_text.Reads as curve_text
use Rattle.text.proofs.over_sheet.curve_text_over.Reads as curve_text_over
use Rattle.text.proofs.refusal.refusal_text.Reads as refusal_text
use Rattle.exports.proofs.point.tankcurve_evaluate.Reads as exported_evaluate
use Rattle.exports.proofs.point.tankcurve_window.Reads as exported_window
use Rattle.exports.proofs.record.tankcurve_advance.Reads as exported_advance
use Rattle.exports.proofs.record.tankcurve_row.Reads as exported_record_row
use Rattle.exports.proofs.sweep.tankcurve_smooth.Reads as exported_smooth
use Rattle.exports.proofs.sweep.tankcurve_preview.Reads as exported_preview
use Rattle.exports.proofs.sweep.tankcurve_fill.Reads as exported_fill
use Rattle.exports.proofs.reader.tankcurve_read.Reads as exported_read
use Rattle.exports.proofs.texts.tankcurve_text.Reads as exported_text
use Rattle.exports.proofs.texts.tankcurve_refusal_text.Reads as exported_refusal_text
use Rattle.exports.proofs.version.tankcurve_version.Reads as exported_version
use Rattle.regression.proofs.estimator.evaluate.Kinds as evaluate_kinds
use Rattle.regression.proofs.estimator.evaluate.Statement as evaluate_code
use Rattle.regression.proofs.estimator.window.Kinds as window_kinds
use Rattle.regression.proofs.estimator.window.Statement as window_code
use Rattle.regression.proofs.estimator.advance.Kinds as advance_kinds
use Rattle.regression.proofs.estimator.advance.Statement as advance_code
use Rattle.arithmetic.proofs.row.record_row.Kinds as record_row_kinds
use Rattle.arithmetic.proofs.row.record_row.Statement as record_row_code
use Rattle.regression.proofs.sweep.smooth.Kinds as smooth_kinds
use Rattle.regression.proofs.sweep.smooth.Statement as smooth_code
use Rattle.regression.proofs.sweep.preview.Kinds as preview_kinds
use Rattle.regression.proofs.sweep.preview.Statement as preview_code
use Rattle.regression.proofs.grid.fill_grid.Kinds as fill_grid_kinds
use Rattle.regression.proofs.grid.fill_grid.Statement as fill_grid_code
use Rattle.sheet.proofs.reader.read_sheet.Kinds as read_sheet_kinds
use Rattle.sheet.proofs.reader.read_sheet.Statement as read_sheet_code
use Rattle.text.proofs.from_sheet.curve_text.Kinds as curve_text_kinds
use Rattle.text.proofs.from_sheet.curve_text.Statement as curve_text_code
use Rattle.text.proofs.over_sheet.curve_text_over.Kinds as curve_text_over_kinds
use Rattle.text.proofs.over_sheet.curve_text_over.Statement as curve_text_over_code
use Rattle.text.proofs.refusal.refusal_text.Kinds as refusal_text_kinds
use Rattle.text.proofs.refusal.refusal_text.Statement as refusal_text_code
use Rattle.exports.proofs.point.tankcurve_evaluate.Kinds as exported_evaluate_kinds
use Rattle.exports.proofs.point.tankcurve_evaluate.Statement as exported_evaluate_code
use Rattle.exports.proofs.point.tankcurve_window.Kinds as exported_window_kinds
use Rattle.exports.proofs.point.tankcurve_window.Statement as exported_window_code
use Rattle.exports.proofs.record.tankcurve_advance.Kinds as exported_advance_kinds
use Rattle.exports.proofs.record.tankcurve_advance.Statement as exported_advance_code
use Rattle.exports.proofs.record.tankcurve_row.Kinds as exported_record_row_kinds
use Rattle.exports.proofs.record.tankcurve_row.Statement as exported_record_row_code
use Rattle.exports.proofs.sweep.tankcurve_smooth.Kinds as exported_smooth_kinds
use Rattle.exports.proofs.sweep.tankcurve_smooth.Statement as exported_smooth_code
use Rattle.exports.proofs.sweep.tankcurve_preview.Kinds as exported_preview_kinds
use Rattle.exports.proofs.sweep.tankcurve_preview.Statement as exported_preview_code
use Rattle.exports.proofs.sweep.tankcurve_fill.Kinds as exported_fill_kinds
use Rattle.exports.proofs.sweep.tankcurve_fill.Statement as exported_fill_code
use Rattle.exports.proofs.reader.tankcurve_read.Kinds as exported_read_kinds
use Rattle.exports.proofs.reader.tankcurve_read.Statement as exported_read_code
use Rattle.exports.proofs.texts.tankcurve_text.Kinds as exported_text_kinds
use Rattle.exports.proofs.texts.tankcurve_text.Statement as exported_text_code
use Rattle.exports.proofs.texts.tankcurve_refusal_text.Kinds as exported_refusal_text_kinds
use Rattle.exports.proofs.texts.tankcurve_refusal_text.Statement as exported_refusal_text_code
use Rattle.exports.proofs.version.tankcurve_version.Kinds as exported_version_kinds
use Rattle.exports.proofs.version.tankcurve_version.Statement as exported_version_code

-- where a lent list lies: ref_ptr is the block and the byte in it
abbrev pub Place : Type 0
Place = Gone

-- the list xs, lent from that place to be read
abbrev pub lent : Place → List ℕ → Bor (List ℕ)
lent x xs = record { ref_ptr = x.ref_ptr; now = xs }

-- and to be written: such a loan has a name too
abbrev pub lent_mut : Place → List ℕ → MutBor (List ℕ)
lent_mut x xs = record { ref_ptr = x.ref_ptr; ghost_name = x.ghost_name; now = xs }

-- readings and marks, their lists lent to be read
abbrev pub readings : Place → Place → List ℕ → List ℕ → Readings
readings x y ts vs = record { minutes = lent x ts; values = lent y vs }

abbrev pub marks : Place → Place → List ℕ → List ℕ → Marks
marks x y zs hs = record { points = lent x zs; bandwidths = lent y hs }

abbrev pub mark : ℕ → ℕ → Mark
mark z h = record { point = z; bandwidth = h }

pub record EvaluateCall (ts vs : List ℕ) (z h : ℕ) (a : Result Estimate Refusal) : Type 0 where
  pub lifetimes : Lfts 1
  pub minutes_at : Place
  pub values_at : Place
  pub ensured :
      evaluate.Post lifetimes (readings minutes_at values_at ts vs, (mark z h, tt)) a (readings minutes_at values_at ts vs, (mark z h, tt))

-- the answer is a part of the lent values
pub record WindowCall (ts vs : List ℕ) (z h : ℕ) (values_at : Place) (part : Bor (List ℕ)) : Type 0 where
  pub lifetimes : Lfts 2
  pub minutes_at : Place
  pub ensured :
      window.Post lifetimes (lent minutes_at ts, (lent values_at vs, (mark z h, tt))) part (lent minutes_at ts, (lent values_at vs, (mark z h, tt)))

pub record AdvanceCall (r : RunningSums) (ts vs : List ℕ) (z h : ℕ) (a : Result RunningSums Refusal) : Type 0 where
  pub lifetimes : Lfts 1
  pub minutes_at : Place
  pub values_at : Place
  pub ensured :
      advance.Post lifetimes (r, (readings minutes_at values_at ts vs, (mark z h, tt))) a
      (r, (readings minutes_at values_at ts vs, (mark z h, tt)))

pub record RecordRowCall (r : RunningSums) (z h : ℕ) (e : Estimate) : Type 0 where
  pub lifetimes : Lfts 0
  pub ensured : record_row.Post lifetimes (r, (mark z h, tt)) e (r, (mark z h, tt))

-- rs and rs' are the rows at entry and at exit, and so for every list below
pub record SmoothCall (ts vs zs hs rs : List ℕ) (a : Result ℕ Refusal) (rs' : List ℕ) : Type 0 where
  pub lifetimes : Lfts 3
  pub minutes_at : Place
  pub values_at : Place
  pub points_at : Place
  pub bandwidths_at : Place
  pub rows_at : Place
  pub ensured :
      smooth.Post lifetimes (readings minutes_at values_at ts vs, (marks points_at bandwidths_at zs hs, (lent_mut rows_at rs, tt))) a
      (readings minutes_at values_at ts vs, (marks points_at bandwidths_at zs hs, (lent_mut rows_at rs', tt)))

pub record PreviewCall (ts vs zs hs rs : List ℕ) (a : Result ℕ Refusal) (rs' : List ℕ) : Type 0 where
  pub lifetimes : Lfts 3
  pub minutes_at : Place
  pub values_at : Place
  pub points_at : Place
  pub bandwidths_at : Place
  pub rows_at : Place
  pub ensured :
      preview.Post lifetimes (readings minutes_at values_at ts vs, (marks points_at bandwidths_at zs hs, (lent_mut rows_at rs, tt))) a
      (readings minutes_at values_at ts vs, (marks points_at bandwidths_at zs hs, (lent_mut rows_at rs', tt)))

pub record FillCall (z₀ spacing preset : ℕ) (zs hs : List ℕ) (a : Result Unit Refusal) (zs' hs' : List ℕ) : Type 0 where
  pub lifetimes : Lfts 2
  pub points_at : Place
  pub bandwidths_at : Place
  pub ensured :
      fill_grid.Post lifetimes (z₀, (spacing, (preset, (lent_mut points_at zs, (lent_mut bandwidths_at hs, tt))))) a
      (z₀, (spacing, (preset, (lent_mut points_at zs', (lent_mut bandwidths_at hs', tt)))))

pub record ReadCall (s ts vs zs hs : List ℕ) (a : Result Counts Refusal) (ts' vs' zs' hs' : List ℕ) : Type 0 where
  pub lifetimes : Lfts 5
  pub sheet_at : Place
  pub minutes_at : Place
  pub values_at : Place
  pub points_at : Place
  pub bandwidths_at : Place
  pub ensured :
      read_sheet.Post lifetimes
      (lent sheet_at s, (lent_mut minutes_at ts, (lent_mut values_at vs, (lent_mut points_at zs, (lent_mut bandwidths_at hs, tt))))) a
      (lent sheet_at s, (lent_mut minutes_at ts', (lent_mut values_at vs', (lent_mut points_at zs', (lent_mut bandwidths_at hs', tt)))))

pub record TextCall (s out : List ℕ) (a : Result ℕ Refusal) (out' : List ℕ) : Type 0 where
  pub lifetimes : Lfts 2
  pub sheet_at : Place
  pub out_at : Place
  pub ensured : curve_text.Post lifetimes (lent sheet_at s, (lent_mut out_at out, tt)) a (lent sheet_at s, (lent_mut out_at out', tt))

-- the sheet is the buffer's first n bytes
pub record OverCall (buf : List ℕ) (n : ℕ) (a : Result ℕ Refusal) (buf' : List ℕ) : Type 0 where
  pub lifetimes : Lfts 1
  pub buf_at : Place
  pub ensured : curve_text_over.Post lifetimes (lent_mut buf_at buf, (n, tt)) a (lent_mut buf_at buf', (n, tt))

pub record RefusalTextCall (n p : ℕ) (out : List ℕ) (a : Result ℕ Refusal) (out' : List ℕ) : Type 0 where
  pub lifetimes : Lfts 1
  pub out_at : Place
  pub ensured : refusal_text.Post lifetimes (n, (p, (lent_mut out_at out, tt))) a (n, (p, (lent_mut out_at out', tt)))

-- the calls for C and Rust: the answer is one number
pub record ExportedEvaluate (ts vs : List ℕ) (z h : ℕ) (row : List ℕ) (c : ℕ) (row' : List ℕ) : Type 0 where
  pub lifetimes : Lfts 3
  pub minutes_at : Place
  pub values_at : Place
  pub stored_row : Place
  pub ensured :
      exported_evaluate.Post lifetimes (lent minutes_at ts, (lent values_at vs, (z, (h, (lent_mut stored_row row, tt))))) c
      (lent minutes_at ts, (lent values_at vs, (z, (h, (lent_mut stored_row row', tt)))))

pub record ExportedWindow (ts vs : List ℕ) (z h : ℕ) (bounds : List ℕ) (c : ℕ) (bounds' : List ℕ) : Type 0 where
  pub lifetimes : Lfts 3
  pub minutes_at : Place
  pub values_at : Place
  pub bounds_at : Place
  pub ensured :
      exported_window.Post lifetimes (lent minutes_at ts, (lent values_at vs, (z, (h, (lent_mut bounds_at bounds, tt))))) c
      (lent minutes_at ts, (lent values_at vs, (z, (h, (lent_mut bounds_at bounds', tt)))))

pub record ExportedAdvance (xs ts vs : List ℕ) (z h c : ℕ) (xs' : List ℕ) : Type 0 where
  pub lifetimes : Lfts 3
  pub running_at : Place
  pub minutes_at : Place
  pub values_at : Place
  pub ensured :
      exported_advance.Post lifetimes (lent_mut running_at xs, (lent minutes_at ts, (lent values_at vs, (z, (h, tt))))) c
      (lent_mut running_at xs', (lent minutes_at ts, (lent values_at vs, (z, (h, tt)))))

-- the record is lent to be read
pub record ExportedRecordRow (xs : List ℕ) (z h : ℕ) (row : List ℕ) (c : ℕ) (row' : List ℕ) : Type 0 where
  pub lifetimes : Lfts 2
  pub running_at : Place
  pub stored_row : Place
  pub ensured :
      exported_record_row.Post lifetimes (lent running_at xs, (z, (h, (lent_mut stored_row row, tt)))) c
      (lent running_at xs, (z, (h, (lent_mut stored_row row', tt))))

pub record ExportedSmooth (ts vs zs hs rs : List ℕ) (c : ℕ) (rs' : List ℕ) : Type 0 where
  pub lifetimes : Lfts 5
  pub minutes_at : Place
  pub values_at : Place
  pub points_at : Place
  pub bandwidths_at : Place
  pub rows_at : Place
  pub ensured :
      exported_smooth.Post lifetimes
      (lent minutes_at ts, (lent values_at vs, (lent points_at zs, (lent bandwidths_at hs, (lent_mut rows_at rs, tt))))) c
      (lent minutes_at ts, (lent values_at vs, (lent points_at zs, (lent bandwidths_at hs, (lent_mut rows_at rs', tt)))))

pub record ExportedPreview (ts vs zs hs rs : List ℕ) (c : ℕ) (rs' : List ℕ) : Type 0 where
  pub lifetimes : Lfts 5
  pub minutes_at : Place
  pub values_at : Place
  pub points_at : Place
  pub bandwidths_at : Place
  pub rows_at : Place
  pub ensured :
      exported_preview.Post lifetimes
      (lent minutes_at ts, (lent values_at vs, (lent points_at zs, (lent bandwidths_at hs, (lent_mut rows_at rs, tt))))) c
      (lent minutes_at ts, (lent values_at vs, (lent points_at zs, (lent bandwidths_at hs, (lent_mut rows_at rs', tt)))))

pub record ExportedFill (z₀ spacing preset : ℕ) (zs hs : List ℕ) (c : ℕ) (zs' hs' : List ℕ) : Type 0 where
  pub lifetimes : Lfts 2
  pub points_at : Place
  pub bandwidths_at : Place
  pub ensured :
      exported_fill.Post lifetimes (z₀, (spacing, (preset, (lent_mut points_at zs, (lent_mut bandwidths_at hs, tt))))) c
      (z₀, (spacing, (preset, (lent_mut points_at zs', (lent_mut bandwidths_at hs', tt)))))

pub record ExportedRead (s ts vs zs hs ns : List ℕ) (c : ℕ) (ts' vs' zs' hs' ns' : List ℕ) : Type 0 where
  pub lifetimes : Lfts 6
  pub sheet_at : Place
  pub minutes_at : Place
  pub values_at : Place
  pub points_at : Place
  pub bandwidths_at : Place
  pub counts_at : Place
  pub ensured :
      exported_read.Post lifetimes (
        lent sheet_at s,
        (lent_mut minutes_at ts, (lent_mut values_at vs, (lent_mut points_at zs, (lent_mut bandwidths_at hs, (lent_mut counts_at ns, tt))))),
      ) c (
        lent sheet_at s,
        (lent_mut minutes_at ts', (lent_mut values_at vs', (lent_mut points_at zs', (lent_mut bandwidths_at hs', (lent_mut counts_at ns', tt))))),
      )

pub record ExportedText (s out : List ℕ) (c : ℕ) (out' : List ℕ) : Type 0 where
  pub lifetimes : Lfts 2
  pub sheet_at : Place
  pub out_at : Place
  pub ensured : exported_text.Post lifetimes (lent sheet_at s, (lent_mut out_at out, tt)) c (lent sheet_at s, (lent_mut out_at out', tt))

pub record ExportedRefusalText (n p : ℕ) (out : List ℕ) (c : ℕ) (out' : List ℕ) : Type 0 where
  pub lifetimes : Lfts 1
  pub out_at : Place
  pub ensured : exported_refusal_text.Post lifetimes (n, (p, (lent_mut out_at out, tt))) c (n, (p, (lent_mut out_at out', tt)))

-- which build it is: this number is no answer
pub record ExportedVersion (v : ℕ) : Type 0 where
  pub lifetimes : Lfts 0
  pub ensured : exported_version.Post lifetimes tt v tt

-- Each call of SPECIFICATION, "The calls": its code is proved to come to an end on every input with an outcome of which its contract holds
-- (`statement`, which Rattle makes of contract and code), and to ask nothing of its caller beforehand (`Asked`, the contract's `requires`).
-- Every other function that another crate can reach is held to the same by tests/public-calls.
pub record EveryInputTaken : Type 2 where
  pub evaluate_ends : {M : Type 1} → evaluate_code.statement M
  pub evaluate_asks_nothing : (κs : Lfts 1) (a : Dens κs evaluate_kinds.ps) → evaluate.Asked κs a
  pub window_ends : {M : Type 1} → window_code.statement M
  pub window_asks_nothing : (κs : Lfts 2) (a : Dens κs window_kinds.ps) → window.Asked κs a
  pub advance_ends : {M : Type 1} → advance_code.statement M
  pub advance_asks_nothing : (κs : Lfts 1) (a : Dens κs advance_kinds.ps) → advance.Asked κs a
  pub record_row_ends : {M : Type 1} → record_row_code.statement M
  pub record_row_asks_nothing : (κs : Lfts 0) (a : Dens κs record_row_kinds.ps) → record_row.Asked κs a
  pub smooth_ends : {M : Type 1} → smooth_code.statement M
  pub smooth_asks_nothing : (κs : Lfts 3) (a : Dens κs smooth_kinds.ps) → smooth.Asked κs a
  pub preview_ends : {M : Type 1} → preview_code.statement M
  pub preview_asks_nothing : (κs : Lfts 3) (a : Dens κs preview_kinds.ps) → preview.Asked κs a
  pub fill_ends : {M : Type 1} → fill_grid_code.statement M
  pub fill_asks_nothing : (κs : Lfts 2) (a : Dens κs fill_grid_kinds.ps) → fill_grid.Asked κs a
  pub read_ends : {M : Type 1} → read_sheet_code.statement M
  pub read_asks_nothing : (κs : Lfts 5) (a : Dens κs read_sheet_kinds.ps) → read_sheet.Asked κs a
  pub text_ends : {M : Type 1} → curve_text_code.statement M
  pub text_asks_nothing : (κs : Lfts 2) (a : Dens κs curve_text_kinds.ps) → curve_text.Asked κs a
  pub text_over_ends : {M : Type 1} → curve_text_over_code.statement M
  pub text_over_asks_nothing : (κs : Lfts 1) (a : Dens κs curve_text_over_kinds.ps) → curve_text_over.Asked κs a
  pub refusal_text_ends : {M : Type 1} → refusal_text_code.statement M
  pub refusal_text_asks_nothing : (κs : Lfts 1) (a : Dens κs refusal_text_kinds.ps) → refusal_text.Asked κs a
  pub exported_evaluate_ends : {M : Type 1} → exported_evaluate_code.statement M
  pub exported_evaluate_asks_nothing : (κs : Lfts 3) (a : Dens κs exported_evaluate_kinds.ps) → exported_evaluate.Asked κs a
  pub exported_window_ends : {M : Type 1} → exported_window_code.statement M
  pub exported_window_asks_nothing : (κs : Lfts 3) (a : Dens κs exported_window_kinds.ps) → exported_window.Asked κs a
  pub exported_advance_ends : {M : Type 1} → exported_advance_code.statement M
  pub exported_advance_asks_nothing : (κs : Lfts 3) (a : Dens κs exported_advance_kinds.ps) → exported_advance.Asked κs a
  pub exported_record_row_ends : {M : Type 1} → exported_record_row_code.statement M
  pub exported_record_row_asks_nothing : (κs : Lfts 2) (a : Dens κs exported_record_row_kinds.ps) → exported_record_row.Asked κs a
  pub exported_smooth_ends : {M : Type 1} → exported_smooth_code.statement M
  pub exported_smooth_asks_nothing : (κs : Lfts 5) (a : Dens κs exported_smooth_kinds.ps) → exported_smooth.Asked κs a
  pub exported_preview_ends : {M : Type 1} → exported_preview_code.statement M
  pub exported_preview_asks_nothing : (κs : Lfts 5) (a : Dens κs exported_preview_kinds.ps) → exported_preview.Asked κs a
  pub exported_fill_ends : {M : Type 1} → exported_fill_code.statement M
  pub exported_fill_asks_nothing : (κs : Lfts 2) (a : Dens κs exported_fill_kinds.ps) → exported_fill.Asked κs a
  pub exported_read_ends : {M : Type 1} → exported_read_code.statement M
  pub exported_read_asks_nothing : (κs : Lfts 6) (a : Dens κs exported_read_kinds.ps) → exported_read.Asked κs a
  pub exported_text_ends : {M : Type 1} → exported_text_code.statement M
  pub exported_text_asks_nothing : (κs : Lfts 2) (a : Dens κs exported_text_kinds.ps) → exported_text.Asked κs a
  pub exported_refusal_text_ends : {M : Type 1} → exported_refusal_text_code.statement M
  pub exported_refusal_text_asks_nothing : (κs : Lfts 1) (a : Dens κs exported_refusal_text_kinds.ps) → exported_refusal_text.Asked κs a
  pub exported_version_ends : {M : Type 1} → exported_version_code.statement M
  pub exported_version_asks_nothing : (κs : Lfts 0) (a : Dens κs exported_version_kinds.ps) → exported_version.Asked κs a

-- Demand 1. A call's contract equates its answer with the call's meaning, whose list of checks finds just the listed conditions; each lent list
-- at exit is what it was wherever that list finds one. That the code ends on every input stands in crates/demands_hold.
use Prim.Native.Nat.{ℕ, ◌+◌}
use Rattle.std.specs.Prelude.{Result}
use Rattle.meanings.specs.declared.Counts.{Counts}
use Rattle.meanings.specs.declared.Refusal.{Refusal}
use Rattle.meanings.specs.Calls.{answer_of}
use mathlib.Core.Path.{◌≡◌, refl, sym, ap, ◌∙◌}
use mathlib.Core.List.{List, [], ◌++◌}
use Rattle.std.specs.Prelude.{Option}
use native.Mathlib.Omega.{arith}
use denote.Ref.{Bor}
use lib.ListN.{length, get_or, take, drop, replicate}
use Rattle.meanings.specs.declared.Estimate.{Estimate}
use Rattle.meanings.specs.declared.RunningSums.{RunningSums}
use Rattle.meanings.specs.declared.Limits.{Limits}
use Rattle.meanings.specs.Limits.{full, row_width}
use Rattle.meanings.specs.Moves.{moves}
use Rattle.meanings.specs.Reports.{Fault, Answer, given, accepted_or}
use Rattle.meanings.specs.Reports.{first_of, evaluate_checks, advance_checks, read_checks, buffer_checks}
use Rattle.meanings.specs.Estimate.{estimate, run_of, fields, rows}
use Rattle.meanings.specs.Running.{fresh, moved, advance, passes, record_row}
use Rattle.meanings.specs.Grid.{presets, grid}
use Rattle.meanings.specs.Claim.{refusal}
use Rattle.meanings.specs.Sheet.{or_next, read_sheet}
use Rattle.meanings.specs.SheetForm.{Refused}
use Rattle.meanings.specs.Output.{refusal_text}
use Rattle.meanings.specs.Calls.{evaluate, window}
use Rattle.meanings.specs.Calls.{window_start, smooth, smooth_rows, fill, fill_points, fill_bandwidths, read, counts}
use Rattle.meanings.specs.Calls.{write_refusal_text, refusal_buffer}
use Rattle.meanings.specs.Codes.{answered, no_detail}
use Rattle.meanings.specs.ranges.RangeSheet.{read_either}
use Rattle.meanings.specs.ranges.RangeOutput.{write_either, write_either_buffer}
use Rattle.laws.specs.ranges.RangeForm.{EitherRefused}
use Rattle.exports.specs.Answers.{sized, bounds, count_numbers, record_numbers, record_of, record_length}
use Rattle.promises.specs.Calls.{Place, EvaluateCall, WindowCall, AdvanceCall}
use Rattle.promises.specs.Calls.{FillCall, ReadCall, TextCall, OverCall, RefusalTextCall, ExportedEvaluate, ExportedWindow}
use Rattle.promises.specs.Calls.{ExportedAdvance, ExportedRecordRow, ExportedFill, ExportedRead, ExportedText}
use Rattle.promises.specs.Calls.{ExportedRefusalText}
use Rattle.promises.specs.conditions.Conditions.{RefusedExactly, FirstFault, FirstOrElse, evaluate_conditions, advance_conditions}
use Rattle.promises.specs.conditions.Conditions.{smooth_conditions, fill_conditions, read_conditions, buffer_conditions, length_first}
use Rattle.promises.specs.conditions.Conditions.{record_row_conditions, code_refusal}
use Rattle.promises.specs.Demands.{RefusedAndStays}
use Rattle.promises.proofs.conditions.FirstFaults.{refused_exactly}
use Rattle.promises.proofs.conditions.CallChecks.{evaluate_finds, advance_finds, smooth_finds, fill_finds, read_finds, buffer_finds}
use Rattle.promises.proofs.conditions.Refusals.{decided_exactly, decided_stays, sheet_exactly, length_first_finds}
use Rattle.promises.proofs.conditions.Refusals.{sized_is_checked, sized_sheet_is_checked, stored_stays, first_numbered, first_or_else_numbered}
use Rattle.promises.proofs.conditions.Refusals.{record_row_exactly, exported_refusal, exported_stays, counts_refused, front_stays}
use Rattle.promises.proofs.EitherSheets.{either_exactly, first_or_either_numbered, text_refusal, text_stays}

pub evaluate_refused : (ts vs : List ℕ) (z h : ℕ) (a : Result Estimate Refusal) → EvaluateCall ts vs z h a
    → RefusedExactly (refusal (answer_of a)) (FirstFault (evaluate_conditions ts vs h))
unfolding evaluate
evaluate_refused ts vs z h a c = decided_exactly (estimate ts vs z h) (evaluate_finds ts vs h) c.ensured

pub window_refused : (ts vs : List ℕ) (z h : ℕ) (values_at : Place) (part : Bor (List ℕ)) → WindowCall ts vs z h values_at part
    → (n p : ℕ) → FirstFault (evaluate_conditions ts vs h) n p
    → (part.now ≡ []) × (part.ref_ptr.0 ≡ values_at.ref_ptr.0) × (part.ref_ptr.1 ≡ values_at.ref_ptr.1)
unfolding window window_start
window_refused ts vs z h values_at part c n p f =
    let e = ((refused_exactly (evaluate_finds ts vs h)).refused n p).1 f in
    let start : part.ref_ptr.1 ≡ values_at.ref_ptr.1 + 0 = rw e at c.ensured.1.1 in
    (c.ensured.0 ∙ ap (λ (o : Option Fault). accepted_or o (run_of ts vs z h) []) e, c.ensured.1.0, omega arith)

pub advance_refused : (r : RunningSums) (ts vs : List ℕ) (z h : ℕ) (a : Result RunningSums Refusal) → AdvanceCall r ts vs z h a
    → RefusedExactly (refusal (answer_of a)) (FirstFault (advance_conditions ts vs r.left r.right h))
unfolding advance
advance_refused r ts vs z h a c =
    decided_exactly (moved ts vs r z h) (advance_finds ts vs r.left r.right h) c.ensured

-- under any limits
pub smooth_refused : (L : Limits) (ts vs zs hs rs : List ℕ) (t : Answer ℕ) (rs' : List ℕ) → t ≡ smooth L ts vs zs hs rs
    → rs' ≡ smooth_rows L ts vs zs hs rs → RefusedAndStays (refusal t) (FirstFault (smooth_conditions L ts vs zs hs (length rs))) (rs' ≡ rs)
unfolding smooth smooth_rows
smooth_refused L ts vs zs hs rs t rs' q r = record {
  exactly = decided_exactly (passes ts vs fresh (moves zs hs)) (smooth_finds L ts vs zs hs (length rs)) q;
  stays = decided_stays (passes ts vs fresh (moves zs hs)) (smooth_finds L ts vs zs hs (length rs)) q (rows ts vs zs hs (length zs)) rs rs' r;
}

pub fill_refused : (z₀ spacing preset : ℕ) (zs hs : List ℕ) (a : Result Unit Refusal) (zs' hs' : List ℕ) → FillCall z₀ spacing preset zs hs a zs' hs'
    → RefusedAndStays (refusal (answer_of a)) (FirstFault (fill_conditions z₀ spacing preset zs hs)) ((zs' ≡ zs) × (hs' ≡ hs))
unfolding fill fill_points fill_bandwidths
fill_refused z₀ spacing preset zs hs a zs' hs' c =
    let finds = fill_finds z₀ spacing preset zs hs in
    record {
      exactly = decided_exactly tt finds c.ensured.0;
      stays = λ e q. (
        decided_stays tt finds c.ensured.0 (grid z₀ spacing (length zs)) zs zs' c.ensured.1.0 e q,
        decided_stays tt finds c.ensured.0 (replicate (length hs) (get_or presets preset 0)) hs hs' c.ensured.1.1 e q,
      );
    }

pub read_refused : (s ts vs zs hs : List ℕ) (a : Result Counts Refusal) (ts' vs' zs' hs' : List ℕ) → ReadCall s ts vs zs hs a ts' vs' zs' hs'
    → RefusedAndStays (refusal (answer_of a)) (FirstOrElse (read_conditions ts vs zs hs) (Refused full s))
    ((ts' ≡ ts) × (vs' ≡ vs) × (zs' ≡ zs) × (hs' ≡ hs))
unfolding read
read_refused s ts vs zs hs a ts' vs' zs' hs' c =
    let o = read full s ts vs zs hs in
    let same : refusal (answer_of a) ≡ refusal o = ap refusal c.ensured.0 ∙ counts_refused o in
    record {
      exactly = rw same (sheet_exactly (read_finds ts vs zs hs) s);
      stays = λ e q.
          let r = sym same ∙ q in (
            c.ensured.1.0 ∙ front_stays o _ ts e r,
            c.ensured.1.1.0 ∙ front_stays o _ vs e r,
            c.ensured.1.1.1.0 ∙ front_stays o _ zs e r,
            c.ensured.1.1.1.1 ∙ front_stays o _ hs e r,
          );
    }

-- a text of a sheet, whatever the buffer
text_decided : (s out : List ℕ) (a : Result ℕ Refusal) (out' : List ℕ) → answer_of a ≡ write_either s out → out' ≡ write_either_buffer s out
    → RefusedAndStays (refusal (answer_of a)) (FirstOrElse (buffer_conditions out) (EitherRefused full s)) (out' ≡ out)
unfolding write_either write_either_buffer
text_decided s out a out' answer text =
    let o = or_next (first_of (buffer_checks (length out))) (read_either full s) in
    let same : refusal (answer_of a) ≡ refusal o = ap refusal answer ∙ text_refusal o in
    record {
      exactly = rw same (either_exactly (buffer_finds out) s);
      stays = λ e q. text ∙ text_stays o out e (sym same ∙ q);
    }

pub text_refused : (s out : List ℕ) (a : Result ℕ Refusal) (out' : List ℕ) → TextCall s out a out'
    → RefusedAndStays (refusal (answer_of a)) (FirstOrElse (buffer_conditions out) (EitherRefused full s)) (out' ≡ out)
text_refused s out a out' c = text_decided s out a out' c.ensured.0 c.ensured.1

pub text_over_refused : (buf : List ℕ) (n : ℕ) (a : Result ℕ Refusal) (buf' : List ℕ) → OverCall buf n a buf'
    → RefusedAndStays (refusal (answer_of a)) (FirstOrElse (buffer_conditions buf) (EitherRefused full (take n buf))) (buf' ≡ buf)
text_over_refused buf n a buf' c = text_decided (take n buf) buf a buf' c.ensured.0 c.ensured.1

pub refusal_text_refused : (n p : ℕ) (out : List ℕ) (a : Result ℕ Refusal) (out' : List ℕ) → RefusalTextCall n p out a out'
    → RefusedAndStays (refusal (answer_of a)) (FirstFault (buffer_conditions out)) (out' ≡ out)
unfolding write_refusal_text refusal_buffer
refusal_text_refused n p out a out' c =
    let t = refusal_text (record { number = n; place = p }) in
    record {
      exactly = decided_exactly (length t) (buffer_finds out) c.ensured.0;
      stays = decided_stays (length t) (buffer_finds out) c.ensured.0 (t ++ drop (length t) out) out out' c.ensured.1;
    }

-- The calls for C and Rust: a list of fixed length is one check more in front, and the answer can tell the numbers of all reports.

-- the question at one mark, behind a list of n numbers
module _ (n : ℕ) (xs ts vs : List ℕ) (z h : ℕ) where
  evaluate_exactly : RefusedExactly (refusal (sized n xs (evaluate full ts vs z h))) (FirstFault (length_first n xs (evaluate_conditions ts vs h)))
  unfolding evaluate
  evaluate_exactly =
      decided_exactly (estimate ts vs z h) (length_first_finds n xs (evaluate_finds ts vs h))
      (sized_is_checked n xs (evaluate_checks full ts vs h) (estimate ts vs z h))

  pub evaluate_coded : (c : ℕ) → c ≡ answered no_detail (sized n xs (evaluate full ts vs z h)) → code_refusal c ≡ refusal (sized n xs (evaluate full ts vs z h))
  evaluate_coded c q =
      exported_refusal no_detail (sized n xs (evaluate full ts vs z h)) c _ q
      (first_numbered (length_first n xs (evaluate_conditions ts vs h)) refl) evaluate_exactly

pub exported_evaluate_refused : (ts vs : List ℕ) (z h : ℕ) (row : List ℕ) (c : ℕ) (row' : List ℕ) → ExportedEvaluate ts vs z h row c row'
    → RefusedAndStays (code_refusal c) (FirstFault (length_first row_width row (evaluate_conditions ts vs h))) (row' ≡ row)
exported_evaluate_refused ts vs z h row c row' k =
    let t = sized row_width row (evaluate full ts vs z h) in
    exported_stays t c _ (evaluate_coded row_width row ts vs z h c k.ensured.0) (evaluate_exactly row_width row ts vs z h)
    (row' ≡ row) (λ e q. k.ensured.1 ∙ stored_stays fields t row e q)

pub exported_window_refused : (ts vs : List ℕ) (z h : ℕ) (bs : List ℕ) (c : ℕ) (bs' : List ℕ) → ExportedWindow ts vs z h bs c bs'
    → RefusedAndStays (code_refusal c) (FirstFault (length_first 2 bs (evaluate_conditions ts vs h))) (bs' ≡ bs)
exported_window_refused ts vs z h bs c bs' k =
    let t = sized 2 bs (evaluate full ts vs z h) in
    exported_stays t c _ (evaluate_coded 2 bs ts vs z h c k.ensured.0) (evaluate_exactly 2 bs ts vs z h)
    (bs' ≡ bs) (λ e q. k.ensured.1 ∙ stored_stays bounds t bs e q)

-- the step on a list of nine numbers
module _ (xs ts vs : List ℕ) (z h : ℕ) where
  advance_exactly : RefusedExactly (refusal (sized record_length xs (advance ts vs (record_of xs) z h)))
      (FirstFault (length_first record_length xs (advance_conditions ts vs (record_of xs).left (record_of xs).right h)))
  unfolding advance
  advance_exactly =
      let r = record_of xs in
      decided_exactly (moved ts vs r z h) (length_first_finds record_length xs (advance_finds ts vs r.left r.right h))
      (sized_is_checked record_length xs (advance_checks full ts vs r.left r.right h) (moved ts vs r z h))

  pub advance_coded : (c : ℕ) → c ≡ answered no_detail (sized record_length xs (advance ts vs (record_of xs) z h))
      → code_refusal c ≡ refusal (sized record_length xs (advance ts vs (record_of xs) z h))
  advance_coded c q =
      exported_refusal no_detail (sized record_length xs (advance ts vs (record_of xs) z h)) c _ q
      (first_numbered (length_first record_length xs (advance_conditions ts vs (record_of xs).left (record_of xs).right h)) refl) advance_exactly

pub exported_advance_refused : (xs ts vs : List ℕ) (z h c : ℕ) (xs' : List ℕ) → ExportedAdvance xs ts vs z h c xs'
    → RefusedAndStays (code_refusal c)
    (FirstFault (length_first record_length xs (advance_conditions ts vs (record_of xs).left (record_of xs).right h))) (xs' ≡ xs)
exported_advance_refused xs ts vs z h c xs' k =
    let t = sized record_length xs (advance ts vs (record_of xs) z h) in
    exported_stays t c _ (advance_coded xs ts vs z h c k.ensured.0) (advance_exactly xs ts vs z h)
    (xs' ≡ xs) (λ e q. k.ensured.1 ∙ stored_stays record_numbers t xs e q)

-- the row of a record of nine numbers, behind a list of five
module _ (xs : List ℕ) (z h : ℕ) (row : List ℕ) where
  abbrev pub row_coded : Answer Estimate
  row_coded = sized record_length xs (sized row_width row (given (record_row (record_of xs) z h)))

  pub record_row_coded : (c : ℕ) → c ≡ answered no_detail row_coded → code_refusal c ≡ refusal row_coded
  record_row_coded c q = exported_refusal no_detail row_coded c _ q (first_numbered (record_row_conditions xs row) refl)
      (record_row_exactly xs row (record_row (record_of xs) z h))

pub exported_record_row_refused : (xs : List ℕ) (z h : ℕ) (row : List ℕ) (c : ℕ) (row' : List ℕ) → ExportedRecordRow xs z h row c row'
    → RefusedAndStays (code_refusal c) (FirstFault (record_row_conditions xs row)) (row' ≡ row)
exported_record_row_refused xs z h row c row' k =
    exported_stays (row_coded xs z h row) c _ (record_row_coded xs z h row c k.ensured.0) (record_row_exactly xs row (record_row (record_of xs) z h))
    (row' ≡ row) (λ e q. k.ensured.1 ∙ stored_stays fields (row_coded xs z h row) row e q)

-- the sweep, under any limits
module _ (L : Limits) (ts vs zs hs rs : List ℕ) where
  smooth_exactly : RefusedExactly (refusal (smooth L ts vs zs hs rs)) (FirstFault (smooth_conditions L ts vs zs hs (length rs)))
  unfolding smooth
  smooth_exactly = decided_exactly (passes ts vs fresh (moves zs hs)) (smooth_finds L ts vs zs hs (length rs)) refl

  pub smooth_coded : (c : ℕ) → c ≡ answered (λ n. n) (smooth L ts vs zs hs rs) → code_refusal c ≡ refusal (smooth L ts vs zs hs rs)
  smooth_coded c q =
      exported_refusal (λ n. n) (smooth L ts vs zs hs rs) c _ q
      (first_numbered (smooth_conditions L ts vs zs hs (length rs)) refl) smooth_exactly

  pub exported_smooth_refused : (c : ℕ) (rs' : List ℕ) → c ≡ answered (λ n. n) (smooth L ts vs zs hs rs) → rs' ≡ smooth_rows L ts vs zs hs rs
      → RefusedAndStays (code_refusal c) (FirstFault (smooth_conditions L ts vs zs hs (length rs))) (rs' ≡ rs)
  exported_smooth_refused c rs' q r =
      exported_stays (smooth L ts vs zs hs rs) c _ (smooth_coded c q) smooth_exactly (rs' ≡ rs)
      (smooth_refused L ts vs zs hs rs (smooth L ts vs zs hs rs) rs' refl r).stays

-- the filler, the reader and the writers
module _ (z₀ spacing preset : ℕ) (zs hs : List ℕ) where
  fill_exactly : RefusedExactly (refusal (fill full z₀ spacing preset zs hs)) (FirstFault (fill_conditions z₀ spacing preset zs hs))
  unfolding fill
  fill_exactly = decided_exactly tt (fill_finds z₀ spacing preset zs hs) refl

  pub fill_coded : (c : ℕ) → c ≡ answered no_detail (fill full z₀ spacing preset zs hs) → code_refusal c ≡ refusal (fill full z₀ spacing preset zs hs)
  fill_coded c q =
      exported_refusal no_detail (fill full z₀ spacing preset zs hs) c _ q (first_numbered (fill_conditions z₀ spacing preset zs hs) refl) fill_exactly

pub exported_fill_refused : (z₀ spacing preset : ℕ) (zs hs : List ℕ) (c : ℕ) (zs' hs' : List ℕ) → ExportedFill z₀ spacing preset zs hs c zs' hs'
    → RefusedAndStays (code_refusal c) (FirstFault (fill_conditions z₀ spacing preset zs hs)) ((zs' ≡ zs) × (hs' ≡ hs))
unfolding fill fill_points fill_bandwidths
exported_fill_refused z₀ spacing preset zs hs c zs' hs' k =
    let finds = fill_finds z₀ spacing preset zs hs in
    let t = fill full z₀ spacing preset zs hs in
    exported_stays t c _ (fill_coded z₀ spacing preset zs hs c k.ensured.0) (fill_exactly z₀ spacing preset zs hs) ((zs' ≡ zs) × (hs' ≡ hs))
    (λ e q. (
      decided_stays {t = t} tt finds refl (grid z₀ spacing (length zs)) zs zs' k.ensured.1.0 e q,
      decided_stays {t = t} tt finds refl (replicate (length hs) (get_or presets preset 0)) hs hs' k.ensured.1.1 e q,
    ))

module _ (s ts vs zs hs ns : List ℕ) where
  read_exactly : RefusedExactly (refusal (counts (sized 2 ns (read full s ts vs zs hs))))
      (FirstOrElse (length_first 2 ns (read_conditions ts vs zs hs)) (Refused full s))
  unfolding read
  read_exactly =
      rw (
        counts_refused (sized 2 ns (read full s ts vs zs hs)),
        sized_sheet_is_checked 2 ns (read_checks full (length ts) (length vs) (length zs) (length hs)) (read_sheet full s),
      )
      (sheet_exactly (length_first_finds 2 ns (read_finds ts vs zs hs)) s)

  pub read_coded : (c : ℕ) → c ≡ answered no_detail (counts (sized 2 ns (read full s ts vs zs hs)))
      → code_refusal c ≡ refusal (counts (sized 2 ns (read full s ts vs zs hs)))
  read_coded c q =
      exported_refusal no_detail (counts (sized 2 ns (read full s ts vs zs hs))) c _ q
      (first_or_else_numbered (length_first 2 ns (read_conditions ts vs zs hs)) refl s) read_exactly

pub exported_read_refused : (s ts vs zs hs ns : List ℕ) (c : ℕ) (ts' vs' zs' hs' ns' : List ℕ)
    → ExportedRead s ts vs zs hs ns c ts' vs' zs' hs' ns'
    → RefusedAndStays (code_refusal c) (FirstOrElse (length_first 2 ns (read_conditions ts vs zs hs)) (Refused full s))
    ((ts' ≡ ts) × (vs' ≡ vs) × (zs' ≡ zs) × (hs' ≡ hs) × (ns' ≡ ns))
exported_read_refused s ts vs zs hs ns c ts' vs' zs' hs' ns' k =
    let o = sized 2 ns (read full s ts vs zs hs) in
    exported_stays (counts o) c _ (read_coded s ts vs zs hs ns c k.ensured.0) (read_exactly s ts vs zs hs ns)
    ((ts' ≡ ts) × (vs' ≡ vs) × (zs' ≡ zs) × (hs' ≡ hs) × (ns' ≡ ns))
    (λ e q.
    let l = sym (counts_refused o) ∙ q in (
      k.ensured.1.0 ∙ front_stays o _ ts e l,
      k.ensured.1.1.0 ∙ front_stays o _ vs e l,
      k.ensured.1.1.1.0 ∙ front_stays o _ zs e l,
      k.ensured.1.1.1.1.0 ∙ front_stays o _ hs e l,
      k.ensured.1.1.1.1.1 ∙ stored_stays count_numbers (counts o) ns e q,
    ))

module _ (s out : List ℕ) where
  text_exactly : RefusedExactly (refusal (write_either s out)) (FirstOrElse (buffer_conditions out) (EitherRefused full s))
  unfolding write_either
  text_exactly =
      rw (text_refusal (or_next (first_of (buffer_checks (length out))) (read_either full s))) (either_exactly (buffer_finds out) s)

  pub text_coded : (c : ℕ) → c ≡ answered (λ n. n) (write_either s out) → code_refusal c ≡ refusal (write_either s out)
  text_coded c q = exported_refusal (λ n. n) (write_either s out) c _ q (first_or_either_numbered (buffer_conditions out) refl s) text_exactly

pub exported_text_refused : (s out : List ℕ) (c : ℕ) (out' : List ℕ) → ExportedText s out c out'
    → RefusedAndStays (code_refusal c) (FirstOrElse (buffer_conditions out) (EitherRefused full s)) (out' ≡ out)
unfolding write_either write_either_buffer
exported_text_refused s out c out' k =
    let o = or_next (first_of (buffer_checks (length out))) (read_either full s) in
    exported_stays (write_either s out) c _ (text_coded s out c k.ensured.0) (text_exactly s out) (out' ≡ out)
    (λ e q. k.ensured.1 ∙ text_stays o out e (sym (text_refusal o) ∙ q))

module _ (n p : ℕ) (out : List ℕ) where
  refusal_text_exactly : RefusedExactly (refusal (write_refusal_text n p out)) (FirstFault (buffer_conditions out))
  unfolding write_refusal_text
  refusal_text_exactly = decided_exactly (length (refusal_text (record { number = n; place = p }))) (buffer_finds out) refl

  pub refusal_text_coded : (c : ℕ) → c ≡ answered (λ n. n) (write_refusal_text n p out) → code_refusal c ≡ refusal (write_refusal_text n p out)
  refusal_text_coded c q =
      exported_refusal (λ n. n) (write_refusal_text n p out) c _ q (first_numbered (buffer_conditions out) refl) refusal_text_exactly

pub exported_refusal_text_refused : (n p : ℕ) (out : List ℕ) (c : ℕ) (out' : List ℕ) → ExportedRefusalText n p out c out'
    → RefusedAndStays (code_refusal c) (FirstFault (buffer_conditions out)) (out' ≡ out)
unfolding write_refusal_text refusal_buffer
exported_refusal_text_refused n p out c out' k =
    let t = refusal_text (record { number = n; place = p }) in
    exported_stays (write_refusal_text n p out) c _ (refusal_text_coded n p out c k.ensured.0) (refusal_text_exactly n p out) (out' ≡ out)
    (decided_stays {t = write_refusal_text n p out} (length t) (buffer_finds out) refl (t ++ drop (length t) out) out out' k.ensured.1)

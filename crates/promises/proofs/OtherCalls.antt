-- What the row of a record, the filler, the reader and the writers give where they accept: by their contracts what their meanings give.
use Prim.Native.Nat.{ℕ, ◌*◌}
use Rattle.meanings.specs.declared.Counts.{Counts}
use mathlib.Core.Path.{◌≡◌, refl, sym, ap, ◌∙◌}
use mathlib.Core.List.{List, ◌++◌}
use Rattle.std.specs.Prelude.{Option, None, Some}
use native.Mathlib.Omega.{arith}
use lib.ListN.{length, get_or, drop, replicate, length-replicate, get_or-replicate}
use Rattle.meanings.specs.declared.Estimate.{Estimate}
use Rattle.meanings.specs.Limits.{full, row_width}
use Rattle.meanings.specs.Reports.{Fault, Answer, given, refused, accepted_or, first_of, read_checks}
use Rattle.meanings.specs.Estimate.{fields}
use Rattle.meanings.specs.Running.{record_row}
use Rattle.meanings.specs.Claim.{refusal}
use Rattle.meanings.specs.Grid.{presets, grid}
use Rattle.meanings.specs.Sheet.{Contents, Outcome, or_next, read_sheet}
use Rattle.meanings.specs.SheetForm.{IsSheet}
use Rattle.meanings.specs.Output.{refusal_text}
use Rattle.meanings.specs.Calls.{fill_refusal, fill, fill_points, fill_bandwidths, read, counts}
use Rattle.meanings.specs.Calls.{filled_front, buffer_refusal, write_refusal_text, refusal_buffer}
use Rattle.meanings.specs.ranges.RangeOutput.{write_either}
use Rattle.meanings.proofs.Checks.{given_accepted}
use Rattle.meanings.proofs.Grids.{fill_accepts, grid_length, grid_at}
use Rattle.laws.proofs.sheet.Outcomes.{read_is_printed}
use Rattle.meanings.specs.Codes.{detail_unit, answered, no_detail}
use Rattle.exports.specs.Answers.{sized, stored, count_numbers, record_of, record_length}
use Rattle.promises.specs.Demands.{FilledGrid, SheetRead, OtherCalls}
use Rattle.promises.proofs.conditions.Refusals.{accepted_given, sized_opens, counts_refused}
use Rattle.promises.proofs.Demand1.{row_coded, record_row_coded, fill_coded, read_coded, text_coded, refusal_text_coded}
use Rattle.promises.proofs.Program.{text_in_front}
use Rattle.promises.proofs.RecordRows.{record_row_is, one_record_row}

filled_grid : (z₀ spacing preset : ℕ) (zs hs zs' hs' : List ℕ) → fill full z₀ spacing preset zs hs ≡ given tt
    → zs' ≡ fill_points full z₀ spacing preset zs hs → hs' ≡ fill_bandwidths full z₀ spacing preset zs hs
    → FilledGrid z₀ spacing preset (length zs) zs' hs'
unfolding fill fill_points fill_bandwidths
filled_grid z₀ spacing preset zs hs zs' hs' q a b =
    let f = (given_accepted (fill_refusal full z₀ spacing preset zs hs) tt tt q).0 in
    let e = (fill_accepts full z₀ spacing preset (length zs) (length hs) f).even in
    let points : zs' ≡ grid z₀ spacing (length zs) = a ∙ ap (λ (o : Option Fault). accepted_or o (grid z₀ spacing (length zs)) zs) f in
    let bandwidths : hs' ≡ replicate (length hs) (get_or presets preset 0) =
    b ∙ ap (λ (o : Option Fault). accepted_or o (replicate (length hs) (get_or presets preset 0)) hs) f in
    rw (points, bandwidths)
    (record {
      points_length = grid_length z₀ spacing (length zs);
      bandwidths_length = length-replicate (length hs) (get_or presets preset 0) ∙ sym e;
      point = grid_at z₀ spacing (length zs);
      bandwidth = λ k l. get_or-replicate (length hs) k (get_or presets preset 0) 0 (rw e at l);
    })

-- an accepted outcome is that of a sheet
read_accepted : (s : List ℕ) (f : Option Fault) (c : Contents) → or_next f (read_sheet full s) ≡ given c → IsSheet full s c
read_accepted s None c q = read_is_printed full s c q
read_accepted s (Some e) c q = let z : ◌≡◌ {A = ℕ} 0 1 = cc in absurd (omega arith)

module _ (s ts vs zs hs ts' vs' zs' hs' : List ℕ) (c : Contents) (o : Outcome) (accepted : read full s ts vs zs hs ≡ given c) (same : o ≡ given c)
    (a : ts' ≡ filled_front o (λ d. d.minutes) ts) (b : vs' ≡ filled_front o (λ d. d.values) vs) (d : zs' ≡ filled_front o (λ d. d.points) zs)
    (e : hs' ≡ filled_front o (λ d. d.bandwidths) hs) where
  sheet_read : SheetRead s c ts vs zs hs ts' vs' zs' hs'
  unfolding read
  sheet_read = record {
    sheet = read_accepted s (first_of (read_checks full (length ts) (length vs) (length zs) (length hs))) c accepted;
    minutes = a ∙ ap (λ (x : Outcome). filled_front x (λ d. d.minutes) ts) same;
    values = b ∙ ap (λ (x : Outcome). filled_front x (λ d. d.values) vs) same;
    points = d ∙ ap (λ (x : Outcome). filled_front x (λ d. d.points) zs) same;
    bandwidths = e ∙ ap (λ (x : Outcome). filled_front x (λ d. d.bandwidths) hs) same;
  }

counted : (o : Outcome) (n m : ℕ) → given (record { samples = n; points = m }) ≡ counts o
    → (c : Contents) × ((o ≡ given c) × (n ≡ length c.minutes) × (m ≡ length c.points))
counted (given c) n m q =
    let e : ◌≡◌ {A = Counts} (record { samples = n; points = m }) (record { samples = length c.minutes; points = length c.points }) = cc in
    (c, (refl, ap (λ (k : Counts). k.samples) e, ap (λ (k : Counts). k.points) e))
counted (refused e) n m q = let z : ◌≡◌ {A = ℕ} 0 1 = cc in absurd (omega arith)

refusal_in_front : (n p : ℕ) (out : List ℕ) (k : ℕ) (out' : List ℕ) → given k ≡ write_refusal_text n p out → out' ≡ refusal_buffer n p out
    → (k ≡ length (refusal_text (record { number = n; place = p })))
    × (out' ≡ refusal_text (record { number = n; place = p }) ++ drop (length (refusal_text (record { number = n; place = p }))) out)
unfolding write_refusal_text refusal_buffer
refusal_in_front n p out k out' a b =
    let f = given_accepted (buffer_refusal out) (length (refusal_text (record { number = n; place = p }))) k (sym a) in
    (sym f.1, rw f.0 at b)

pub other_calls : OtherCalls
other_calls = record {
  record_row_is = λ r z h e c. rw c.ensured (record_row_is r z h);
  one_record_row = one_record_row;
  fill_fills = λ z₀ spacing preset zs hs zs' hs' c.
      filled_grid z₀ spacing preset zs hs zs' hs' (sym c.ensured.0) c.ensured.1.0 c.ensured.1.1;
  read_fills = λ s ts vs zs hs n m ts' vs' zs' hs' k.
      let g = counted (read full s ts vs zs hs) n m k.ensured.0 in (
        g.0,
        (
          g.1.1,
          g.1.2,
          sheet_read s ts vs zs hs ts' vs' zs' hs' g.0 (read full s ts vs zs hs) g.1.0 g.1.0
              k.ensured.1.0 k.ensured.1.1.0 k.ensured.1.1.1.0 k.ensured.1.1.1.1,
        ),
      );
  refusal_text_writes = λ n p out k out' c. refusal_in_front n p out k out' c.ensured.0 c.ensured.1;
  exported_record_row_is = λ xs z h row c row' k q.
      let t : Answer Estimate = given (record_row (record_of xs) z h) in
      let o = row_coded xs z h row in
      let n = sym (record_row_coded xs z h row c k.ensured.0) ∙ q in
      let opens = sized_opens record_length xs (sized row_width row t) n in
      let whole : o ≡ t = opens ∙ sized_opens row_width row t (sym (ap refusal opens) ∙ n) in
      let stored_row : row' ≡ fields (record_row (record_of xs) z h) = k.ensured.1 ∙ ap (λ (a : Answer Estimate). stored fields a row) whole in (
        k.ensured.0 ∙ ap (answered no_detail) whole,
        ap length stored_row,
        rw stored_row (record_row_is (record_of xs) z h),
      );
  exported_fill_fills = λ z₀ spacing preset zs hs c zs' hs' k q.
      let t = fill full z₀ spacing preset zs hs in
      let g = accepted_given t (sym (fill_coded z₀ spacing preset zs hs c k.ensured.0) ∙ q) in
      (k.ensured.0 ∙ ap (answered no_detail) g.1, filled_grid z₀ spacing preset zs hs zs' hs' g.1 k.ensured.1.0 k.ensured.1.1);
  exported_read_fills = λ s ts vs zs hs ns c ts' vs' zs' hs' ns' k q.
      let r = read full s ts vs zs hs in
      let o = sized 2 ns r in
      let f = sym (counts_refused o) ∙ sym (read_coded s ts vs zs hs ns c k.ensured.0) ∙ q in
      let g = accepted_given o f in
      let open-answer = sym (sized_opens 2 ns r f) ∙ g.1 in (
        k.ensured.0 ∙ ap (λ (x : Outcome). answered no_detail (counts x)) g.1,
        (
          g.0,
          (
            k.ensured.1.1.1.1.1 ∙ ap (λ (x : Outcome). stored count_numbers (counts x) ns) g.1,
            sheet_read s ts vs zs hs ts' vs' zs' hs' g.0 o open-answer g.1
                k.ensured.1.0 k.ensured.1.1.0 k.ensured.1.1.1.0 k.ensured.1.1.1.1.0,
          ),
        ),
      );
  exported_text_writes = λ s out c out' k q.
      let g = accepted_given (write_either s out) (sym (text_coded s out c k.ensured.0) ∙ q) in
      let w = text_in_front s out g.0 out' (sym g.1) k.ensured.1 in
      (k.ensured.0 ∙ ap (answered (λ n. n)) g.1 ∙ ap (λ (n : ℕ). detail_unit * n) w.0, w.1);
  exported_refusal_text_writes = λ n p out c out' k q.
      let g = accepted_given (write_refusal_text n p out) (sym (refusal_text_coded n p out c k.ensured.0) ∙ q) in
      let w = refusal_in_front n p out g.0 out' (sym g.1) k.ensured.1 in
      (k.ensured.0 ∙ ap (answered (λ n. n)) g.1 ∙ ap (λ (n : ℕ). detail_unit * n) w.0, w.1);
  exported_version_is = λ v c. c.ensured;
}

-- What the sweep accepts has few marks, short numbers and so a text that fits, which its rows and passes make.
use Prim.Native.Nat.{ℕ, ◌*◌, ◌≤◌}
use Rattle.std.specs.Prelude.{Result, Ok}
use Rattle.meanings.specs.Calls.{answer_of}
use mathlib.Core.Path.{◌≡◌, sym, ap, ◌∙◌}
use mathlib.Core.List.{List}
use Rattle.std.specs.Prelude.{Option, None}
use Rattle.std.specs.Option.{ok_or}
use native.Mathlib.Omega.{arith}
use lib.ListN.{length}
use Rattle.meanings.specs.declared.Refusal.{Refusal}
use Rattle.meanings.specs.Lists.{AtMost}
use Rattle.meanings.specs.Limits.{full, max_u16, max_output, row_width}
use Rattle.meanings.specs.Moves.{moves}
use Rattle.meanings.specs.Reports.{given, uneven_rows}
use Rattle.meanings.specs.Sheet.{or_next}
use Rattle.meanings.specs.Estimate.{rows}
use Rattle.meanings.specs.Running.{fresh, passes}
use Rattle.meanings.specs.Calls.{smooth_refusal, smooth, smooth_rows, curve_size, filled_front}
use Rattle.meanings.specs.Output.{curve_text}
use Rattle.meanings.proofs.Checks.{differ_same, given_accepted, same_limits, steps_ordered, CurveSizes, curve_sizes_accept}
use Rattle.meanings.proofs.SmoothRows.{rows_length}
use Rattle.meanings.proofs.SmoothSteps.{SmoothAccepted, smooth_accepts, none_of_three}
use Rattle.laws.proofs.output.AcceptedSheet.{AcceptedContents}
use Rattle.laws.proofs.output.OutputFits.{curve_text_fits}
use Rattle.regression.specs.Rows.{Of16Bits}
use Rattle.text.specs.Written.{written, Put}
use Rattle.text.proofs.RoomLaws.{room_used, list_used}
use Rattle.text.specs.Table.{table_text, contents_of, curve_of, lists_swept}
use Rattle.text.proofs.PlainTables.{table_text_is_curve}

at_most : (xs : List ℕ) → Of16Bits xs → AtMost max_u16 xs
at_most xs f i l = omega (arith, f.fits i)

-- lists that the sweep does not refuse are as those of an accepted sheet
module _ (ts vs zs hs rs : List ℕ) (found : smooth_refusal full ts vs zs hs rs ≡ None) where
  swept_lists : SmoothAccepted ts vs zs hs (length rs)
  swept_lists = smooth_accepts full (same_limits full) ts vs zs hs (length rs) found

  sizes : CurveSizes full ts vs zs hs (uneven_rows row_width (length rs) (length zs))
  sizes = curve_sizes_accept full ts vs zs hs _ (none_of_three full ts vs zs hs _ found).0

  accepted_lists : Of16Bits ts → Of16Bits vs → Of16Bits zs → AcceptedContents (contents_of ts vs zs hs)
  accepted_lists minutes values points =
      let a = swept_lists.lists in
      record {
        even_samples = a.even;
        even_points = a.even_points;
        few_samples = a.few;
        few_points = a.few_points;
        some_point = sizes.some_point;
        minute_range = at_most ts minutes;
        value_range = at_most vs values;
        point_range = at_most zs points;
        bandwidth_low = λ k l. (a.bandwidths k (omega (arith, a.even_points))).0;
        bandwidth_high = λ k l. (a.bandwidths k (omega (arith, a.even_points))).1;
        minute_order = a.ordered;
        point_order = steps_ordered zs (λ k l. omega (arith, a.left_edges k l, a.right_edges k l));
        left_edges = a.left_edges;
        right_edges = a.right_edges;
      }

-- what the sweep answers, with a buffer of the right length
module _ (ts vs zs hs rs out : List ℕ) (right : length out ≡ max_output) where
  goes_by_sweep : lists_swept ts vs zs hs rs out ≡ or_next (smooth_refusal full ts vs zs hs rs) (given (contents_of ts vs zs hs))
  unfolding lists_swept
  goes_by_sweep = rw (differ_same (length out) max_output right)

  module _ (r : Result ℕ Refusal) (answer : answer_of r ≡ smooth full ts vs zs hs rs) where
    -- its passes and rows
    module _ (n : ℕ) (done : r ≡ Ok n) where
      accepted : (smooth_refusal full ts vs zs hs rs ≡ None) × (passes ts vs fresh (moves zs hs) ≡ n)
      unfolding smooth
      accepted = given_accepted _ (passes ts vs fresh (moves zs hs)) n (sym answer ∙ ap answer_of done)

      lists_given : lists_swept ts vs zs hs rs out ≡ given (contents_of ts vs zs hs)
      lists_given = goes_by_sweep ∙ rw accepted.0

      pub even_points : length hs ≡ length zs
      even_points = sym (swept_lists ts vs zs hs rs accepted.0).lists.even_points

      module _ (rs' : List ℕ) (stored : rs' ≡ smooth_rows full ts vs zs hs rs) where
        rows_given : rs' ≡ rows ts vs zs hs (length zs)
        unfolding smooth_rows
        rows_given = stored ∙ rw accepted.0

        pub five_a_mark : length rs' ≡ row_width * length zs
        five_a_mark = ap length rows_given ∙ rows_length ts vs zs hs (length zs)

        text_is_curve : table_text zs hs rs' (length ts) n ≡ curve_of ts vs zs hs
        text_is_curve = rw (← accepted.1, rows_given) (table_text_is_curve ts vs zs hs)

        module _ (minutes : Of16Bits ts) (values : Of16Bits vs) (points : Of16Bits zs) where
          pub text_fits : length (table_text zs hs rs' (length ts) n) ≤ length out
          text_fits =
              let fits = curve_text_fits (contents_of ts vs zs hs) (accepted_lists ts vs zs hs rs accepted.0 minutes values points) in
              rw (text_is_curve, right) fits

          module _ (now : List ℕ) (o : Option ℕ) (put : Put out (table_text zs hs rs' (length ts) n) now o) where
            pub curve_answered : (e : Refusal) → answer_of (ok_or o e) ≡ curve_size (lists_swept ts vs zs hs rs out)
            curve_answered e = rw (room_used out _ text_fits o put.size, lists_given, text_is_curve)

            pub curve_in_front : now ≡ filled_front (lists_swept ts vs zs hs rs out) curve_text out
            unfolding written
            curve_in_front = list_used out _ text_fits now put.list ∙ rw (lists_given, text_is_curve)

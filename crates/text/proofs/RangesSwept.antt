-- What the sweep accepts has few marks, short numbers and so a text that fits, which its rows and passes make.
use Prim.Native.Nat.{ℕ, ◌*◌, ◌≤◌}
use Rattle.std.specs.Prelude.{Result, Ok}
use Rattle.meanings.specs.Calls.{answer_of}
use mathlib.Core.Path.{◌≡◌, sym, ap, ◌∙◌}
use mathlib.Core.List.{List}
use Rattle.std.specs.Prelude.{Option, None}
use native.Mathlib.Omega.{arith}
use borrow.Author.Tests.{le-ltb}
use lib.ListN.{length, get_or}
use Rattle.meanings.specs.declared.Refusal.{Refusal}
use Rattle.meanings.specs.Lists.{AtMost}
use Rattle.meanings.specs.Limits.{full, max_u16, max_output}
use Rattle.meanings.specs.Moves.{moves}
use Rattle.meanings.specs.Reports.{given, decreases, bad_bandwidth, edge_decreases}
use Rattle.meanings.specs.Reports.{sample_order_checks, point_order_checks, windows_checks}
use Rattle.meanings.specs.Running.{fresh, passes}
use Rattle.meanings.specs.Sheet.{or_next}
use Rattle.meanings.proofs.Checks.{differ_same, given_accepted, none_holds}
use Rattle.meanings.proofs.Search.{lowest_none}
use Rattle.meanings.specs.ranges.Ranges.{range_row_width, range_rows, range_refusal, smooth_ranges, smooth_ranges_rows}
use Rattle.meanings.specs.ranges.RangeOutput.{range_curve_text, text_size, text_front}
use Rattle.meanings.proofs.Sweeps.{RangesAccepted, ranges_accept, range_rows_length}
use Rattle.laws.proofs.ranges.RangesSwept.{AcceptedRanges}
use Rattle.laws.proofs.ranges.RangeText.{range_text_fits}
use Rattle.regression.specs.Rows.{Of16Bits}
use Rattle.text.specs.Written.{written, Put}
use Rattle.text.proofs.RoomLaws.{room_used, list_used}
use Rattle.std.specs.Option.{ok_or}
use Rattle.text.specs.RangeTable.{range_table_text, ranges_of, ranges_swept}
use Rattle.text.proofs.RangesTables.{table_text_is_curve}

at_most : (xs : List ℕ) → Of16Bits xs → AtMost max_u16 xs
at_most xs f i l = omega (arith, f.fits i)

-- lists that the sweep does not refuse are as those of an accepted sheet
module _ (ts ls us zs hs rs : List ℕ) (found : range_refusal full ts ls us zs hs rs ≡ None) where
  swept_lists : RangesAccepted full ts ls us zs hs rs
  swept_lists = ranges_accept full ts ls us zs hs rs found

  accepted_lists : Of16Bits ts → Of16Bits ls → Of16Bits us → Of16Bits zs → AcceptedRanges full (ranges_of ts ls us zs hs)
  accepted_lists minutes lows highs points =
      let a = swept_lists in
      let rising = none_holds (sample_order_checks ts) a.samples_ordered in
      let points-rise = none_holds (point_order_checks zs) a.points_ordered in
      let windows = none_holds (windows_checks zs hs) a.windows in
      record {
        even_lows = a.sizes.even;
        even_highs = a.sizes.even ∙ a.uncrossed.even;
        few = a.sizes.few;
        small_minutes = at_most ts minutes;
        small_lows = at_most ls lows;
        small_highs = at_most us highs;
        rising = lowest_none (decreases ts) (length ts) rising.0;
        uncrossed = λ k l. le-ltb (get_or us k 0) (get_or ls k 0) (a.uncrossed.each k l);
        marks = record {
          even = a.sizes.even_points;
          few = a.sizes.few_points;
          small = at_most zs points;
          rising = lowest_none (decreases zs) (length zs) points-rise.0;
          widths = lowest_none (λ k. bad_bandwidth (get_or hs k 0)) (length hs) windows.0;
          edges = lowest_none (edge_decreases zs hs) (length zs) windows.1.0;
        };
        some_mark = a.sizes.some_point;
      }

-- what the sweep answers, with a buffer of the right length
module _ (ts ls us zs hs rs out : List ℕ) (right : length out ≡ max_output) where
  goes_by_sweep : ranges_swept ts ls us zs hs rs out ≡ or_next (range_refusal full ts ls us zs hs rs) (given (ranges_of ts ls us zs hs))
  unfolding ranges_swept
  goes_by_sweep = rw (differ_same (length out) max_output right)

  module _ (r : Result ℕ Refusal) (answer : answer_of r ≡ smooth_ranges full ts ls us zs hs rs) where
    -- its passes and rows
    module _ (n : ℕ) (done : r ≡ Ok n) where
      accepted : (range_refusal full ts ls us zs hs rs ≡ None) × (passes ts ls fresh (moves zs hs) ≡ n)
      unfolding smooth_ranges
      accepted = given_accepted _ (passes ts ls fresh (moves zs hs)) n (sym answer ∙ ap answer_of done)

      lists_given : ranges_swept ts ls us zs hs rs out ≡ given (ranges_of ts ls us zs hs)
      lists_given = goes_by_sweep ∙ rw accepted.0

      pub even_points : length hs ≡ length zs
      even_points = sym (swept_lists ts ls us zs hs rs accepted.0).sizes.even_points

      module _ (rs' : List ℕ) (stored : rs' ≡ smooth_ranges_rows full ts ls us zs hs rs) where
        rows_given : rs' ≡ range_rows ts ls us zs hs (length zs)
        unfolding smooth_ranges_rows
        rows_given = stored ∙ rw accepted.0

        pub seven_a_mark : length rs' ≡ range_row_width * length zs
        seven_a_mark = ap length rows_given ∙ range_rows_length ts ls us zs hs (length zs)

        text_is_curve : range_table_text zs hs rs' (length ts) n ≡ range_curve_text (ranges_of ts ls us zs hs)
        text_is_curve = rw (← accepted.1, rows_given) (table_text_is_curve ts ls us zs hs)

        module _ (minutes : Of16Bits ts) (lows : Of16Bits ls) (highs : Of16Bits us) (points : Of16Bits zs) where
          pub text_fits : length (range_table_text zs hs rs' (length ts) n) ≤ length out
          text_fits =
              let fits = range_text_fits (ranges_of ts ls us zs hs) (accepted_lists ts ls us zs hs rs accepted.0 minutes lows highs points) in
              rw (text_is_curve, right) fits

          module _ (now : List ℕ) (o : Option ℕ) (put : Put out (range_table_text zs hs rs' (length ts) n) now o) where
            pub curve_answered : (e : Refusal) → answer_of (ok_or o e) ≡ text_size (ranges_swept ts ls us zs hs rs out)
            curve_answered e = rw (room_used out _ text_fits o put.size, lists_given, text_is_curve)

            pub curve_in_front : now ≡ text_front (ranges_swept ts ls us zs hs rs out) out
            unfolding written
            curve_in_front = list_used out _ text_fits now put.list ∙ rw (lists_given, text_is_curve)

-- A row over ranges is two rows of windows, that of the lowest values and that of the highest, so each of its sums can be told.
use Prim.Native.Nat.{ℕ, ◌<◌}
use mathlib.Core.Path.{◌≡◌, sym, ap, ◌∙◌, subst}
use mathlib.Core.List.{List}
use lib.ListN.{length, get_or}
use Rattle.meanings.specs.Estimate.{estimate}
use Rattle.meanings.specs.Limits.{full, max_u16}
use Rattle.meanings.specs.Lists.{AtMost}
use Rattle.meanings.specs.Reports.{given}
use Rattle.meanings.proofs.Checks.{same_limits}
use Rattle.meanings.proofs.SmoothSteps.{CurveAccepted}
use Rattle.meanings.specs.doubles.Doubles.{Tellable}
use Rattle.meanings.specs.ranges.Ranges.{smooth_ranges, smooth_ranges_rows}
use Rattle.meanings.proofs.Within.{lows_small, lows_chosen}
use Rattle.meanings.proofs.Sweeps.{lows_accepted, highs_accepted}
use Rattle.promises.specs.ranges.OverRanges.{stored_range_row, low_row, high_row}
use Rattle.promises.proofs.ranges.OverRanges.{free, found, row_is, low_row_is, high_row_is, code_given}
use Rattle.promises.specs.doubles.Ranges.{RangesHadBack}
use Rattle.promises.proofs.doubles.Doubles.{doubles_hold}
use Rattle.promises.proofs.doubles.Rows.{window_tellable}

-- the row of a curve's mark
curve_tellable : (ts vs zs hs : List ℕ) (k : ℕ) → CurveAccepted ts vs zs hs → AtMost max_u16 vs → k < length zs
    → Tellable (estimate ts vs (get_or zs k 0) (get_or hs k 0))
curve_tellable ts vs zs hs k a v l =
    window_tellable ts vs (get_or zs k 0) (get_or hs k 0) (record { even = a.even; few = a.few; values = v; bandwidth = (a.bandwidths k l).1 })

module _ (ts ls us zs hs rs : List ℕ) (n : ℕ) (q : smooth_ranges full ts ls us zs hs rs ≡ given n) (rs' : List ℕ)
    (e : rs' ≡ smooth_ranges_rows full ts ls us zs hs rs) (highs : AtMost max_u16 us) (k : ℕ) (l : k < length zs) where
  low_tellable : Tellable (low_row (stored_range_row rs' k))
  low_tellable =
      subst Tellable (sym (ap low_row (row_is ts ls us zs hs rs n q rs' e k l) ∙ low_row_is ts ls us (get_or zs k 0) (get_or hs k 0)))
      (curve_tellable ts ls zs hs k (lows_accepted full (same_limits full) ts ls us zs hs rs (free ts ls us zs hs rs n q))
      (lows_small ls us ls (lows_chosen ls us (found ts ls us zs hs rs n q).uncrossed) highs) l)

  high_tellable : Tellable (high_row (stored_range_row rs' k))
  high_tellable =
      subst Tellable (sym (ap high_row (row_is ts ls us zs hs rs n q rs' e k l) ∙ high_row_is ts ls us (get_or zs k 0) (get_or hs k 0)))
      (curve_tellable ts us zs hs k (highs_accepted full (same_limits full) ts ls us zs hs rs (free ts ls us zs hs rs n q)) highs l)

pub range_rows_had_back : RangesHadBack
range_rows_had_back = record {
  ranges_had_back = λ ts ls us zs hs rs n rs' k w l u highs x i c.
      let low = low_tellable ts ls us zs hs rs n (sym x.ensured.0) rs' x.ensured.1 highs k i in
      let high = high_tellable ts ls us zs hs rs n (sym x.ensured.0) rs' x.ensured.1 highs k i in
      record {
        weight_had_back = doubles_hold.number_had_back _ _ w low.weight_fits (λ z. z) c.weight_call;
        low_had_back = doubles_hold.number_had_back _ _ l low.sum_fits low.no_sum_alone c.low_call;
        high_had_back = doubles_hold.number_had_back _ _ u high.sum_fits high.no_sum_alone c.high_call;
      };
  exported_low_had_back = λ ts ls us zs hs rs a rs' k xs c xs' highs x e i two d.
      let g = code_given ts ls us zs hs rs a x.ensured.0 e in
      let low = low_tellable ts ls us zs hs rs g.0 g.1.0 rs' x.ensured.1 highs k i in
      doubles_hold.exported_had_back _ _ xs c xs' low.sum_fits low.no_sum_alone two d;
  exported_high_had_back = λ ts ls us zs hs rs a rs' k xs c xs' highs x e i two d.
      let g = code_given ts ls us zs hs rs a x.ensured.0 e in
      let high = high_tellable ts ls us zs hs rs g.0 g.1.0 rs' x.ensured.1 highs k i in
      doubles_hold.exported_had_back _ _ xs c xs' high.sum_fits high.no_sum_alone two d;
}

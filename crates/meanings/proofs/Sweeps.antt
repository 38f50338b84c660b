-- What the sweep over ranges accepts, a plain sweep over the same minutes, marks and half widths accepts with any values in their ranges: the
-- checks look at values only by how many there are, and at 15. Passes are edges, and edges do not look at values.
use Prim.Native.Nat.{ℕ, zero, suc, ◌+◌, ◌*◌, ◌<◌}
use mathlib.Core.Path.{◌≡◌, refl, sym, ap, ◌∙◌}
use mathlib.Core.Logic.{◌⊎◌, inl, inr}
use mathlib.Core.Bool.{◌||◌}
use mathlib.Core.List.{List, [], ◌++◌}
use Rattle.std.specs.Prelude.{None}
use native.Mathlib.Nat.{not-suc-le-zero, eq-or-lt_of_le, le_of_suc-le-suc}
use native.Mathlib.Omega.{arith}
use borrow.Author.Tests.{ltb-false, le-ltb, ne_eqb}
use lib.ListN.{length, get_or, take, drop, length-append, length-drop}
use lib.Seq.{drop_at, drop-append-le, take-append-le}
use Rattle.meanings.specs.declared.Limits.{Limits}
use Rattle.meanings.specs.Limits.{full, LimitsWithin, max_u16, row_width}
use Rattle.meanings.specs.Lists.{AtMost}
use Rattle.meanings.specs.Moves.{moves}
use Rattle.meanings.specs.Reports.{given, first_of, uneven_samples, uneven_rows, curve_size_checks, sample_order_checks}
use Rattle.meanings.specs.Reports.{point_order_checks, order_checks, windows_checks}
use Rattle.meanings.specs.Running.{fresh, passes}
use Rattle.meanings.specs.Calls.{smooth, smooth_refusal}
use Rattle.meanings.proofs.Checks.{none_holds, none_of_both, first_of_rest, or_false, differ_false, differ_same, CurveSizes, curve_sizes_accept}
use Rattle.meanings.proofs.Search.{lowest_none}
use Rattle.meanings.proofs.SmoothSteps.{CurveAccepted, parts_accept, curve_accepts, running_at, passes_are_edges}
use Rattle.meanings.specs.ranges.Ranges.{range_estimate, range_fields, range_row_width, range_rows, crossed, crossed_checks, range_refusal}
use Rattle.meanings.specs.ranges.Ranges.{smooth_ranges}
use Rattle.meanings.specs.ranges.RangeLaws.{Choice}
use Rattle.meanings.proofs.Within.{Uncrossed, choice_small, lows_small}

-- numbers a row
pub range_rows_length : (ts ls us zs hs : List ℕ) (n : ℕ) → length (range_rows ts ls us zs hs n) ≡ range_row_width * n
range_rows_length ts ls us zs hs zero = refl
range_rows_length ts ls us zs hs (suc n) =
    length-append (range_rows ts ls us zs hs n) _ ∙ (let l = range_rows_length ts ls us zs hs n in omega arith)

-- the seven numbers of mark k
pub range_row_at_point : (ts ls us zs hs : List ℕ) (n k : ℕ) → k < n
    → take range_row_width (drop (range_row_width * k) (range_rows ts ls us zs hs n))
    ≡ range_fields (range_estimate ts ls us (get_or zs k 0) (get_or hs k 0))
range_row_at_point ts ls us zs hs zero k l = absurd (not-suc-le-zero l)
range_row_at_point ts ls us zs hs (suc n) k l = by (eq-or-lt_of_le (le_of_suc-le-suc l)) (range_row_at_point ts ls us zs hs n k)
  where
    M : List ℕ
    M = range_rows ts ls us zs hs n

    F : List ℕ
    F = range_fields (range_estimate ts ls us (get_or zs n 0) (get_or hs n 0))

    Row : List ℕ
    Row = range_fields (range_estimate ts ls us (get_or zs k 0) (get_or hs k 0))

    by : (k ≡ n) ⊎ (k < n) → (k < n → take range_row_width (drop (range_row_width * k) M) ≡ Row)
        → take range_row_width (drop (range_row_width * k) (M ++ F)) ≡ Row
    by (inl e) f = rw (e, drop_at M F (range_row_width * n) (range_rows_length ts ls us zs hs n))
    by (inr m) f =
        let r = range_rows_length ts ls us zs hs n in
        let d = length-drop (range_row_width * k) M in
        rw (drop-append-le (range_row_width * k) M F (omega arith), take-append-le range_row_width (drop (range_row_width * k) M) F (omega arith)) (f m)

-- what marks and minutes satisfy with a list of values they satisfy with any other of its length
with_lengths : {ts vs vs' zs hs : List ℕ} → CurveAccepted ts vs zs hs → length ts ≡ length vs' → CurveAccepted ts vs' zs hs
with_lengths a e = record {
  even = e;
  even_points = a.even_points;
  few = a.few;
  few_points = a.few_points;
  ordered = a.ordered;
  bandwidths = a.bandwidths;
  left_edges = a.left_edges;
  right_edges = a.right_edges;
}

-- what is found of the lists of an accepted sweep over ranges
pub record RangesAccepted (L : Limits) (ts ls us zs hs rs : List ℕ) : Type 0 where
  pub by_size : first_of (curve_size_checks L ts ls zs hs (uneven_samples ts us || uneven_rows range_row_width (length rs) (length zs))) ≡ None
  pub sizes : CurveSizes L ts ls zs hs (uneven_samples ts us || uneven_rows range_row_width (length rs) (length zs))
  pub samples_ordered : first_of (sample_order_checks ts) ≡ None
  pub points_ordered : first_of (point_order_checks zs) ≡ None
  pub windows : first_of (windows_checks zs hs) ≡ None
  pub uncrossed : Uncrossed ls us
  pub rows_fit : length rs ≡ range_row_width * length zs

pub ranges_accept : (L : Limits) (ts ls us zs hs rs : List ℕ) → range_refusal L ts ls us zs hs rs ≡ None → RangesAccepted L ts ls us zs hs rs
ranges_accept L ts ls us zs hs rs e =
    let more = uneven_samples ts us || uneven_rows range_row_width (length rs) (length zs) in
    let points = point_order_checks zs ++ windows_checks zs hs in
    let a = none_of_both (curve_size_checks L ts ls zs hs more) (sample_order_checks ts ++ crossed_checks ls us ++ points) e in
    let b = none_of_both (sample_order_checks ts) (crossed_checks ls us ++ points) a.1 in
    let c = none_of_both (crossed_checks ls us) points b.1 in
    let d = none_of_both (point_order_checks zs) (windows_checks zs hs) c.1 in
    let s = curve_sizes_accept L ts ls zs hs more a.0 in
    let o = or_false (uneven_samples ts us) (uneven_rows range_row_width (length rs) (length zs)) s.no_more in
    record {
      by_size = a.0;
      sizes = s;
      samples_ordered = b.0;
      points_ordered = d.0;
      windows = d.1;
      uncrossed = record {
        even = sym s.even ∙ differ_false (length ts) (length us) o.0;
        each = λ i l. ltb-false (get_or us i 0) (get_or ls i 0) (lowest_none (crossed ls us) (length ls) (none_holds (crossed_checks ls us) c.0).0 i l);
      };
      rows_fit = differ_false (length rs) (range_row_width * length zs) o.1;
    }

module _ (L : Limits) (within : LimitsWithin L full) (ts ls us zs hs rs : List ℕ) (a : range_refusal L ts ls us zs hs rs ≡ None) where
  found : RangesAccepted L ts ls us zs hs rs
  found = ranges_accept L ts ls us zs hs rs a

  -- each of the two lists makes a curve with the marks
  pub lows_accepted : CurveAccepted ts ls zs hs
  lows_accepted = parts_accept L within ts ls zs hs _ found.by_size found.samples_ordered found.windows

  pub highs_accepted : CurveAccepted ts us zs hs
  highs_accepted = with_lengths lows_accepted (lows_accepted.even ∙ found.uncrossed.even)

  module _ (vs : List ℕ) (c : Choice ls us vs) where
    -- a plain sweep with room for its rows refuses nothing
    pub plain_accepts : (rs' : List ℕ) → length rs' ≡ row_width * length zs → smooth_refusal L ts vs zs hs rs' ≡ None
    plain_accepts rs' fits = by_sizes found.sizes
      where
        later : first_of (order_checks ts zs ++ windows_checks zs hs) ≡ None
        later =
            first_of_rest (sample_order_checks ts) (point_order_checks zs ++ windows_checks zs hs) found.samples_ordered
            ∙ first_of_rest (point_order_checks zs) (windows_checks zs hs) found.points_ordered
            ∙ found.windows

        by_sizes : CurveSizes L ts ls zs hs (uneven_samples ts us || uneven_rows range_row_width (length rs) (length zs))
            → smooth_refusal L ts vs zs hs rs' ≡ None
        by_sizes s =
            rw (
              differ_same (length ts) (length vs) (s.even ∙ c.lows),
              differ_same (length zs) (length hs) s.even_points,
              differ_same (length rs') (row_width * length zs) fits,
              le-ltb L.samples (length ts) s.few,
              le-ltb L.points (length zs) s.few_points,
              ne_eqb (length zs) 0 (λ (e : length zs ≡ 0). let p = s.some_point in omega arith),
            )
            later

    -- and makes the same passes
    pub plain_passes : AtMost max_u16 ts → AtMost max_u16 us → (rs' : List ℕ) → length rs' ≡ row_width * length zs
        → smooth L ts vs zs hs rs' ≡ smooth_ranges L ts ls us zs hs rs
    unfolding smooth smooth_ranges
    plain_passes minutes highs rs' fits =
        rw (plain_accepts rs' fits, a)
        (ap given (edges vs accepted (choice_small ls us vs c highs) ∙ sym (edges ls lows_accepted (lows_small ls us vs c highs))))
      where
        accepted : CurveAccepted ts vs zs hs
        accepted = curve_accepts L within ts vs zs hs _ (plain_accepts rs' fits)

        -- the edges after the last mark
        last : ℕ → ℕ
        last k = (running_at ts [] zs hs k).right + (running_at ts [] zs hs k).left

        last_of : (xs : List ℕ) (k : ℕ) → (running_at ts xs zs hs k).right + (running_at ts xs zs hs k).left ≡ last k
        last_of xs zero = refl
        last_of xs (suc k) = refl

        edges : (xs : List ℕ) → CurveAccepted ts xs zs hs → AtMost max_u16 xs → passes ts xs fresh (moves zs hs) ≡ last (length zs)
        edges xs b m =
            passes_are_edges ts xs zs hs (record { even = b.even; few = b.few; minutes = minutes; values = m }) b ∙ last_of xs (length zs)

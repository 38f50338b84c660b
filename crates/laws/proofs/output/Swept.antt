-- What the reader accepts the sweep accepts: none of the sweep's checks holds of the lists of an accepted sheet.
use Prim.Native.Nat.{ℕ, zero, suc, ◌*◌, ◌<◌}
use mathlib.Core.Path.{◌≡◌, refl}
use mathlib.Core.Bool.{false}
use mathlib.Core.List.{List}
use Rattle.std.specs.Prelude.{None}
use native.Mathlib.Omega.{arith}
use borrow.Author.Tests.{le-ltb, ne_eqb}
use lib.ListN.{length, get_or}
use Rattle.meanings.specs.Lists.{lowest, Ordered}
use Rattle.meanings.specs.Limits.{full, max_bandwidth, row_width}
use Rattle.meanings.specs.Moves.{moves}
use Rattle.meanings.specs.Reports.{given, decreases, bad_bandwidth, edge_decreases}
use Rattle.meanings.specs.Estimate.{rows}
use Rattle.meanings.specs.Running.{fresh, passes}
use Rattle.meanings.specs.Calls.{smooth_refusal, smooth, smooth_rows}
use Rattle.meanings.specs.Sheet.{Contents, read_sheet}
use Rattle.meanings.proofs.Checks.{differ_same}
use Rattle.meanings.proofs.Search.{none_lowest}
use Rattle.laws.proofs.output.AcceptedSheet.{AcceptedContents, accepted_contents}

ordered_no_decrease : (xs : List ℕ) → Ordered xs → lowest (decreases xs) (length xs) ≡ None
ordered_no_decrease xs o = none_lowest (decreases xs) (length xs) at
  where
    at : (k : ℕ) → k < length xs → decreases xs k ≡ false
    at zero l = refl
    at (suc k) l = le-ltb (get_or xs (suc k) 0) (get_or xs k 0) (o k (suc k) (omega arith) l)

no_bad_bandwidth : (c : Contents) → AcceptedContents c
    → lowest (λ k. bad_bandwidth (get_or c.bandwidths k 0)) (length c.bandwidths) ≡ None
no_bad_bandwidth c a = none_lowest (λ k. bad_bandwidth (get_or c.bandwidths k 0)) (length c.bandwidths) at
  where
    at : (k : ℕ) → k < length c.bandwidths → bad_bandwidth (get_or c.bandwidths k 0) ≡ false
    at k l =
        let low = a.bandwidth_low k l in
        rw (ne_eqb (get_or c.bandwidths k 0) 0 (λ e. omega arith), le-ltb max_bandwidth (get_or c.bandwidths k 0) (a.bandwidth_high k l))

no_edge_decreases : (c : Contents) → AcceptedContents c → lowest (edge_decreases c.points c.bandwidths) (length c.points) ≡ None
no_edge_decreases c a = none_lowest (edge_decreases c.points c.bandwidths) (length c.points) at
  where
    at : (k : ℕ) → k < length c.points → edge_decreases c.points c.bandwidths k ≡ false
    at zero l = refl
    at (suc k) l = rw (le-ltb _ _ (a.left_edges k l), le-ltb _ _ (a.right_edges k l))

contents_are_swept : (c : Contents) → AcceptedContents c → (rs : List ℕ) → length rs ≡ row_width * length c.points
    → smooth_refusal full c.minutes c.values c.points c.bandwidths rs ≡ None
contents_are_swept c a rs five =
    rw (
      differ_same _ _ a.even_samples,
      differ_same _ _ a.even_points,
      differ_same _ _ five,
      le-ltb full.samples (length c.minutes) a.few_samples,
      le-ltb full.points (length c.points) a.few_points,
      ne_eqb (length c.points) 0 (λ e. omega arith),
      ordered_no_decrease c.minutes a.minute_order,
      ordered_no_decrease c.points a.point_order,
      no_bad_bandwidth c a,
      no_edge_decreases c a,
    )

module _ (s : List ℕ) (c : Contents) (e : read_sheet full s ≡ given c) (rs : List ℕ) (five : length rs ≡ row_width * length c.points) where
  pub accepted_sheet_is_swept : smooth_refusal full c.minutes c.values c.points c.bandwidths rs ≡ None
  accepted_sheet_is_swept = contents_are_swept c (accepted_contents s c e) rs five

  -- the sweep answers with its passes
  pub accepted_sheet_has_passes :
      smooth full c.minutes c.values c.points c.bandwidths rs
      ≡ given (passes c.minutes c.values fresh (moves c.points c.bandwidths))
  unfolding smooth
  accepted_sheet_has_passes = rw accepted_sheet_is_swept

  -- and hands out the rows of all marks
  pub accepted_sheet_has_rows :
      smooth_rows full c.minutes c.values c.points c.bandwidths rs
      ≡ rows c.minutes c.values c.points c.bandwidths (length c.points)
  unfolding smooth_rows
  accepted_sheet_has_rows = rw accepted_sheet_is_swept

-- What the lists of an accepted sheet satisfy: the sheet is printed from lines without a fault, and its lists hold what these lines say.
use Prim.Native.Nat.{ℕ, suc, ◌+◌, ◌≤◌, ◌<◌}
use mathlib.Core.Path.{◌≡◌}
use mathlib.Core.List.{List}
use native.Mathlib.Nat.{le_trans}
use native.Mathlib.Omega.{arith}
use lib.ListN.{length, get_or, length-map, get_or-map}
use Rattle.meanings.specs.Lists.{Ordered, AtMost}
use Rattle.meanings.specs.Limits.{full, max_u16, max_bandwidth}
use Rattle.meanings.specs.Sheet.{EvaluationPoint}
use Rattle.meanings.specs.Reports.{given}
use Rattle.meanings.specs.Sheet.{Injection, Contents, read_sheet}
use Rattle.meanings.specs.SheetForm.{without_endings, kept_of, PointForm, SampleForm, Follows, Neighbours, Each, BandwidthRange, FitPoints}
use Rattle.meanings.specs.SheetForm.{MinuteOrder, FitSamples}
use Rattle.meanings.proofs.Checks.{steps_ordered}
use Rattle.laws.proofs.sheet.LineOrder.{minutes_of, values_of, points_of, bandwidths_of}
use Rattle.laws.proofs.sheet.Outcomes.{read_is_printed}
use Rattle.laws.proofs.output.ByPosition.{each_at, neighbours_at}
use Rattle.laws.proofs.output.KeptRules.{each_kept, neighbours_kept}

pub record AcceptedContents (c : Contents) : Type 0 where
  pub even_samples : length c.minutes ≡ length c.values
  pub even_points : length c.points ≡ length c.bandwidths
  pub few_samples : length c.minutes ≤ full.samples
  pub few_points : length c.points ≤ full.points
  pub some_point : 1 ≤ length c.points
  pub minute_range : AtMost max_u16 c.minutes
  pub value_range : AtMost max_u16 c.values
  pub point_range : AtMost max_u16 c.points
  pub bandwidth_low : (k : ℕ) → k < length c.bandwidths → 1 ≤ get_or c.bandwidths k 0
  pub bandwidth_high : AtMost max_bandwidth c.bandwidths
  pub minute_order : Ordered c.minutes
  pub point_order : Ordered c.points
  -- neither edge falls from mark to mark
  pub left_edges : (k : ℕ) → suc k < length c.points
      → get_or c.points k 0 + get_or c.bandwidths (suc k) 0 ≤ get_or c.points (suc k) 0 + get_or c.bandwidths k 0
  pub right_edges : (k : ℕ) → suc k < length c.points
      → get_or c.points k 0 + get_or c.bandwidths k 0 ≤ get_or c.points (suc k) 0 + get_or c.bandwidths (suc k) 0

-- what stands past a list's end
abbrev no_point : EvaluationPoint
no_point = record { point = 0; bandwidth = 0 }

abbrev no_line : Injection
no_line = record { minute = 0; injection = 0; value = 0 }

point_at : (ms : List EvaluationPoint) (k : ℕ) → get_or (points_of ms) k 0 ≡ (get_or ms k no_point).point
point_at ms k = get_or-map (λ (m : EvaluationPoint). m.point) ms k no_point

bandwidth_at : (ms : List EvaluationPoint) (k : ℕ) → get_or (bandwidths_of ms) k 0 ≡ (get_or ms k no_point).bandwidth
bandwidth_at ms k = get_or-map (λ (m : EvaluationPoint). m.bandwidth) ms k no_point

minute_at : (js : List Injection) (k : ℕ) → get_or (minutes_of js) k 0 ≡ (get_or js k no_line).minute
minute_at js k = get_or-map (λ (j : Injection). j.minute) js k no_line

value_at : (js : List Injection) (k : ℕ) → get_or (values_of js) k 0 ≡ (get_or js k no_line).value
value_at js k = get_or-map (λ (j : Injection). j.value) js k no_line

-- the lists of mark lines and reading lines
abbrev contents_of : List EvaluationPoint → List Injection → Contents
contents_of ms js = record {
  minutes = minutes_of (kept_of js);
  values = values_of (kept_of js);
  points = points_of ms;
  bandwidths = bandwidths_of ms;
}

fit_lines_give : (ms : List EvaluationPoint) (js : List Injection) → 1 ≤ length ms → FitPoints full ms → FitSamples full js
    → AcceptedContents (contents_of ms js)
fit_lines_give ms js one f g =
    let m = length-map ks (λ (j : Injection). j.minute) in
    let v = length-map ks (λ (j : Injection). j.value) in
    let p = length-map ms (λ (m : EvaluationPoint). m.point) in
    let b = length-map ms (λ (m : EvaluationPoint). m.bandwidth) in
    record {
      even_samples = omega arith;
      even_points = omega arith;
      few_samples = omega arith;
      few_points = omega arith;
      some_point = omega arith;
      minute_range = λ i l. rw (minute_at ks i) (each_at SampleForm no_line ks forms i (omega arith)).minute_range;
      value_range = λ i l. rw (value_at ks i) (each_at SampleForm no_line ks forms i (omega arith)).value_range;
      point_range = λ i l. rw (point_at ms i) (each_at PointForm no_point ms f.forms i (omega arith)).point_range;
      bandwidth_low = λ i l. rw (bandwidth_at ms i) (each_at BandwidthRange no_point ms f.ranges i (omega arith)).low;
      bandwidth_high = λ i l. rw (bandwidth_at ms i) (each_at BandwidthRange no_point ms f.ranges i (omega arith)).high;
      minute_order =
          steps_ordered (minutes_of ks)
          (λ k l. rw (minute_at ks k, minute_at ks (suc k)) (neighbours_at MinuteOrder no_line ks order k (omega arith)));
      point_order =
          steps_ordered (points_of ms)
          (λ k l. rw (point_at ms k, point_at ms (suc k)) (neighbours_at Follows no_point ms f.order k (omega arith)).point_order);
      left_edges = λ k l.
          rw (point_at ms k, bandwidth_at ms (suc k), point_at ms (suc k), bandwidth_at ms k)
          (neighbours_at Follows no_point ms f.order k (omega arith)).left_edge;
      right_edges = λ k l.
          rw (point_at ms k, bandwidth_at ms k, point_at ms (suc k), bandwidth_at ms (suc k))
          (neighbours_at Follows no_point ms f.order k (omega arith)).right_edge;
    }
  where
    ks : List Injection
    ks = kept_of js

    forms : Each SampleForm ks
    forms = each_kept SampleForm js g.forms

    order : Neighbours MinuteOrder ks
    order = neighbours_kept MinuteOrder (λ a b c l m. le_trans l m) js g.order

pub accepted_contents : (s : List ℕ) (c : Contents) → read_sheet full s ≡ given c → AcceptedContents c
accepted_contents s c e =
    let i = read_is_printed full s c e in
    rw (← i.points, ← i.bandwidths, ← i.minutes, ← i.values) at
    (fit_lines_give (without_endings i.point_lines) (without_endings i.sample_lines) i.some_point i.fit_points i.fit_samples)

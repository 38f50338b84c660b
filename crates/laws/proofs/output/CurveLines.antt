-- A mark's line has at most 61 bytes: the mark and its half width have at most 5 digits, left and right 4, the weight 13, the sum 18, and
-- the value has 5 or is `-`; six commas and the line feed are 7.
use Prim.Native.Nat.{ℕ, zero, suc, ◌*◌, ◌≤◌, ◌<◌}
use mathlib.Core.Path.{◌≡◌}
use mathlib.Core.Bool.{Bool, true, false}
use mathlib.Core.List.{List, [], ◌∷◌}
use native.Mathlib.Decide.{ℕ_discrete}
use native.Mathlib.Omega.{arith}
use lib.Dec.{eqb}
use lib.ListN.{length, get_or, length-append}
use Rattle.meanings.specs.Lists.{pick}
use Rattle.meanings.specs.Limits.{max_u16}
use Rattle.meanings.specs.Bytes.{dash}
use Rattle.meanings.specs.Estimate.{WithinLimits, left_of, right_of, weight_of, sum_of, value_of, missing, estimate}
use Rattle.meanings.specs.Sheet.{Contents}
use Rattle.meanings.specs.Output.{decimal, value_text, curve_line, curve_lines}
use Rattle.meanings.proofs.Bounds.{weight_bound, sum_bound, value_bound}
use Rattle.laws.proofs.text.Numbers.{decimal_length}
use Rattle.meanings.proofs.Rounding.{value_missing}
use Rattle.meanings.proofs.Window.{left_at_most_right, right_at_most_length}
use Rattle.laws.proofs.output.AcceptedSheet.{AcceptedContents}

pub value_text_fits : (v : ℕ) → v ≤ missing → length (value_text v) ≤ 5
value_text_fits v l = by (eqb v missing)
  where
    by : (b : Bool) → length (pick b (dash ∷ []) (decimal v)) ≤ 5
    by true = omega arith
    by false = decimal_length v 4 (omega arith)

pub value_at_most_missing : (ts vs : List ℕ) (z h : ℕ) → WithinLimits ts vs h → value_of (sum_of ts vs z h) (weight_of ts z h) ≤ missing
value_at_most_missing ts vs z h f = by (ℕ_discrete (weight_of ts z h) 0)
  where
    by : Dec (weight_of ts z h ≡ 0) → value_of (sum_of ts vs z h) (weight_of ts z h) ≤ missing
    by (yes e) = rw e (let q = value_missing (sum_of ts vs z h) in omega arith)
    by (no n) = let v = value_bound ts vs z h f (omega arith) in omega arith

pub curve_line_fits : (ts vs : List ℕ) (z h : ℕ) → WithinLimits ts vs h → z ≤ max_u16 → length (curve_line z h (estimate ts vs z h)) ≤ 61
unfolding estimate
curve_line_fits ts vs z h f l =
    let r = right_at_most_length ts z h in
    let point = decimal_length z 4 (omega arith) in
    let bandwidth = decimal_length h 4 (omega arith) in
    let left = decimal_length (left_of ts z h) 3 (omega (arith, left_at_most_right ts z h)) in
    let right = decimal_length (right_of ts z h) 3 (omega arith) in
    let weight = decimal_length (weight_of ts z h) 12 (omega (arith, weight_bound ts vs z h f.few f.bandwidth)) in
    let sum = decimal_length (sum_of ts vs z h) 17 (omega (arith, sum_bound ts vs z h f)) in
    let value = value_text_fits (value_of (sum_of ts vs z h) (weight_of ts z h)) (value_at_most_missing ts vs z h f) in
    simp length-append (omega arith)

-- at each mark of an accepted sheet
module _ (c : Contents) (a : AcceptedContents c) where
  pub mark_fits : (n : ℕ) → n < length c.points → WithinLimits c.minutes c.values (get_or c.bandwidths n 0)
  mark_fits n l = record {
    even = a.even_samples;
    few = a.few_samples;
    values = a.value_range;
    bandwidth = a.bandwidth_high n (omega arith);
  }

  pub mark_line_fits : (n : ℕ) → n < length c.points
      → length
      (curve_line (get_or c.points n 0) (get_or c.bandwidths n 0)
      (estimate c.minutes c.values (get_or c.points n 0) (get_or c.bandwidths n 0)))
      ≤ 61
  mark_line_fits n l = curve_line_fits c.minutes c.values _ _ (mark_fits n l) (a.point_range n l)

  pub curve_lines_fit : (n : ℕ) → n ≤ length c.points → length (curve_lines c n) ≤ 61 * n
  curve_lines_fit zero l = omega arith
  curve_lines_fit (suc n) l =
      let before = curve_lines_fit n (omega arith) in
      let one = mark_line_fits n l in
      rw length-append (omega arith)

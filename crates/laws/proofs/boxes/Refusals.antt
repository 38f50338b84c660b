-- What an accepted call has shown: no check of its list holds, so lengths agree, marks are in order, and half widths are within each direction's
-- limit.
use Prim.Native.Nat.{ℕ, ◌*◌, ◌≤◌, ◌<◌}
use mathlib.Core.Path.{◌≡◌}
use mathlib.Core.Bool.{Bool, false, ◌||◌}
use mathlib.Core.List.{List, ◌++◌}
use Rattle.std.specs.Prelude.{None}
use native.Mathlib.Omega.{arith}
use borrow.Author.Tests.{ltb-false, eqb-false}
use lib.Dec.{ltb, eqb}
use lib.ListN.{length, get_or}
use Rattle.meanings.specs.Reports.{first_of, differ, outside_at, point_order_checks, bandwidth_list_checks}
use Rattle.meanings.proofs.Checks.{none_holds, none_of_both, at_none, or_false, differ_false, no_decrease_ordered}
use Rattle.meanings.proofs.Search.{lowest_none}
use Rattle.meanings.specs.boxes.Boxes.{Axis, box_limits, cells, uneven_boxes, crowded_boxes, no_box, box_size_checks, second_order_checks}
use Rattle.meanings.specs.boxes.Boxes.{axis_bandwidth_checks, box_checks}
use Rattle.laws.specs.boxes.Accepted.{BoxesAccepted}

-- 9: each half width is from 1 to the direction's greatest
pub bandwidths_within : (most : ℕ) (hs : List ℕ) → first_of (bandwidth_list_checks most hs) ≡ None → (k : ℕ) → k < length hs
    → (0 < get_or hs k 0) × (get_or hs k 0 ≤ most)
bandwidths_within most hs e k l =
    let f = lowest_none (outside_at most hs) (length hs) (none_holds (bandwidth_list_checks most hs) e).0 k l in
    let o = or_false (eqb (get_or hs k 0) 0) (ltb most (get_or hs k 0)) f in
    (let n : get_or hs k 0 ≡ 0 → ⊥ = eqb-false (get_or hs k 0) 0 o.0 in omega arith, ltb-false most (get_or hs k 0) o.1)

three_false : (a b c : Bool) → (a || b || c) ≡ false → (a ≡ false) × (b ≡ false) × (c ≡ false)
three_false a b c e =
    let p = or_false (a || b) c e in
    let q = or_false a b p.0 in
    (q.0, q.1, p.1)

seven_false : (a b c d e f g : Bool) → (a || b || c || d || e || f || g) ≡ false
    → (a ≡ false) × (b ≡ false) × (c ≡ false) × (d ≡ false) × (e ≡ false) × (f ≡ false) × (g ≡ false)
seven_false a b c d e f g q =
    let p = three_false (a || b || c || d || e) f g q in
    let r = three_false (a || b || c) d e p.0 in
    let t = three_false a b c r.0 in
    (t.0, t.1, t.2, r.1, r.2, p.1, p.2)

module _ (A B : Axis) (vs : List ℕ) (b c s : ℕ) where
  -- the five parts of the checks
  none_of_parts : first_of (box_checks A B vs b c s) ≡ None
      → (first_of (box_size_checks box_limits A B vs b c s) ≡ None) × (first_of (point_order_checks A.points) ≡ None)
      × (first_of (second_order_checks B.points) ≡ None) × (first_of (axis_bandwidth_checks A) ≡ None) × (first_of (axis_bandwidth_checks B) ≡ None)
  none_of_parts e =
      let p = none_of_both (box_size_checks box_limits A B vs b c s)
      (point_order_checks A.points ++ second_order_checks B.points ++ axis_bandwidth_checks A ++ axis_bandwidth_checks B) e in
      let q = none_of_both (point_order_checks A.points) (second_order_checks B.points ++ axis_bandwidth_checks A ++ axis_bandwidth_checks B) p.1 in
      let r = none_of_both (second_order_checks B.points) (axis_bandwidth_checks A ++ axis_bandwidth_checks B) q.1 in
      let t = none_of_both (axis_bandwidth_checks A) (axis_bandwidth_checks B) r.1 in
      (p.0, q.0, r.0, t.0, t.1)

  pub boxes_accept : first_of (box_checks A B vs b c s) ≡ None → BoxesAccepted A B vs b c s
  boxes_accept e =
      let p = none_of_parts e in
      let n = none_holds (box_size_checks box_limits A B vs b c s) p.0 in
      let u = seven_false (differ (length A.samples) (length B.samples)) (differ (length A.samples) (length vs))
      (differ (length A.points) (length A.bandwidths)) (differ (length B.points) (length B.bandwidths))
      (differ b (2 * length A.points * length B.points)) (differ c cells) (differ s cells) (at_none 0 (uneven_boxes A B vs b c s) n.0) in
      let f = three_false (ltb 1024 (length A.samples)) (ltb 32 (length A.points)) (ltb 32 (length B.points))
      (at_none 0 (crowded_boxes box_limits A B) n.1.0) in
      let h = or_false (eqb (length A.points) 0) (eqb (length B.points) 0) (at_none 0 (no_box A B) n.1.1.0) in
      let a = eqb-false (length A.points) 0 h.0 in
      let o = eqb-false (length B.points) 0 h.1 in
      let ep = differ_false (length A.points) (length A.bandwidths) u.2 in
      let eo = differ_false (length B.points) (length B.bandwidths) u.3 in
      record {
        even = differ_false (length A.samples) (length B.samples) u.0;
        even_values = differ_false (length A.samples) (length vs) u.1;
        even_points = ep;
        even_others = eo;
        places = differ_false b (2 * length A.points * length B.points) u.4;
        counts = differ_false c cells u.5;
        sums = differ_false s cells u.6;
        few = ltb-false 1024 (length A.samples) f.0;
        some_point = omega (arith, a);
        some_other = omega (arith, o);
        ordered_points = no_decrease_ordered A.points (none_holds (point_order_checks A.points) p.1).0;
        ordered_others = no_decrease_ordered B.points (none_holds (second_order_checks B.points) p.2).0;
        narrow = record {
          few = ltb-false 32 (length A.points) f.1;
          within = λ k l. (bandwidths_within A.widest A.bandwidths p.3 k (omega arith)).1;
        };
        narrow_other = record {
          few = ltb-false 32 (length B.points) f.2;
          within = λ k l. (bandwidths_within B.widest B.bandwidths p.4 k (omega arith)).1;
        };
      }

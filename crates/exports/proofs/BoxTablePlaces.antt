-- The call is refused at 0 or at a position of a list of marks or half widths, so no answer overflows.
use Prim.Native.Nat.{ℕ, ◌≤◌, ◌*◌}
use mathlib.Core.Path.{◌≡◌}
use mathlib.Core.Bool.{Bool, false, ◌||◌}
use mathlib.Core.List.{List}
use native.Mathlib.Omega.{arith}
use borrow.Author.Tests.{ltb-false}
use lib.Dec.{ltb}
use lib.ListN.{length}
use Rattle.meanings.specs.Limits.{max_sheet}
use Rattle.meanings.specs.Reports.{decreases, outside_at, differ}
use Rattle.meanings.proofs.Checks.{at_none, or_false, differ_false}
use Rattle.meanings.specs.boxes.Boxes.{Axis, box_limits, cells, uneven_boxes, crowded_boxes, no_box, box_checks, boxes}
use Rattle.exports.proofs.AnswersPlaces.{refusal_place, answer_small, at_start, at_position}

-- of seven tests the third and the fourth
none_of_seven : (a b c d e f g : Bool) → a || b || c || d || e || f || g ≡ false → (c ≡ false) × (d ≡ false)
none_of_seven a b c d e f g q =
    let x = or_false (a || b || c || d || e || f) g q in
    let y = or_false (a || b || c || d || e) f x.0 in
    let z = or_false (a || b || c || d) e y.0 in
    let u = or_false (a || b || c) d z.0 in
    ((or_false (a || b) c u.0).1, u.1)

-- lists that are not uneven have as many half widths as marks
both_even : (A B : Axis) (vs : List ℕ) (b c s : ℕ) → uneven_boxes A B vs b c s ≡ false
    → (length A.points ≡ length A.bandwidths) × (length B.points ≡ length B.bandwidths)
both_even A B vs b c s even =
    let x =
    none_of_seven (differ (length A.samples) (length B.samples)) (differ (length A.samples) (length vs))
    (differ (length A.points) (length A.bandwidths)) (differ (length B.points) (length B.bandwidths))
    (differ b (2 * length A.points * length B.points)) (differ c cells) (differ s cells) even in
    (differ_false _ _ x.0, differ_false _ _ x.1)

pub boxes_place : (A B : Axis) (vs bs cs ss : List ℕ) → refusal_place (boxes A B vs bs cs ss) ≤ max_sheet
unfolding boxes
boxes_place A B vs bs cs ss =
    answer_small (box_checks A B vs (length bs) (length cs) (length ss)) tt (
      at_start (uneven_boxes A B vs (length bs) (length cs) (length ss)),
      λ even. (
        at_start (crowded_boxes box_limits A B),
        λ few. (
          at_start (no_box A B),
          λ any. (
              let e = both_even A B vs (length bs) (length cs) (length ss) (at_none 0 (uneven_boxes A B vs (length bs) (length cs) (length ss)) even) in
              let f = or_false (ltb 1024 (length A.samples) || ltb 32 (length A.points)) (ltb 32 (length B.points))
              (at_none 0 (crowded_boxes box_limits A B) few) in
              let g = or_false (ltb 1024 (length A.samples)) (ltb 32 (length A.points)) f.0 in
              let z : length A.points ≤ 32 = ltb-false 32 (length A.points) g.1 in
              let y : length B.points ≤ 32 = ltb-false 32 (length B.points) f.1 in (
                at_position (decreases A.points) (length A.points) (omega arith),
                λ ordered. (
                  at_position (decreases B.points) (length B.points) (omega arith),
                  λ ordered-too. (
                    at_position (outside_at A.widest A.bandwidths) (length A.bandwidths) (omega (arith, e.0)),
                    λ in_range. (at_position (outside_at B.widest B.bandwidths) (length B.bandwidths) (omega (arith, e.1)), λ in-range-too. tt),
                  ),
                ),
              )
              ),
        ),
      ),
    )

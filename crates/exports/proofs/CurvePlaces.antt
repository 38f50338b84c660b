-- No refusal of lists of readings and marks has a place over 1,024, whatever one more list has to be and under any limits at most the full ones.
use Prim.Native.Nat.{ℕ, ◌≤◌}
use mathlib.Core.Bool.{Bool, ◌||◌}
use mathlib.Core.List.{List}
use native.Mathlib.Nat.{le_trans}
use native.Mathlib.Omega.{arith}
use borrow.Author.Tests.{ltb-false}
use lib.Dec.{ltb, eqb}
use lib.ListN.{length, get_or}
use Rattle.meanings.specs.declared.Limits.{Limits}
use Rattle.meanings.specs.Limits.{full, LimitsWithin, max_sheet}
use Rattle.meanings.specs.Reports.{unless, first_of, differ, decreases, bad_bandwidth, edge_decreases, uneven_samples, curve_checks}
use Rattle.meanings.proofs.Checks.{at_none, or_false, differ_false}
use Rattle.exports.proofs.AnswersPlaces.{refusal_place, answer_small, at_start, at_position}

pub curve_place : {A : Type 0} (L : Limits) → LimitsWithin L full → (ts vs zs hs : List ℕ) (more : Bool) (a : A)
    → refusal_place (unless (first_of (curve_checks L ts vs zs hs more)) a) ≤ max_sheet
curve_place L w ts vs zs hs more a =
    answer_small (curve_checks L ts vs zs hs more) a (
      at_start (uneven_samples ts vs || differ (length zs) (length hs) || more),
      λ even. (
        at_start (ltb L.samples (length ts) || ltb L.points (length zs)),
        λ few. (
          at_start (eqb (length zs) 0),
          λ any. (
              let u = or_false (uneven_samples ts vs || differ (length zs) (length hs)) more (at_none 0 _ even) in
              let e = differ_false (length zs) (length hs) (or_false (uneven_samples ts vs) (differ (length zs) (length hs)) u.0).1 in
              let f = or_false (ltb L.samples (length ts)) (ltb L.points (length zs)) (at_none 0 _ few) in
              let t : length ts ≤ 1024 = le_trans (ltb-false L.samples (length ts) f.0) w.samples in
              let z : length zs ≤ 512 = le_trans (ltb-false L.points (length zs) f.1) w.points in (
                at_position (decreases ts) (length ts) (omega arith),
                λ ordered. (
                  at_position (decreases zs) (length zs) (omega arith),
                  λ ordered_points. (
                    at_position (λ k. bad_bandwidth (get_or hs k 0)) (length hs) (omega arith),
                    λ range. (at_position (edge_decreases zs hs) (length zs) (omega arith), λ edges. tt),
                  ),
                ),
              )
              ),
        ),
      ),
    )

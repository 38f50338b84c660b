-- The call is refused at 0 or at a position of its lists, so no answer overflows.
use Prim.Native.Nat.{ℕ, ◌≤◌}
use mathlib.Core.Bool.{◌||◌}
use mathlib.Core.List.{List}
use native.Mathlib.Omega.{arith}
use borrow.Author.Tests.{ltb-false}
use lib.Dec.{ltb, eqb}
use lib.ListN.{length}
use Rattle.meanings.specs.Limits.{full, max_sheet, row_width}
use Rattle.meanings.specs.Reports.{decreases, uneven_samples, uneven_points, uneven_rows}
use Rattle.meanings.proofs.Checks.{at_none, or_false}
use Rattle.meanings.specs.neighbours.Neighbours.{too_few, neighbours_checks, neighbours}
use Rattle.exports.proofs.AnswersPlaces.{refusal_place, answer_small, at_start, at_position}

pub neighbours_place : (ts vs zs : List ℕ) (k : ℕ) (hs rs : List ℕ) → refusal_place (neighbours full ts vs zs k hs rs) ≤ max_sheet
unfolding neighbours
neighbours_place ts vs zs k hs rs =
    answer_small (neighbours_checks full ts vs zs k hs (length rs)) tt (
      at_start (uneven_samples ts vs || uneven_points zs hs || uneven_rows row_width (length rs) (length zs)),
      λ even. (
        at_start (ltb 1024 (length ts) || ltb 512 (length zs)),
        λ few. (
          at_start (eqb (length zs) 0),
          λ any. (
              let f = or_false (ltb 1024 (length ts)) (ltb 512 (length zs)) (at_none 0 _ few) in
              let t : length ts ≤ 1024 = ltb-false 1024 (length ts) f.0 in
              let z : length zs ≤ 512 = ltb-false 512 (length zs) f.1 in (
                at_position (decreases ts) (length ts) (omega arith),
                λ ordered. (
                  at_position (decreases zs) (length zs) (omega arith),
                  λ ordered_points. (at_start (too_few (length ts) k), λ enough. tt),
                ),
              )
              ),
        ),
      ),
    )

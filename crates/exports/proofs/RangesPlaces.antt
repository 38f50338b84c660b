-- The sweep over ranges is refused at a position of its lists, and its passes are at most twice the readings. So no answer overflows.
use Prim.Native.Nat.{ℕ, ◌≤◌}
use Rattle.std.specs.Prelude.{Result, Ok}
use Rattle.meanings.specs.declared.Refusal.{Refusal}
use Rattle.meanings.specs.Calls.{answer_of}
use mathlib.Core.Path.{◌≡◌, sym, ap, ◌∙◌}
use mathlib.Core.Bool.{◌||◌}
use mathlib.Core.List.{List}
use native.Mathlib.Omega.{arith}
use borrow.Author.Tests.{ltb-false}
use lib.Dec.{ltb, eqb}
use lib.ListN.{length, get_or}
use Rattle.meanings.specs.Limits.{full, max_sheet}
use Rattle.meanings.specs.Moves.{moves}
use Rattle.meanings.specs.Reports.{differ, decreases, bad_bandwidth, edge_decreases, uneven_samples, uneven_rows}
use Rattle.meanings.specs.Running.{fresh, passes}
use Rattle.meanings.proofs.Checks.{at_none, or_false, differ_false, given_accepted, same_limits}
use Rattle.meanings.proofs.Passes.{passes_at_most_twice}
use Rattle.meanings.specs.ranges.Ranges.{range_row_width, crossed, range_checks, range_refusal, smooth_ranges}
use Rattle.meanings.proofs.Sweeps.{lows_accepted}
use Rattle.exports.proofs.AnswersPlaces.{refusal_place, answer_small, at_start, at_position}

module _ (ts ls us zs hs rs : List ℕ) where
  pub ranges_place : refusal_place (smooth_ranges full ts ls us zs hs rs) ≤ max_sheet
  unfolding smooth_ranges
  ranges_place =
      let more = uneven_samples ts us || uneven_rows range_row_width (length rs) (length zs) in
      answer_small (range_checks full ts ls us zs hs (length rs)) (passes ts ls fresh (moves zs hs)) (
        at_start (uneven_samples ts ls || differ (length zs) (length hs) || more),
        λ even. (
          at_start (ltb 1024 (length ts) || ltb 512 (length zs)),
          λ few. (
            at_start (eqb (length zs) 0),
            λ any. (
                let u = or_false (uneven_samples ts ls || differ (length zs) (length hs)) more (at_none 0 _ even) in
                let v = or_false (uneven_samples ts ls) (differ (length zs) (length hs)) u.0 in
                let e = differ_false (length zs) (length hs) v.1 in
                let d = differ_false (length ts) (length ls) v.0 in
                let f = or_false (ltb 1024 (length ts)) (ltb 512 (length zs)) (at_none 0 _ few) in
                let t : length ts ≤ 1024 = ltb-false 1024 (length ts) f.0 in
                let z : length zs ≤ 512 = ltb-false 512 (length zs) f.1 in (
                  at_position (decreases ts) (length ts) (omega arith),
                  λ ordered. (
                    at_position (crossed ls us) (length ls) (omega arith),
                    λ uncrossed. (
                      at_position (decreases zs) (length zs) (omega arith),
                      λ ordered_points. (
                        at_position (λ k. bad_bandwidth (get_or hs k 0)) (length hs) (omega arith),
                        λ range. (at_position (edge_decreases zs hs) (length zs) (omega arith), λ edges. tt),
                      ),
                    ),
                  ),
                )
                ),
          ),
        ),
      )

  pub passes_few : (r : Result ℕ Refusal) (n : ℕ) → answer_of r ≡ smooth_ranges full ts ls us zs hs rs → r ≡ Ok n → n ≤ 2048
  unfolding smooth_ranges
  passes_few r n answer met =
      let a = given_accepted (range_refusal full ts ls us zs hs rs) (passes ts ls fresh (moves zs hs)) n (sym answer ∙ ap answer_of met) in
      let s = lows_accepted full (same_limits full) ts ls us zs hs rs a.0 in
      let m = passes_at_most_twice ts ls (moves zs hs) in
      omega (arith, a.1, s.few)

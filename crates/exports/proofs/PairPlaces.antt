-- The comparison is refused at a position of its lists, so no answer overflows.
use Prim.Native.Nat.{ℕ, ◌≤◌, zero-le}
use mathlib.Core.Path.{◌≡◌, refl}
use mathlib.Core.Bool.{false, ◌||◌}
use mathlib.Core.List.{List, [], ◌∷◌, ◌++◌}
use native.Mathlib.Omega.{arith}
use borrow.Author.Tests.{ltb-false}
use lib.Dec.{ltb, eqb}
use lib.ListN.{length, get_or}
use Rattle.std.specs.Prelude.{Option, None, Some}
use Rattle.meanings.specs.Limits.{full, max_sheet}
use Rattle.meanings.specs.Reports.{Fault, Answer, given, refused, unless, Check, first_of, decreases, bad_bandwidth, edge_decreases}
use Rattle.meanings.specs.Reports.{uneven_samples, uneven_points, series_checks, curve_checks}
use Rattle.meanings.proofs.Checks.{at_none, or_false, differ_false}
use Rattle.meanings.specs.declared.pair.Parting.{Parting}
use Rattle.meanings.specs.pair.Comparison.{with_bounds, fault_place, second_checks, compare_checks, compare_refusal, parted, compare, compare_bounds}
use Rattle.exports.proofs.AnswersPlaces.{refusal_place, answer_small, place_or_0, SmallPlaces, fault_small, at_start, at_position, few_small}

-- small places of checks in front, and of those behind them
front_small : (cs ds : List Check) → SmallPlaces cs → SmallPlaces ds → SmallPlaces (cs ++ ds)
front_small [] ds s t = t
front_small (c ∷ cs) ds s t = (s.0, λ e. front_small cs ds (s.1 e) t)

curve_small : (ts vs zs hs : List ℕ) → SmallPlaces (curve_checks full ts vs zs hs false)
curve_small ts vs zs hs = (
  at_start (uneven_samples ts vs || uneven_points zs hs || false),
  λ even. (
    at_start (ltb 1024 (length ts) || ltb 512 (length zs)),
    λ few. (
      at_start (eqb (length zs) 0),
      λ some_point.
          let f = or_false (ltb 1024 (length ts)) (ltb 512 (length zs)) (at_none 0 _ few) in
          let samples = ltb-false 1024 (length ts) f.0 in
          let points = ltb-false 512 (length zs) f.1 in
          let u = or_false (uneven_samples ts vs || uneven_points zs hs) false (at_none 0 _ even) in
          let p = differ_false (length zs) (length hs) (or_false (uneven_samples ts vs) (uneven_points zs hs) u.0).1 in (
            at_position (decreases ts) (length ts) (omega arith),
            λ ordered. (
              at_position (decreases zs) (length zs) (omega arith),
              λ points_ordered. (
                at_position (λ k. bad_bandwidth (get_or hs k 0)) (length hs) (omega arith),
                λ in_range. (at_position (edge_decreases zs hs) (length zs) (omega arith), λ forward. tt),
              ),
            ),
          ),
    ),
  ),
)

series_small : (us ws : List ℕ) → SmallPlaces (series_checks full us ws)
series_small us ws = (
  at_start (uneven_samples us ws),
  λ even. (
    at_start (ltb 1024 (length us)),
    λ few. (at_position (decreases us) (length us) (few_small 1024 (length us) few (omega arith)), λ ordered. tt),
  ),
)

second_small : (us ws : List ℕ) → SmallPlaces (second_checks full us ws)
second_small us ws = (by (first_of (series_checks full us ws)) refl, λ e. tt)
  where
    by : (o : Option Fault) → first_of (series_checks full us ws) ≡ o → place_or_0 (fault_place o) ≤ max_sheet
    by None q = zero-le
    by (Some e) q = fault_small (series_checks full us ws) (series_small us ws) e q

same_place : (ts us zs hs : List ℕ) (a : Answer (Option Parting)) → refusal_place (with_bounds ts us zs hs a) ≡ refusal_place a
same_place ts us zs hs (given (Some p)) = refl
same_place ts us zs hs (given None) = refl
same_place ts us zs hs (refused e) = refl

pub compare_place : (ts vs us ws zs hs : List ℕ) → refusal_place (compare_bounds full ts vs us ws zs hs) ≤ max_sheet
unfolding compare_bounds compare
compare_place ts vs us ws zs hs =
    rw (same_place ts us zs hs (unless (compare_refusal full ts vs us ws zs hs) (parted ts vs us ws zs hs)))
    (answer_small (compare_checks full ts vs us ws zs hs) (parted ts vs us ws zs hs)
    (front_small (curve_checks full ts vs zs hs false) (second_checks full us ws) (curve_small ts vs zs hs) (second_small us ws)))

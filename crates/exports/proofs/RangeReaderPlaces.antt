-- A sheet of either kind is refused at a place in it, at its end or at the limit.
use Prim.Native.Nat.{ℕ, ◌≤◌}
use mathlib.Core.Path.{◌≡◌, refl}
use mathlib.Core.Bool.{Bool, ◌||◌}
use mathlib.Core.List.{List}
use Rattle.std.specs.Prelude.{Option, None, Some}
use lib.ListN.{length}
use Rattle.meanings.specs.Limits.{full, max_sheet}
use Rattle.meanings.specs.Reports.{Fault, Answer, given, refused, first_of, differ}
use Rattle.meanings.specs.Sheet.{or_next}
use Rattle.meanings.specs.ranges.RangeSheet.{RangeContents, read_either}
use Rattle.meanings.specs.ranges.RangeCalls.{read_range_checks, read_ranges, range_counts}
use Rattle.laws.proofs.ranges.RangePlaces.{either_refusal_small}
use Rattle.exports.proofs.AnswersPlaces.{each_refusal_small, refusal_place, fault_small, at_start}

either_place : (s : List ℕ) → refusal_place (read_either full s) ≤ max_sheet
either_place s = each_refusal_small (read_either full s) (λ f e. (either_refusal_small full s f e).place_small)

pub ranges_place : (s ts ls us zs hs : List ℕ) → refusal_place (read_ranges full s ts ls us zs hs) ≤ max_sheet
unfolding read_ranges
ranges_place s ts ls us zs hs = by (first_of (read_range_checks full (length ts) (length ls) (length us) (length zs) (length hs))) refl
  where
    uneven : Bool
    uneven = differ (length ts) 1024 || differ (length ls) 1024 || differ (length us) 1024 || differ (length zs) 512 || differ (length hs) 512

    by : (f : Option Fault) → first_of (read_range_checks full (length ts) (length ls) (length us) (length zs) (length hs)) ≡ f
        → refusal_place (or_next f (read_either full s)) ≤ max_sheet
    by None q = either_place s
    by (Some e) q =
        fault_small (read_range_checks full (length ts) (length ls) (length us) (length zs) (length hs)) (at_start uneven, λ even. tt) e q

pub counts_place : (o : Answer RangeContents) → refusal_place o ≤ max_sheet → refusal_place (range_counts o) ≤ max_sheet
counts_place (given c) l = l
counts_place (refused e) l = l

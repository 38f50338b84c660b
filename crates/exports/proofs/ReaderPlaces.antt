-- A sheet is refused at a place in it, at its end or at the limit.
use Prim.Native.Nat.{ℕ, ◌≤◌}
use mathlib.Core.Path.{◌≡◌, refl}
use mathlib.Core.Bool.{Bool, ◌||◌}
use mathlib.Core.List.{List}
use Rattle.std.specs.Prelude.{Option, None, Some}
use lib.ListN.{length}
use Rattle.meanings.specs.Limits.{full, max_sheet}
use Rattle.meanings.specs.Reports.{Fault, given, refused, first_of, differ}
use Rattle.meanings.specs.Reports.{read_checks}
use Rattle.meanings.specs.Sheet.{Outcome, or_next, read_sheet}
use Rattle.meanings.specs.Calls.{counts, read}
use Rattle.laws.proofs.output.Refusals.{refusal_small}
use Rattle.exports.proofs.AnswersPlaces.{each_refusal_small, refusal_place, fault_small, at_start}

sheet_place : (s : List ℕ) → refusal_place (read_sheet full s) ≤ max_sheet
sheet_place s = each_refusal_small (read_sheet full s) (λ f e. (refusal_small full s f e).place_small)

pub read_place : (s ts vs zs hs : List ℕ) → refusal_place (read full s ts vs zs hs) ≤ max_sheet
unfolding read
read_place s ts vs zs hs = by (first_of (read_checks full (length ts) (length vs) (length zs) (length hs))) refl
  where
    uneven : Bool
    uneven = differ (length ts) 1024 || differ (length vs) 1024 || differ (length zs) 512 || differ (length hs) 512

    by : (f : Option Fault) → first_of (read_checks full (length ts) (length vs) (length zs) (length hs)) ≡ f
        → refusal_place (or_next f (read_sheet full s)) ≤ max_sheet
    by None q = sheet_place s
    by (Some e) q =
        fault_small (read_checks full (length ts) (length vs) (length zs) (length hs)) (at_start uneven, λ even. tt) e q

pub counts_place : (o : Outcome) → refusal_place o ≤ max_sheet → refusal_place (counts o) ≤ max_sheet
counts_place (given c) l = l
counts_place (refused e) l = l

-- The front stage by stage, and the call from it.
use Prim.Native.Nat.{ℕ, ◌≤◌, ◌<◌}
use mathlib.Core.Path.{◌≡◌, ◌∙◌}
use mathlib.Core.List.{List}
use borrow.Author.Tests.{lt-ltb, le-ltb}
use lib.ListN.{length}
use Rattle.meanings.specs.declared.Report.TheVariants.{TooLong, BadHeader}
use Rattle.meanings.specs.declared.Refusal.{Refusal}
use Rattle.std.specs.Prelude.{Result, Some, None, Err}
use Rattle.meanings.specs.Limits.{full, max_sheet}
use Rattle.meanings.specs.Bytes.{point_header}
use Rattle.meanings.specs.Reports.{given}
use Rattle.meanings.proofs.Checks.{differ_same}
use Rattle.meanings.specs.ranges.RangeSheet.{sheet_front}
use Rattle.sheet.specs.declared.front.points.Front.{Front as PointsEnd}
use Rattle.sheet.specs.FrontStages.{HeaderTried, front_read, PointsFound, FrontFound, front_call, FrontOutcome}
use Rattle.sheet.proofs.FrontLineSteps.{header_goes_on, header_stops}

pub too_long : {s zs hs : List ℕ} {r : Refusal} → max_sheet < length s → r ≡ (record { report = TooLong; place = max_sheet }) → FrontFound s (Err r) zs hs
unfolding sheet_front
too_long {s} l e = record { outcome = rw (lt-ltb max_sheet (length s) l, e); within = tt }

module _ {s : List ℕ} (short : length s ≤ max_sheet) where
  pub no_point_header : {zs hs : List ℕ} {r : Refusal} → HeaderTried point_header s 0 None → r ≡ (record { report = BadHeader; place = 0 })
      → FrontFound s (Err r) zs hs
  unfolding sheet_front
  no_point_header tried e = record { outcome = rw (le-ltb max_sheet (length s) short, e) (header_stops _ tried); within = tt }

  pub points_follow : {p : ℕ} {r : Result PointsEnd Refusal} {zs hs : List ℕ} → HeaderTried point_header s 0 (Some p) → PointsFound s p r zs hs
      → FrontFound s r zs hs
  unfolding sheet_front
  points_follow tried g = record { outcome = rw (le-ltb max_sheet (length s) short) (header_goes_on _ tried) ∙ g.outcome; within = g.within }

-- the call with lists of full length says what the front is, and its counts lie within their limits
module _ {s zs hs : List ℕ} {m n : ℕ} {r : Result PointsEnd Refusal} (call : FrontOutcome s m n r zs hs) (points : m ≡ 512) (bandwidths : n ≡ 512) where
  pub front_of_call : sheet_front full s given ≡ front_read r s zs hs
  unfolding front_call
  front_of_call = rw (differ_same m 512 points, differ_same n 512 bandwidths) at call.outcome

-- The two calls at one mark agree: the run is that of the row which the first gives, and empty where it refuses.
use Prim.Native.Nat.{ℕ, ◌-◌}
use mathlib.Core.Path.{◌≡◌, refl}
use Rattle.std.specs.Prelude.{Option, None, Some}
use mathlib.Core.List.{List, []}
use lib.ListN.{take, drop}
use Rattle.meanings.specs.declared.Limits.{Limits}
use Rattle.meanings.specs.declared.Estimate.{Estimate}
use Rattle.meanings.specs.Reports.{Fault, Answer, given, refused, unless, accepted_or}
use Rattle.meanings.specs.Estimate.{estimate, left_of, run_of}
use Rattle.meanings.specs.Calls.{evaluate, evaluate_refusal, window, window_start}

-- the part of the values that goes with an answer, and where it begins
abbrev pub part_of : List ℕ → Answer Estimate → List ℕ
part_of vs (given e) = take (e.right - e.left) (drop e.left vs)
part_of vs (refused f) = []

abbrev pub start_of : Answer Estimate → ℕ
start_of (given e) = e.left
start_of (refused f) = 0

pub calls_agree : (L : Limits) (ts vs : List ℕ) (z h : ℕ)
    → (window L ts vs z h ≡ part_of vs (evaluate L ts vs z h)) × (window_start L ts vs z h ≡ start_of (evaluate L ts vs z h))
unfolding evaluate window window_start estimate
calls_agree L ts vs z h = by (evaluate_refusal L ts vs h)
  where
    by : (f : Option Fault)
        → (accepted_or f (run_of ts vs z h) [] ≡ part_of vs (unless f (estimate ts vs z h)))
        × (accepted_or f (left_of ts z h) 0 ≡ start_of (unless f (estimate ts vs z h)))
    by None = (refl, refl)
    by (Some e) = (refl, refl)

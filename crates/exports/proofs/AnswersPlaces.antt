-- Every refusal's place is at most 32,768: positions lie in lists of at most 1,024, and a sheet's place in it, at its end or at the limit. Here what
-- any list of checks shares; each exported call has its own law.
use Prim.Native.Nat.{ℕ, ◌≤◌, zero-le}
use mathlib.Core.Path.{◌≡◌, refl, ap}
use mathlib.Core.Bool.{Bool, true, false}
use mathlib.Core.List.{List, [], ◌∷◌}
use Rattle.std.specs.Prelude.{Option, None, Some}
use native.Mathlib.Omega.{arith}
use borrow.Author.Tests.{ltb-true, ltb-false}
use lib.Dec.{ltb}
use Rattle.meanings.specs.Limits.{max_sheet}
use Rattle.meanings.specs.Lists.{pick, first, lowest}
use Rattle.meanings.specs.Reports.{Fault, Answer, given, refused, unless, Check, at, fault_or, first_of}
use Rattle.meanings.specs.Reports.{bad_bandwidth, bandwidth_checks}
use Rattle.meanings.proofs.Checks.{at_none}

-- a place, else 0
abbrev pub place_or_0 : Option ℕ → ℕ
place_or_0 None = 0
place_or_0 (Some p) = p

abbrev pub refusal_place : {A : Type 0} → Answer A → ℕ
refusal_place (given a) = 0
refusal_place (refused e) = e.place

abbrev place_of : Option Fault → ℕ
place_of None = 0
place_of (Some e) = e.place

-- each check whose turn comes has a small place
abbrev pub SmallPlaces : List Check → Type 0
SmallPlaces [] = Unit
SmallPlaces (c ∷ cs) = (place_or_0 c.place ≤ max_sheet) × (c.place ≡ None → SmallPlaces cs)

pub fault_small : (cs : List Check) → SmallPlaces cs → (e : Fault) → first_of cs ≡ Some e → e.place ≤ max_sheet
fault_small [] l e q = let z : ◌≡◌ {A = ℕ} 0 1 = cc in absurd (omega arith)
fault_small (c ∷ cs) l e q = by c.place refl q l.0 (λ r. fault_small cs (l.1 r) e)
  where
    by : (p : Option ℕ) → c.place ≡ p → fault_or c.number p (first_of cs) ≡ Some e → place_or_0 p ≤ max_sheet
        → (c.place ≡ None → first_of cs ≡ Some e → e.place ≤ max_sheet) → e.place ≤ max_sheet
    by None r q here later = later r q
    by (Some p) r q here later = let z : p ≡ e.place = ap place_of q in omega arith

pub answer_small : {A : Type 0} (cs : List Check) (a : A) → SmallPlaces cs → refusal_place (unless (first_of cs) a) ≤ max_sheet
answer_small cs a l = by (first_of cs) refl
  where
    by : (f : Option Fault) → first_of cs ≡ f → refusal_place (unless f a) ≤ max_sheet
    by None q = zero-le
    by (Some e) q = fault_small cs l e q

pub at_start : (b : Bool) → place_or_0 (at 0 b) ≤ max_sheet
at_start true = zero-le
at_start false = zero-le

pub at_position : (p : ℕ → Bool) (size : ℕ) → size ≤ max_sheet → place_or_0 (lowest p size) ≤ max_sheet
at_position p size l = by (ltb (first p 0 size) size) refl
  where
    by : (b : Bool) → ltb (first p 0 size) size ≡ b → place_or_0 (pick b (Some (first p 0 size)) None) ≤ max_sheet
    by true e = let f = ltb-true (first p 0 size) size e in omega arith
    by false e = zero-le

pub bandwidth_small : (h : ℕ) → SmallPlaces (bandwidth_checks h)
bandwidth_small h = (at_start (bad_bandwidth h), λ range. tt)

pub few_small : (n m : ℕ) → at 0 (ltb n m) ≡ None → n ≤ max_sheet → m ≤ max_sheet
few_small n m e l = let f = ltb-false n m (at_none 0 (ltb n m) e) in omega arith

-- a refusal that a call has told
pub refusal_place_at_most : {A : Type 0} (a : Answer A) (e : Fault) → refused e ≡ a → refusal_place a ≤ max_sheet → e.place ≤ max_sheet
refusal_place_at_most a e q l = let z : e.place ≡ refusal_place a = ap refusal_place q in omega arith

-- an answer all of whose refusals have small places
pub each_refusal_small : {A : Type 0} (a : Answer A) → ((e : Fault) → a ≡ refused e → e.place ≤ max_sheet) → refusal_place a ≤ max_sheet
each_refusal_small (given b) l = zero-le
each_refusal_small (refused e) l = l e refl

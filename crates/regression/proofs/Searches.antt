-- The searches by a least minute are the meaning's searches: over the right edge is at least z + h + 1, and not under the left edge is at
-- least z − h, or 0 where that is negative.
use Prim.Native.Nat.{ℕ, ◌+◌, ◌-◌, ◌≤◌}
use mathlib.Core.Path.{◌≡◌, refl, ap, ◌∙◌, fun_ext}
use mathlib.Core.Bool.{Bool, true, false}
use mathlib.Core.List.{List}
use native.Mathlib.Numerals.{add-one}
use native.Mathlib.Omega.{arith}
use borrow.Author.Tests.{leb-true, leb-false, le-leb, lt-leb}
use lib.Dec.{leb}
use lib.ListN.{length, get_or}
use Rattle.meanings.specs.Lists.{first, Ordered}
use Rattle.meanings.specs.Running.{new_right, new_left}
use Rattle.meanings.proofs.Checks.{AdvanceAccepted}
use Rattle.meanings.proofs.Search.{first_is_first}
use Rattle.arithmetic.specs.Positions.{FirstAtLeast}
use Rattle.arithmetic.proofs.Edges.{stands_at_right, stands_at_left}
use Rattle.regression.specs.Rows.{Within, RunWithin, FoundFrom, IsSpan}

not_under : (z h t : ℕ) → leb (z - h) t ≡ leb z (t + h)
not_under z h t = by (leb z (t + h)) refl
  where
    by : (b : Bool) → leb z (t + h) ≡ b → leb (z - h) t ≡ b
    by true e = le-leb (z - h) t (let l = leb-true z (t + h) e in omega arith)
    by false e = lt-leb (z - h) t (let l = leb-false z (t + h) e in omega arith)

-- whatever is searched for, what is found lies where the search went
found_within : {ts : List ℕ} {a b m r : ℕ} → FoundFrom ts a b m r → a ≤ b → (a ≤ r) × (r ≤ b)
found_within {ts} {a} {b} {m} f l = let w = first_is_first (λ i. leb m (get_or ts i 0)) a (b - a) in omega (arith, f.found, w.from, w.upto)

pub run_within : {ts vs : List ℕ} {a b : ℕ} → length ts ≡ length vs → a ≤ b → b ≤ length ts → RunWithin ts vs a b
run_within e l m = record { minutes = record { ordered = l; inside = m }; values = record { ordered = l; inside = omega arith } }

module _ {ts : List ℕ} (z h : ℕ) where
  pub right_is_new : {a r : ℕ} → FoundFrom ts a (length ts) (z + h + 1) r → r ≡ new_right ts a z h
  right_is_new {a} f = f.found ∙ ap (λ (m : ℕ). first (λ i. leb m (get_or ts i 0)) a (length ts - a)) (add-one (z + h))

  pub left_is_new : {a r low l : ℕ} → low ≡ z - h → FoundFrom ts a r low l → l ≡ new_left ts a r z h
  left_is_new {a} {r} e f =
      f.found
      ∙ ap (λ (m : ℕ). first (λ i. leb m (get_or ts i 0)) a (r - a)) e
      ∙ ap (λ (p : ℕ → Bool). first p a (r - a)) (fun_ext (λ i. not_under z h (get_or ts i 0)))

-- among ordered minutes the library's search finds the row's edges
pub span_found : {ts : List ℕ} {z h right low left : ℕ} → Ordered ts → FirstAtLeast ts (z + h + 1) right → low ≡ z - h → FirstAtLeast ts low left
    → IsSpan ts z h (record { left = left; right = right })
span_found {ts} {z} {h} o f e g = record { left_is = stands_at_left z h o e g; right_is = stands_at_right z h o f }

-- a step's runs lie within the readings, whatever record came in
module _ {ts vs : List ℕ} {l₀ r₀ h m right : ℕ} (a : AdvanceAccepted ts vs l₀ r₀ h) (f : FoundFrom ts r₀ (length ts) m right) where
  inserted : (r₀ ≤ right) × (right ≤ length ts)
  inserted = found_within f a.inside

  pub left_starts_within : Within ts l₀ right
  left_starts_within = record { ordered = omega (arith, inserted, a.edges); inside = inserted.1 }

  pub inserted_within : RunWithin ts vs r₀ right
  inserted_within = run_within a.even inserted.0 inserted.1

  pub evicted_within : {low left : ℕ} → FoundFrom ts l₀ right low left → RunWithin ts vs l₀ left
  evicted_within g =
      let e = found_within g left_starts_within.ordered in
      run_within a.even e.0 (omega (arith, e, inserted))

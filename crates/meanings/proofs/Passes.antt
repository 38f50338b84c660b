-- Neither edge of a record within its readings ever falls, whether a step is accepted or refused and minutes are ordered or not. So the
-- positions that a list of steps passes are its last edges less its first ones: from fresh each edge passes a reading at most once.
use Prim.Native.Nat.{ℕ, ◌+◌, ◌-◌, ◌*◌, ◌≤◌}
use mathlib.Core.Path.{◌≡◌, refl}
use mathlib.Core.Bool.{Bool}
use mathlib.Core.List.{List, [], ◌∷◌, ◌++◌}
use Rattle.std.specs.Prelude.{Option, None, Some}
use native.Mathlib.Nat.{le_refl}
use native.Mathlib.Omega.{arith}
use lib.ListN.{length}
use Rattle.meanings.specs.declared.RunningSums.{RunningSums}
use Rattle.meanings.specs.Limits.{full}
use Rattle.meanings.specs.Moves.{Move}
use Rattle.meanings.specs.Reports.{Fault, unless, first_of, advance_checks}
use Rattle.meanings.specs.Running.{new_right, moved_to, moved, advance, next_record, after_step, after, fresh, passes}
use Rattle.meanings.proofs.Search.{IsFirst, first_is_first}

-- no foreign record: left ≤ right ≤ readings
pub record Within (ts : List ℕ) (r : RunningSums) : Type 0 where
  pub edges : r.left ≤ r.right
  pub inside : r.right ≤ length ts

-- a later record of the same readings: no edge below that of the earlier one
pub record Onward (ts : List ℕ) (r r' : RunningSums) : Type 0 where
  pub left_stays_or_rises : r.left ≤ r'.left
  pub right_stays_or_rises : r.right ≤ r'.right
  pub within : Within ts r'

pub fresh_within : (ts : List ℕ) → Within ts fresh
fresh_within ts = omega arith

pub moved_onward : (ts vs : List ℕ) (r : RunningSums) (z h : ℕ) → Within ts r → Onward ts r (moved ts vs r z h)
unfolding moved
moved_onward ts vs r z h w = onward (new_right ts r.right z h) _ (first_is_first _ _ _) (first_is_first _ _ _)
  where
    onward : {p q : ℕ → Bool} (r' l' : ℕ) → IsFirst p r.right (length ts - r.right) r' → IsFirst q r.left (r' - r.left) l'
        → Onward ts r (moved_to ts vs r l' r')
    onward r' l' a b = record {
      left_stays_or_rises = b.from;
      right_stays_or_rises = a.from;
      within = record { edges = omega arith; inside = omega arith };
    }

module _ (ts vs : List ℕ) where
  pub step_onward : (r : RunningSums) (m : Move) → Within ts r → Onward ts r (after_step ts vs r m)
  unfolding advance
  step_onward r m w = by (first_of (advance_checks full ts vs r.left r.right m.bandwidth))
    where
      by : (f : Option Fault) → Onward ts r (next_record r (unless f (moved ts vs r m.point m.bandwidth)))
      by None = moved_onward ts vs r m.point m.bandwidth w
      by (Some e) = record { left_stays_or_rises = le_refl _; right_stays_or_rises = le_refl _; within = w }

  pub after_onward : (r : RunningSums) (ms : List Move) → Within ts r → Onward ts r (after ts vs r ms)
  after_onward r [] w = record { left_stays_or_rises = le_refl _; right_stays_or_rises = le_refl _; within = w }
  after_onward r (m ∷ ms) w =
      let a = step_onward r m w in
      let b = after_onward (after_step ts vs r m) ms a.within in
      omega arith

  pub passes_are_edges_moved : (r : RunningSums) (ms : List Move) → Within ts r
      → passes ts vs r ms ≡ ((after ts vs r ms).right - r.right) + ((after ts vs r ms).left - r.left)
  passes_are_edges_moved r [] w = omega arith
  passes_are_edges_moved r (m ∷ ms) w =
      let a = step_onward r m w in
      let b = after_onward (after_step ts vs r m) ms a.within in
      let e = passes_are_edges_moved (after_step ts vs r m) ms a.within in
      omega arith

  -- passes are last right plus last left
  pub passes_are_last_edges : (ms : List Move) → passes ts vs fresh ms ≡ (after ts vs fresh ms).right + (after ts vs fresh ms).left
  passes_are_last_edges ms = omega (arith, passes_are_edges_moved fresh ms (fresh_within ts))

  pub passes_at_most_twice : (ms : List Move) → passes ts vs fresh ms ≤ 2 * length ts
  passes_at_most_twice ms =
      let e = passes_are_last_edges ms in
      let w = (after_onward fresh ms (fresh_within ts)).within in
      omega arith

  -- a list of steps after another
  pub after_append : (r : RunningSums) (ms ns : List Move) → after ts vs r (ms ++ ns) ≡ after ts vs (after ts vs r ms) ns
  after_append r [] ns = refl
  after_append r (m ∷ ms) ns = after_append (after_step ts vs r m) ms ns

  -- so the edges of a list of steps from fresh are not below those of any front of it
  pub later_onward : (ms ns : List Move) → Onward ts (after ts vs fresh ms) (after ts vs fresh (ms ++ ns))
  later_onward ms ns = rw (after_append fresh ms ns) (after_onward (after ts vs fresh ms) ns (after_onward fresh ms (fresh_within ts)).within)

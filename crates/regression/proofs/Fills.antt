-- A list whose first k numbers are the first k marks, and the mark behind them.
use Prim.Native.Nat.{ℕ, ◌+◌, ◌-◌, ◌*◌, ◌≤◌, ◌<◌}
use mathlib.Core.Path.{◌≡◌, sym, ap, ◌∙◌}
use mathlib.Core.List.{List, [], ◌∷◌, ◌++◌}
use native.Mathlib.Nat.{mul-le-mul_right}
use native.Mathlib.Numerals.{add-one}
use native.Mathlib.Omega.{arith}
use lib.ListN.{length, take, set}
use Rattle.std.proofs.Common.{take_all, take-suc-set}
use Rattle.meanings.specs.Limits.{max_u16}
use Rattle.meanings.specs.Grid.{grid}

-- mark k is at most the last mark
pub point_fits : (z d n k : ℕ) → k < n → z + (n - 1) * d ≤ max_u16 → z + k * d ≤ max_u16
point_fits z d n k l m =
    let u : k ≤ n - 1 = omega arith in
    omega (arith, mul-le-mul_right {m = k} {n = n - 1} d u, m)

pub points_go_on : (z d : ℕ) (P : List ℕ) (k : ℕ) → k < length P → take k P ≡ grid z d k → take (k + 1) (set P k (z + k * d)) ≡ grid z d (k + 1)
points_go_on z d P k l e = rw (add-one k) (take-suc-set P k (z + k * d) l ∙ ap (λ (Q : List ℕ). Q ++ (z + k * d) ∷ []) e)

pub points_end : (z d : ℕ) (P : List ℕ) (n k : ℕ) → length P ≡ n → k ≤ n → n ≤ k → take k P ≡ grid z d k → P ≡ grid z d n
points_end z d P n k s l m e = let q : n ≡ k = omega arith in sym (take_all k P (omega arith)) ∙ rw q e

-- A wrong program of another shape than the code, shut out on a concrete input: what it leaves is not what is said of windows.
use Prim.Native.Nat.{ℕ}
use mathlib.Core.List.{List, [], ◌∷◌}
use native.Mathlib.Omega.{arith}
use Rattle.meanings.specs.declared.boxes.Window.{Window}
use Rattle.boxes.specs.Windows.{WindowsTried}

abbrev unset : List Window
unset = record { first = 0; end = 0 } ∷ []

-- one that leaves a mark's window as it was: mark 5 with half width 2, of which the cuts are 260 and 265
pub no_window_as_it_was : ¬ WindowsTried (5 ∷ []) (2 ∷ []) 257 (260 ∷ 265 ∷ []) unset unset
no_window_as_it_was w =
    let p = w.put (record { even = omega arith; windows = omega arith }) in
    let b = (p.first 0 (omega arith)).behind (omega arith) in
    omega (arith, b)

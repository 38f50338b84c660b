-- Wrong answers of single tests, each shut out on a concrete input.
use Prim.Native.Nat.{ℕ}
use mathlib.Core.Path.{◌≡◌, ap}
use mathlib.Core.Bool.{Bool, false}
use native.Mathlib.Omega.{arith}
use Rattle.meanings.specs.Lists.{pick}
use Rattle.meanings.specs.Reports.{uneven_rows}

-- one number held to fit three marks of no numbers each
pub no_rows_without_width : ¬ (uneven_rows 0 1 3 ≡ false)
no_rows_without_width e = let n : ◌≡◌ {A = ℕ} 1 0 = ap (λ (b : Bool). pick b 1 0) e in omega arith

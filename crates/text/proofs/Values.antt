-- A value's text is a dash or a number.
use Prim.Native.Nat.{ℕ, ◌≤◌}
use mathlib.Core.Path.{◌≡◌}
use mathlib.Core.Bool.{Bool, true, false}
use mathlib.Core.List.{List, [], ◌∷◌}
use borrow.Author.Tests.{eq-eqb, ne_eqb}
use lib.Dec.{eqb}
use lib.ListN.{length}
use Rattle.meanings.specs.Bytes.{dash}
use Rattle.meanings.specs.Lists.{pick}
use Rattle.meanings.specs.Estimate.{missing}
use Rattle.meanings.specs.Output.{decimal, value_text}
use Rattle.text.specs.Written.{Stored}
use Rattle.text.proofs.Digits.{digit_fits}

-- a value has a byte at least
pub dash_fits : (out : List ℕ) (v : ℕ) → length (value_text v) ≤ length out → 1 ≤ length out
dash_fits out v fits = by (eqb v missing) fits
  where
    by : (b : Bool) → length (pick b (dash ∷ []) (decimal v)) ≤ length out → 1 ≤ length out
    by true l = l
    by false l = digit_fits out v l

-- a missing value
pub dash_stored : (out : List ℕ) (v : ℕ) → v ≡ missing → (now : List ℕ) (r : ℕ) → Stored out (dash ∷ []) now r → Stored out (value_text v) now r
dash_stored out v none now r s = rw (eq-eqb v missing none) s

-- any other
module _ (out : List ℕ) (v : ℕ) (some : ¬ (v ≡ missing)) where
  a_value : value_text v ≡ decimal v
  a_value = rw (ne_eqb v missing some)

  pub value_fits : length (value_text v) ≤ length out → length (decimal v) ≤ length out
  value_fits fits = rw a_value at fits

  pub value_stored : (now : List ℕ) (r : ℕ) → Stored out (decimal v) now r → Stored out (value_text v) now r
  value_stored now r s = rw a_value s

-- The search for the lowest decrease: no position below i has one, so the first that is found is the lowest.
use Prim.Native.Nat.{ℕ, ◌-◌, ◌≤◌, ◌<◌}
use mathlib.Core.Path.{◌≡◌, sym, ◌∙◌}
use mathlib.Core.List.{List}
use Rattle.std.specs.Prelude.{None, Some}
use native.Mathlib.Omega.{arith}
use borrow.Author.Tests.{lt-ltb}
use lib.ListN.{length, get_or}
use Rattle.meanings.specs.Lists.{lowest}
use Rattle.meanings.specs.Reports.{decreases}
use Rattle.meanings.proofs.Checks.{decreases_at}
use Rattle.meanings.proofs.Search.{NoneBelow, lowest_at, none_lowest}

pub record OrderedTo (xs : List ℕ) (i : ℕ) : Type 0 where
  pub positive : 1 ≤ i
  pub none_below : NoneBelow (decreases xs) i

module _ {xs : List ℕ} {i : ℕ} (o : OrderedTo xs i) where
  pub decrease_found : i < length xs → get_or xs i 0 < get_or xs (i - 1) 0 → Some i ≡ lowest (decreases xs) (length xs)
  decrease_found l t = sym (lowest_at (decreases xs) (length xs) i l (decreases_at xs i o.positive ∙ lt-ltb _ _ t) o.none_below)

  pub no_decrease : length xs ≤ i → None ≡ lowest (decreases xs) (length xs)
  no_decrease l = sym (none_lowest (decreases xs) (length xs) (λ j m. o.none_below j (omega arith)))

-- The search for the lowest half width out of range: none below i is, so the first that is found is the lowest.
use Prim.Native.Nat.{ℕ, ◌≤◌, ◌<◌}
use mathlib.Core.Path.{◌≡◌, sym, ◌∙◌}
use mathlib.Core.Bool.{Bool, true}
use mathlib.Core.List.{List}
use Rattle.std.specs.Prelude.{None, Some}
use native.Mathlib.Omega.{arith}
use lib.ListN.{length, get_or}
use Rattle.meanings.specs.Lists.{lowest}
use Rattle.meanings.specs.Reports.{outside, outside_at}
use Rattle.meanings.proofs.Search.{NoneBelow, lowest_at, none_lowest}

-- a search for the lowest position goes on at i: the test fails at every one below
pub record NoneBadBelow (most : ℕ) (hs : List ℕ) (i : ℕ) : Type 0 where
  pub none_below : NoneBelow (outside_at most hs) i

module _ {most : ℕ} {hs : List ℕ} {i : ℕ} (n : NoneBadBelow most hs i) where
  pub bad_found : {b : Bool} → i < length hs → b ≡ outside most (get_or hs i 0) → b ≡ true
      → Some i ≡ lowest (outside_at most hs) (length hs)
  bad_found l e t = sym (lowest_at (outside_at most hs) (length hs) i l (sym e ∙ t) n.none_below)

  pub none_bad : length hs ≤ i → None ≡ lowest (outside_at most hs) (length hs)
  none_bad l = sym (none_lowest (outside_at most hs) (length hs) (λ j m. n.none_below j (omega arith)))

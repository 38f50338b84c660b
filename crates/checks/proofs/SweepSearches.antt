-- The search for the lowest edge that falls: none below i does, so the first that is found is the lowest.
use Prim.Native.Nat.{ℕ, ◌+◌, ◌-◌, ◌≤◌, ◌<◌}
use mathlib.Core.Path.{◌≡◌, sym, ◌∙◌}
use mathlib.Core.Bool.{Bool, true, false}
use mathlib.Core.List.{List}
use Rattle.std.specs.Prelude.{None, Some}
use native.Mathlib.Omega.{arith}
use lib.ListN.{length, get_or}
use Rattle.meanings.specs.Lists.{lowest}
use Rattle.meanings.specs.Reports.{edge_below, edge_decreases}
use Rattle.meanings.proofs.Checks.{edge_decreases_at}
use Rattle.meanings.proofs.Search.{NoneBelow, one_more_below, lowest_at, none_lowest}

-- a search for the lowest position goes on at i: the test fails at every one below
pub record NoneBackBelow (zs hs : List ℕ) (i : ℕ) : Type 0 where
  pub even : length zs ≡ length hs
  pub positive : 1 ≤ i
  pub none_below : NoneBelow (edge_decreases zs hs) i

pub none_back_yet : {zs hs : List ℕ} → length zs ≡ length hs → NoneBackBelow zs hs 1
none_back_yet e = record { even = e; positive = omega arith; none_below = λ j l. let z : j ≡ 0 = omega arith in rw z }

module _ {zs hs : List ℕ} {i : ℕ} (n : NoneBackBelow zs hs i) where
  module _ {b : Bool} (e : b ≡ edge_below (get_or zs i 0) (get_or hs i 0) (get_or zs (i - 1) 0) (get_or hs (i - 1) 0)) where
    pub edge_back_found : i < length zs → b ≡ true → Some i ≡ lowest (edge_decreases zs hs) (length zs)
    edge_back_found l t = sym (lowest_at (edge_decreases zs hs) (length zs) i l (edge_decreases_at zs hs i n.positive ∙ sym e ∙ t) n.none_below)

    pub none_back_goes_on : b ≡ false → NoneBackBelow zs hs (i + 1)
    none_back_goes_on t = record {
      even = n.even;
      positive = omega arith;
      none_below = one_more_below (edge_decreases zs hs) i n.none_below (edge_decreases_at zs hs i n.positive ∙ sym e ∙ t);
    }

  pub none_back : length zs ≤ i → None ≡ lowest (edge_decreases zs hs) (length zs)
  none_back l = sym (none_lowest (edge_decreases zs hs) (length zs) (λ j m. n.none_below j (omega arith)))

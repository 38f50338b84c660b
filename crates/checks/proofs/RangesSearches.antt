-- The search for the lowest crossed range: none below i is crossed, so the first that is found is the lowest.
use Prim.Native.Nat.{ℕ, ◌+◌, ◌≤◌, ◌<◌}
use mathlib.Core.Path.{◌≡◌, sym}
use mathlib.Core.List.{List}
use Rattle.std.specs.Prelude.{None, Some}
use native.Mathlib.Omega.{arith}
use borrow.Author.Tests.{lt-ltb, le-ltb}
use lib.ListN.{length, get_or}
use Rattle.meanings.specs.Lists.{lowest}
use Rattle.meanings.proofs.Search.{NoneBelow, one_more_below, lowest_at, none_lowest}
use Rattle.meanings.specs.ranges.Ranges.{crossed}

-- no range below i is crossed
pub record NoneCrossedBelow (ls us : List ℕ) (i : ℕ) : Type 0 where
  pub even : length ls ≡ length us
  pub none_below : NoneBelow (crossed ls us) i

pub none_crossed_yet : {ls us : List ℕ} → length ls ≡ length us → NoneCrossedBelow ls us 0
none_crossed_yet e = record { even = e; none_below = λ j l. absurd (omega arith) }

module _ {ls us : List ℕ} {i : ℕ} (n : NoneCrossedBelow ls us i) where
  pub crossed_found : i < length ls → get_or us i 0 < get_or ls i 0 → Some i ≡ lowest (crossed ls us) (length ls)
  crossed_found l x = sym (lowest_at (crossed ls us) (length ls) i l (lt-ltb _ _ x) n.none_below)

  pub none_crossed_goes_on : get_or ls i 0 ≤ get_or us i 0 → NoneCrossedBelow ls us (i + 1)
  none_crossed_goes_on x = record { even = n.even; none_below = one_more_below (crossed ls us) i n.none_below (le-ltb _ _ x) }

  pub none_crossed : length ls ≤ i → None ≡ lowest (crossed ls us) (length ls)
  none_crossed l = sym (none_lowest (crossed ls us) (length ls) (λ j m. n.none_below j (omega arith)))

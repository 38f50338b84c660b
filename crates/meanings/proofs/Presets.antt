-- The table of bandwidth presets rises and lies in 1 to 65,536: one test computed over the whole table, and a law that turns it into the
-- rule at each position.
use Prim.Native.Nat.{ℕ, zero, suc, ◌≤◌, ◌<◌}
use mathlib.Core.Path.{◌≡◌, refl}
use mathlib.Core.Bool.{Bool, true, false, ◌&&◌, false≢true}
use mathlib.Core.List.{List, [], ◌∷◌}
use native.Mathlib.Nat.{not-suc-le-zero, le_of_suc-le-suc}
use native.Mathlib.Omega.{arith}
use borrow.Author.Tests.{ltb-true, leb-true}
use lib.Dec.{ltb, leb}
use lib.ListN.{length, get_or}
use Rattle.meanings.specs.Lists.{Rising}
use Rattle.meanings.specs.Limits.{max_bandwidth}
use Rattle.meanings.specs.Grid.{presets}

-- the test
abbrev rises : ℕ → ℕ → List ℕ → Bool
rises low high [] = true
rises low high (x ∷ xs) = (ltb low x && leb x high) && rises x high xs

both : (a b : Bool) → (a && b) ≡ true → (a ≡ true) × (b ≡ true)
both true b e = (refl, e)
both false b e = absurd (false≢true e)

-- one more element in front
rising_front : (low high x : ℕ) (xs : List ℕ) → low < x → x ≤ high → Rising x high xs → Rising low high (x ∷ xs)
rising_front low high x xs a b r = record { above = above; below = below; steps = steps }
  where
    above : (i : ℕ) → i < suc (length xs) → low < get_or (x ∷ xs) i 0
    above zero l = a
    above (suc i) l = let m = r.above i (le_of_suc-le-suc l) in omega arith

    below : (i : ℕ) → i < suc (length xs) → get_or (x ∷ xs) i 0 ≤ high
    below zero l = b
    below (suc i) l = r.below i (le_of_suc-le-suc l)

    steps : (i : ℕ) → suc i < suc (length xs) → get_or (x ∷ xs) i 0 < get_or xs i 0
    steps zero l = r.above 0 (le_of_suc-le-suc l)
    steps (suc i) l = r.steps i (le_of_suc-le-suc l)

rising : (low high : ℕ) (xs : List ℕ) → rises low high xs ≡ true → Rising low high xs
rising low high [] e = record {
  above = λ i l. absurd (not-suc-le-zero l);
  below = λ i l. absurd (not-suc-le-zero l);
  steps = λ i l. absurd (not-suc-le-zero l);
}
rising low high (x ∷ xs) e =
    let t = both (ltb low x && leb x high) (rises x high xs) e in
    let h = both (ltb low x) (leb x high) t.0 in
    rising_front low high x xs (ltb-true low x h.0) (leb-true x high h.1) (rising x high xs t.1)

pub presets_rise : Rising 0 max_bandwidth presets
presets_rise = rising 0 max_bandwidth presets refl

pub twelve_presets : length presets ≡ 12
twelve_presets = refl

-- What the functions that count cuts ask and say. ds are the cuts.
use Rattle.std.specs.Prelude.{ℕ, ◌+◌, ◌*◌, ◌≤◌, ◌<◌, ◌≡◌, List, length, get_or}
use Rattle.meanings.specs.boxes.Boxes.{strip}
use Rattle.boxes.specs.Cuts.{Ranked}

-- the first s of them lie at or below x, the others above it
pub record Split (ds : List ℕ) (x s : ℕ) : Type 0 where
  pub few : s ≤ length ds
  pub below : (k : ℕ) → k < s → get_or ds k 0 ≤ x
  pub above : (k : ℕ) → s ≤ k → k < length ds → x < get_or ds k 0

-- a is an eighth of s, without the rest
pub record Eighths (ds : List ℕ) (x a : ℕ) : Type 0 where
  pub few : 8 * a ≤ length ds
  pub least : (s : ℕ) → Split ds x s → 8 * a ≤ s
  pub most : (s : ℕ) → Split ds x s → s < 8 * a + 8

-- r is what s is behind p
pub record Block (ds : List ℕ) (p x r : ℕ) : Type 0 where
  pub few : p + r ≤ length ds
  pub is : (s : ℕ) → Split ds x s → p ≤ s → s < p + 8 → p + r ≡ s

-- by ranked cuts r is the strip of x
pub record StripFound (ds : List ℕ) (x r : ℕ) : Type 0 where
  pub few : r ≤ length ds
  pub is : (cs : List ℕ) → Ranked cs ds (length ds) → r ≡ strip cs x

-- of up to 64 cuts r is that strip, of more 0
pub record StripOrZero (ds : List ℕ) (x r : ℕ) : Type 0 where
  pub found : length ds ≤ 64 → StripFound ds x r
  pub many : 64 < length ds → r ≡ 0

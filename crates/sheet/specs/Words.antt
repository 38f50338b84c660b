-- What the functions over words say: bytes as one number, the bytes of a number, and where a byte stands first among them.
use Rattle.std.specs.Prelude.{◌≡◌, ℕ, ◌+◌, ◌*◌, ◌/◌, ◌%◌, ◌^◌, ◌<◌, List, length, nat_le, slice_index, Option, Some, None}
use Rattle.std.specs.Int.Count.{count_trailing_zeros}
use Rattle.meanings.specs.Lists.{pick, total}

-- n bytes as one number, the first lowest: byte k counts 256 to the k
unfoldable pub word : (ℕ → ℕ) → ℕ → ℕ
word d n = total (λ k. d k * 256 ^ k) 0 n

-- byte k of a number, the lowest first
unfoldable pub byte : ℕ → ℕ → ℕ
byte w k = w / 256 ^ k % 256

-- the eight bytes of a list from byte p on, as one number; none where fewer are left
unfoldable pub word_at : List ℕ → ℕ → Option ℕ
word_at s p = pick (nat_le (p + 8) (length s)) (Some (word (λ k. slice_index s (p + k)) 8)) None

-- byte j is the first of the n bytes that is b
pub record FirstByte (b : ℕ) (d : ℕ → ℕ) (n j : ℕ) : Type 0 where
  pub within : j < n
  pub is_it : d j ≡ b
  pub none_before : (k : ℕ) → k < j → ¬ (d k ≡ b)

-- what the bits r tell of n bytes: none is b exactly if r is 0, and otherwise r's lowest set bit stands in the first that is. The bits above it are free
pub record Marks (b : ℕ) (d : ℕ → ℕ) (n r : ℕ) : Type 0 where
  pub unmarked : r ≡ 0 → (k : ℕ) → k < n → ¬ (d k ≡ b)
  pub marked : ¬ (r ≡ 0) → FirstByte b d n (count_trailing_zeros (8 * n) r / 8)

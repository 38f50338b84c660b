-- Eight bytes as one word: those that a list has from a byte on, if it has as many.
use Rattle.std.proofs.Common.{◌≡◌, ℕ, ◌+◌, ◌-◌, ◌<◌, ◌≤◌, List, [], ◌∷◌, length, get_or, ap, arith, add-zero, le-leb, Some, None}
use Rattle.std.specs.Int.{w64, from_le_bytes}
use borrow.Author.Tests.{lt-leb}
use Rattle.sheet.specs.Words.{word, word_at}

pub fewer_follow : (s : List ℕ) (at : ℕ) → length s - 7 ≤ at → None ≡ word_at s at
unfolding word_at
fewer_follow s at l = rw (lt-leb (at + 8) (length s) (omega arith))

pub eight_follow : (s : List ℕ) (at r : ℕ) → at < length s - 7
    → r ≡ from_le_bytes w64 (get_or s at 0 ∷ get_or s (at + 1) 0 ∷ get_or s (at + 2) 0 ∷ get_or s (at + 3) 0 ∷ get_or s (at + 4) 0 ∷ get_or s (at + 5) 0
    ∷ get_or s (at + 6) 0 ∷ get_or s (at + 7) 0 ∷ []) → Some r ≡ word_at s at
unfolding word word_at
eight_follow s at r l e = rw (le-leb (at + 8) (length s) (omega arith), add-zero at) (ap (λ (n : ℕ). Some n) (omega (arith, e)))

-- A wrong search, shut out on one word: a byte 11 behind a line feed is marked too, so the highest mark is not the first line feed.
use Rattle.std.proofs.Common.{◌≡◌, ℕ, ◌-◌, ◌/◌, refl, arith}
use lib.Count.{count_leading_zeros}
use Rattle.meanings.specs.Bytes.{line_feed}
use Rattle.sheet.specs.Words.{byte, FirstByte, Marks}
use Rattle.sheet.proofs.Marking.{marks_feeds}

-- the bytes 10, 11 and six times 0: 0 less 1 wraps, so both are marked
both_marked : Marks line_feed (byte 2826) 8 32896
both_marked = marks_feeds 2826 651061555542687743 (omega arith) refl

second_is_eleven : byte 2826 1 ≡ 11
unfolding byte
second_is_eleven = refl

pub no_highest_mark : ¬ ((r : ℕ) → Marks line_feed (byte 2826) 8 r → FirstByte line_feed (byte 2826) 8 ((63 - count_leading_zeros 64 r) / 8))
unfolding count_leading_zeros
no_highest_mark f = let second : byte 2826 1 ≡ 10 = (f 32896 both_marked).is_it in omega (arith, second_is_eleven)

-- The bits that mark a byte, for any byte b and any number n of bytes. x has 0 exactly where a byte is b. From the low end, x less a one in each
-- byte does not borrow as long as each byte of x is above 0, and there the high bit is not set both in it and in the complement of x. At the
-- first 0 it borrows and becomes 255, as the complement is: the high bit is set in both. What follows above need not be looked at.
use Rattle.std.proofs.Common.{◌≡◌, ℕ, zero, suc, ◌+◌, ◌-◌, ◌*◌, ◌/◌, ◌%◌, ◌^◌, ◌<◌, Bool, true, false, eqb, sym, refl, ap, ◌∙◌, add-zero, mul_assoc}
use Rattle.std.proofs.Common.{pow-suc, mul-one, arith, eqb-true}
use lib.Bits.{bit_and, bit_xor, xor_block, xor_lt, xor_self, xor_add_and}
use lib.Bits.{and_le_l, and_le_r, and_comm, and_zero_r, and_shifted, and_shr, and_mod, shifted_half, shifted_even}
use lib.Pow.{split, high, low}
use borrow.Author.Tests.{eqb-false}
use lib.Count.{count_trailing_zeros, under}
use Rattle.meanings.specs.Bytes.{line_feed}
use Rattle.sheet.specs.Words.{word, byte, FirstByte, Marks}
use Rattle.sheet.proofs.Bytes.{Bytes, word_none, word_step, word_of_bytes, byte_small}

-- k zeros more below
trailing_shifted : (k t u n : ℕ) → u ≡ k + t → count_trailing_zeros u (n * 2 ^ k) ≡ k + count_trailing_zeros t n
unfolding count_trailing_zeros
trailing_shifted zero t u n e = let h : u ≡ t = omega arith in rw (h, mul-one n) (omega arith)
trailing_shifted (suc k) t zero n e = absurd (omega arith)
trailing_shifted (suc k) t (suc u) n e =
    ap (λ (d : ℕ). under d (count_trailing_zeros u (n * 2 ^ suc k / 2))) (shifted_even n k) ∙ ap (λ (r : ℕ). suc (count_trailing_zeros u r)) (shifted_half n k)
    ∙ omega (arith, trailing_shifted k t u n (omega arith))

trailing_odd : (t n : ℕ) → count_trailing_zeros (suc t) (n * 2 + 1) ≡ 0
unfolding count_trailing_zeros
trailing_odd t n = let h : (n * 2 + 1) % 2 ≡ 1 = omega arith in rw h

trailing_hit : (m r : ℕ) → count_trailing_zeros (8 * suc m) (r * 256 + 128) ≡ 7
trailing_hit m r =
    let v : r * 256 + 128 ≡ (r * 2 + 1) * 2 ^ 7 = omega arith in
    rw v (omega (arith, trailing_shifted 7 (suc (8 * m)) (8 * suc m) (r * 2 + 1) (omega arith), trailing_odd (8 * m) r))

trailing_miss : (m r : ℕ) → count_trailing_zeros (8 * suc m) (r * 256) ≡ 8 + count_trailing_zeros (8 * m) r
trailing_miss m r = trailing_shifted 8 (8 * m) (8 * suc m) r (omega arith)

-- the lowest byte is b, and so the first
marks_here : (b : ℕ) (d : ℕ → ℕ) (m r : ℕ) → d 0 ≡ b → Marks b d (suc m) (r * 256 + 128)
marks_here b d m r h =
    let first : FirstByte b d (suc m) 0 = record { within = omega arith; is_it = h; none_before = λ k l. absurd (omega arith) } in
    record { unmarked = λ z. absurd (omega arith); marked = λ z. rw (trailing_hit m r) first }

-- the lowest byte is not b, so the bits above it tell
marks_above : (b : ℕ) (d : ℕ → ℕ) (m r : ℕ) → ¬ (d 0 ≡ b) → Marks b (λ k. d (suc k)) m r → Marks b d (suc m) (r * 256)
marks_above b d m r n above = record {
  unmarked = λ z k l. none (above.unmarked (omega arith)) k l;
  marked = λ z. rw (trailing_miss m r) (later (above.marked (λ e. z (omega arith))));
}
  where
    none : ((k : ℕ) → k < m → ¬ (d (suc k) ≡ b)) → (k : ℕ) → k < suc m → ¬ (d k ≡ b)
    none h zero l = n
    none h (suc k) l = h k (omega arith)

    later : FirstByte b (λ k. d (suc k)) m (count_trailing_zeros (8 * m) r / 8) → FirstByte b d (suc m) ((8 + count_trailing_zeros (8 * m) r) / 8)
    later f = let e : (8 + count_trailing_zeros (8 * m) r) / 8 ≡ suc (count_trailing_zeros (8 * m) r / 8) = omega arith in
        rw e (record { within = omega arith; is_it = f.is_it; none_before = before f.none_before })
      where
        before : {j : ℕ} → ((k : ℕ) → k < j → ¬ (d (suc k) ≡ b)) → (k : ℕ) → k < suc j → ¬ (d k ≡ b)
        before h zero l = n
        before h (suc k) l = h k (omega arith)

same_byte : (a b : ℕ) → bit_xor a b ≡ 0 → a ≡ b
same_byte a b e = omega (arith, xor_add_and a b, and_le_l a b, and_le_r a b)

-- the lowest byte of x less one, and of the complement, and what is left above them; s is 256 to the number of bytes above
record Parts (p q x s o t x0 : ℕ) : Type 0 where
  pub complement : q / 256 + x + 1 ≡ s
  pub complement_low : q % 256 + x0 + 1 ≡ 256
  pub borrows : x0 ≡ 0 → p % 256 ≡ 255
  pub one_less : ¬ (x0 ≡ 0) → p % 256 + 1 ≡ x0
  pub no_borrow : ¬ (x0 ≡ 0) → p / 256 + o ≡ x + t

parts : (p q x s o t x0 : ℕ) → x0 < 256 → p + (o * 256 + 1) ≡ x * 256 + x0 + t * 256 → q + (x * 256 + x0) + 1 ≡ s * 256 → Parts p q x s o t x0
parts p q x s o t x0 l e f = record {
  complement = omega arith;
  complement_low = omega arith;
  borrows = λ z. omega arith;
  one_less = λ z. omega arith;
  no_borrow = λ z. omega arith;
}

-- a high bit is not set in both of two bytes that are together below 256
no_high_bit : (a b : ℕ) → a + b < 256 → bit_and (bit_and a b) 128 ≡ 0
no_high_bit a b l = and_comm (bit_and a b) 128 ∙ and_shifted 1 7 (bit_and a b) (omega (arith, and_le_l a b, and_le_r a b))

and_parts : (p q h : ℕ) → bit_and (bit_and p q) (h * 256 + 128) ≡ bit_and (bit_and (p / 256) (q / 256)) h * 256 + bit_and (bit_and (p % 256) (q % 256)) 128
and_parts p q h =
    sym (split (bit_and (bit_and p q) (h * 256 + 128)) 8)
    ∙ rw (and_shr (bit_and p q) (h * 256 + 128) 8, and_shr p q 8, high h 8 {lo = 128} (omega arith))
    (rw (and_mod (bit_and p q) (h * 256 + 128) 8, and_mod p q 8, low h 8 {lo = 128} (omega arith)))

-- one byte more, below those that are known
marks_more : (b : ℕ) (d : ℕ → ℕ) (m p q x o h s t : ℕ) → bit_xor (d 0) b < 256
    → p + (o * 256 + 1) ≡ x * 256 + bit_xor (d 0) b + t * 256 → q + (x * 256 + bit_xor (d 0) b) + 1 ≡ s * 256
    → ((u v : ℕ) → u + o ≡ x + t → v + x + 1 ≡ s → Marks b (λ k. d (suc k)) m (bit_and (bit_and u v) h))
    → Marks b d (suc m) (bit_and (bit_and p q) (h * 256 + 128))
marks_more b d m p q x o h s t l f g above = rw (and_parts p q h) (by (eqb (bit_xor (d 0) b) 0) refl)
  where
    low_parts : Parts p q x s o t (bit_xor (d 0) b)
    low_parts = parts p q x s o t (bit_xor (d 0) b) l f g

    by : (z : Bool) → eqb (bit_xor (d 0) b) 0 ≡ z
        → Marks b d (suc m) (bit_and (bit_and (p / 256) (q / 256)) h * 256 + bit_and (bit_and (p % 256) (q % 256)) 128)
    by true z =
        let e = eqb-true (bit_xor (d 0) b) 0 z in
        let u : p % 256 ≡ 255 = low_parts.borrows e in
        let v : q % 256 ≡ 255 = omega (arith, low_parts.complement_low) in
        rw (u, v) (marks_here b d m (bit_and (bit_and (p / 256) (q / 256)) h) (same_byte (d 0) b e))
    by false z =
        let n = eqb-false (bit_xor (d 0) b) 0 z in
        let none : bit_and (bit_and (p % 256) (q % 256)) 128 ≡ 0 =
        no_high_bit (p % 256) (q % 256) (omega (arith, low_parts.complement_low, low_parts.one_less n)) in
        rw (none, add-zero)
        (marks_above b d m (bit_and (bit_and (p / 256) (q / 256)) h) (λ e. n (rw e (xor_self b)))
        (above (p / 256) (q / 256) (low_parts.no_borrow n) low_parts.complement))

pub marks_first : (b : ℕ) → b < 256 → (n : ℕ) (d : ℕ → ℕ) → Bytes d n → (p q e : ℕ)
    → p + word (λ k. 1) n ≡ bit_xor (word d n) (word (λ k. b) n) + e * 256 ^ n → q + bit_xor (word d n) (word (λ k. b) n) + 1 ≡ 256 ^ n
    → Marks b d n (bit_and (bit_and p q) (word (λ k. 128) n))
marks_first b small zero d bytes p q e f g =
    let h : bit_and (bit_and p q) (word (λ k. 128) 0) ≡ 0 = rw (word_none (λ k. 128)) (and_zero_r (bit_and p q)) in
    record { unmarked = λ z k l. absurd (omega arith); marked = λ z. absurd (z h) }
marks_first b small (suc m) d bytes p q e f g =
    let w = word (λ k. d (suc k)) m in
    let bs = word (λ k. b) m in
    let x : bit_xor (word d (suc m)) (word (λ k. b) (suc m)) ≡ bit_xor w bs * 256 + bit_xor (d 0) b =
    rw (word_step d m, word_step (λ k. b) m) (xor_block 8 w bs (d 0) b (bytes 0 (omega arith)) small) in
    let t : e * 256 ^ suc m ≡ e * 256 ^ m * 256 = rw (pow-suc 256 m) (sym (mul_assoc e (256 ^ m) 256)) in
    rw (word_step (λ k. 128) m)
    (marks_more b d m p q (bit_xor w bs) (word (λ k. 1) m) (word (λ k. 128) m) (256 ^ m) (e * 256 ^ m) (xor_lt 8 (d 0) b (bytes 0 (omega arith)) small)
    (omega (arith, x, t, word_step (λ k. 1) m)) (omega (arith, x, pow-suc 256 m))
    (λ u v. marks_first b small m (λ k. d (suc k)) (λ k l. bytes (suc k) (omega arith)) u v e))

eight_ones : word (λ k. 1) 8 ≡ 72340172838076673
unfolding word
eight_ones = refl

eight_feeds : word (λ k. line_feed) 8 ≡ 723401728380766730
unfolding word
eight_feeds = refl

eight_high_bits : word (λ k. 128) 8 ≡ 9259542123273814144
unfolding word
eight_high_bits = refl

-- eight bytes and the line feed: p is x less a one in each byte, modulo 2 ^ 64
pub marks_feeds : (w p : ℕ) → w < 18446744073709551616 → (p + 72340172838076673) % 18446744073709551616 ≡ bit_xor w 723401728380766730
    → Marks line_feed (byte w) 8 (bit_and (bit_and p (18446744073709551615 - bit_xor w 723401728380766730)) 9259542123273814144)
marks_feeds w p l e =
    let x : bit_xor (word (byte w) 8) (word (λ k. line_feed) 8) ≡ bit_xor w 723401728380766730 = rw (word_of_bytes 8 w l, eight_feeds) in
    let within = xor_lt 64 w 723401728380766730 l (omega arith) in
    rw (← eight_high_bits)
    (marks_first line_feed (omega arith) 8 (byte w) (λ k m. byte_small w k) p (18446744073709551615 - bit_xor w 723401728380766730)
    ((p + 72340172838076673) / 18446744073709551616) (rw (x, eight_ones) (omega arith)) (rw x (omega arith)))

-- the same of the difference that the code makes, which wraps
pub marks_feed_bits : (w : ℕ) → w < 18446744073709551616
    → Marks line_feed (byte w) 8 (bit_and (bit_and ((bit_xor w 723401728380766730 + 18374403900871474943) % 18446744073709551616)
    (18446744073709551615 - bit_xor w 723401728380766730)) 9259542123273814144)
marks_feed_bits w l =
    let within = xor_lt 64 w 723401728380766730 l (omega arith) in
    marks_feeds w ((bit_xor w 723401728380766730 + 18374403900871474943) % 18446744073709551616) l (omega arith)

-- The search for a line feed by words of eight bytes: a word without one is passed whole, and in a word with one the first is the one sought.
use Prim.Native.Nat.{ℕ, zero, suc, ◌+◌, ◌-◌, ◌/◌, ◌≤◌, ◌<◌}
use mathlib.Core.Path.{◌≡◌, refl, sym, ◌∙◌}
use mathlib.Core.Bool.{Bool, true, false, not, cond}
use mathlib.Core.List.{List}
use Rattle.std.specs.Prelude.{Option, None, Some, position}
use Rattle.std.specs.List.{position_or_len, slice_range}
use Rattle.std.proofs.Common.{take_all}
use native.Mathlib.Omega.{arith}
use native.Mathlib.Nat.{add-zero}
use borrow.Author.Tests.{leb-true, ltb-true, ltb-false, lt-ltb, le-ltb}
use lib.Count.{count_trailing_zeros}
use lib.Dec.{leb, ltb, eqb}
use lib.ListN.{length, get_or, drop, length-drop, drop_of_length-le}
use lib.Seq.{drop-cons}
use Rattle.meanings.specs.Lists.{pick, first}
use Rattle.meanings.specs.Bytes.{line_feed}
use Rattle.sheet.specs.Words.{word, byte, word_at, Marks}
use Rattle.sheet.proofs.Bytes.{byte_of_word}
use Rattle.sheet.specs.Lines.{feed_within, feed_from}
use Rattle.sheet.proofs.LineEnds.{no_feed_here, feed_here, no_feed_behind}

no_feed_up_to : (s : List ℕ) (p m : ℕ) → p + m ≤ length s → ((k : ℕ) → k < m → ¬ (get_or s (p + k) 0 ≡ line_feed)) → feed_from s p ≡ feed_from s (p + m)
no_feed_up_to s p zero l n = rw (add-zero p)
no_feed_up_to s p (suc m) l n =
    let e : p + m + 1 ≡ p + suc m = omega arith in
    rw (← e) (no_feed_here s p (p + m) (no_feed_up_to s p m (omega arith) (λ k h. n k (omega arith))) (omega arith) (n m (omega arith)))

-- a search for a line feed that began at byte `from` has come to byte p; s is a list of bytes
pub record SearchedTo (s : List ℕ) (from p : ℕ) : Type 0 where
  pub bytes : (i : ℕ) → get_or s i 0 < 256
  pub still : feed_from s from ≡ feed_from s p

pub search_begins : {s : List ℕ} (from : ℕ) → ((i : ℕ) → get_or s i 0 < 256) → SearchedTo s from from
search_begins from b = record { bytes = b; still = refl }

-- eight bytes follow there, as word_at tells them
record Eight (s : List ℕ) (p w : ℕ) : Type 0 where
  pub within : p + 8 ≤ length s
  pub value : w ≡ word (λ k. get_or s (p + k) 0) 8

eight : (s : List ℕ) (p w : ℕ) → Some w ≡ word_at s p → Eight s p w
unfolding word_at
eight s p w e = by (leb (p + 8) (length s)) refl e
  where
    by : (b : Bool) → leb (p + 8) (length s) ≡ b → Some w ≡ pick b (Some (word (λ k. get_or s (p + k) 0) 8)) None → Eight s p w
    by true h e = record { within = leb-true (p + 8) (length s) h; value = cc }
    by false h e = let z : ◌≡◌ {A = ℕ} 0 1 = cc in absurd (omega arith)

module _ (s : List ℕ) (p : ℕ) {w : ℕ} (word-given : Some w ≡ word_at s p) where
  eight_given : Eight s p w
  eight_given = eight s p w word-given

  pub word_within : p + 8 ≤ length s
  word_within = eight_given.within

  pub step_shortens : length s - (p + 8) < length s - p
  step_shortens = omega (arith, word_within)

  bytes_of_word : ((i : ℕ) → get_or s i 0 < 256) → (k : ℕ) → k < 8 → byte w k ≡ get_or s (p + k) 0
  bytes_of_word b k l = rw eight_given.value (byte_of_word 8 (λ k. get_or s (p + k) 0) (λ k m. b (p + k)) k l)

-- the search has come to these eight bytes, and their bits are those that feed_bits tells
module _ (s : List ℕ) (from p : ℕ) {w bits : ℕ} (searched : SearchedTo s from p) (word-given : Some w ≡ word_at s p)
    (marks : Marks line_feed (byte w) 8 bits) where
  pub hit_within : ¬ (bits ≡ 0) → p + count_trailing_zeros 64 bits / 8 < length s
  hit_within n = let f = marks.marked n in omega (arith, word_within s p word-given)

  pub feed_in_word : ¬ (bits ≡ 0) → Some (p + count_trailing_zeros 64 bits / 8) ≡ feed_from s from
  feed_in_word n =
      let f = marks.marked n in
      let same = bytes_of_word s p word-given searched.bytes in
      feed_here s from (p + count_trailing_zeros 64 bits / 8)
      (searched.still ∙ no_feed_up_to s p (count_trailing_zeros 64 bits / 8) (omega (arith, word_within s p word-given))
      (λ k l e. f.none_before k l (same k (omega arith) ∙ e)))
      (hit_within n) (sym (same (count_trailing_zeros 64 bits / 8) f.within) ∙ f.is_it)

  pub no_feed_in_word : bits ≡ 0 → SearchedTo s from (p + 8)
  no_feed_in_word z =
      let same = bytes_of_word s p word-given searched.bytes in
      record {
        bytes = searched.bytes;
        still = searched.still ∙ no_feed_up_to s p 8 (word_within s p word-given) (λ k l e. marks.unmarked z k l (same k l ∙ e));
      }

-- the first line feed of a list, as `position` tells it
place_found : (d : List ℕ) (k : ℕ) → Some k ≡ position (λ b. eqb b line_feed) d → (k ≡ position_or_len (λ b. eqb b line_feed) d) × (k < length d)
place_found d k e = by (ltb (position_or_len (λ b. eqb b line_feed) d) (length d)) refl e
  where
    by : (b : Bool) → ltb (position_or_len (λ b. eqb b line_feed) d) (length d) ≡ b
        → Some k ≡ cond b (Some (position_or_len (λ b. eqb b line_feed) d)) None → (k ≡ position_or_len (λ b. eqb b line_feed) d) × (k < length d)
    by true h e = let q : k ≡ position_or_len (λ b. eqb b line_feed) d = cc in (q, omega (arith, q, ltb-true _ (length d) h))
    by false h e = let z : ◌≡◌ {A = ℕ} 0 1 = cc in absurd (omega arith)

no_place : (d : List ℕ) → None ≡ position (λ b. eqb b line_feed) d → length d ≤ position_or_len (λ b. eqb b line_feed) d
no_place d e = by (ltb (position_or_len (λ b. eqb b line_feed) d) (length d)) refl e
  where
    by : (b : Bool) → ltb (position_or_len (λ b. eqb b line_feed) d) (length d) ≡ b
        → None ≡ cond b (Some (position_or_len (λ b. eqb b line_feed) d)) None → length d ≤ position_or_len (λ b. eqb b line_feed) d
    by true h e = let z : ◌≡◌ {A = ℕ} 0 1 = cc in absurd (omega arith)
    by false h e = ltb-false _ (length d) h

first_in_rest : (s : List ℕ) (n i : ℕ) → i + n ≡ length s
    → first (λ k. eqb (get_or s k 0) line_feed) i n ≡ i + position_or_len (λ b. eqb b line_feed) (drop i s)
first_in_rest s zero i e = rw (drop_of_length-le s {i = i} (omega arith)) (omega arith)
first_in_rest s (suc n) i e = rw (drop-cons s i 0 (omega arith)) (by (eqb (get_or s i 0) line_feed) refl (first_in_rest s n (suc i) (omega arith)))
  where
    by : (b : Bool) → eqb (get_or s i 0) line_feed ≡ b
        → first (λ k. eqb (get_or s k 0) line_feed) (suc i) n ≡ suc i + position_or_len (λ b. eqb b line_feed) (drop (suc i) s)
        → pick b i (first (λ k. eqb (get_or s k 0) line_feed) (suc i) n) ≡ i + cond (not b) (1 + position_or_len (λ b. eqb b line_feed) (drop (suc i) s)) 0
    by true h k = omega arith
    by false h k = omega (arith, k)

-- fewer than eight bytes are left: the first line feed among them is the one sought
module _ (s : List ℕ) (from p : ℕ) (searched : SearchedTo s from p) where
  pub no_feed_behind_end : {o : Option ℕ} → o ≡ None → length s < p → o ≡ feed_from s from
  no_feed_behind_end e l = e ∙ no_feed_behind s from p searched.still (omega arith)

  module _ {rest : List ℕ} (rest-is : rest ≡ slice_range s p (length s)) (long : length rest + p ≡ length s) where
    rest_dropped : rest ≡ drop p s
    rest_dropped = rest-is ∙ take_all (length s - p) (drop p s) (simp length-drop (omega arith))

    rest_long : length (drop p s) + p ≡ length s
    rest_long = rw rest_dropped at long

    still_here : feed_from s from ≡ feed_within s (p + position_or_len (λ b. eqb b line_feed) (drop p s))
    unfolding feed_from
    still_here = searched.still ∙ rw (first_in_rest s (length s - p) p (omega arith))

    pub no_feed_in_rest : {o : Option ℕ} → o ≡ None → None ≡ position (λ b. eqb b line_feed) rest → o ≡ feed_from s from
    no_feed_in_rest e h =
        let l = no_place (drop p s) (rw rest_dropped at h) in
        e ∙ sym (still_here ∙ rw (le-ltb (p + position_or_len (λ b. eqb b line_feed) (drop p s)) (length s) (omega (arith, l, rest_long))))

    pub feed_in_rest : {k : ℕ} → Some k ≡ position (λ b. eqb b line_feed) rest → Some (p + k) ≡ feed_from s from
    feed_in_rest {k} h =
        let o = place_found (drop p s) k (rw rest_dropped at h) in
        sym (still_here ∙ rw (← o.0, lt-ltb (p + k) (length s) (omega (arith, o.1, rest_long))))

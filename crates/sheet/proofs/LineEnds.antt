-- The line at a byte, along the bytes: it is the line at the next byte until a line feed is met, or a carriage return directly before one,
-- which ends it, and at the sheet's end there is none. So the first line feed and the byte before it decide, and what has been found is the
-- first of the lines from there on.
use Prim.Native.Nat.{ℕ, zero, suc, ◌+◌, ◌-◌, ◌≤◌, ◌<◌}
use mathlib.Core.Path.{◌≡◌, refl, sym, ap, ◌∙◌}
use mathlib.Core.Logic.{◌⊎◌, inl, inr}
use mathlib.Core.Bool.{Bool, true, false}
use mathlib.Core.List.{List, [], ◌∷◌, ◌++◌}
use Rattle.std.specs.Prelude.{Option, None, Some}
use native.Mathlib.Nat.{eq-or-lt_of_le}
use native.Mathlib.Omega.{arith}
use native.Mathlib.Numerals.{add-one}
use borrow.Author.Tests.{eqb-true, eq-eqb, ne_eqb, ltb-true, lt-ltb, le-ltb}
use lib.Dec.{ltb, eqb}
use lib.ListN.{length, get_or, take, drop, length-append, length-drop, drop_of_length-le}
use lib.Seq.{drop-cons, take_at, drop_at, drop-drop, drop-append-add}
use Rattle.meanings.specs.Lists.{pick, first}
use Rattle.meanings.specs.Bytes.{line_feed, carriage_return, LineEnding, feed, return_feed, ending_bytes}
use Rattle.meanings.specs.Sheet.{Lines, end, unended, line, with_text_byte, lines, next_place}
use Rattle.meanings.proofs.Search.{IsFirst, first_is_first}
use Rattle.laws.proofs.text.Texts.{ending_some, FirstByte, is_feed, is_return, is_text, first_byte, first_line}
use Rattle.sheet.specs.declared.lines.Line.{Line}
use Rattle.sheet.specs.Lines.{first_end, line_at, feed_within, feed_from, text_before}

-- a search for a line feed that began at byte `from` has come to byte p
module _ (s : List ℕ) (from p : ℕ) (still : feed_from s from ≡ feed_from s p) where
  pub no_feed_here : p < length s → ¬ (get_or s p 0 ≡ line_feed) → feed_from s from ≡ feed_from s (p + 1)
  unfolding feed_from
  no_feed_here l n =
      let e : length s - p ≡ suc (length s - suc p) = omega arith in still ∙ rw (add-one p, e, ne_eqb (get_or s p 0) line_feed n)

  pub feed_here : p < length s → get_or s p 0 ≡ line_feed → Some p ≡ feed_from s from
  unfolding feed_from
  feed_here l h =
      let e : length s - p ≡ suc (length s - suc p) = omega arith in
      sym (still ∙ rw (e, eq-eqb (get_or s p 0) line_feed h, lt-ltb p (length s) l))

  pub no_feed_behind : length s ≤ p → None ≡ feed_from s from
  unfolding feed_from
  no_feed_behind l = let e : length s - p ≡ 0 = omega arith in sym (still ∙ rw (e, le-ltb p (length s) l))

-- a line feed that is found stands within the sheet
found_within : (s : List ℕ) (k m : ℕ) → Some k ≡ feed_within s m → (k ≡ m) × (m < length s)
found_within s k m e = by (ltb m (length s)) refl e
  where
    by : (b : Bool) → ltb m (length s) ≡ b → Some k ≡ pick b (Some m) None → (k ≡ m) × (m < length s)
    by true h e = (cc, ltb-true m (length s) h)
    by false h e = let z : ◌≡◌ {A = ℕ} 0 1 = cc in absurd (omega arith)

pub feed_inside : (s : List ℕ) (from k : ℕ) → Some k ≡ feed_from s from → k < length s
unfolding feed_from
feed_inside s from k e = let o = found_within s k _ e in omega (arith, o.0, o.1)

-- the text of a line from byte p to the line feed at byte k
module _ (s : List ℕ) (p k : ℕ) where
  pub text_to_feed : k ≤ p → k ≡ text_before s p k
  unfolding text_before
  text_to_feed l = rw (le-ltb p k l)

  pub text_to_return : p < k → get_or s (k - 1) 0 ≡ carriage_return → k - 1 ≡ text_before s p k
  unfolding text_before
  text_to_return l e = rw (lt-ltb p k l, eq-eqb (get_or s (k - 1) 0) carriage_return e)

  pub text_without_return : p < k → ¬ (get_or s (k - 1) 0 ≡ carriage_return) → k ≡ text_before s p k
  unfolding text_before
  text_without_return l n = rw (lt-ltb p k l, ne_eqb (get_or s (k - 1) 0) carriage_return n)

-- and of one whose line feed stands behind its first byte
module _ (s : List ℕ) (p : ℕ) where
  text_to_first_byte : get_or s p 0 ≡ carriage_return → p ≡ text_before s p (suc p)
  text_to_first_byte e =
      let d : suc p - 1 ≡ p = omega arith in
      rw d at (text_to_return s p (suc p) (omega arith) (rw d e))

  text_of_first_byte : ¬ (get_or s p 0 ≡ carriage_return) → suc p ≡ text_before s p (suc p)
  text_of_first_byte n =
      let d : suc p - 1 ≡ p = omega arith in
      text_without_return s p (suc p) (omega arith) (rw d n)

-- a line whose first line feed stands at byte k, if that is within the sheet
abbrev line_to : List ℕ → ℕ → ℕ → Option Line
line_to s p k = pick (ltb k (length s)) (Some (record { end = text_before s p k; next = k + 1 })) None

byte_in_front : (p b : ℕ) (ls : Lines) → first_end p (with_text_byte b ls) ≡ first_end (suc p) ls
byte_in_front p b end = refl
byte_in_front p b (unended t) = refl
byte_in_front p b (line t e ls) = ap (λ (n : ℕ). Some (record { end = n; next = n + length (ending_bytes e) })) (omega arith)

pub no_line_at_end : (s : List ℕ) (p : ℕ) → length s ≤ p → line_at s p ≡ None
unfolding line_at
no_line_at_end s p l = rw (drop_of_length-le s l)

module _ (s : List ℕ) (p : ℕ) (l : p < length s) where
  feed_ends_line : get_or s p 0 ≡ line_feed → lines (drop p s) ≡ line [] feed (lines (drop (suc p) s))
  feed_ends_line h = rw (drop-cons s p 0 l, eq-eqb (get_or s p 0) line_feed h)

  line_ends_here : lines (get_or s p 0 ∷ drop (suc p) s) ≡ line [] feed (lines (drop (suc p) s))
      → line_at s p ≡ Some (record { end = p; next = p + 1 })
  unfolding line_at
  line_ends_here g = rw (drop-cons s p 0 l, g) (ap (λ (n : ℕ). Some (record { end = n; next = n + 1 })) (omega arith))

  line_ends_with_return : (ls : Lines) → lines (get_or s p 0 ∷ drop (suc p) s) ≡ line [] return_feed ls
      → line_at s p ≡ Some (record { end = p; next = suc p + 1 })
  unfolding line_at
  line_ends_with_return ls g =
      rw (drop-cons s p 0 l, g)
      (ap (λ (n : ℕ). Some (record { end = n; next = n + 2 })) (omega arith)
      ∙ ap (λ (n : ℕ). Some (record { end = p; next = n })) (omega arith))

  line_goes_on : lines (get_or s p 0 ∷ drop (suc p) s) ≡ with_text_byte (get_or s p 0) (lines (drop (suc p) s)) → line_at s p ≡ line_at s (suc p)
  unfolding line_at
  line_goes_on g = rw (drop-cons s p 0 l, g) (byte_in_front p (get_or s p 0) (lines (drop (suc p) s)))

-- bytes whose first line is empty begin with the line feed that ends it
module _ (s : List ℕ) (p : ℕ) (ls : Lines) (g : lines (drop p s) ≡ line [] feed ls) where
  empty_line_within : p < length s
  empty_line_within =
      let o = first_line (drop p s) [] feed ls g in
      let long : length s - p ≡ suc (length o.0) = sym (length-drop p s) ∙ ap length o.1.0 in
      omega arith

  empty_line_feed : get_or s p 0 ≡ line_feed
  empty_line_feed =
      let o = first_line (drop p s) [] feed ls g in
      let q = sym (drop-cons s p 0 empty_line_within) ∙ o.1.0 in
      ap (λ (t : List ℕ). get_or t 0 0) q

first_at_once : (f : ℕ → Bool) (i n : ℕ) → f i ≡ true → first f i n ≡ i
first_at_once f i zero e = refl
first_at_once f i (suc n) e = rw e

-- a byte of the text in front does not move the text's end
text_end_stays : (s : List ℕ) (p k : ℕ) → suc p < k → text_before s (suc p) k ≡ text_before s p k
unfolding text_before
text_end_stays s p k l = rw (lt-ltb (suc p) k l, lt-ltb p k (omega arith))

text_end_after : (s : List ℕ) (p k : ℕ) → suc p ≤ k → (k ≡ suc p → ¬ (get_or s p 0 ≡ carriage_return)) → text_before s (suc p) k ≡ text_before s p k
text_end_after s p k l n = by (eq-or-lt_of_le l)
  where
    by : (suc p ≡ k) ⊎ (suc p < k) → text_before s (suc p) k ≡ text_before s p k
    by (inl e) = rw (← e) (sym (text_to_feed s (suc p) (suc p) (omega arith)) ∙ text_of_first_byte s p (n (sym e)))
    by (inr m) = text_end_stays s p k m

line_to_first : (s : List ℕ) (n p : ℕ) → length s - p ≡ n → line_at s p ≡ line_to s p (first (λ k. eqb (get_or s k 0) line_feed) p n)
line_to_first s zero p e = no_line_at_end s p (omega arith) ∙ rw (le-ltb p (length s) (omega arith))
line_to_first s (suc n) p e = by (first_byte (get_or s p 0) (drop (suc p) s)) (line_to_first s n (suc p) (omega arith))
  where
    by : FirstByte (get_or s p 0) (drop (suc p) s) → line_at s (suc p) ≡ line_to s (suc p) (first (λ k. eqb (get_or s k 0) line_feed) (suc p) n)
        → line_at s p ≡ line_to s p (pick (eqb (get_or s p 0) line_feed) p (first (λ k. eqb (get_or s k 0) line_feed) (suc p) n))
    by (is_feed h g) k =
        line_ends_here s p (omega arith) g
        ∙ rw (eq-eqb (get_or s p 0) line_feed h, lt-ltb p (length s) (omega arith), ← text_to_feed s p p (omega arith))
    by (is_return h ls m g) k =
        let f = empty_line_feed s (suc p) ls m in
        let l : suc p < length s = empty_line_within s (suc p) ls m in
        line_ends_with_return s p (omega arith) ls g
        ∙ rw (
          ne_eqb (get_or s p 0) line_feed (λ d. omega arith),
          first_at_once (λ k. eqb (get_or s k 0) line_feed) (suc p) n (eq-eqb (get_or s (suc p) 0) line_feed f),
          lt-ltb (suc p) (length s) l,
          ← text_to_first_byte s p h,
        )
    by (is_text h g w) k =
        line_goes_on s p (omega arith) g ∙ k ∙ rw h (stays (first (λ k. eqb (get_or s k 0) line_feed) (suc p) n) (first_is_first _ (suc p) n))
      where
        stays : (k : ℕ) → IsFirst (λ k. eqb (get_or s k 0) line_feed) (suc p) n k → line_to s (suc p) k ≡ line_to s p k
        stays k i = within (ltb k (length s)) refl
          where
            within : (b : Bool) → ltb k (length s) ≡ b → line_to s (suc p) k ≡ line_to s p k
            within false q = rw q
            within true q =
                let l = ltb-true k (length s) q in
                let a = i.from in
                let h = eqb-true (get_or s k 0) line_feed (i.there (omega arith)) in
                rw (text_end_after s p k a (λ j c. w c (lines (drop (suc (suc p)) s)) (feed_ends_line s (suc p) (omega arith) (rw j at h))))

-- a line whose first line feed is told
abbrev line_from : List ℕ → ℕ → Option ℕ → Option Line
line_from s p None = None
line_from s p (Some k) = Some (record { end = text_before s p k; next = k + 1 })

-- the line at byte p, if a line feed follows: its text ends at that line feed or at a carriage return directly before it, and the next line
-- begins behind the line feed
line_to_feed : (s : List ℕ) (p : ℕ) → line_at s p ≡ line_from s p (feed_from s p)
unfolding feed_from
line_to_feed s p = line_to_first s (length s - p) p refl ∙ by (ltb (first (λ k. eqb (get_or s k 0) line_feed) p (length s - p)) (length s))
  where
    by : (b : Bool)
        → pick b
        (Some
        (record {
          end = text_before s p (first (λ k. eqb (get_or s k 0) line_feed) p (length s - p));
          next = first (λ k. eqb (get_or s k 0) line_feed) p (length s - p) + 1;
        }))
        None
        ≡ line_from s p (pick b (Some (first (λ k. eqb (get_or s k 0) line_feed) p (length s - p))) None)
    by true = refl
    by false = refl

pub line_ended : (s : List ℕ) (from : ℕ) {k e : ℕ} → Some k ≡ feed_from s from → e ≡ text_before s from k
    → Some (record { end = e; next = k + 1 }) ≡ line_at s from
line_ended s from found t = sym (line_to_feed s from ∙ rw (← found, ← t))

pub line_unended : (s : List ℕ) (from : ℕ) → None ≡ feed_from s from → None ≡ line_at s from
line_unended s from e = sym (line_to_feed s from ∙ rw (← e))

-- the line at byte p has its text from p up to e, and the lines from byte n on follow its ending
pub record LineFound (s : List ℕ) (p e n : ℕ) : Type 0 where
  pub begins : p ≤ e
  pub follows : e < n
  pub within : n ≤ length s
  pub text_ends : p + length (take (e - p) (drop p s)) ≡ e
  pub ending : LineEnding
  pub passes : next_place p (take (e - p) (drop p s)) ending ≡ n
  pub first_of_lines : lines (drop p s) ≡ line (take (e - p) (drop p s)) ending (lines (drop n s))

line_found : (s : List ℕ) (p e n : ℕ) → line_at s p ≡ Some (record { end = e; next = n }) → LineFound s p e n
unfolding line_at
line_found s p e n h = by (lines (drop p s)) refl h
  where
    by : (ls : Lines) → lines (drop p s) ≡ ls → first_end p ls ≡ Some (record { end = e; next = n }) → LineFound s p e n
    by end g h = let z : ◌≡◌ {A = ℕ} 0 1 = cc in absurd (omega arith)
    by (unended t) g h = let z : ◌≡◌ {A = ℕ} 0 1 = cc in absurd (omega arith)
    by (line t d ls) g h =
        let o = first_line (drop p s) t d ls g in
        let r = o.0 in
        let q : ◌≡◌ {A = Line} (record { end = p + length t; next = next_place p t d }) (record { end = e; next = n }) = cc in
        let at_end : p + length t ≡ e = ap (λ (x : Line). x.end) q in
        let at_next : next_place p t d ≡ n = ap (λ (x : Line). x.next) q in
        let some_byte = ending_some d in
        let long : length s - p ≡ length t + (length (ending_bytes d) + length r) =
        sym (length-drop p s) ∙ ap length o.1.0 ∙ length-append t (ending_bytes d ++ r)
        ∙ ap (λ (k : ℕ). length t + k) (length-append (ending_bytes d) r) in
        let text : take (e - p) (drop p s) ≡ t = rw o.1.0 (take_at t (ending_bytes d ++ r) (e - p) (omega arith)) in
        let rest : drop n s ≡ r = rest_is r o.1.0 at_next in
        record {
          begins = omega arith;
          follows = omega arith;
          within = omega arith;
          text_ends = rw text at_end;
          ending = d;
          passes = rw text at_next;
          first_of_lines = rw (text, rest) (g ∙ ap (λ (m : Lines). line t d m) (sym o.1.2));
        }
      where
        rest_is : (r : List ℕ) → drop p s ≡ t ++ (ending_bytes d ++ r) → next_place p t d ≡ n → drop n s ≡ r
        rest_is r q m =
            let k : n ≡ p + (length t + length (ending_bytes d)) = omega arith in
            ap (λ (k : ℕ). drop k s) k ∙ sym (drop-drop (length t + length (ending_bytes d)) p s)
            ∙ ap (λ (l : List ℕ). drop (length t + length (ending_bytes d)) l) q ∙ drop-append-add t (ending_bytes d ++ r) (length (ending_bytes d))
            ∙ drop_at (ending_bytes d) r (length (ending_bytes d)) refl

-- a line as find_line tells it
pub ended_line : {s : List ℕ} {p : ℕ} {l : Line} → Some l ≡ line_at s p → LineFound s p l.end l.next
ended_line {s} {p} {l} t = line_found s p l.end l.next (sym t)

module _ (s : List ℕ) (p : ℕ) {l : Line} (line-given : Some l ≡ line_at s p) where
  pub text_begins : p ≤ l.end
  text_begins = (ended_line line-given).begins

  pub text_within : l.end ≤ length s
  text_within = let f = ended_line {s = s} line-given in omega arith

  pub line_shortens : length s - l.next < length s - p
  line_shortens = let f = ended_line {s = s} line-given in omega arith

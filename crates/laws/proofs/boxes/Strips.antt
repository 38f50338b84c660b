-- A cut c lies at or below x exactly if the strip of c is not above that of x. So a mark's window is a run of strips: from that of its left
-- cut up to but without that of its right one. Both hold for any list of cuts, and so for either direction.
use Prim.Native.Nat.{ℕ, zero, suc, ◌+◌, ◌-◌, ◌*◌, ◌≤◌, ◌<◌, zero-le, suc-le-suc}
use mathlib.Core.Path.{◌≡◌, refl, sym, ap, ◌∙◌}
use mathlib.Core.Bool.{Bool, true, false, true≢false, ◌||◌, ◌&&◌}
use mathlib.Core.List.{List, [], ◌∷◌}
use native.Mathlib.Decide.{dec_lt, dec_le}
use native.Mathlib.Nat.{le_trans}
use native.Mathlib.Omega.{arith}
use borrow.Author.Tests.{lt-ltb, le-ltb, leb-true, leb-false, le-leb, lt-leb, eqb-true, eqb-false, eq-eqb, ne_eqb}
use lib.Dec.{ltb, leb, eqb}
use lib.ListN.{length, get_or}
use Rattle.meanings.specs.Lists.{pick, count, distance}
use Rattle.meanings.proofs.Window.{count_at_most_length, count_grows}
use Rattle.meanings.specs.boxes.Boxes.{Axis, shift, left_cut, right_cut, cuts_to, cuts, member, distinct, strip, strip_of, tally, inside}
use Rattle.laws.specs.boxes.Windows.{first_strip, end_strip}

-- one cut more: it counts where it is new and not above x
pub strip_more : (c : ℕ) (cs : List ℕ) (x : ℕ)
    → strip (c ∷ cs) x ≡ pick (member c cs) (strip cs x) (pick (leb c x) (suc (strip cs x)) (strip cs x))
unfolding strip
strip_more c cs x = by (member c cs)
  where
    by : (b : Bool) → count (λ d. leb d x) (pick b (distinct cs) (c ∷ distinct cs))
        ≡ pick b (count (λ d. leb d x) (distinct cs)) (pick (leb c x) (suc (count (λ d. leb d x) (distinct cs))) (count (λ d. leb d x) (distinct cs)))
    by true = refl
    by false = refl

pub strip_none : (x : ℕ) → strip [] x ≡ 0
unfolding strip
strip_none x = refl

-- a cut that is there already changes nothing
pub strip_of_equal : (c : ℕ) (cs : List ℕ) (x : ℕ) → member c cs ≡ true → strip (c ∷ cs) x ≡ strip cs x
strip_of_equal c cs x m = strip_more c cs x ∙ ap (λ b. pick b (strip cs x) (pick (leb c x) (suc (strip cs x)) (strip cs x))) m

-- a new one counts from its place on
pub strip_from_new : (c : ℕ) (cs : List ℕ) (x : ℕ) → member c cs ≡ false → c ≤ x → strip (c ∷ cs) x ≡ suc (strip cs x)
strip_from_new c cs x m l = strip_more c cs x ∙ (rw (m, le-leb c x l) refl)

pub strip_below_new : (c : ℕ) (cs : List ℕ) (x : ℕ) → member c cs ≡ false → x < c → strip (c ∷ cs) x ≡ strip cs x
strip_below_new c cs x m l = strip_more c cs x ∙ (rw (m, lt-leb c x l) refl)

-- greater numbers lie in no lower strip
pub strip_grows : (cs : List ℕ) (x y : ℕ) → x ≤ y → strip cs x ≤ strip cs y
unfolding strip
strip_grows cs x y l = count_grows (λ c. leb c x) (λ c. leb c y) (λ c e. le-leb c y (let m = leb-true c x e in omega arith)) (distinct cs)

-- a cut begins a strip: whatever is below it lies in a lower one
pub strip_rises : (cs : List ℕ) (x c : ℕ) → member c cs ≡ true → x < c → strip cs x < strip cs c
strip_rises [] x c m l = absurd (true≢false (sym m))
strip_rises (d ∷ cs) x c m l = by (member d cs) refl (member c cs) refl (strip_rises cs x c)
  where
    grown : (b : Bool) → strip cs x < strip cs c
        → pick b (strip cs x) (pick (leb d x) (suc (strip cs x)) (strip cs x))
        < pick b (strip cs c) (pick (leb d c) (suc (strip cs c)) (strip cs c))
    grown true g = g
    grown false g = both (leb d x) refl (leb d c) refl
      where
        both : (p : Bool) → leb d x ≡ p → (q : Bool) → leb d c ≡ q
            → pick p (suc (strip cs x)) (strip cs x) < pick q (suc (strip cs c)) (strip cs c)
        both true e true f = suc-le-suc g
        both true e false f = absurd (let a = leb-true d x e in let b = leb-false d c f in omega arith)
        both false e true f = omega arith
        both false e false f = g

    same : member c cs ≡ false → eqb c d || member c cs ≡ true → c ≡ d
    same f t = is (eqb c d) refl
      where
        is : (b : Bool) → eqb c d ≡ b → c ≡ d
        is true e = eqb-true c d e
        is false e = absurd (true≢false (sym t ∙ (rw (e, f) refl)))

    by : (b : Bool) → member d cs ≡ b → (h : Bool) → member c cs ≡ h → (member c cs ≡ true → x < c → strip cs x < strip cs c)
        → strip (d ∷ cs) x < strip (d ∷ cs) c
    by b e true f rises = rw (strip_more d cs x, strip_more d cs c) (grown (member d cs) (rises f l))
    by true e false f rises = absurd (true≢false (sym e ∙ (rw (← (same f m)) f)))
    by false e false f rises =
        let q = same f m in
        let p : strip (d ∷ cs) x ≡ strip cs x = strip_below_new d cs x e (omega arith) in
        let r : strip (d ∷ cs) c ≡ suc (strip cs c) = strip_from_new d cs c e (omega arith) in
        let g = strip_grows cs x c (omega arith) in
        omega arith

-- the first law: of a cut c and any x, c ≤ x exactly if strip c ≤ strip x, as tests
pub cut_at_or_below : (cs : List ℕ) (c x : ℕ) → member c cs ≡ true → leb c x ≡ leb (strip cs c) (strip cs x)
cut_at_or_below cs c x m = by (dec_le c x)
  where
    by : Dec (c ≤ x) → leb c x ≡ leb (strip cs c) (strip cs x)
    by (yes l) = le-leb c x l ∙ sym (le-leb _ _ (strip_grows cs c x l))
    by (no l) = lt-leb c x (omega arith) ∙ sym (lt-leb _ _ (strip_rises cs x c m (omega arith)))

pub cut_above : (cs : List ℕ) (c x : ℕ) → member c cs ≡ true → ltb x c ≡ ltb (strip cs x) (strip cs c)
cut_above cs c x m = by (dec_lt x c)
  where
    by : Dec (x < c) → ltb x c ≡ ltb (strip cs x) (strip cs c)
    by (yes l) = lt-ltb x c l ∙ sym (lt-ltb _ _ (strip_rises cs x c m l))
    by (no l) = le-ltb x c (omega arith) ∙ sym (le-ltb _ _ (strip_grows cs c x (omega arith)))

-- no more strips than cuts and one
pub distinct_length : (cs : List ℕ) → length (distinct cs) ≤ length cs
distinct_length [] = zero-le
distinct_length (c ∷ cs) = by (member c cs) (distinct_length cs)
  where
    by : (b : Bool) → length (distinct cs) ≤ length cs → length (pick b (distinct cs) (c ∷ distinct cs)) ≤ suc (length cs)
    by true l = omega arith
    by false l = suc-le-suc l

pub strip_most : (cs : List ℕ) (x : ℕ) → strip cs x ≤ length cs
unfolding strip
strip_most cs x = le_trans (count_at_most_length (λ c. leb c x) (distinct cs)) (distinct_length cs)

pub cuts_length : (s : ℕ) (zs hs : List ℕ) (n : ℕ) → length (cuts_to s zs hs n) ≡ 2 * n
cuts_length s zs hs zero = refl
cuts_length s zs hs (suc n) = omega (arith, cuts_length s zs hs n)

-- marks' cuts are among the cuts
pub member_behind : (c d : ℕ) (cs : List ℕ) → member c cs ≡ true → member c (d ∷ cs) ≡ true
member_behind c d cs m = by (eqb c d)
  where
    by : (b : Bool) → b || member c cs ≡ true
    by true = refl
    by false = m

pub member_first : (c : ℕ) (cs : List ℕ) → member c (c ∷ cs) ≡ true
member_first c cs = rw (eq-eqb c c refl) refl

-- so are those of two more
member_behind_both : (c a b : ℕ) (cs : List ℕ) → member c cs ≡ true → member c (a ∷ b ∷ cs) ≡ true
member_behind_both c a b cs m = member_behind c a (b ∷ cs) (member_behind c b cs m)

module _ (s : ℕ) (zs hs : List ℕ) where
  abbrev left : ℕ → ℕ
  left k = left_cut s (get_or zs k 0) (get_or hs k 0)

  abbrev right : ℕ → ℕ
  right k = right_cut s (get_or zs k 0) (get_or hs k 0)

  pub left_cut_member : (n k : ℕ) → k < n → member (left_cut s (get_or zs k 0) (get_or hs k 0)) (cuts_to s zs hs n) ≡ true
  left_cut_member zero k l = absurd (omega arith)
  left_cut_member (suc n) k l = by (dec_lt k n) (left_cut_member n k)
    where
      by : Dec (k < n) → (k < n → member (left k) (cuts_to s zs hs n) ≡ true) → member (left k) (left n ∷ right n ∷ cuts_to s zs hs n) ≡ true
      by (yes m) f = member_behind_both (left k) (left n) (right n) (cuts_to s zs hs n) (f m)
      by (no m) f = let e : n ≡ k = omega arith in rw e (member_first (left k) (right k ∷ cuts_to s zs hs k))

  pub right_cut_member : (n k : ℕ) → k < n → member (right_cut s (get_or zs k 0) (get_or hs k 0)) (cuts_to s zs hs n) ≡ true
  right_cut_member zero k l = absurd (omega arith)
  right_cut_member (suc n) k l = by (dec_lt k n) (right_cut_member n k)
    where
      by : Dec (k < n) → (k < n → member (right k) (cuts_to s zs hs n) ≡ true) → member (right k) (left n ∷ right n ∷ cuts_to s zs hs n) ≡ true
      by (yes m) f = member_behind_both (right k) (left n) (right n) (cuts_to s zs hs n) (f m)
      by (no m) f =
          let e : n ≡ k = omega arith in
          rw e (member_behind (right k) (left k) (right k ∷ cuts_to s zs hs k) (member_first (right k) (cuts_to s zs hs k)))

-- strips of a direction: at most 64 with 32 marks
pub axis_strip_most : (A : Axis) (x : ℕ) → strip (cuts A) x ≤ 2 * length A.points
unfolding cuts
axis_strip_most A x =
    let l = strip_most (cuts_to (shift A) A.points A.bandwidths (length A.points)) x in
    let e = cuts_length (shift A) A.points A.bandwidths (length A.points) in
    omega arith

-- a closed window is what lies from the left cut up to but without the right one
window_by_cuts : (s x z h : ℕ) → h ≤ s → leb (distance x z) h ≡ leb (left_cut s z h) (x + s) && ltb (x + s) (right_cut s z h)
unfolding distance
window_by_cuts s x z h l = by (dec_le ((x - z) + (z - x)) h)
  where
    by : Dec ((x - z) + (z - x) ≤ h) → leb ((x - z) + (z - x)) h ≡ leb (z + s - h) (x + s) && ltb (x + s) (z + s + h + 1)
    by (yes d) = rw (le-leb _ _ d, le-leb (z + s - h) (x + s) (omega arith), lt-ltb (x + s) (z + s + h + 1) (omega arith)) refl
    by (no d) = rw (lt-leb ((x - z) + (z - x)) h (omega arith)) (out (dec_le (z + s - h) (x + s)))
      where
        out : Dec (z + s - h ≤ x + s) → false ≡ leb (z + s - h) (x + s) && ltb (x + s) (z + s + h + 1)
        out (yes u) = rw (le-leb _ _ u, le-ltb (x + s) (z + s + h + 1) (omega arith)) refl
        out (no u) = rw (lt-leb (z + s - h) (x + s) (omega arith)) refl

-- the second law, one for both directions: a reading lies in a window exactly if its strip is one of the window's
pub inside_by_strips : (A : Axis) (k i : ℕ) → k < length A.points → get_or A.bandwidths k 0 ≤ A.widest
    → inside A k i ≡ leb (first_strip A k) (strip_of A i) && ltb (strip_of A i) (end_strip A k)
unfolding first_strip end_strip cuts
inside_by_strips A k i l b =
    let s = shift A in
    let zs = A.points in
    let hs = A.bandwidths in
    let x = get_or A.samples i 0 in
    let cs = cuts_to s zs hs (length zs) in
    let z = get_or zs k 0 in
    let h = get_or hs k 0 in
    window_by_cuts s x z h (omega arith)
    ∙ rw (
      cut_at_or_below cs (left_cut s z h) (x + s) (left_cut_member s zs hs (length zs) k l),
      cut_above cs (right_cut s z h) (x + s) (right_cut_member s zs hs (length zs) k l),
    ) refl

-- both ends are strips of the direction, in order
pub window_strips_in_order : (A : Axis) (k : ℕ) → first_strip A k ≤ end_strip A k
unfolding first_strip end_strip
window_strips_in_order A k = strip_grows (cuts A) _ _ (omega arith)

pub end_strip_most : (A : Axis) (k : ℕ) → end_strip A k ≤ 2 * length A.points
unfolding end_strip
end_strip_most A k = axis_strip_most A _

-- A second reading: the strip of x is how many numbers up to x are cuts.
-- how many numbers below n are in a list
abbrev pub tally_in : List ℕ → ℕ → ℕ
tally_in cs n = tally (λ m. member m cs) n

tally_more : (c : ℕ) (cs : List ℕ) (n : ℕ)
    → tally_in (c ∷ cs) n ≡ pick (member c cs) (tally_in cs n) (pick (ltb c n) (suc (tally_in cs n)) (tally_in cs n))
tally_more c cs zero = by (member c cs)
  where
    by : (b : Bool) → ◌≡◌ {A = ℕ} 0 (pick b 0 (pick (ltb c 0) 1 0))
    by true = refl
    by false = rw (le-ltb c 0 zero-le) refl
tally_more c cs (suc n) = by (eqb n c) refl (member c cs) refl (tally_more c cs n)
  where
    by : (q : Bool) → eqb n c ≡ q → (b : Bool) → member c cs ≡ b
        → tally_in (c ∷ cs) n ≡ pick b (tally_in cs n) (pick (ltb c n) (suc (tally_in cs n)) (tally_in cs n))
        → pick (q || member n cs) (suc (tally_in (c ∷ cs) n)) (tally_in (c ∷ cs) n)
        ≡ pick b (pick (member n cs) (suc (tally_in cs n)) (tally_in cs n))
        (pick (ltb c (suc n)) (suc (pick (member n cs) (suc (tally_in cs n)) (tally_in cs n))) (pick (member n cs) (suc (tally_in cs n)) (tally_in cs n)))
    by true e true f r = rw (eqb-true n c e, f) (ap suc (rw (eqb-true n c e) at r))
    by true e false f r =
        rw (eqb-true n c e, f, lt-ltb c (suc c) (omega arith)) (ap suc (rw (eqb-true n c e, le-ltb c c (omega arith)) at r))
    by false e true f r = rw r refl
    by false e false f r = at_other (member n cs) (dec_lt c n)
      where
        at_other : (m : Bool) → Dec (c < n)
            → pick m (suc (tally_in (c ∷ cs) n)) (tally_in (c ∷ cs) n)
            ≡ pick (ltb c (suc n)) (suc (pick m (suc (tally_in cs n)) (tally_in cs n))) (pick m (suc (tally_in cs n)) (tally_in cs n))
        at_other true (yes l) = rw (r, lt-ltb c n l, lt-ltb c (suc n) (omega arith)) refl
        at_other false (yes l) = rw (r, lt-ltb c n l, lt-ltb c (suc n) (omega arith)) refl
        at_other true (no l) = rw (r, le-ltb c n (omega arith), le-ltb c (suc n) (let d = eqb-false n c e in omega (arith, d))) refl
        at_other false (no l) = rw (r, le-ltb c n (omega arith), le-ltb c (suc n) (let d = eqb-false n c e in omega (arith, d))) refl

pub strip_is_tally : (cs : List ℕ) (x : ℕ) → strip cs x ≡ tally (λ m. member m cs) (suc x)
strip_is_tally [] x = strip_none x ∙ sym (none (suc x))
  where
    none : (n : ℕ) → tally (λ m. member m []) n ≡ 0
    none zero = refl
    none (suc n) = none n
strip_is_tally (c ∷ cs) x =
    strip_more c cs x ∙ (rw (strip_is_tally cs x, same (dec_le c x)) (sym (tally_more c cs (suc x))))
  where
    same : Dec (c ≤ x) → leb c x ≡ ltb c (suc x)
    same (yes l) = le-leb c x l ∙ sym (lt-ltb c (suc x) (omega arith))
    same (no l) = lt-leb c x (omega arith) ∙ sym (le-ltb c (suc x) (omega arith))

-- Readings keep their strips wherever the direction is moved up to, as long as no left edge is held to 0.
abbrev raised : ℕ → List ℕ → List ℕ
raised d [] = []
raised d (c ∷ cs) = (c + d) ∷ raised d cs

raised_equal : (a b d : ℕ) → eqb (a + d) (b + d) ≡ eqb a b
raised_equal a b d = by (eqb a b) refl
  where
    by : (q : Bool) → eqb a b ≡ q → eqb (a + d) (b + d) ≡ q
    by true e = eq-eqb (a + d) (b + d) (ap (λ n. n + d) (eqb-true a b e))
    by false e = ne_eqb (a + d) (b + d) (λ f. eqb-false a b e (omega arith))

raised_member : (c d : ℕ) (cs : List ℕ) → member (c + d) (raised d cs) ≡ member c cs
raised_member c d [] = refl
raised_member c d (b ∷ cs) = rw (raised_equal c b d, raised_member c d cs) refl

raised_strip : (d : ℕ) (cs : List ℕ) (x : ℕ) → strip (raised d cs) (x + d) ≡ strip cs x
raised_strip d [] x = strip_none (x + d) ∙ sym (strip_none x)
raised_strip d (c ∷ cs) x =
    strip_more (c + d) (raised d cs) (x + d)
    ∙ (rw (raised_member c d cs, raised_strip d cs x, same (dec_le c x)) (sym (strip_more c cs x)))
  where
    same : Dec (c ≤ x) → leb (c + d) (x + d) ≡ leb c x
    same (yes l) = le-leb (c + d) (x + d) (omega arith) ∙ sym (le-leb c x l)
    same (no l) = lt-leb (c + d) (x + d) (omega arith) ∙ sym (lt-leb c x (omega arith))

cuts_raised : (s d : ℕ) (zs hs : List ℕ) (n : ℕ) → ((k : ℕ) → k < n → get_or hs k 0 ≤ s) → cuts_to (s + d) zs hs n ≡ raised d (cuts_to s zs hs n)
cuts_raised s d zs hs zero f = refl
cuts_raised s d zs hs (suc n) f =
    let l = f n (omega arith) in
    let a : get_or zs n 0 + (s + d) - get_or hs n 0 ≡ get_or zs n 0 + s - get_or hs n 0 + d = omega arith in
    let b : get_or zs n 0 + (s + d) + get_or hs n 0 + 1 ≡ get_or zs n 0 + s + get_or hs n 0 + 1 + d = omega arith in
    rw (a, b, cuts_raised s d zs hs n (λ k m. f k (omega arith))) refl

pub strips_stay : (s d : ℕ) (zs hs : List ℕ) (n x : ℕ) → ((k : ℕ) → k < n → get_or hs k 0 ≤ s)
    → strip (cuts_to (s + d) zs hs n) (x + (s + d)) ≡ strip (cuts_to s zs hs n) (x + s)
strips_stay s d zs hs n x f =
    let e : x + (s + d) ≡ x + s + d = omega arith in
    rw (cuts_raised s d zs hs n f, e) (raised_strip d (cuts_to s zs hs n) (x + s))

-- no cut is 0 where every half width is below the shift
pub no_cut_is_zero : (s : ℕ) (zs hs : List ℕ) (n : ℕ) → ((k : ℕ) → k < n → get_or hs k 0 < s) → member 0 (cuts_to s zs hs n) ≡ false
no_cut_is_zero s zs hs zero f = refl
no_cut_is_zero s zs hs (suc n) f =
    let l = f n (omega arith) in
    rw (
      ne_eqb 0 (get_or zs n 0 + s - get_or hs n 0) (λ e. omega arith),
      ne_eqb 0 (get_or zs n 0 + s + get_or hs n 0 + 1) (λ e. omega arith),
    ) (no_cut_is_zero s zs hs n (λ k m. f k (omega arith)))

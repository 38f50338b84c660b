-- Texts that are stored one behind the other: what stands in the list is the texts joined.
use Prim.Native.Nat.{ℕ, ◌+◌, ◌-◌, ◌≤◌}
use mathlib.Core.Path.{◌≡◌, refl, sym, ap, ◌∙◌}
use mathlib.Core.List.{List, [], ◌∷◌, ◌++◌, append_assoc, append-nil}
use borrow.Rule.Slice.PartMut.{mid_of, put_mid}
use native.Mathlib.Nat.{add_assoc, zero-add}
use native.Mathlib.Omega.{arith}
use lib.ListN.{length, take, drop, set, length-append, length-drop}
use lib.Seq.{take_all, take_at, drop_at, drop-drop, drop-append-add, length-take-le}
use Rattle.text.specs.Written.{joined, written, Stored}

pub written_length : (out t : List ℕ) → length t ≤ length out → length (written out t) ≡ length out
unfolding written
written_length out t h = length-append t (drop (length t) out) ∙ rw (length-drop (length t) out) (omega arith)

-- a text that is copied over as many bytes at the front is stored
pub copy_stored : (out t copy : List ℕ) → copy ≡ t → length t ≤ length out → Stored out t (copy ++ drop (length t) out) (length t)
unfolding written
copy_stored out t copy e h = record { text = rw e; size = refl; within = h; same = rw e (written_length out t h) }

-- the bytes from n on, as they are lent to what is stored behind the first n
abbrev pub rest_of : ℕ → List ℕ → List ℕ
rest_of n now = mid_of n (length now - n) now

-- the list when they are given back
abbrev pub given_back : ℕ → List ℕ → List ℕ → List ℕ
given_back n now rest = put_mid n (length now - n) now rest

drop_all : (xs : List ℕ) (n : ℕ) → length xs ≤ n → drop n xs ≡ []
drop_all xs n h = by (drop n xs) (length-drop n xs)
  where
    by : (ys : List ℕ) → length ys ≡ length xs - n → ys ≡ []
    by [] e = refl
    by (y ∷ ys) e = absurd (omega (arith, e, h))

rest_is : (n : ℕ) (now : List ℕ) → n ≤ length now → rest_of n now ≡ drop n now
rest_is n now h = take_all (length now - n) (drop n now) (omega (arith, length-drop n now))

back_is : (n : ℕ) (now rest : List ℕ) → n ≤ length now → given_back n now rest ≡ take n now ++ rest
back_is n now rest h =
    rw (drop_all (drop n now) (length now - n) (omega (arith, length-drop n now)), append-nil rest)

-- a list of bytes with a text stored from byte p on
abbrev pub written_from : List ℕ → ℕ → List ℕ → List ℕ
written_from out p t = given_back p out (written (rest_of p out) t)

from_is : (out : List ℕ) (p : ℕ) (t : List ℕ) → p ≤ length out → written_from out p t ≡ take p out ++ t ++ drop (p + length t) out
unfolding written
from_is out p t h =
    back_is p out (t ++ drop (length t) (rest_of p out)) h
    ∙ sym (append_assoc (take p out) t (drop (length t) (rest_of p out)))
    ∙ ap (λ (xs : List ℕ). take p out ++ t ++ xs) (ap (drop (length t)) (rest_is p out h) ∙ drop-drop (length t) p out)

from_start : (out t : List ℕ) → written_from out 0 t ≡ written out t
unfolding written
from_start out t = from_is out 0 t (omega arith) ∙ rw (zero-add (length t))

-- a text ends at p plus its length
front_length : (out : List ℕ) (p : ℕ) (t : List ℕ) → p ≤ length out → length (take p out ++ t) ≡ p + length t
front_length out p t h = length-append (take p out) t ∙ rw (length-take-le p out h)

-- a text that is stored right behind another goes on with it
pub written_behind : (out : List ℕ) (p : ℕ) (t u : List ℕ) → p + length t + length u ≤ length out
    → written_from (written_from out p t) (p + length t) u ≡ written_from out p (t ++ u)
written_behind out p t u h =
    let now : List ℕ = take p out ++ t ++ drop (p + length t) out in
    let l = front_length out p t (omega (arith, h)) in
    let d = rw l at (drop-append-add (take p out ++ t) (drop (p + length t) out) (length u)) in
    let long : p + length t ≤ length now = omega (arith, l, length-append (take p out ++ t) (drop (p + length t) out)) in
    let first : written_from out p t ≡ now = from_is out p t (omega (arith, h)) in
    let joins : take (p + length t) now ++ u ++ drop (p + length t + length u) now ≡ take p out ++ (t ++ u) ++ drop (p + length (t ++ u)) out =
    rw (
      take_at (take p out ++ t) (drop (p + length t) out) (p + length t) l,
      d,
      drop-drop (length u) (p + length t) out,
      append_assoc (take p out) t u,
      length-append t u,
      add_assoc p (length t) (length u),
    ) in
    rw first (from_is now (p + length t) u long ∙ joins ∙ sym (from_is out p (t ++ u) (omega (arith, h))))

module _ {out t now : List ℕ} {n : ℕ} (s : Stored out t now n) where
  pub inside : n ≤ length now
  inside = omega (arith, s.within, s.same)

  behind_is : rest_of n now ≡ drop n out
  unfolding written
  behind_is = rest_is n now inside ∙ rw s.text (drop_at t (drop (length t) out) n (sym s.size) ∙ rw s.size)

  behind_length : length (rest_of n now) ≡ length out - n
  behind_length = ap length behind_is ∙ length-drop n out

  -- what is left of the room is enough for what is left of the text
  pub room_behind : (u : List ℕ) → length (t ++ u) ≤ length out → length u ≤ length (rest_of n now)
  room_behind u h = omega (arith, h, length-append t u, behind_length, s.size)

  module _ {u rest : List ℕ} {m : ℕ} (r : Stored (rest_of n now) u rest m) where
    pub stored_behind : Stored out (t ++ u) (given_back n now rest) (n + m)
    unfolding written
    stored_behind =
        let long : length (t ++ u) ≤ length out = omega (arith, r.within, r.size, s.within, s.size, behind_length, length-append t u) in
        let placed : written_from now n u ≡ written_from (written_from out 0 t) (0 + length t) u =
        rw (s.text, s.size, from_start out t, zero-add (length t)) in
        let joins = written_behind out 0 t u (omega (arith, long, length-append t u)) in
        let text : given_back n now rest ≡ written out (t ++ u) =
        ap (given_back n now) r.text ∙ placed ∙ joins ∙ from_start out (t ++ u) in
        record {
          text = text;
          size = omega (arith, s.size, r.size, length-append t u);
          within = omega (arith, s.size, r.size, length-append t u, long);
          same = ap length text ∙ written_length out (t ++ u) long;
        }

-- a text in two parts that fits
module _ (out whole t u : List ℕ) (fits : length whole ≤ length out) (parts : whole ≡ t ++ u) where
  pub first_fits : length t ≤ length out
  first_fits = omega (arith, fits, ap length parts, length-append t u)

  module _ (now : List ℕ) (n : ℕ) (s : Stored out t now n) where
    pub second_fits : length u ≤ length (rest_of n now)
    second_fits = room_behind s u (rw parts at fits)

    pub both_stored : (rest : List ℕ) (m : ℕ) → Stored (rest_of n now) u rest m → Stored out whole (given_back n now rest) (n + m)
    both_stored rest m r = rw parts (stored_behind s r)

pub nothing_stored : (out : List ℕ) → Stored out [] out 0
unfolding written
nothing_stored out = record { text = refl; size = refl; within = omega arith; same = refl }

-- one byte is stored
pub byte_stored : (out : List ℕ) (b : ℕ) → 1 ≤ length out → Stored out (b ∷ []) (set out 0 b) 1
unfolding written
byte_stored [] b room = absurd (omega (arith, room))
byte_stored (x ∷ xs) b room = record { text = refl; size = refl; within = room; same = refl }

-- of a text t that fits, all in front of `rest` is stored in the first q bytes of the list
pub record Left (out t now : List ℕ) (q : ℕ) (rest : List (List ℕ)) : Type 0 where
  pub done : List ℕ
  pub parts : t ≡ done ++ joined rest
  pub fits : length t ≤ length out
  pub stored : Stored out done now q

-- when the first part is stored, the others are left
pub left_first : {out t a now : List ℕ} {q : ℕ} {rest : List (List ℕ)} → t ≡ a ++ joined rest → length t ≤ length out → Stored out a now q
    → Left out t now q rest
left_first {a = a} e fits s = record { done = a; parts = e; fits = fits; stored = s }

module _ {out t now : List ℕ} {q : ℕ} {a : List ℕ} {rest : List (List ℕ)} (l : Left out t now q (a ∷ rest)) where
  regrouped : t ≡ (l.done ++ a) ++ joined rest
  regrouped = l.parts ∙ sym (append_assoc l.done a (joined rest))

  -- the next part fits
  pub part_fits : length a ≤ length (rest_of q now)
  part_fits = room_behind l.stored a (first_fits out t (l.done ++ a) (joined rest) l.fits regrouped)

  -- and when it is stored, the others are left
  pub left_behind : {next : List ℕ} {r : ℕ} → Stored (rest_of q now) a next r → Left out t (given_back q now next) (q + r) rest
  left_behind s = record { done = l.done ++ a; parts = regrouped; fits = l.fits; stored = stored_behind l.stored s }

-- nothing is left
pub all_stored : {out t now : List ℕ} {q : ℕ} → Left out t now q [] → Stored out t now q
all_stored l = rw (l.parts, append-nil l.done) l.stored

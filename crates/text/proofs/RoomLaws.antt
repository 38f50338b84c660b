-- Whether a text fits, and what is then stored. A number of 64 bits has at most 20 digits.
use Prim.Native.Nat.{ℕ, ◌^◌, ◌≤◌, ◌<◌}
use mathlib.Core.Path.{◌≡◌, sym, ap, ◌∙◌}
use mathlib.Core.Bool.{true, false}
use mathlib.Core.List.{List}
use Rattle.std.specs.Prelude.{Option, None, Some, IsSome}
use native.Mathlib.Omega.{arith}
use borrow.Author.Tests.{le-leb, lt-leb}
use lib.ListN.{length}
use Rattle.meanings.specs.Output.{decimal}
use Rattle.laws.proofs.text.Numbers.{decimal_of_digit, decimal_length}
use Rattle.text.specs.Written.{written, Stored, fits, put_size, put_list, Put}
use Rattle.text.proofs.Writing.{written_length}

has_room : (out t : List ℕ) → length t ≤ length out → fits out t ≡ true
unfolding fits
has_room out t room = le-leb (length t) (length out) room

-- a text that is stored is put
module _ (out t now : List ℕ) (r : ℕ) (s : Stored out t now r) where
  room_was : fits out t ≡ true
  room_was = has_room out t (omega (arith, s.size, s.within))

  pub size_put : Some r ≡ put_size out t
  unfolding put_size
  size_put = rw (s.size, room_was)

  pub list_put : now ≡ put_list out t
  unfolding put_list
  list_put = s.text ∙ rw room_was

pub stored_put : {out t now : List ℕ} {r : ℕ} → Stored out t now r → Put out t now (Some r)
stored_put s = record { size = size_put _ _ _ _ s; list = list_put _ _ _ _ s }

-- and one that is put where it fits is stored
module _ (out t : List ℕ) (room : length t ≤ length out) (o : Option ℕ) (put : o ≡ put_size out t) where
  pub room_used : o ≡ Some (length t)
  unfolding put_size
  room_used = put ∙ rw (has_room out t room)

  pub is_some : IsSome o
  is_some = rw room_used

  pub put_is_stored : (r : ℕ) → o ≡ Some r → (now : List ℕ) → now ≡ put_list out t → Stored out t now r
  unfolding put_list
  put_is_stored r e now list =
      let size : Some r ≡ Some (length t) = sym e ∙ room_used in
      let n : r ≡ length t = cc in
      let text : now ≡ written out t = list ∙ rw (has_room out t room) in
      record { text = text; size = n; within = omega (arith, n, room); same = ap length text ∙ written_length out t room }

pub list_used : (out t : List ℕ) → length t ≤ length out → (now : List ℕ) → now ≡ put_list out t → now ≡ written out t
unfolding put_list
list_used out t room now list = list ∙ rw (has_room out t room)

-- one without
module _ (out t : List ℕ) (short : length out < length t) where
  has_none : fits out t ≡ false
  unfolding fits
  has_none = lt-leb (length t) (length out) short

  pub none_put : None ≡ put_size out t
  unfolding put_size
  none_put = rw has_none

  pub list_stays : out ≡ put_list out t
  unfolding put_list
  list_stays = rw has_none

-- 20 bytes are room for any number
pub twenty_at_most : (n : ℕ) → n < 2 ^ 64 → length (decimal n) ≤ 20
twenty_at_most n l = decimal_length n 19 (omega arith)

pub zero_size : (n : ℕ) → n ≡ 0 → 1 ≡ length (decimal n)
zero_size n e = ap length (sym (decimal_of_digit n (omega (arith, e))))

module _ (n : ℕ) (small : n < 2 ^ 64) (out : List ℕ) where
  pub any_fits : 20 ≤ length out → length (decimal n) ≤ length out
  any_fits room = omega (arith, room, twenty_at_most n small)

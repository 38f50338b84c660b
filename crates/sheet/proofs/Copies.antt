-- A list fits at the front of another, or nothing is stored; the first n elements of a list as a list of their own.
use Prim.Native.Nat.{ℕ, ◌≤◌, ◌<◌}
use mathlib.Core.Path.{◌≡◌, refl, sym, ◌∙◌}
use mathlib.Core.List.{List, ◌++◌}
use native.Mathlib.Omega.{arith}
use borrow.Author.Tests.{le-leb, lt-leb}
use lib.ListN.{length, take, drop}
use Rattle.std.proofs.lemmas.List.{length-take-le, take_all}
use Rattle.sheet.specs.Copied.{copied}

module _ {A : Type 0} (xs : List A) (n : ℕ) (out : List A) where
  pub too_few : length xs < n → out ≡ copied xs n out
  unfolding copied
  too_few l = sym (rw (lt-leb n (length xs) l))

  pub no_room : n ≤ length xs → length out < n → out ≡ copied xs n out
  unfolding copied
  no_room m l = sym (rw (le-leb n (length xs) m, lt-leb n (length out) l))

  pub copied_front : n ≤ length xs → n ≤ length out → copied xs n out ≡ take n xs ++ drop n out
  unfolding copied
  copied_front m l = rw (le-leb n (length xs) m, le-leb n (length out) l)

  pub stored_part : (ys : List A) → n ≤ length xs → n ≤ length out → ys ≡ take n xs ++ drop n out → ys ≡ copied xs n out
  stored_part ys m l e = e ∙ sym (copied_front m l)

  -- of a list that the caller has cut
  pub copied_part : n ≤ length xs → n ≤ length out → copied (take n xs) (length (take n xs)) out ≡ copied xs n out
  unfolding copied
  copied_part m l =
      let e = length-take-le n xs m in
      rw (
        e,
        le-leb n n (omega arith),
        le-leb n (length xs) m,
        le-leb n (length out) l,
        take_all n (take n xs) (omega (arith, e)),
      ) refl

module _ {A : Type 0} (xs out : List A) where
  pub unfitting : length out < length xs → out ≡ copied xs (length xs) out
  unfolding copied
  unfitting l = sym (rw (le-leb (length xs) (length xs) (omega arith), lt-leb (length xs) (length out) l))

  pub stored_front : (ys : List A) → length xs ≤ length out → ys ≡ xs → ys ++ drop (length xs) out ≡ copied xs (length xs) out
  stored_front ys l e = rw (e, copied_front xs (length xs) out (omega arith) l, take_all (length xs) xs (omega arith)) refl

-- An answer as one number, and a lent list as its elements: what both are, by what the call below was met as.
use Rattle.std.specs.Prelude.{Result, Ok, Err}
use Rattle.meanings.specs.Calls.{answer_of}
use Rattle.meanings.specs.declared.Refusal.{Refusal}
use Prim.Native.Nat.{ℕ, ◌≤◌, zero-le}
use mathlib.Core.Path.{◌≡◌, refl, sym, ap, ◌∙◌}
use mathlib.Core.Bool.{Bool, true, false}
use mathlib.Core.List.{List}
use native.Mathlib.Nat.{mod-eq_of_lt}
use native.Mathlib.Omega.{arith}
use borrow.Author.Tests.{eq-eqb, ne_eqb}
use lib.Dec.{eqb}
use lib.ListN.{length}
use Rattle.meanings.specs.Limits.{max_sheet}
use Rattle.meanings.specs.Lists.{pick}
use Rattle.meanings.specs.Reports.{Fault, Answer, given, refused, fault_of}
use Rattle.meanings.specs.Codes.{code, answered, no_detail}
use Rattle.exports.specs.Answers.{place_limit, short, sized, stored, replaced}
use Rattle.exports.proofs.AnswersPlaces.{refusal_place, refusal_place_at_most}

-- a small place is below the limit of a code
short_same : (e : Fault) → e.place ≤ max_sheet → short e ≡ e
short_same e l = rw (mod-eq_of_lt {n = e.place} {m = place_limit} (omega arith)) refl

-- as many elements as the list has are stored
pub same_length_replaced : {B : Type 0} (ys xs : List B) → length xs ≡ length ys → replaced ys xs ≡ ys
unfolding replaced
same_length_replaced ys xs e = rw (eq-eqb (length xs) (length ys) e)

-- another number of them is not
pub other_length_stays : {B : Type 0} (ys xs : List B) → (length xs ≡ length ys → ⊥) → xs ≡ replaced ys xs
unfolding replaced
other_length_stays ys xs e = rw (ne_eqb (length xs) (length ys) e)

-- the call below answers `a`
module _ {A : Type 0} {r : Result A Refusal} {a : Answer A} (answer : answer_of r ≡ a) where
  -- it is met as a refusal
  module _ {f : Refusal} (met : r ≡ Err f) where
    told : refused (fault_of f) ≡ a
    told = sym (ap answer_of met) ∙ answer

    -- the code of a refusal whose place is small is that of its answer
    pub refused_code : refusal_place a ≤ max_sheet → (detail : A → ℕ) (k : ℕ) → k ≡ code (short (fault_of f)) → k ≡ answered detail a
    refused_code small detail k e =
        e
        ∙ ap code (short_same (fault_of f) (refusal_place_at_most a (fault_of f) told small))
        ∙ ap (answered detail) told

  -- or as a value
  module _ {b : A} (met : r ≡ Ok b) where
    gave : given b ≡ a
    gave = sym (ap answer_of met) ∙ answer

    pub accepted_stored : {B : Type 0} (elements : A → List B) (xs ys : List B) → ys ≡ replaced (elements b) xs → length xs ≡ length (elements b)
        → ys ≡ stored elements a xs
    accepted_stored elements xs ys e l = e ∙ same_length_replaced (elements b) xs l ∙ ap (λ (o : Answer A). stored elements o xs) gave

-- a list of another length is refused first, and stays
abbrev pub uneven : Fault
uneven = record { number = 8; place = 0 }

module _ {A B : Type 0} (n : ℕ) (xs : List B) (a : Answer A) (other : length xs ≡ n → ⊥) where
  pub other_size : refused uneven ≡ sized n xs a
  unfolding sized
  other_size = rw (ne_eqb (length xs) n other)

  pub other_detail : (detail : A → ℕ) → 8 ≡ answered detail (sized n xs a)
  other_detail detail = ap (answered detail) other_size

  pub other_code : 8 ≡ answered no_detail (sized n xs a)
  other_code = other_detail no_detail

  pub other_stays : {C : Type 0} (elements : A → List C) (ys : List C) → ys ≡ stored elements (sized n xs a) ys
  other_stays elements ys = ap (λ (o : Answer A). stored elements o ys) other_size

-- at the right length the call below decides
pub right_size : {A B : Type 0} (n : ℕ) (xs : List B) → length xs ≡ n → (a : Answer A) → a ≡ sized n xs a
unfolding sized
right_size n xs right a = rw (eq-eqb (length xs) n right)

-- two lists of set length: the second is looked at where the first is right
module _ {A B C : Type 0} (n : ℕ) (xs : List B) (right : length xs ≡ n) (m : ℕ) (ys : List C) (a : Answer A) where
  second_size : sized m ys a ≡ sized n xs (sized m ys a)
  second_size = right_size n xs right (sized m ys a)

  pub second_other_code : (length ys ≡ m → ⊥) → 8 ≡ answered no_detail (sized n xs (sized m ys a))
  second_other_code other = other_code m ys a other ∙ ap (answered no_detail) second_size

  pub second_other_stays : (length ys ≡ m → ⊥) → (elements : A → List C) → ys ≡ stored elements (sized n xs (sized m ys a)) ys
  second_other_stays other elements = other_stays m ys a other elements ys ∙ ap (λ (o : Answer A). stored elements o ys) second_size

  pub both_sizes : length ys ≡ m → a ≡ sized n xs (sized m ys a)
  both_sizes right-too = right_size m ys right-too a ∙ second_size

-- a list of another length is refused at 0
pub sized_place : {A B : Type 0} (n : ℕ) (xs : List B) (a : Answer A) → refusal_place a ≤ max_sheet → refusal_place (sized n xs a) ≤ max_sheet
unfolding sized
sized_place n xs a l = by (eqb (length xs) n)
  where
    by : (b : Bool) → refusal_place (pick b a (refused uneven)) ≤ max_sheet
    by true = l
    by false = zero-le

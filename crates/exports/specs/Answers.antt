-- What an exported function answers, and what its lent lists hold at exit, made of the meanings of the calls below it.
use Rattle.std.specs.Prelude.{ℕ, ◌%◌, ◌^◌, List, [], ◌∷◌, eqb, length, get_or}
use Rattle.meanings.specs.declared.Counts.{Counts}
use Rattle.meanings.specs.declared.Estimate.{Estimate}
use Rattle.meanings.specs.declared.RunningSums.{RunningSums}
use Rattle.meanings.specs.Lists.{pick}
use Rattle.meanings.specs.Reports.{Fault, Answer, given, refused}
use Rattle.meanings.specs.Running.{fresh}

-- a list that must have n elements is looked at before all else: another length gets 8 at place 0
unfoldable pub sized : {A B : Type 0} → ℕ → List B → Answer A → Answer A
sized n xs a = pick (eqb (length xs) n) a (refused (record { number = 8; place = 0 }))

-- a lent list at exit: the elements of an accepted call's answer, or what it held
abbrev pub stored : {A B : Type 0} → (A → List B) → Answer A → List B → List B
stored elements (given a) xs = elements a
stored elements (refused e) xs = xs

-- a lent list in which as many elements as it has are stored; another number of them is not stored
unfoldable pub replaced : {B : Type 0} → List B → List B → List B
replaced ys xs = pick (eqb (length xs) (length ys)) ys xs

-- places that a code of 64 bits can hold lie below this
abbrev pub place_limit : ℕ
place_limit = 2 ^ 56

-- a refusal with its place modulo that
abbrev pub short : Fault → Fault
short e = record { number = e.number; place = e.place % place_limit }

-- the edges of a row
abbrev pub bounds : Estimate → List ℕ
bounds e = e.left ∷ e.right ∷ []

abbrev pub count_numbers : Counts → List ℕ
count_numbers c = c.samples ∷ c.points ∷ []

-- how many numbers a running record has
abbrev pub record_length : ℕ
record_length = 9

-- a running record as these numbers, and back
abbrev pub record_numbers : RunningSums → List ℕ
record_numbers r =
    r.left
    ∷ r.right
    ∷ r.sums.s00
    ∷ r.sums.s10
    ∷ r.sums.s20
    ∷ r.sums.s01
    ∷ r.sums.s11
    ∷ r.sums.s21
    ∷ r.passes
    ∷ []

abbrev pub record_of : List ℕ → RunningSums
record_of xs = record {
  left = get_or xs 0 0;
  right = get_or xs 1 0;
  sums = record {
    s00 = get_or xs 2 0;
    s10 = get_or xs 3 0;
    s20 = get_or xs 4 0;
    s01 = get_or xs 5 0;
    s11 = get_or xs 6 0;
    s21 = get_or xs 7 0;
  };
  passes = get_or xs 8 0;
}

-- the record of a list of so many numbers, a fresh one of another list
unfoldable pub record_in : List ℕ → RunningSums
record_in xs = pick (eqb (length xs) record_length) (record_of xs) fresh

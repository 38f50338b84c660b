-- What the function over a line's text says: which number stands before the next comma.
use Rattle.std.specs.Prelude.{ℕ, zero, suc, ◌+◌, List, [], ◌∷◌, length, drop, ◌==◌, Option, Some, None}
use Rattle.meanings.specs.Lists.{pick}
use Rattle.meanings.specs.Bytes.{comma}
use Rattle.meanings.specs.Sheet.{number_form, digits_value, parsed}
use Rattle.sheet.specs.declared.fields.Field.{Field}

-- the text before its first comma
abbrev pub first_part : List ℕ → List ℕ
first_part [] = []
first_part (b ∷ bs) = pick (b == comma) [] (b ∷ first_part bs)

-- a part that begins at byte p, as a number
abbrev pub number_of : ℕ → List ℕ → Option Field
number_of p a = pick (number_form a) (Some (record { value = digits_value 0 a; end = p + length a })) None

-- the number that begins at byte p of the text and goes up to the next comma or the end
unfoldable pub field_at : List ℕ → ℕ → Option Field
field_at t p = number_of p (first_part (drop p t))

-- a part's number in front of those of the parts behind it
abbrev pub with_number : Option ℕ → Option (List ℕ) → Option (List ℕ)
with_number None r = None
with_number (Some n) None = None
with_number (Some n) (Some r) = Some (n ∷ r)

-- the numbers of k parts, if there are as many and each is a number
abbrev pub numbers_of : ℕ → List (List ℕ) → Option (List ℕ)
numbers_of zero [] = Some []
numbers_of zero (a ∷ ps) = None
numbers_of (suc k) [] = None
numbers_of (suc k) (a ∷ ps) = with_number (parsed a) (numbers_of k ps)

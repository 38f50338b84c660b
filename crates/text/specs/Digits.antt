-- The last digits of a number, a byte each, and bytes as one word.
use Rattle.std.specs.Prelude.{ℕ, ◌+◌, ◌*◌, ◌/◌, ◌%◌, List, [], ◌∷◌, ◌++◌}
use Rattle.meanings.specs.Bytes.{zero_digit}

-- a number below 100 in two digits, one below 10,000 in four, one below 100,000,000 in eight: with zeros in front where it is shorter
unfoldable pub two_digits : ℕ → List ℕ
two_digits n = (zero_digit + n / 10) ∷ (zero_digit + n % 10) ∷ []

unfoldable pub four_digits : ℕ → List ℕ
four_digits n = two_digits (n / 100) ++ two_digits (n % 100)

unfoldable pub eight_digits : ℕ → List ℕ
eight_digits n = four_digits (n / 10000) ++ four_digits (n % 10000)

-- bytes as one word, the first byte lowest
abbrev pub word : List ℕ → ℕ
word [] = 0
word (b ∷ bs) = b + 256 * word bs

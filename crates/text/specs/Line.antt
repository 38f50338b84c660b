-- A line of a text from numbers: the first, the others, and values, each of these behind a comma.
use Rattle.std.specs.Prelude.{ℕ, ◌+◌, ◌*◌, List, ◌++◌, length, map}
use Rattle.meanings.specs.Output.{decimal, text_line, value_text}

abbrev pub fields : List ℕ → List ℕ → List (List ℕ)
fields ns vs = map decimal ns ++ map value_text vs

abbrev pub line_text : ℕ → List ℕ → List ℕ → List ℕ
line_text n ns vs = text_line (decimal n) (fields ns vs)

-- no line of so many numbers is longer: a number has at most 20 digits, and a byte behind it
abbrev pub most_bytes : List ℕ → List ℕ → ℕ
most_bytes ns vs = 21 * (1 + length ns + length vs)

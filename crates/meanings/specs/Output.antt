-- SPECIFICATION, "Output": what the program writes, as a function from any list of bytes to a list of bytes.
use Rattle.std.specs.Prelude.{ℕ, zero, suc, ◌+◌, ◌/◌, ◌%◌, List, [], ◌∷◌, ◌++◌, ltb, eqb, length, get_or}
use Rattle.meanings.specs.declared.Estimate.{Estimate}
use Rattle.meanings.specs.Lists.{pick}
use Rattle.meanings.specs.Limits.{full}
use Rattle.meanings.specs.Bytes.{line_feed, comma, dash, zero_digit, curve_header, totals_header, refusal_header}
use Rattle.meanings.specs.Moves.{moves}
use Rattle.meanings.specs.Reports.{Fault, given, refused}
use Rattle.meanings.specs.Estimate.{estimate, missing}
use Rattle.meanings.specs.Running.{fresh, passes}
use Rattle.meanings.specs.Sheet.{Contents, Outcome, read_sheet}

-- a number's decimal digits, with fuel; the law decimal-step says that it never runs out
unfoldable pub decimal_with : ℕ → ℕ → List ℕ
decimal_with zero n = []
decimal_with (suc f) n =
    let more = decimal_with f (n / 10) ++ (zero_digit + n % 10) ∷ [] in
    pick (ltb n 10) ((zero_digit + n) ∷ []) more

-- a number in decimal, with no leading zero
unfoldable pub decimal : ℕ → List ℕ
decimal n = decimal_with (suc n) n

-- texts with a comma before each
abbrev pub comma_before : List (List ℕ) → List ℕ
comma_before [] = []
comma_before (t ∷ ts) = comma ∷ t ++ comma_before ts

-- a line of texts with commas between them
abbrev pub text_line : List ℕ → List (List ℕ) → List ℕ
text_line t ts = t ++ comma_before ts ++ line_feed ∷ []

-- a value, `-` where it is missing
abbrev pub value_text : ℕ → List ℕ
value_text v = pick (eqb v missing) (dash ∷ []) (decimal v)

-- a mark's line: mark, half width and the row
abbrev pub curve_line : ℕ → ℕ → Estimate → List ℕ
curve_line z h e =
    text_line (decimal z)
    (decimal h
    ∷ decimal e.left
    ∷ decimal e.right
    ∷ decimal e.weight
    ∷ decimal e.sum
    ∷ value_text e.value
    ∷ [])

-- the lines of the first n marks
abbrev pub curve_lines : Contents → ℕ → List ℕ
curve_lines c zero = []
curve_lines c (suc n) =
    curve_lines c n
    ++ curve_line (get_or c.points n 0) (get_or c.bandwidths n 0)
    (estimate c.minutes c.values (get_or c.points n 0) (get_or c.bandwidths n 0))

-- the curve, then kept readings and passes
unfoldable pub curve_text : Contents → List ℕ
curve_text c =
    text_line curve_header []
    ++ curve_lines c (length c.points)
    ++ line_feed
    ∷ text_line totals_header []
    ++ text_line (decimal (length c.minutes))
    (decimal (passes c.minutes c.values fresh (moves c.points c.bandwidths)) ∷ [])

-- a refusal: number and place
unfoldable pub refusal_text : Fault → List ℕ
refusal_text e = text_line refusal_header [] ++ text_line (decimal e.number) (decimal e.place ∷ [])

abbrev pub outcome_text : Outcome → List ℕ
outcome_text (refused e) = refusal_text e
outcome_text (given c) = curve_text c

-- what the program writes for the bytes that it reads
unfoldable pub program : List ℕ → List ℕ
program s = outcome_text (read_sheet full s)

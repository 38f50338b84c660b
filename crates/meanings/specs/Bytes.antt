-- The bytes and words of the sheet and of what the program writes.
use Rattle.std.specs.Prelude.{ℕ, List, [], ◌∷◌}
use Prim.Native.Char.{code}
use Prim.Native.String.{String, [] as end-of-text, ◌∷◌ as ◌then◌}

-- the bytes of a text of ASCII characters
abbrev pub ascii : String → List ℕ
ascii end-of-text = []
ascii (c then t) = code c ∷ ascii t

abbrev pub line_feed : ℕ
line_feed = 10

abbrev pub carriage_return : ℕ
carriage_return = 13

-- what ends a line of the sheet: a line feed, or a carriage return and a line feed
pub data LineEnding : Type 0 where
  feed : LineEnding
  return_feed : LineEnding

abbrev pub ending_bytes : LineEnding → List ℕ
ending_bytes feed = line_feed ∷ []
ending_bytes return_feed = carriage_return ∷ line_feed ∷ []

abbrev pub comma : ℕ
comma = code ","

abbrev pub dash : ℕ
dash = code "-"

abbrev pub zero_digit : ℕ
zero_digit = code "0"

abbrev pub nine_digit : ℕ
nine_digit = code "9"

-- the header lines of the sheet
abbrev pub point_header : List ℕ
point_header = ascii "mark,half"

abbrev pub sample_header : List ℕ
sample_header = ascii "minute,inj,vdk"

-- the header lines of what the program writes
abbrev pub curve_header : List ℕ
curve_header = ascii "mark,half,left,right,weight,sum,vdk"

abbrev pub totals_header : List ℕ
totals_header = ascii "kept,passes"

abbrev pub refusal_header : List ℕ
refusal_header = ascii "refused,place"

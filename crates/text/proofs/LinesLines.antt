-- The parts of a line, stored one behind the other.
use Rattle.std.proofs.Common.{◌≡◌, ℕ, ◌+◌, ◌≤◌, ◌<◌, List, [], ◌∷◌, ◌++◌, length, get_or, drop, map, refl, ap, ◌∙◌, append_assoc}
use Rattle.meanings.specs.Bytes.{line_feed, comma}
use Rattle.meanings.specs.Output.{decimal, comma_before, text_line, value_text}
use Rattle.text.specs.Written.{joined, Stored}
use Rattle.text.proofs.Writing.{rest_of, given_back, inside, first_fits, second_fits, both_stored, Left, left_first, part_fits, left_behind, all_stored}
use Rattle.text.specs.Line.{fields, line_text}
use Rattle.text.proofs.RoomLines.{number_next, no_number_left, value_next, no_value_left}

-- a comma and a text behind it
module _ (t out : List ℕ) (fits : length (comma ∷ t) ≤ length out) where
  pub comma_first : 1 ≤ length out
  comma_first = first_fits out (comma ∷ t) (comma ∷ []) t fits refl

  module _ (now : List ℕ) (q : ℕ) (first : Stored out (comma ∷ []) now q) where
    pub behind_comma : length t ≤ length (rest_of q now)
    behind_comma = second_fits out (comma ∷ t) (comma ∷ []) t fits refl now q first

    pub after_comma : (next : List ℕ) (r : ℕ) → Stored (rest_of q now) t next r → Stored out (comma ∷ t) (given_back q now next) (q + r)
    after_comma next r second = both_stored out (comma ∷ t) (comma ∷ []) t fits refl now q first next r second

-- what follows a line's first text: each other text behind a comma, and the line feed
abbrev parts_behind : List (List ℕ) → List (List ℕ)
parts_behind [] = (line_feed ∷ []) ∷ []
parts_behind (t ∷ ts) = (comma ∷ t) ∷ parts_behind ts

behind_joined : (ts : List (List ℕ)) → comma_before ts ++ line_feed ∷ [] ≡ joined (parts_behind ts)
behind_joined [] = refl
behind_joined (t ∷ ts) =
    append_assoc (comma ∷ t) (comma_before ts) (line_feed ∷ []) ∙ ap (λ (u : List ℕ). (comma ∷ t) ++ u) (behind_joined ts)

line_joined : (t : List ℕ) (ts : List (List ℕ)) → text_line t ts ≡ t ++ joined (parts_behind ts)
line_joined t ts = append_assoc t (comma_before ts) (line_feed ∷ []) ∙ ap (λ (u : List ℕ). t ++ u) (behind_joined ts)

-- the first k numbers of a line are stored, and what follows them is left
pub record NumbersTo (out : List ℕ) (f : ℕ) (ns vs now : List ℕ) (q k : ℕ) : Type 0 where
  pub inside : q ≤ length now
  rest : Left out (line_text f ns vs) now q (parts_behind (fields (drop k ns) vs))

-- all numbers and the first k values are
pub record ValuesTo (out : List ℕ) (f : ℕ) (ns vs now : List ℕ) (q k : ℕ) : Type 0 where
  pub inside : q ≤ length now
  rest : Left out (line_text f ns vs) now q (parts_behind (map value_text (drop k vs)))

module _ (f : ℕ) (ns vs : List ℕ) (out : List ℕ) (fits : length (line_text f ns vs) ≤ length out) where
  pub number_first : length (decimal f) ≤ length out
  number_first = first_fits out _ _ _ fits (line_joined (decimal f) (fields ns vs))

  pub numbers_begin : (now : List ℕ) (q : ℕ) → Stored out (decimal f) now q → NumbersTo out f ns vs now q 0
  numbers_begin now q s = record { inside = inside s; rest = left_first (line_joined (decimal f) (fields ns vs)) fits s }

module _ {out : List ℕ} {f : ℕ} {ns vs now : List ℕ} {q k : ℕ} (w : NumbersTo out f ns vs now q k) where
  module _ (more : k < length ns) where
    next_number : Left out (line_text f ns vs) now q ((comma ∷ decimal (get_or ns k 0)) ∷ parts_behind (fields (drop (k + 1) ns) vs))
    next_number = rw (number_next ns vs k more) at w.rest

    pub number_fits : length (comma ∷ decimal (get_or ns k 0)) ≤ length (rest_of q now)
    number_fits = part_fits next_number

    pub numbers_go_on : {next : List ℕ} {r : ℕ} → Stored (rest_of q now) (comma ∷ decimal (get_or ns k 0)) next r
        → NumbersTo out f ns vs (given_back q now next) (q + r) (k + 1)
    numbers_go_on s = let l = left_behind next_number s in record { inside = inside l.stored; rest = l }

  pub values_begin : length ns ≤ k → ValuesTo out f ns vs now q 0
  values_begin none = record { inside = w.inside; rest = rw (no_number_left ns vs k none) at w.rest }

module _ {out : List ℕ} {f : ℕ} {ns vs now : List ℕ} {q k : ℕ} (w : ValuesTo out f ns vs now q k) where
  module _ (more : k < length vs) where
    next_value : Left out (line_text f ns vs) now q ((comma ∷ value_text (get_or vs k 0)) ∷ parts_behind (map value_text (drop (k + 1) vs)))
    next_value = rw (value_next vs k more) at w.rest

    pub value_fits : length (comma ∷ value_text (get_or vs k 0)) ≤ length (rest_of q now)
    value_fits = part_fits next_value

    pub values_go_on : {next : List ℕ} {r : ℕ} → Stored (rest_of q now) (comma ∷ value_text (get_or vs k 0)) next r
        → ValuesTo out f ns vs (given_back q now next) (q + r) (k + 1)
    values_go_on s = let l = left_behind next_value s in record { inside = inside l.stored; rest = l }

  module _ (none : length vs ≤ k) where
    line_end : Left out (line_text f ns vs) now q ((line_feed ∷ []) ∷ [])
    line_end = rw (no_value_left vs k none) at w.rest

    pub end_fits : 1 ≤ length (rest_of q now)
    end_fits = part_fits line_end

    pub line_stored : {next : List ℕ} {r : ℕ} → Stored (rest_of q now) (line_feed ∷ []) next r
        → Stored out (line_text f ns vs) (given_back q now next) (q + r)
    line_stored s = all_stored (left_behind line_end s)

-- SPECIFICATION, "The sheet": lines, numbers, header lines, and the reader as a function from any list of bytes to a report with its
-- place or the four lists.
use Rattle.std.specs.Prelude.{ℕ, ◌+◌, ◌-◌, ◌*◌, Bool, true, false, not, ◌&&◌, List, [], ◌∷◌, ◌++◌, ltb, leb, eqb, length, Option, None, Some}
use Rattle.meanings.specs.Lists.{pick}
use Rattle.meanings.specs.declared.Limits.{Limits}
use Rattle.meanings.specs.Limits.{max_u16, max_sheet}
use Rattle.meanings.specs.Bytes.{line_feed, carriage_return, LineEnding, feed, return_feed, ending_bytes, comma, zero_digit, nine_digit}
use Rattle.meanings.specs.Bytes.{point_header, sample_header}
use Rattle.meanings.specs.Reports.{Fault, Answer, given, refused, Check, check, at, first_of, decreases, bad_bandwidth, edge_decreases}

-- bytes as lines: each text with the line ending behind it, and at the end nothing or a text without one
pub data Lines : Type 0 where
  end : Lines
  unended : List ℕ → Lines
  line : List ℕ → LineEnding → Lines → Lines

-- one byte more in front, the first of the text that follows
abbrev pub with_text_byte : ℕ → Lines → Lines
with_text_byte b end = unended (b ∷ [])
with_text_byte b (unended t) = unended (b ∷ t)
with_text_byte b (line t e ls) = line (b ∷ t) e ls

-- a carriage return in front: directly before a line feed it belongs to that line's ending, and anywhere else to the text
abbrev pub with_return : Lines → Lines
with_return (line [] feed ls) = line [] return_feed ls
with_return (line [] return_feed ls) = with_text_byte carriage_return (line [] return_feed ls)
with_return (line (b ∷ t) e ls) = with_text_byte carriage_return (line (b ∷ t) e ls)
with_return (unended t) = with_text_byte carriage_return (unended t)
with_return end = with_text_byte carriage_return end

-- any byte in front: a line feed ends an empty text
abbrev pub with_byte : ℕ → Lines → Lines
with_byte b ls = pick (eqb b line_feed) (line [] feed ls) (pick (eqb b carriage_return) (with_return ls) (with_text_byte b ls))

abbrev pub lines : List ℕ → Lines
lines [] = end
lines (b ∷ bs) = with_byte b (lines bs)

-- where the line behind a line begins: that line begins at byte p and has the text t and the ending e
abbrev pub next_place : ℕ → List ℕ → LineEnding → ℕ
next_place p t e = p + length t + length (ending_bytes e)

-- a text as the parts between its commas
abbrev pub with_part_byte : Bool → ℕ → List (List ℕ) → List (List ℕ)
with_part_byte true b ps = [] ∷ ps
with_part_byte false b [] = (b ∷ []) ∷ []
with_part_byte false b (p ∷ ps) = (b ∷ p) ∷ ps

abbrev pub parts : List ℕ → List (List ℕ)
parts [] = [] ∷ []
parts (b ∷ bs) = with_part_byte (eqb b comma) b (parts bs)

abbrev pub digit : ℕ → Bool
digit b = leb zero_digit b && leb b nine_digit

abbrev pub digits : List ℕ → Bool
digits [] = true
digits (b ∷ bs) = digit b && digits bs

-- the number that the digits say, after those that say n
abbrev pub digits_value : ℕ → List ℕ → ℕ
digits_value n [] = n
digits_value n (b ∷ bs) = digits_value (n * 10 + (b - zero_digit)) bs

-- a digit 0 in front stands alone
abbrev pub plain_front : ℕ → List ℕ → Bool
plain_front b [] = true
plain_front b (c ∷ cs) = not (eqb b zero_digit)

-- a number: some digits, at most 5, with a plain front
abbrev pub number_form : List ℕ → Bool
number_form [] = false
number_form (b ∷ bs) = digits (b ∷ bs) && leb (length (b ∷ bs)) 5 && plain_front b bs

abbrev pub parsed : List ℕ → Option ℕ
parsed t = pick (number_form t) (Some (digits_value 0 t)) None

-- a mark line's values
pub record EvaluationPoint : Type 0 where
  pub point : ℕ
  pub bandwidth : ℕ

-- the half width has no range here
abbrev pub ranged_point : Option ℕ → Option ℕ → Option EvaluationPoint
ranged_point None h = None
ranged_point (Some z) None = None
ranged_point (Some z) (Some h) = pick (leb z max_u16) (Some (record { point = z; bandwidth = h })) None

abbrev pub two_parts : List (List ℕ) → Option EvaluationPoint
two_parts [] = None
two_parts (a ∷ []) = None
two_parts (a ∷ b ∷ []) = ranged_point (parsed a) (parsed b)
two_parts (a ∷ b ∷ c ∷ r) = None

abbrev pub point_line : List ℕ → Option EvaluationPoint
point_line t = two_parts (parts t)

-- a reading line's values: minute, inj, vdk
pub record Injection : Type 0 where
  pub minute : ℕ
  pub injection : ℕ
  pub value : ℕ

abbrev pub ranged_sample : Option ℕ → Option ℕ → Option ℕ → Option Injection
ranged_sample None j v = None
ranged_sample (Some t) None v = None
ranged_sample (Some t) (Some j) None = None
ranged_sample (Some t) (Some j) (Some v) =
    pick (leb t max_u16 && leb 1 j && leb j max_u16 && leb v max_u16)
    (Some (record { minute = t; injection = j; value = v }))
    None

abbrev pub three_parts : List (List ℕ) → Option Injection
three_parts [] = None
three_parts (a ∷ []) = None
three_parts (a ∷ b ∷ []) = None
three_parts (a ∷ b ∷ c ∷ []) = ranged_sample (parsed a) (parsed b) (parsed c)
three_parts (a ∷ b ∷ c ∷ d ∷ r) = None

abbrev pub sample_line : List ℕ → Option Injection
sample_line t = three_parts (parts t)

-- lines with inj 1 or 2 are not kept
abbrev pub kept : Injection → Bool
kept j = ltb 2 j.injection

-- what an accepted sheet holds: the kept readings, and the marks with their half widths
pub record Contents : Type 0 where
  pub minutes : List ℕ
  pub values : List ℕ
  pub points : List ℕ
  pub bandwidths : List ℕ

-- what the reader makes of a sheet
abbrev pub Outcome : Type 0
Outcome = Answer Contents

abbrev pub refused_at : {A : Type 0} → ℕ → ℕ → Answer A
refused_at p n = refused (record { number = n; place = p })

-- the refusal, if there is one, else what comes next
abbrev pub or_next : {A : Type 0} → Option Fault → Answer A → Answer A
or_next None o = o
or_next (Some e) o = refused e

-- a mark line at byte p, after those with the marks zs and half widths hs: 5, 9, 10, 6
abbrev pub point_checks : Limits → ℕ → List ℕ → List ℕ → EvaluationPoint → List Check
point_checks L p zs hs m =
    check 5 (at p (decreases (zs ++ m.point ∷ []) (length zs)))
    ∷ check 9 (at p (bad_bandwidth m.bandwidth))
    ∷ check 10 (at p (edge_decreases (zs ++ m.point ∷ []) (hs ++ m.bandwidth ∷ []) (length zs)))
    ∷ check 6 (at p (leb L.points (length zs)))
    ∷ []

-- a reading line at byte p, after lines with the minutes all, of which n are kept: 4, 6
abbrev pub sample_checks : Limits → ℕ → List ℕ → ℕ → Injection → List Check
sample_checks L p all n j =
    check 4 (at p (decreases (all ++ j.minute ∷ []) (length all)))
    ∷ check 6 (at p (kept j && leb L.samples n))
    ∷ []

-- a line that is no value line is refused with 3; else the first that holds; else what comes next
abbrev pub with_point : {A : Type 0} → Limits → ℕ → List ℕ → List ℕ → Option EvaluationPoint → (List ℕ → List ℕ → Answer A) → Answer A
with_point L p zs hs None next = refused_at p 3
with_point L p zs hs (Some m) next =
    or_next (first_of (point_checks L p zs hs m)) (next (zs ++ m.point ∷ []) (hs ++ m.bandwidth ∷ []))

abbrev pub add_kept : Bool → ℕ → List ℕ → List ℕ
add_kept b x xs = pick b (xs ++ x ∷ []) xs

abbrev pub with_sample : Limits → ℕ → List ℕ → List ℕ → List ℕ → Option Injection → (List ℕ → List ℕ → List ℕ → Outcome) → Outcome
with_sample L p all ts vs None next = refused_at p 3
with_sample L p all ts vs (Some j) next =
    or_next (first_of (sample_checks L p all (length ts) j))
    (next (all ++ j.minute ∷ []) (add_kept (kept j) j.minute ts) (add_kept (kept j) j.value vs))

-- the reading lines from byte p on, to the end
abbrev pub read_samples : Limits → List ℕ → List ℕ → ℕ → List ℕ → List ℕ → List ℕ → Lines → Outcome
read_samples L zs hs p all ts vs end = given (record { minutes = ts; values = vs; points = zs; bandwidths = hs })
read_samples L zs hs p all ts vs (unended t) = refused_at p 3
read_samples L zs hs p all ts vs (line t e ls) =
    with_sample L p all ts vs (sample_line t) (λ all' ts' vs'. read_samples L zs hs (next_place p t e) all' ts' vs' ls)

abbrev pub same : List ℕ → List ℕ → Bool
same [] [] = true
same [] (y ∷ ys) = false
same (x ∷ xs) [] = false
same (x ∷ xs) (y ∷ ys) = eqb x y && same xs ys

-- the header line at byte p, and what follows it
abbrev pub header : {A : Type 0} → List ℕ → ℕ → Lines → (ℕ → Lines → Answer A) → Answer A
header names p end next = refused_at p 2
header names p (unended t) next = refused_at p 2
header names p (line t e ls) next = pick (same t names) (next (next_place p t e) ls) (refused_at p 2)

-- the empty line at byte p, with the ending e, and what follows it
abbrev pub after_points : Limits → ℕ → List ℕ → List ℕ → LineEnding → Lines → Outcome
after_points L p zs hs e ls =
    pick (eqb (length zs) 0) (refused_at p 7)
    (header sample_header (next_place p [] e) ls (λ q rest. read_samples L zs hs q [] [] [] rest))

-- the mark lines from byte p on, to the empty line
abbrev pub read_points : Limits → ℕ → List ℕ → List ℕ → Lines → Outcome
read_points L p zs hs end = refused_at p 3
read_points L p zs hs (unended t) = refused_at p 3
read_points L p zs hs (line [] e ls) = after_points L p zs hs e ls
read_points L p zs hs (line (b ∷ t) e ls) =
    with_point L p zs hs (point_line (b ∷ t)) (λ zs' hs'. read_points L (next_place p (b ∷ t) e) zs' hs' ls)

-- the reader, for a sheet of n bytes with these lines
abbrev pub read_lines : Limits → ℕ → Lines → Outcome
read_lines L n ls = pick (ltb max_sheet n) (refused_at max_sheet 1) (header point_header 0 ls (λ p rest. read_points L p [] [] rest))

-- the reader's meaning
unfoldable pub read_sheet : Limits → List ℕ → Outcome
read_sheet L s = read_lines L (length s) (lines s)

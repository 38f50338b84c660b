-- SPECIFICATION, "Ranges": the reader of both kinds of sheet, as a function from any list of bytes to a report with its place or the kind and
-- the five lists. What stands before the second header line is read as by the reader of specs/Sheet.antt.
use Rattle.std.specs.Prelude.{ℕ, Bool, ◌&&◌, List, [], ◌∷◌, ◌++◌, ltb, leb, eqb, length, Option, None, Some}
use Rattle.meanings.specs.Lists.{pick}
use Rattle.meanings.specs.declared.Limits.{Limits}
use Rattle.meanings.specs.Limits.{max_u16, max_sheet}
use Rattle.meanings.specs.Bytes.{ascii, point_header, sample_header}
use Rattle.meanings.specs.Reports.{Answer, given, Check, check, at, first_of, decreases}
use Rattle.meanings.specs.Sheet.{Lines, end, unended, line, lines, next_place, parts, parsed, point_line, with_point, header, same, refused_at, or_next}
use Rattle.meanings.specs.Sheet.{Injection, ranged_sample, sample_line, add_kept}
use Rattle.meanings.specs.declared.ranges.Kind.{Kind}
use Rattle.meanings.specs.declared.ranges.Kind.TheVariants.{Plain, Ranges}

-- the second header line of a sheet with ranges
abbrev pub range_header : List ℕ
range_header = ascii "minute,inj,low,high"

-- what is handed on before the second header line: the byte at which that line begins, the lines from there on, the marks and their half widths
pub record Front : Type 0 where
  pub place : ℕ
  pub rest : Lines
  pub points : List ℕ
  pub bandwidths : List ℕ

-- the mark lines from byte p on, to the empty line, and then what follows
abbrev pub front_points : {A : Type 0} → Limits → ℕ → List ℕ → List ℕ → Lines → (Front → Answer A) → Answer A
front_points L p zs hs end next = refused_at p 3
front_points L p zs hs (unended t) next = refused_at p 3
front_points L p zs hs (line [] e ls) next =
    pick (eqb (length zs) 0) (refused_at p 7) (next (record { place = next_place p [] e; rest = ls; points = zs; bandwidths = hs }))
front_points L p zs hs (line (b ∷ t) e ls) next =
    with_point L p zs hs (point_line (b ∷ t)) (λ zs' hs'. front_points L (next_place p (b ∷ t) e) zs' hs' ls next)

-- a sheet up to its second header line, and then what follows
unfoldable pub sheet_front : {A : Type 0} → Limits → List ℕ → (Front → Answer A) → Answer A
sheet_front L s next =
    pick (ltb max_sheet (length s)) (refused_at max_sheet 1) (header point_header 0 (lines s) (λ p rest. front_points L p [] [] rest next))

-- a reading line's values: minute, inj, and the lowest and the highest that the value can be
pub record RangeInjection : Type 0 where
  pub minute : ℕ
  pub injection : ℕ
  pub low : ℕ
  pub high : ℕ

-- three numbers with their ranges, and a fourth
abbrev pub with_high : Option Injection → Option ℕ → Option RangeInjection
with_high None u = None
with_high (Some j) None = None
with_high (Some j) (Some u) =
    pick (leb u max_u16) (Some (record { minute = j.minute; injection = j.injection; low = j.value; high = u })) None

abbrev pub four_parts : List (List ℕ) → Option RangeInjection
four_parts [] = None
four_parts (a ∷ []) = None
four_parts (a ∷ b ∷ []) = None
four_parts (a ∷ b ∷ c ∷ []) = None
four_parts (a ∷ b ∷ c ∷ d ∷ []) = with_high (ranged_sample (parsed a) (parsed b) (parsed c)) (parsed d)
four_parts (a ∷ b ∷ c ∷ d ∷ e ∷ r) = None

abbrev pub range_line : List ℕ → Option RangeInjection
range_line t = four_parts (parts t)

-- a plain line: its value stands as low and high
abbrev pub standing_twice : Option Injection → Option RangeInjection
standing_twice None = None
standing_twice (Some j) = Some (record { minute = j.minute; injection = j.injection; low = j.value; high = j.value })

-- a reading line of a sheet of this kind
abbrev pub reading_line : Kind → List ℕ → Option RangeInjection
reading_line Plain t = standing_twice (sample_line t)
reading_line Ranges t = range_line t

-- lines with inj 1 or 2 are not kept
abbrev pub kept_range : RangeInjection → Bool
kept_range j = ltb 2 j.injection

-- a reading line at byte p, after lines with the minutes all, of which n are kept: 4, 15, 6
abbrev pub reading_checks : Limits → ℕ → List ℕ → ℕ → RangeInjection → List Check
reading_checks L p all n j =
    check 4 (at p (decreases (all ++ j.minute ∷ []) (length all)))
    ∷ check 15 (at p (ltb j.high j.low))
    ∷ check 6 (at p (kept_range j && leb L.samples n))
    ∷ []

-- the kept readings of the lines so far, and the minutes of all of them
pub record Readings : Type 0 where
  pub all : List ℕ
  pub minutes : List ℕ
  pub lows : List ℕ
  pub highs : List ℕ

abbrev pub no_readings : Readings
no_readings = record { all = []; minutes = []; lows = []; highs = [] }

-- with one line more
abbrev pub with_line : Readings → RangeInjection → Readings
with_line r j = record {
  all = r.all ++ j.minute ∷ [];
  minutes = add_kept (kept_range j) j.minute r.minutes;
  lows = add_kept (kept_range j) j.low r.lows;
  highs = add_kept (kept_range j) j.high r.highs;
}

-- a line that is no reading line is refused with 3; else the first that holds; else what comes next
abbrev pub with_reading : {A : Type 0} → Limits → ℕ → Readings → Option RangeInjection → (Readings → Answer A) → Answer A
with_reading L p r None next = refused_at p 3
with_reading L p r (Some j) next = or_next (first_of (reading_checks L p r.all (length r.minutes) j)) (next (with_line r j))

-- what an accepted sheet holds: its kind, the kept readings, and the marks with their half widths
pub record RangeContents : Type 0 where
  pub kind : Kind
  pub minutes : List ℕ
  pub lows : List ℕ
  pub highs : List ℕ
  pub points : List ℕ
  pub bandwidths : List ℕ

-- the reading lines from byte p on, to the end, and then what follows
abbrev pub read_readings : {A : Type 0} → Limits → Kind → ℕ → Readings → Lines → (Readings → Answer A) → Answer A
read_readings L k p r end next = next r
read_readings L k p r (unended t) next = refused_at p 3
read_readings L k p r (line t e ls) next =
    with_reading L p r (reading_line k t) (λ r'. read_readings L k (next_place p t e) r' ls next)

-- the second header line at byte p, which alone tells the kind, and what follows it
abbrev pub second_header : {A : Type 0} → ℕ → Lines → (Kind → ℕ → Lines → Answer A) → Answer A
second_header p end next = refused_at p 2
second_header p (unended t) next = refused_at p 2
second_header p (line t e ls) next =
    pick (same t sample_header) (next Plain (next_place p t e) ls)
    (pick (same t range_header) (next Ranges (next_place p t e) ls) (refused_at p 2))

-- the kind, readings and marks together
abbrev pub range_contents : Kind → Front → Readings → RangeContents
range_contents k f r = record {
  kind = k;
  minutes = r.minutes;
  lows = r.lows;
  highs = r.highs;
  points = f.points;
  bandwidths = f.bandwidths;
}

-- from the second header line on
abbrev pub read_either_from : Limits → Front → Answer RangeContents
read_either_from L f =
    second_header f.place f.rest
    (λ k p ls. read_readings L k p no_readings ls (λ r. given (range_contents k f r)))

-- the reader's meaning
unfoldable pub read_either : Limits → List ℕ → Answer RangeContents
read_either L s = sheet_front L s (read_either_from L)

-- The sheet's front stops with one report or hands on one place and lists, whatever follows; and the reader of plain sheets is that front before
-- its header line and its readings.
use Prim.Native.Nat.{ℕ}
use mathlib.Core.Path.{◌≡◌, refl}
use mathlib.Core.Bool.{Bool, true, false}
use mathlib.Core.List.{List, [], ◌∷◌, ◌++◌}
use Rattle.std.specs.Prelude.{Option, None, Some}
use lib.Dec.{ltb, eqb}
use lib.ListN.{length}
use Rattle.meanings.specs.Lists.{pick}
use Rattle.meanings.specs.declared.Limits.{Limits}
use Rattle.meanings.specs.Limits.{max_sheet}
use Rattle.meanings.specs.Bytes.{point_header, sample_header}
use Rattle.meanings.specs.Reports.{Fault, Answer, given, refused, first_of}
use Rattle.meanings.specs.Sheet.{Lines, end, unended, line, lines, next_place, same, EvaluationPoint, point_line, point_checks, Outcome, refused_at, or_next}
use Rattle.meanings.specs.Sheet.{with_point, header, read_samples, read_points, read_sheet}
use Rattle.meanings.specs.ranges.RangeSheet.{Front, front_points, sheet_front}
use Rattle.meanings.specs.ranges.EitherKind.{and_then}

-- a mark line goes on with what follows it, and with nothing else of that
module _ {A B : Type 0} (over : Answer A → Answer B) (stops : (e : Fault) → over (refused e) ≡ refused e) where
  pub with_point_over : (L : Limits) (p : ℕ) (zs hs : List ℕ) (m : Option EvaluationPoint) (next : List ℕ → List ℕ → Answer A)
      (next' : List ℕ → List ℕ → Answer B) → ((xs ys : List ℕ) → over (next xs ys) ≡ next' xs ys)
      → over (with_point L p zs hs m next) ≡ with_point L p zs hs m next'
  with_point_over L p zs hs None next next' h = stops _
  with_point_over L p zs hs (Some m) next next' h = by (first_of (point_checks L p zs hs m))
    where
      by : (o : Option Fault) → over (or_next o (next (zs ++ m.point ∷ []) (hs ++ m.bandwidth ∷ [])))
          ≡ or_next o (next' (zs ++ m.point ∷ []) (hs ++ m.bandwidth ∷ []))
      by None = h _ _
      by (Some e) = stops e

  pub front_points_over : (L : Limits) (p : ℕ) (zs hs : List ℕ) (ls : Lines) (next : Front → Answer A) (next' : Front → Answer B)
      → ((f : Front) → over (next f) ≡ next' f) → over (front_points L p zs hs ls next) ≡ front_points L p zs hs ls next'
  front_points_over L p zs hs end next next' h = stops _
  front_points_over L p zs hs (unended t) next next' h = stops _
  front_points_over L p zs hs (line [] e ls) next next' h = by (eqb (length zs) 0)
    where
      f : Front
      f = record { place = next_place p [] e; rest = ls; points = zs; bandwidths = hs }

      by : (b : Bool) → over (pick b (refused_at p 7) (next f)) ≡ pick b (refused_at p 7) (next' f)
      by true = stops _
      by false = h f
  front_points_over L p zs hs (line (b ∷ t) e ls) next next' h =
      with_point_over L p zs hs (point_line (b ∷ t)) _ _ (λ xs ys. front_points_over L (next_place p (b ∷ t) e) xs ys ls next next' h)

  header_over : (names : List ℕ) (p : ℕ) (ls : Lines) (next : ℕ → Lines → Answer A) (next' : ℕ → Lines → Answer B)
      → ((q : ℕ) (r : Lines) → over (next q r) ≡ next' q r) → over (header names p ls next) ≡ header names p ls next'
  header_over names p end next next' h = stops _
  header_over names p (unended t) next next' h = stops _
  header_over names p (line t e ls) next next' h = by (same t names)
    where
      by : (b : Bool) → over (pick b (next (next_place p t e) ls) (refused_at p 2)) ≡ pick b (next' (next_place p t e) ls) (refused_at p 2)
      by true = h _ _
      by false = stops _

  pub sheet_front_over : (L : Limits) (s : List ℕ) (next : Front → Answer A) (next' : Front → Answer B) → ((f : Front) → over (next f) ≡ next' f)
      → over (sheet_front L s next) ≡ sheet_front L s next'
  unfolding sheet_front
  sheet_front_over L s next next' h = by (ltb max_sheet (length s))
    where
      by : (b : Bool)
          → over (pick b (refused_at max_sheet 1) (header point_header 0 (lines s) (λ p rest. front_points L p [] [] rest next)))
          ≡ pick b (refused_at max_sheet 1) (header point_header 0 (lines s) (λ p rest. front_points L p [] [] rest next'))
      by true = stops _
      by false = header_over point_header 0 (lines s) _ _ (λ q r. front_points_over L q [] [] r next next' h)

-- whatever follows
pub front_then : {A : Type 0} (L : Limits) (s : List ℕ) (next : Front → Answer A) → and_then (sheet_front L s given) next ≡ sheet_front L s next
front_then L s next = sheet_front_over (λ a. and_then a next) (λ e. refl) L s given next (λ f. refl)

-- what the reader of plain sheets does from the second header line on
abbrev pub plain_from : Limits → Front → Outcome
plain_from L f = header sample_header f.place f.rest (λ p ls. read_samples L f.points f.bandwidths p [] [] [] ls)

points_are_front : (L : Limits) (p : ℕ) (zs hs : List ℕ) (ls : Lines) → read_points L p zs hs ls ≡ front_points L p zs hs ls (plain_from L)
points_are_front L p zs hs end = refl
points_are_front L p zs hs (unended t) = refl
points_are_front L p zs hs (line [] e ls) = refl
points_are_front L p zs hs (line (b ∷ t) e ls) =
    with_point_over (λ a. a) (λ e. refl) L p zs hs (point_line (b ∷ t)) _ _ (λ xs ys. points_are_front L (next_place p (b ∷ t) e) xs ys ls)

pub plain_is_front : (L : Limits) (s : List ℕ) → read_sheet L s ≡ sheet_front L s (plain_from L)
unfolding read_sheet sheet_front
plain_is_front L s = by (ltb max_sheet (length s))
  where
    by : (b : Bool)
        → pick b (refused_at max_sheet 1) (header point_header 0 (lines s) (λ p rest. read_points L p [] [] rest))
        ≡ pick b (refused_at max_sheet 1) (header point_header 0 (lines s) (λ p rest. front_points L p [] [] rest (plain_from L)))
    by true = refl
    by false = header_over (λ a. a) (λ e. refl) point_header 0 (lines s) _ _ (λ q r. points_are_front L q [] [] r)

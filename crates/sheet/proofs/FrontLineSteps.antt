-- What the meaning does at the line that begins at byte p, where there is one and where there is none.
use Prim.Native.Nat.{ℕ, ◌-◌, ◌<◌}
use mathlib.Core.Path.{◌≡◌, refl, sym, ◌∙◌}
use mathlib.Core.Bool.{Bool, true, false}
use mathlib.Core.List.{List, [], ◌∷◌}
use Rattle.std.specs.Prelude.{Option, Some, None}
use native.Mathlib.Omega.{arith}
use lib.Dec.{eqb}
use lib.ListN.{length, take, drop}
use Rattle.meanings.specs.declared.Limits.{Limits}
use Rattle.meanings.specs.Lists.{pick}
use Rattle.meanings.specs.Reports.{Answer, given, refused}
use Rattle.meanings.specs.Sheet.{Lines, end, unended, line, lines, next_place, same, refused_at, header, point_line, with_point}
use Rattle.meanings.specs.ranges.RangeSheet.{Front, front_points}
use Rattle.sheet.specs.declared.lines.Line.{Line}
use Rattle.sheet.specs.Lines.{first_end, line_at}
use Rattle.sheet.proofs.LineEnds.{LineFound, ended_line, text_begins, text_within}
use Rattle.sheet.specs.FrontStages.{Passed, passed_to, HeaderTried}

-- a header line, and then what follows
module _ {A : Type 0} (next : ℕ → Lines → Answer A) where
  abbrev then_next : Answer Passed → Answer A
  then_next (given x) = next x.place x.rest
  then_next (refused e) = refused e

  header_then : (names : List ℕ) (p : ℕ) (ls : Lines) → header names p ls next ≡ then_next (header names p ls passed_to)
  header_then names p end = refl
  header_then names p (unended t) = refl
  header_then names p (line t e ls) = by (same t names)
    where
      by : (b : Bool) → pick b (next (next_place p t e) ls) (refused_at p 2) ≡ then_next (pick b (passed_to (next_place p t e) ls) (refused_at p 2))
      by true = refl
      by false = refl

  -- where it stands the meaning goes on behind it, and where it does not it stops
  pub header_goes_on : {names s : List ℕ} {p q : ℕ} → HeaderTried names s p (Some q)
      → header names p (lines (drop p s)) next ≡ next q (lines (drop q s))
  header_goes_on {names} {s} {p} h = header_then names p (lines (drop p s)) ∙ rw h.outcome

  pub header_stops : {names s : List ℕ} {p : ℕ} → HeaderTried names s p None → header names p (lines (drop p s)) next ≡ refused_at p 2
  header_stops {names} {s} {p} h = header_then names p (lines (drop p s)) ∙ rw h.outcome

header_without_line : (names s : List ℕ) (p : ℕ) → line_at s p ≡ None → header names p (lines (drop p s)) passed_to ≡ refused_at p 2
unfolding line_at
header_without_line names s p h = by (lines (drop p s)) h
  where
    by : (ls : Lines) → first_end p ls ≡ None → header names p ls passed_to ≡ refused_at p 2
    by end h = refl
    by (unended t) h = refl
    by (line t d ls) h = let z : ◌≡◌ {A = ℕ} 0 1 = cc in absurd (omega arith)

pub header_missing : {names s : List ℕ} {p : ℕ} {r : Option ℕ} → r ≡ None → None ≡ line_at s p → HeaderTried names s p r
header_missing e t = rw e (record { outcome = header_without_line _ _ _ (sym t) })

-- the line's text compared with the names
header_at_line : (names s : List ℕ) (p e n : ℕ) (b : Bool) → LineFound s p e n → b ≡ same (take (e - p) (drop p s)) names
    → header names p (lines (drop p s)) passed_to ≡ pick b (passed_to n (lines (drop n s))) (refused_at p 2)
header_at_line names s p e n b f h = rw (f.first_of_lines, f.passes, ← h)

module _ {names s : List ℕ} {p : ℕ} {l : Line} {b : Bool} (line-given : Some l ≡ line_at s p)
    (compared : b ≡ same (take (l.end - p) (drop p s)) names) where
  pub header_passed : b ≡ true → HeaderTried names s p (Some l.next)
  header_passed h = record { outcome = header_at_line names s p l.end l.next b (ended_line line-given) compared ∙ rw h }

  pub header_differs : b ≡ false → HeaderTried names s p None
  header_differs h = record { outcome = header_at_line names s p l.end l.next b (ended_line line-given) compared ∙ rw h }

pub points_without_line : (L : Limits) (s zs hs : List ℕ) (p : ℕ) → line_at s p ≡ None
    → front_points L p zs hs (lines (drop p s)) given ≡ refused_at p 3
unfolding line_at
points_without_line L s zs hs p h = by (lines (drop p s)) h
  where
    by : (ls : Lines) → first_end p ls ≡ None → front_points L p zs hs ls given ≡ refused_at p 3
    by end h = refl
    by (unended t) h = refl
    by (line t d ls) h = let z : ◌≡◌ {A = ℕ} 0 1 = cc in absurd (omega arith)

-- what the empty line hands on
abbrev at_empty_line : List ℕ → List ℕ → ℕ → ℕ → Lines → Answer Front
at_empty_line zs hs p n ls = pick (eqb (length zs) 0) (refused_at p 7) (given (record { place = n; rest = ls; points = zs; bandwidths = hs }))

pub points_at_empty_line : (L : Limits) (s zs hs : List ℕ) (p e n : ℕ) → LineFound s p e n → e ≡ p
    → front_points L p zs hs (lines (drop p s)) given ≡ at_empty_line zs hs p n (lines (drop n s))
points_at_empty_line L s zs hs p e n f h =
    rw f.first_of_lines (by (take (e - p) (drop p s)) (let k : e - p ≡ 0 = omega arith in rw k) f.passes)
  where
    by : (t : List ℕ) → t ≡ [] → next_place p t f.ending ≡ n
        → front_points L p zs hs (line t f.ending (lines (drop n s))) given ≡ at_empty_line zs hs p n (lines (drop n s))
    by [] h m = rw m
    by (b ∷ t) h m = let z : ◌≡◌ {A = ℕ} 0 1 = cc in absurd (omega arith)

-- a line of values
pub points_at_line : (L : Limits) (s zs hs : List ℕ) (p e n : ℕ) → LineFound s p e n → ¬ (e ≡ p)
    → front_points L p zs hs (lines (drop p s)) given
    ≡ with_point L p zs hs (point_line (take (e - p) (drop p s))) (λ zs' hs'. front_points L n zs' hs' (lines (drop n s)) given)
points_at_line L s zs hs p e n f l = rw f.first_of_lines (by (take (e - p) (drop p s)) (omega arith) f.passes)
  where
    by : (t : List ℕ) → 0 < length t → next_place p t f.ending ≡ n
        → front_points L p zs hs (line t f.ending (lines (drop n s))) given
        ≡ with_point L p zs hs (point_line t) (λ zs' hs'. front_points L n zs' hs' (lines (drop n s)) given)
    by [] l m = absurd (omega arith)
    by (b ∷ t) l m = rw m

-- what reading a header line goes by
pub ruleset reading_header = (header_missing, header_passed, header_differs, text_begins, text_within)

-- What each stage of the sheet's front has found out, as what is left of the front's meaning: a stage's contract says that the meaning before it
-- is the meaning of what it gives. Each contract is one record.
use Rattle.std.specs.Prelude.{ℕ, ◌+◌, ◌≤◌, ◌≡◌, Bool, ◌||◌, List, [], ◌∷◌, ◌++◌, length, take, drop, Option, Some, None, Result, Ok, Err}
use Rattle.meanings.specs.declared.Limits.{Limits}
use Rattle.meanings.specs.declared.Refusal.{Refusal}
use Rattle.meanings.specs.Limits.{full}
use Rattle.meanings.specs.Reports.{Answer, given, refused, fault_of, verdict_fault, check, at, first_of, differ, decreases, edge_decreases}
use Rattle.meanings.specs.Sheet.{Lines, lines, refused_at, or_next, header, point_line, point_checks, with_point}
use Rattle.meanings.specs.ranges.RangeSheet.{Front, front_points, sheet_front}
use Rattle.meanings.specs.declared.Mark.{Mark}
use Rattle.sheet.specs.declared.front.points.Front.{Front as PointsEnd}

-- what is handed on behind a header line: where the next line begins, and the lines from there on
pub record Passed : Type 0 where
  pub place : ℕ
  pub rest : Lines

abbrev pub passed_to : ℕ → Lines → Answer Passed
passed_to q ls = given (record { place = q; rest = ls })

-- after the header line at byte p
abbrev pub after_header : Option ℕ → List ℕ → ℕ → Answer Passed
after_header (Some q) s p = passed_to q (lines (drop q s))
after_header None s p = refused_at p 2

pub record HeaderTried (names s : List ℕ) (p : ℕ) (r : Option ℕ) : Type 0 where
  pub outcome : header names p (lines (drop p s)) passed_to ≡ after_header r s p

-- a mark against the last of these: the mark, and an edge of it
unfoldable pub below_last : List ℕ → ℕ → Bool
below_last zs z = decreases (zs ++ z ∷ []) (length zs)

unfoldable pub edge_below_last : List ℕ → List ℕ → Mark → Bool
edge_below_last zs hs m = edge_decreases (zs ++ m.point ∷ []) (hs ++ m.bandwidth ∷ []) (length zs)

-- what the line of a mark at byte p earns after these marks
pub record PointChecked (p : ℕ) (zs hs : List ℕ) (m : Mark) (v : Result Unit Refusal) : Type 0 where
  pub found : verdict_fault v ≡ first_of (point_checks full p zs hs (record { point = m.point; bandwidth = m.bandwidth }))

-- a mark line that is stored leaves the count within its limit
abbrev pub room_after : Result Unit Refusal → ℕ → Type 0
room_after (Ok u) count = count + 1 ≤ 512
room_after (Err r) count = Unit {0}

-- a mark line with text t at byte p, after the first n marks of zs and hs, which are zs' and hs' afterwards
pub record PointTried (t : List ℕ) (p : ℕ) (zs hs : List ℕ) (n : ℕ) (v : Result Unit Refusal) (zs' hs' : List ℕ) : Type 0 where
  pub goes_on : (next : List ℕ → List ℕ → Answer Front) → with_point full p (take n zs) (take n hs) (point_line t) next
      ≡ or_next (verdict_fault v) (next (take (n + 1) zs') (take (n + 1) hs'))
  pub room : room_after v n

-- after the mark lines and the empty line: the second header line follows
abbrev pub front_read : Result PointsEnd Refusal → List ℕ → List ℕ → List ℕ → Answer Front
front_read (Ok f) s zs hs =
    given (record { place = f.next; rest = lines (drop f.next s); points = take f.count zs; bandwidths = take f.count hs })
front_read (Err r) s zs hs = refused (fault_of r)

abbrev pub points_within : Result PointsEnd Refusal → ℕ → Type 0
points_within (Ok f) size = (f.count ≤ 512) × (f.next ≤ size)
points_within (Err r) size = Unit {0}

pub record PointsFound (s : List ℕ) (from : ℕ) (r : Result PointsEnd Refusal) (zs hs : List ℕ) : Type 0 where
  pub outcome : front_points full from [] [] (lines (drop from s)) given ≡ front_read r s zs hs
  pub within : points_within r (length s)

-- the same, from the sheet's first byte on
pub record FrontFound (s : List ℕ) (r : Result PointsEnd Refusal) (zs hs : List ℕ) : Type 0 where
  pub outcome : sheet_front full s given ≡ front_read r s zs hs
  pub within : points_within r (length s)

-- the whole call, with lists for so many marks and half widths: 8, and then what the front says
unfoldable pub front_call : Limits → List ℕ → ℕ → ℕ → Answer Front
front_call L s m n = or_next (first_of (check 8 (at 0 (differ m L.points || differ n L.points)) ∷ [])) (sheet_front L s given)

-- what it gives, and what its lists hold; after a refusal that is left open
pub record FrontOutcome (s : List ℕ) (m n : ℕ) (r : Result PointsEnd Refusal) (zs hs : List ℕ) : Type 0 where
  pub outcome : front_call full s m n ≡ front_read r s zs hs
  pub within : points_within r (length s)

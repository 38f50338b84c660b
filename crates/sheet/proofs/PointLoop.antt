-- The mark lines, line by line: what is left of the sheet's meaning after those read so far.
use Prim.Native.Nat.{ℕ, ◌+◌, ◌-◌, ◌≤◌}
use mathlib.Core.Path.{◌≡◌, refl, sym, ◌∙◌}
use mathlib.Core.List.{List, []}
use native.Mathlib.Omega.{arith}
use borrow.Author.Tests.{ne_eqb}
use lib.ListN.{length, take, drop}
use lib.Seq.{length-take-le}
use Rattle.meanings.specs.declared.Report.TheVariants.{MalformedLine, NoPoints}
use Rattle.meanings.specs.declared.Refusal.{Refusal}
use Rattle.std.specs.Prelude.{Some, None, Ok, Err}
use Rattle.meanings.specs.Limits.{full}
use Rattle.meanings.specs.Reports.{given}
use Rattle.meanings.specs.Sheet.{lines}
use Rattle.meanings.specs.ranges.RangeSheet.{front_points}
use Rattle.sheet.specs.declared.lines.Line.{Line}
use Rattle.sheet.specs.Lines.{line_at}
use Rattle.sheet.proofs.LineEnds.{ended_line, text_begins, text_within, line_shortens}
use Rattle.sheet.specs.FrontStages.{PointTried, PointsFound}
use Rattle.sheet.proofs.FrontLineSteps.{points_without_line, points_at_empty_line, points_at_line}

-- the mark lines from byte `from` up to byte p are in zs and hs, count of them
pub record PointsSoFar (s : List ℕ) (from : ℕ) (zs hs : List ℕ) (p count : ℕ) : Type 0 where
  pub point_list : length zs ≡ 512
  pub few : count ≤ 512
  pub left : front_points full from [] [] (lines (drop from s)) given ≡ front_points full p (take count zs) (take count hs) (lines (drop p s)) given

pub points_begin : {s : List ℕ} {from : ℕ} {zs hs : List ℕ} → length zs ≡ 512 → PointsSoFar s from zs hs from 0
points_begin l = record { point_list = l; few = omega arith; left = refl }

module _ {s : List ℕ} {from : ℕ} {zs hs : List ℕ} {p count : ℕ} (w : PointsSoFar s from zs hs p count) where
  pub points_unended : {r : Refusal} → None ≡ line_at s p → r ≡ (record { report = MalformedLine; place = p }) → PointsFound s from (Err r) zs hs
  points_unended t e = record { outcome = w.left ∙ points_without_line full s _ _ p (sym t) ∙ rw e; within = tt }

  module _ {l : Line} (t : Some l ≡ line_at s p) where
    pub no_points : {r : Refusal} → l.end ≡ p → count ≡ 0 → r ≡ (record { report = NoPoints; place = p }) → PointsFound s from (Err r) zs hs
    no_points h z e = record { outcome = w.left ∙ points_at_empty_line full s _ _ p _ _ (ended_line t) h ∙ rw (z, e); within = tt }

    pub points_end : l.end ≡ p → ¬ (count ≡ 0) → PointsFound s from (Ok (record { count = count; next = l.next })) zs hs
    points_end h z =
        let o = ended_line t in
        let k = length-take-le count zs (omega (arith, w.few, w.point_list)) in
        record {
          outcome = w.left ∙ points_at_empty_line full s _ _ p _ _ o h ∙ rw (k, ne_eqb count 0 z);
          within = (w.few, o.within);
        }

    -- a line of values, tried
    module _ (h : ¬ (l.end ≡ p)) {zs' hs' : List ℕ} where
      pub point_line_refused : {r : Refusal} → PointTried (take (l.end - p) (drop p s)) p zs hs count (Err r) zs' hs' → PointsFound s from (Err r) zs' hs'
      point_line_refused tried =
          record { outcome = w.left ∙ points_at_line full s _ _ p _ _ (ended_line t) h ∙ tried.goes_on _; within = tt }

      pub points_go_on : {u : Unit {0}} → PointTried (take (l.end - p) (drop p s)) p zs hs count (Ok u) zs' hs' → length zs' ≡ 512
          → PointsSoFar s from zs' hs' l.next (count + 1)
      points_go_on tried a =
          record {
            point_list = a;
            few = tried.room;
            left = w.left ∙ points_at_line full s _ _ p _ _ (ended_line t) h ∙ tried.goes_on _;
          }

-- what reading the mark lines goes by
pub ruleset reading_points = (points_begin, points_unended, no_points, text_begins, text_within, line_shortens)

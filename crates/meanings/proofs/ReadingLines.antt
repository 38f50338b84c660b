-- The reading lines stop with one report or hand on the kept readings, whatever follows.
use Prim.Native.Nat.{ℕ}
use mathlib.Core.Path.{◌≡◌}
use Rattle.std.specs.Prelude.{Option, None, Some}
use lib.ListN.{length}
use Rattle.meanings.specs.declared.Limits.{Limits}
use Rattle.meanings.specs.Reports.{Fault, Answer, refused, first_of}
use Rattle.meanings.specs.Sheet.{Lines, end, unended, line, next_place, or_next}
use Rattle.meanings.specs.declared.ranges.Kind.{Kind}
use Rattle.meanings.specs.ranges.RangeSheet.{RangeInjection, Readings, reading_line, reading_checks, with_line, with_reading, read_readings}

module _ {A B : Type 0} (over : Answer A → Answer B) (stops : (e : Fault) → over (refused e) ≡ refused e) where
  with_reading_over : (L : Limits) (p : ℕ) (r : Readings) (o : Option RangeInjection) (next : Readings → Answer A) (next' : Readings → Answer B)
      → ((x : Readings) → over (next x) ≡ next' x) → over (with_reading L p r o next) ≡ with_reading L p r o next'
  with_reading_over L p r None next next' h = stops _
  with_reading_over L p r (Some j) next next' h = by (first_of (reading_checks L p r.all (length r.minutes) j))
    where
      by : (o : Option Fault) → over (or_next o (next (with_line r j))) ≡ or_next o (next' (with_line r j))
      by None = h _
      by (Some e) = stops e

  pub read_readings_over : (L : Limits) (k : Kind) (p : ℕ) (r : Readings) (ls : Lines) (next : Readings → Answer A) (next' : Readings → Answer B)
      → ((x : Readings) → over (next x) ≡ next' x) → over (read_readings L k p r ls next) ≡ read_readings L k p r ls next'
  read_readings_over L k p r end next next' h = h r
  read_readings_over L k p r (unended t) next next' h = stops _
  read_readings_over L k p r (line t e ls) next next' h =
      with_reading_over L p r (reading_line k t) _ _ (λ x. read_readings_over L k (next_place p t e) x ls next next' h)

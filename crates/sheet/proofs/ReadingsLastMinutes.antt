-- Of the lines before, only the last one's minute decides what the reading lines keep; before the first line it may be 0.
use Prim.Native.Nat.{ℕ}
use mathlib.Core.Path.{◌≡◌, refl, sym}
use mathlib.Core.List.{List, [], ◌∷◌, ◌++◌}
use Rattle.std.specs.Prelude.{Option, None, Some, IsSome}
use Rattle.sheet.specs.LineValues.{minute_before}
use Rattle.sheet.proofs.ValuesLastMinutes.{Alike, alike_behind}
use native.Mathlib.Omega.{arith}
use borrow.Author.Tests.{le-ltb}
use Rattle.meanings.specs.declared.Limits.{Limits}
use Rattle.meanings.specs.Sheet.{Lines, end, unended, line, next_place, add_kept}
use Rattle.meanings.specs.declared.ranges.Kind.{Kind}
use Rattle.meanings.specs.ranges.RangeSheet.{Readings, RangeInjection, kept_range, reading_line, with_reading, read_readings}
use Rattle.sheet.specs.ReadingsStages.{kept_readings}

-- the same readings with other minutes of all lines
abbrev after : List ℕ → List ℕ → List ℕ → List ℕ → Readings
after ms ts ls us = record { all = ms; minutes = ts; lows = ls; highs = us }

alike_lines : (L : Limits) (k : Kind) (p : ℕ) (a b ts ls us : List ℕ) (r : Lines) → Alike a b
    → read_readings L k p (after a ts ls us) r kept_readings ≡ read_readings L k p (after b ts ls us) r kept_readings
alike_lines L k p a b ts ls us end e = refl
alike_lines L k p a b ts ls us (unended t) e = refl
alike_lines L k p a b ts ls us (line t d r) e =
    by (reading_line k t)
    (λ m ts' ls' us'. alike_lines L k q (a ++ m ∷ []) (b ++ m ∷ []) ts' ls' us' r (alike_behind a b m))
  where
    q : ℕ
    q = next_place p t d

    by : (o : Option RangeInjection)
        → ((m : ℕ) (ts' ls' us' : List ℕ)
        → read_readings L k q (after (a ++ m ∷ []) ts' ls' us') r kept_readings
        ≡ read_readings L k q (after (b ++ m ∷ []) ts' ls' us') r kept_readings)
        → with_reading L p (after a ts ls us) o (λ w. read_readings L k q w r kept_readings)
        ≡ with_reading L p (after b ts ls us) o (λ w. read_readings L k q w r kept_readings)
    by None h = refl
    by (Some j) h =
        rw (
          e j.minute,
          h j.minute (add_kept (kept_range j) j.minute ts) (add_kept (kept_range j) j.low ls) (add_kept (kept_range j) j.high us),
        )

pub first_minute : (L : Limits) (k : Kind) (p : ℕ) (ts ls us : List ℕ) (r : Lines)
    → read_readings L k p (after [] ts ls us) r kept_readings ≡ read_readings L k p (after (0 ∷ []) ts ls us) r kept_readings
first_minute L k p ts ls us r = alike_lines L k p [] (0 ∷ []) ts ls us r (λ y. sym (le-ltb y 0 (omega arith)))

pub last_minute : (L : Limits) (k : Kind) (p : ℕ) (before : List ℕ) (o : Option ℕ) (ts ls us : List ℕ) (r : Lines) → IsSome o
    → read_readings L k p (after (before ++ minute_before o) ts ls us) r kept_readings ≡ read_readings L k p (after (minute_before o) ts ls us) r kept_readings
last_minute L k p before None ts ls us r e = let z : ◌≡◌ {A = ℕ} 0 1 = cc in absurd (omega arith)
last_minute L k p before (Some m) ts ls us r e = alike_lines L k p (before ++ m ∷ []) (m ∷ []) ts ls us r (alike_behind before [] m)

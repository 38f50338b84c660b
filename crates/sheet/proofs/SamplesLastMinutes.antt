-- Of the lines before, only the last one's minute decides what the reading lines give; before the first line it may be 0.
use Prim.Native.Nat.{ℕ}
use mathlib.Core.Path.{◌≡◌, refl, sym}
use mathlib.Core.List.{List, [], ◌∷◌, ◌++◌}
use Rattle.std.specs.Prelude.{Option, None, Some, IsSome}
use Rattle.sheet.specs.LineValues.{minute_before}
use Rattle.sheet.proofs.ValuesLastMinutes.{Alike, alike_behind}
use native.Mathlib.Omega.{arith}
use borrow.Author.Tests.{le-ltb}
use Rattle.meanings.specs.declared.Limits.{Limits}
use Rattle.meanings.specs.Sheet.{Lines, end, unended, line, next_place, Injection, kept, add_kept, sample_line, with_sample, read_samples}

alike_lines : (L : Limits) (zs hs : List ℕ) (p : ℕ) (a b ts vs : List ℕ) (ls : Lines) → Alike a b
    → read_samples L zs hs p a ts vs ls ≡ read_samples L zs hs p b ts vs ls
alike_lines L zs hs p a b ts vs end e = refl
alike_lines L zs hs p a b ts vs (unended t) e = refl
alike_lines L zs hs p a b ts vs (line t d ls) e =
    by (sample_line t) (λ m ts' vs'. alike_lines L zs hs q (a ++ m ∷ []) (b ++ m ∷ []) ts' vs' ls (alike_behind a b m))
  where
    q : ℕ
    q = next_place p t d

    by : (o : Option Injection)
        → ((m : ℕ) (ts' vs' : List ℕ) → read_samples L zs hs q (a ++ m ∷ []) ts' vs' ls ≡ read_samples L zs hs q (b ++ m ∷ []) ts' vs' ls)
        → with_sample L p a ts vs o (λ all' ts' vs'. read_samples L zs hs q all' ts' vs' ls)
        ≡ with_sample L p b ts vs o (λ all' ts' vs'. read_samples L zs hs q all' ts' vs' ls)
    by None k = refl
    by (Some j) k = rw (e j.minute, k j.minute (add_kept (kept j) j.minute ts) (add_kept (kept j) j.value vs))

pub first_minute : (L : Limits) (zs hs : List ℕ) (p : ℕ) (ts vs : List ℕ) (ls : Lines)
    → read_samples L zs hs p [] ts vs ls ≡ read_samples L zs hs p (0 ∷ []) ts vs ls
first_minute L zs hs p ts vs ls = alike_lines L zs hs p [] (0 ∷ []) ts vs ls (λ y. sym (le-ltb y 0 (omega arith)))

pub last_minute : (L : Limits) (zs hs : List ℕ) (p : ℕ) (before : List ℕ) (o : Option ℕ) (ts vs : List ℕ) (ls : Lines) → IsSome o
    → read_samples L zs hs p (before ++ minute_before o) ts vs ls ≡ read_samples L zs hs p (minute_before o) ts vs ls
last_minute L zs hs p before None ts vs ls e = let z : ◌≡◌ {A = ℕ} 0 1 = cc in absurd (omega arith)
last_minute L zs hs p before (Some m) ts vs ls e = alike_lines L zs hs p (before ++ m ∷ []) (m ∷ []) ts vs ls (alike_behind before [] m)

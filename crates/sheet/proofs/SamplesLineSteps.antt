-- What the meaning does at the reading line that begins at byte p, where there is one and where there is none.
use Prim.Native.Nat.{ℕ, ◌-◌, ◌<◌}
use mathlib.Core.Path.{◌≡◌, refl, sym, ap, ◌∙◌}
use mathlib.Core.List.{List}
use Rattle.std.specs.Prelude.{None}
use native.Mathlib.Omega.{arith}
use lib.ListN.{length, take, drop, length-drop}
use Rattle.meanings.specs.declared.Limits.{Limits}
use Rattle.meanings.specs.Sheet.{Lines, end, unended, line, lines, refused_at, sample_line, with_sample, read_samples}
use Rattle.laws.proofs.text.Texts.{no_lines}
use Rattle.sheet.specs.Lines.{first_end, line_at}
use Rattle.sheet.proofs.LineEnds.{LineFound}

pub samples_without_line : (L : Limits) (s zs hs : List ℕ) (p : ℕ) (all ts vs : List ℕ) → p < length s → line_at s p ≡ None
    → read_samples L zs hs p all ts vs (lines (drop p s)) ≡ refused_at p 3
unfolding line_at
samples_without_line L s zs hs p all ts vs l h = by (lines (drop p s)) refl h
  where
    by : (ls : Lines) → lines (drop p s) ≡ ls → first_end p ls ≡ None → read_samples L zs hs p all ts vs ls ≡ refused_at p 3
    by end g h = let m = sym (length-drop p s) ∙ ap length (no_lines (drop p s) g) in absurd (omega arith)
    by (unended t) g h = refl
    by (line t d ls) g h = let z : ◌≡◌ {A = ℕ} 0 1 = cc in absurd (omega arith)

pub samples_at_line : (L : Limits) (s zs hs : List ℕ) (p e n : ℕ) (all ts vs : List ℕ) → LineFound s p e n
    → read_samples L zs hs p all ts vs (lines (drop p s))
    ≡ with_sample L p all ts vs (sample_line (take (e - p) (drop p s))) (λ all' ts' vs'. read_samples L zs hs n all' ts' vs' (lines (drop n s)))
samples_at_line L s zs hs p e n all ts vs f = rw (f.first_of_lines, f.passes)

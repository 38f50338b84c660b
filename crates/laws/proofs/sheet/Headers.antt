-- Bytes begin with a header line and its ending or they do not, and the reader refuses where they do not: only the first line counts, and
-- bytes that begin so have the header line as their first line.
use Prim.Native.Nat.{ℕ}
use mathlib.Core.Path.{◌≡◌, refl, sym, ap, ◌∙◌}
use mathlib.Core.Logic.{◌⊎◌, inl, inr}
use mathlib.Core.Bool.{Bool, true, false}
use mathlib.Core.List.{List, [], ◌∷◌, ◌++◌, append_assoc}
use native.Mathlib.Omega.{arith}
use borrow.Author.Tests.{eqb-true, eq-eqb}
use lib.Dec.{eqb}
use Rattle.meanings.specs.Lists.{pick}
use Rattle.meanings.specs.Bytes.{LineEnding, ending_bytes, point_header, sample_header}
use Rattle.meanings.specs.Sheet.{Lines, end, unended, line, lines, next_place, Outcome, refused_at, same, header}
use Rattle.meanings.specs.SheetForm.{Begins}
use Rattle.laws.proofs.text.Numbers.{and_true_both}
use Rattle.laws.proofs.text.Texts.{lines_of_ending, first_line}

pub same_true : (s t : List ℕ) → same s t ≡ true → s ≡ t
same_true [] [] e = refl
same_true [] (y ∷ t) e = let z : ◌≡◌ {A = ℕ} 0 1 = cc in absurd (omega arith)
same_true (x ∷ s) [] e = let z : ◌≡◌ {A = ℕ} 0 1 = cc in absurd (omega arith)
same_true (x ∷ s) (y ∷ t) e =
    let o = and_true_both (eqb x y) (same s t) e in
    let a = eqb-true x y o.0 in
    let b = same_true s t o.1 in
    cc

same_self : (t : List ℕ) → same t t ≡ true
same_self [] = refl
same_self (b ∷ t) = rw (eq-eqb b b refl, same_self t)

-- a text with a line ending behind it is one line, whatever follows
abbrev pub OneLine : List ℕ → Type 0
OneLine t = (e : LineEnding) (r : List ℕ) → lines (t ++ (ending_bytes e ++ r)) ≡ line t e (lines r)

pub point_header_line : OneLine point_header
point_header_line e r = rw (lines_of_ending e r)

pub sample_header_line : OneLine sample_header
sample_header_line e r = rw (lines_of_ending e r)

-- bytes that begin with a line, or with a line's ending
lines_of_begin : (t s : List ℕ) (e : LineEnding) → OneLine t → (b : Begins (t ++ ending_bytes e) s) → lines s ≡ line t e (lines b.0)
lines_of_begin t s e f b = ap lines (b.1 ∙ append_assoc t (ending_bytes e) b.0) ∙ f e b.0

pub lines_of_empty_line : (s : List ℕ) (e : LineEnding) → (b : Begins (ending_bytes e) s) → lines s ≡ line [] e (lines b.0)
lines_of_empty_line s e b = ap lines b.1 ∙ lines_of_ending e b.0

begins_of_line : (names s t : List ℕ) (e : LineEnding) (ls : Lines) → lines s ≡ line t e ls → same t names ≡ true → Begins (names ++ ending_bytes e) s
begins_of_line names s t e ls g d =
    let h = first_line s t e ls g in
    let n = same_true t names d in
    (h.0, rw (← n) (h.1.0 ∙ sym (append_assoc t (ending_bytes e) h.0)))

-- the bytes begin with the header line, under some ending or under none
abbrev pub BeginsLine : List ℕ → List ℕ → Type 0
BeginsLine names s = (e : LineEnding) × Begins (names ++ ending_bytes e) s

abbrev pub BeginsNoLine : List ℕ → List ℕ → Type 0
BeginsNoLine names s = (e : LineEnding) → ¬ Begins (names ++ ending_bytes e) s

pub header_there : (names s : List ℕ) → OneLine names → BeginsLine names s ⊎ BeginsNoLine names s
header_there names s f = by (lines s) refl
  where
    by : (ls : Lines) → lines s ≡ ls → BeginsLine names s ⊎ BeginsNoLine names s
    by end g =
        inr (λ e (b : Begins (names ++ ending_bytes e) s). let h = lines_of_begin names s e f b in let z : ◌≡◌ {A = ℕ} 0 1 = cc in omega arith)
    by (unended t) g =
        inr (λ e (b : Begins (names ++ ending_bytes e) s). let h = lines_of_begin names s e f b in let z : ◌≡◌ {A = ℕ} 0 1 = cc in omega arith)
    by (line t d ls) g = named (same t names) refl
      where
        named : (x : Bool) → same t names ≡ x → BeginsLine names s ⊎ BeginsNoLine names s
        named true x = inl (d, begins_of_line names s t d ls g x)
        named false x =
            inr
            (λ e (b : Begins (names ++ ending_bytes e) s).
            let h = lines_of_begin names s e f b in
            let n : t ≡ names = cc in
            let y = same_self names in
            let w : same names names ≡ false = rw n at x in
            let z : ◌≡◌ {A = ℕ} 0 1 = cc in
            omega arith)

pub no_header_refused : (names : List ℕ) (p : ℕ) (s : List ℕ) (next : ℕ → Lines → Outcome) → BeginsNoLine names s
    → header names p (lines s) next ≡ refused_at p 2
no_header_refused names p s next n = by (lines s) refl
  where
    by : (ls : Lines) → lines s ≡ ls → header names p ls next ≡ refused_at p 2
    by end g = refl
    by (unended t) g = refl
    by (line t e ls) g = named (same t names) refl
      where
        named : (d : Bool) → same t names ≡ d → pick d (next (next_place p t e) ls) (refused_at p 2) ≡ refused_at p 2
        named true d = absurd (n e (begins_of_line names s t e ls g d))
        named false d = refl

-- a header line is passed
pub header_passed : (names : List ℕ) (p : ℕ) (e : LineEnding) (r : List ℕ) (next : ℕ → Lines → Outcome) → OneLine names
    → header names p (lines ((names ++ ending_bytes e) ++ r)) next ≡ next (next_place p names e) (lines r)
header_passed names p e r next f =
    ap (λ (ls : Lines). header names p ls next) (ap lines (append_assoc names (ending_bytes e) r) ∙ f e r) ∙ rw (same_self names)

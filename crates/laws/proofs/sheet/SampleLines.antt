-- What the reader makes of the bytes after faultless reading lines, each way: it refuses with 3 exactly if bytes are left and no reading
-- line begins there, and a reading line's fault is its report. By the line that stands there.
use Prim.Native.Nat.{ℕ}
use mathlib.Core.Path.{◌≡◌, refl, sym, ap, ◌∙◌}
use mathlib.Core.List.{List, [], ◌∷◌, ◌++◌, append_assoc, append-nil}
use Rattle.std.specs.Prelude.{Option, None, Some}
use native.Mathlib.Omega.{arith}
use lib.ListN.{length}
use Rattle.meanings.specs.declared.Limits.{Limits}
use Rattle.meanings.specs.Bytes.{LineEnding, ending_bytes}
use Rattle.meanings.specs.Reports.{Fault, refused, first_of}
use Rattle.meanings.specs.Sheet.{Lines, end, unended, line, lines, next_place, Injection, sample_line, refused_at}
use Rattle.meanings.specs.Sheet.{sample_checks, with_sample, read_samples}
use Rattle.meanings.specs.SheetForm.{Ended, sample_text, print_sample, print_samples, kept_of, SampleForm, Begins}
use Rattle.laws.proofs.text.Texts.{no_lines, first_line}
use Rattle.laws.proofs.sheet.ValueLines.{lines_of_sample, sample_line_of_text, sample_line_text}
use Rattle.laws.proofs.sheet.LineOrder.{minutes_of}
use Rattle.laws.proofs.sheet.Passed.{after_samples}

-- no reading line begins where the first line is none
pub unread_no_sample : (s t : List ℕ) (e : LineEnding) (ls : Lines) → lines s ≡ line t e ls → sample_line t ≡ None → (j : Ended Injection)
    → SampleForm j.content → ¬ Begins (print_sample j) s
unread_no_sample s t e ls g n j f b =
    let p = sym g ∙ ap lines b.1 ∙ lines_of_sample j b.0 in
    let q : t ≡ sample_text j.content = cc in
    let o = sym n ∙ ap sample_line q ∙ sample_line_of_text j.content f in
    let z : ◌≡◌ {A = ℕ} 0 1 = cc in
    omega arith

-- a line that is read as a reading is the reading's line
pub sample_begins : (s t : List ℕ) (e : LineEnding) (ls : Lines) (j : Injection) → lines s ≡ line t e ls → sample_line t ≡ Some j
    → SampleForm j × ((r : List ℕ) × ((s ≡ print_sample (record { content = j; ending = e }) ++ r) × (lines r ≡ ls)))
sample_begins s t e ls j g h =
    let i = first_line s t e ls g in
    let w = sample_line_text t j h in
    (w.1, (i.0, (i.1.0 ∙ sym (append_assoc t (ending_bytes e) i.0) ∙ ap (λ (u : List ℕ). (u ++ ending_bytes e) ++ i.0) w.0, i.1.2)))

pub no_sample_refused : (L : Limits) (zs hs : List ℕ) (p : ℕ) (all ts vs : List ℕ) (b : ℕ) (rest : List ℕ)
    → ((j : Ended Injection) → SampleForm j.content → ¬ Begins (print_sample j) (b ∷ rest))
    → read_samples L zs hs p all ts vs (lines (b ∷ rest)) ≡ refused_at p 3
no_sample_refused L zs hs p all ts vs b rest w = by (lines (b ∷ rest)) refl
  where
    by : (ls : Lines) → lines (b ∷ rest) ≡ ls → read_samples L zs hs p all ts vs ls ≡ refused_at p 3
    by end g = let e = no_lines (b ∷ rest) g in let z : ◌≡◌ {A = ℕ} 0 1 = cc in absurd (omega arith)
    by (unended t) g = refl
    by (line t d ls) g = read (sample_line t) refl
      where
        read : (x : Option Injection) → sample_line t ≡ x
            → with_sample L p all ts vs x (λ all' ts' vs'. read_samples L zs hs (next_place p t d) all' ts' vs' ls) ≡ refused_at p 3
        read None e = refl
        read (Some j) e =
            let o = sample_begins (b ∷ rest) t d ls j g e in
            absurd (w (record { content = j; ending = d }) o.0 (o.1.0, o.1.1.0))

pub faulty_sample_refused : (L : Limits) (zs hs : List ℕ) (p : ℕ) (js : List Injection) (j : Ended Injection) (r : List ℕ) (f : Fault)
    → SampleForm j.content → first_of (sample_checks L p (minutes_of js) (length (minutes_of (kept_of js))) j.content) ≡ Some f
    → after_samples L zs hs p js (lines (print_sample j ++ r)) ≡ refused f
faulty_sample_refused L zs hs p js j r f k e =
    ap (after_samples L zs hs p js) (lines_of_sample j r) ∙ rw (sample_line_of_text j.content k, e)

-- the print of one reading line more
pub print_samples_more : (js : List (Ended Injection)) (j : Ended Injection) → print_samples (js ++ j ∷ []) ≡ print_samples js ++ print_sample j
print_samples_more [] j = append-nil (print_sample j)
print_samples_more (a ∷ js) j =
    ap (λ (t : List ℕ). print_sample a ++ t) (print_samples_more js j)
    ∙ sym (append_assoc (print_sample a) (print_samples js) (print_sample j))

pub one_sample_more : (head s : List ℕ) (js : List (Ended Injection)) (j : Ended Injection) (r : List ℕ)
    → s ≡ (head ++ print_samples js) ++ (print_sample j ++ r) → s ≡ (head ++ print_samples (js ++ j ∷ [])) ++ r
one_sample_more head s js j r e =
    e ∙ sym (append_assoc (head ++ print_samples js) (print_sample j) r)
    ∙ ap (λ (t : List ℕ). t ++ r)
    (append_assoc head (print_samples js) (print_sample j) ∙ ap (λ (t : List ℕ). head ++ t) (sym (print_samples_more js j)))

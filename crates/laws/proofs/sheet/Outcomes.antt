-- The two readings of a tank sheet agree: a sheet is accepted exactly if it is printed from fit lists, with just these lists, and it is
-- refused with a report at a place exactly if every line before the place is faultless and the line there has the report's condition and
-- no earlier one. Each sheet is one or the other in the second reading, and the reader does what that one says.
use Prim.Native.Nat.{ℕ}
use mathlib.Core.Path.{◌≡◌, sym, ap, ◌∙◌}
use mathlib.Core.List.{List}
use native.Mathlib.Omega.{arith}
use Rattle.meanings.specs.declared.Limits.{Limits}
use Rattle.meanings.specs.Reports.{Fault, given, refused}
use Rattle.meanings.specs.Sheet.{Contents, read_sheet}
use Rattle.meanings.specs.SheetForm.{IsSheet, Refused}
use Rattle.laws.proofs.sheet.Printed.{printed_is_read, refused_only}
use Rattle.laws.proofs.sheet.Decided.{Decided, accepted, faulted, decided}

pub never_both : (L : Limits) (s : List ℕ) (c : Contents) (n p : ℕ) → IsSheet L s c → ¬ Refused L s n p
never_both L s c n p i r =
    let e = sym (printed_is_read L s c i) ∙ refused_only L s n p r in let z : ◌≡◌ {A = ℕ} 0 1 = cc in omega arith

same_fault : (n p n' p' : ℕ) → ◌≡◌ {A = Fault} (record { number = n; place = p }) (record { number = n'; place = p' }) → (n ≡ n') × (p ≡ p')
same_fault n p n' p' h = (ap (λ (f : Fault). f.number) h, ap (λ (f : Fault). f.place) h)

pub one_report : (L : Limits) (s : List ℕ) (n p n' p' : ℕ) → Refused L s n p → Refused L s n' p' → (n ≡ n') × (p ≡ p')
one_report L s n p n' p' r r' =
    let e = sym (refused_only L s n p r) ∙ refused_only L s n' p' r' in
    same_fault n p n' p' (cc)

pub read_is_printed : (L : Limits) (s : List ℕ) (c : Contents) → read_sheet L s ≡ given c → IsSheet L s c
read_is_printed L s c e = by (decided L s)
  where
    by : Decided L s → IsSheet L s c
    by (accepted c' i) =
        let h = sym e ∙ printed_is_read L s c' i in
        let q : c ≡ c' = cc in
        rw q i
    by (faulted n p r) = let h = sym e ∙ refused_only L s n p r in let z : ◌≡◌ {A = ℕ} 0 1 = cc in absurd (omega arith)

pub refused_is_refused : (L : Limits) (s : List ℕ) (n p : ℕ) → read_sheet L s ≡ refused (record { number = n; place = p }) → Refused L s n p
refused_is_refused L s n p e = by (decided L s)
  where
    by : Decided L s → Refused L s n p
    by (accepted c i) = let h = sym e ∙ printed_is_read L s c i in let z : ◌≡◌ {A = ℕ} 0 1 = cc in absurd (omega arith)
    by (faulted n' p' r) =
        let h = sym e ∙ refused_only L s n' p' r in
        let q = same_fault n p n' p' (cc) in
        rw (q.0, q.1) r

-- What is wrong with a reading line after faultless ones, and the first of the line's checks that holds, say each other: each check is
-- either's condition, and they come in the same order.
use Prim.Native.Nat.{ℕ}
use mathlib.Core.Path.{◌≡◌, refl, ap, ◌∙◌}
use mathlib.Core.Bool.{Bool, true, false, ◌&&◌}
use mathlib.Core.List.{List, [], ◌∷◌}
use Rattle.std.specs.Prelude.{Some}
use native.Mathlib.Omega.{arith}
use borrow.Author.Tests.{ltb-true, ltb-false, lt-ltb, le-ltb, leb-true, le-leb}
use lib.Dec.{leb}
use lib.ListN.{length, length-map}
use Rattle.meanings.specs.declared.Limits.{Limits}
use Rattle.meanings.specs.Reports.{Fault, check, at, first_of}
use Rattle.meanings.specs.Sheet.{Injection, kept, sample_checks}
use Rattle.meanings.specs.SheetForm.{kept_of, Neighbours, MinuteOrder, SampleFault}
use Rattle.laws.proofs.text.Numbers.{and_true_both}
use Rattle.laws.proofs.sheet.Lasts.{last_fails, neighbours_more, last_holds, last_found, last_is_tested}
use Rattle.laws.proofs.sheet.LineOrder.{minute_falls, decreases_last, minutes_of}

-- the first check that holds is the line's fault
pub sample_fault_of_check : (L : Limits) (p : ℕ) (js : List Injection) (j : Injection) (f : Fault) → Neighbours MinuteOrder js
    → first_of (sample_checks L p (minutes_of js) (length (minutes_of (kept_of js))) j) ≡ Some f → SampleFault L js j f.number
sample_fault_of_check L p js j f n e =
    by (last_fails minute_falls js j) (kept j && leb L.samples (length (kept_of js))) refl refl
    (rw (decreases_last (λ (j : Injection). j.minute) js j, length-map (kept_of js) (λ (j : Injection). j.minute)) at e)
  where
    by : (a b : Bool) → last_fails minute_falls js j ≡ a → (kept j && leb L.samples (length (kept_of js))) ≡ b
        → first_of (check 4 (at p a) ∷ check 6 (at p b) ∷ []) ≡ Some f → SampleFault L js j f.number
    by true b ea eb e =
        let q : f.number ≡ 4 = cc in
        let o = last_found minute_falls js j ea in
        rw q (SampleFault.out_of_order o.0 o.1.0 o.1.1.0 (ltb-true j.minute o.1.0.minute o.1.1.1))
    by false true ea eb e =
        let q : f.number ≡ 6 = cc in
        let o = and_true_both (kept j) (leb L.samples (length (kept_of js))) eb in
        rw q
        (SampleFault.too_many (neighbours_more minute_falls MinuteOrder (λ a x h. ltb-false x.minute a.minute h) js j n ea)
        (ltb-true 2 j.injection o.0) (leb-true L.samples (length (kept_of js)) o.1))
    by false false ea eb e = let z : ◌≡◌ {A = ℕ} 0 1 = cc in absurd (omega arith)

-- the line's fault is the first check that holds
pub check_of_sample_fault : (L : Limits) (p : ℕ) (js : List Injection) (j : Injection) {r : ℕ} → SampleFault L js j r
    → first_of (sample_checks L p (minutes_of js) (length (minutes_of (kept_of js))) j) ≡ Some (record { number = r; place = p })
check_of_sample_fault L p js j (SampleFault.out_of_order before a e l) =
    rw (decreases_last (λ (j : Injection). j.minute) js j ∙ ap (λ (t : List Injection). last_fails minute_falls t j) e
    ∙ last_is_tested minute_falls before a j ∙ lt-ltb j.minute a.minute l)
check_of_sample_fault L p js j (SampleFault.too_many n k l) =
    rw (
      decreases_last (λ (j : Injection). j.minute) js j
          ∙ last_holds minute_falls MinuteOrder (λ a x l. le-ltb x.minute a.minute l) js j [] n,
      length-map (kept_of js) (λ (j : Injection). j.minute),
      lt-ltb 2 j.injection k,
      le-leb L.samples (length (kept_of js)) l,
    )

-- What the checks of one reading line with a range say of all the lines up to it, and of its fault: the reader looks at the line before only, and at
-- the line's own ends.
use Prim.Native.Nat.{ℕ, suc, ◌+◌, ◌≤◌}
use mathlib.Core.Path.{◌≡◌, refl, sym, ap, ◌∙◌}
use mathlib.Core.Bool.{Bool, true, false, ◌&&◌}
use mathlib.Core.List.{List, [], ◌∷◌, ◌++◌, map, map-append}
use Rattle.std.specs.Prelude.{None, Some}
use native.Mathlib.Omega.{arith}
use borrow.Author.Tests.{ltb-true, ltb-false, lt-ltb, le-ltb, leb-true, leb-false, le-leb, lt-leb}
use lib.Dec.{ltb, leb}
use lib.ListN.{length, length-map}
use Rattle.meanings.specs.declared.Limits.{Limits}
use Rattle.meanings.specs.Lists.{pick}
use Rattle.meanings.specs.Reports.{Fault, check, at, first_of}
use Rattle.meanings.specs.Sheet.{add_kept}
use Rattle.meanings.specs.SheetForm.{Neighbours}
use Rattle.meanings.proofs.Checks.{none_holds, at_none}
use Rattle.laws.proofs.text.Numbers.{and_true_both}
use Rattle.laws.proofs.sheet.Lasts.{last_fails, neighbours_more, last_holds, each_more, last_found, last_is_tested}
use Rattle.laws.proofs.sheet.LineOrder.{decreases_last}
use Rattle.meanings.specs.ranges.RangeSheet.{RangeInjection, kept_range, reading_checks, Readings, with_line}
use Rattle.laws.specs.ranges.RangeForm.{kept_ranges, RangeForm, MinuteOrder, NotCrossed, FitRanges, RangeFault}

abbrev minute_falls : RangeInjection → RangeInjection → Bool
minute_falls a j = ltb j.minute a.minute

abbrev pub minutes_of : List RangeInjection → List ℕ
minutes_of js = map (λ (j : RangeInjection). j.minute) js

abbrev pub lows_of : List RangeInjection → List ℕ
lows_of js = map (λ (j : RangeInjection). j.low) js

abbrev pub highs_of : List RangeInjection → List ℕ
highs_of js = map (λ (j : RangeInjection). j.high) js

-- what the reader has of the lines js
abbrev pub readings_of : List RangeInjection → Readings
readings_of js = record {
  all = minutes_of js;
  minutes = minutes_of (kept_ranges js);
  lows = lows_of (kept_ranges js);
  highs = highs_of (kept_ranges js);
}

-- the kept readings with one line more
kept_more : (g : RangeInjection → ℕ) (js : List RangeInjection) (j : RangeInjection)
    → map g (kept_ranges (js ++ j ∷ [])) ≡ add_kept (kept_range j) (g j) (map g (kept_ranges js))
kept_more g [] j = by (kept_range j)
  where
    by : (b : Bool) → map g (pick b (j ∷ []) []) ≡ add_kept b (g j) []
    by true = refl
    by false = refl
kept_more g (k ∷ js) j = by (kept_range k) (kept_range j) (kept_more g js j)
  where
    by : (b d : Bool) → map g (kept_ranges (js ++ j ∷ [])) ≡ add_kept d (g j) (map g (kept_ranges js))
        → map g (pick b (k ∷ kept_ranges (js ++ j ∷ [])) (kept_ranges (js ++ j ∷ [])))
        ≡ add_kept d (g j) (map g (pick b (k ∷ kept_ranges js) (kept_ranges js)))
    by true true h = ap (λ (r : List ℕ). g k ∷ r) h
    by true false h = ap (λ (r : List ℕ). g k ∷ r) h
    by false d h = h

pub readings_more : (js : List RangeInjection) (j : RangeInjection) → with_line (readings_of js) j ≡ readings_of (js ++ j ∷ [])
readings_more js j =
    rw (
      map-append (λ (j : RangeInjection). j.minute) js (j ∷ []),
      kept_more (λ (j : RangeInjection). j.minute) js j,
      kept_more (λ (j : RangeInjection). j.low) js j,
      kept_more (λ (j : RangeInjection). j.high) js j,
    )

kept_count : (js ks : List RangeInjection) → length (kept_ranges (js ++ ks)) ≡ length (kept_ranges js) + length (kept_ranges ks)
kept_count [] ks = omega arith
kept_count (j ∷ js) ks = by (kept_range j) (kept_count js ks)
  where
    by : (b : Bool) → length (kept_ranges (js ++ ks)) ≡ length (kept_ranges js) + length (kept_ranges ks)
        → length (pick b (j ∷ kept_ranges (js ++ ks)) (kept_ranges (js ++ ks)))
        ≡ length (pick b (j ∷ kept_ranges js) (kept_ranges js)) + length (kept_ranges ks)
    by true h = omega arith
    by false h = h

kept_one : (j : RangeInjection) (ks : List RangeInjection) → kept_range j ≡ true → length (kept_ranges (j ∷ ks)) ≡ suc (length (kept_ranges ks))
kept_one j ks e = rw e

module _ (L : Limits) (p : ℕ) (js : List RangeInjection) (j : RangeInjection) where
  -- a line without a fault after the lines js
  pub range_checks_none : (ks : List RangeInjection) → Neighbours MinuteOrder (js ++ j ∷ ks) → NotCrossed j
      → length (kept_ranges (js ++ j ∷ ks)) ≤ L.samples
      → first_of (reading_checks L p (minutes_of js) (length (minutes_of (kept_ranges js))) j) ≡ None
  range_checks_none ks n u few =
      rw (
        decreases_last (λ (j : RangeInjection). j.minute) js j
            ∙ last_holds minute_falls MinuteOrder (λ a x l. le-ltb x.minute a.minute l) js j ks n,
        le-ltb j.high j.low u,
        length-map (kept_ranges js) (λ (j : RangeInjection). j.minute),
        by (kept_range j) refl,
      )
    where
      by : (b : Bool) → kept_range j ≡ b → (b && leb L.samples (length (kept_ranges js))) ≡ false
      by true e = lt-leb L.samples (length (kept_ranges js)) (omega (arith, kept_count js (j ∷ ks), kept_one j ks e))
      by false e = refl

  pub range_fits : FitRanges L js → RangeForm j
      → first_of (reading_checks L p (minutes_of js) (length (minutes_of (kept_ranges js))) j) ≡ None → FitRanges L (js ++ j ∷ [])
  range_fits f s e =
      let a = none_holds (reading_checks L p (minutes_of js) (length (minutes_of (kept_ranges js))) j) e in
      record {
        forms = each_more RangeForm js j f.forms s;
        order =
            neighbours_more minute_falls MinuteOrder (λ a x q. ltb-false x.minute a.minute q) js j f.order
            (sym (decreases_last (λ (j : RangeInjection). j.minute) js j) ∙ at_none p _ a.0);
        uncrossed = each_more NotCrossed js j f.uncrossed (ltb-false j.high j.low (at_none p _ a.1.0));
        few = by (kept_range j) refl (at_none p _ a.1.1.0);
      }
    where
      by : (b : Bool) → kept_range j ≡ b → (b && leb L.samples (length (minutes_of (kept_ranges js)))) ≡ false
          → length (kept_ranges (js ++ j ∷ [])) ≤ L.samples
      by true e q =
          let l = leb-false L.samples (length (minutes_of (kept_ranges js))) q in
          omega (arith, kept_count js (j ∷ []), kept_one j [] e, length-map (kept_ranges js) (λ (j : RangeInjection). j.minute))
      by false e q = let n : length (kept_ranges (j ∷ [])) ≡ 0 = rw e in omega (arith, kept_count js (j ∷ []), f.few)

  -- the first check that holds is the line's fault
  pub fault_of_check : (f : Fault) → Neighbours MinuteOrder js
      → first_of (reading_checks L p (minutes_of js) (length (minutes_of (kept_ranges js))) j) ≡ Some f → RangeFault L js j f.number
  fault_of_check f n e =
      by (last_fails minute_falls js j) (ltb j.high j.low) (kept_range j && leb L.samples (length (kept_ranges js))) refl refl refl
      (rw (decreases_last (λ (j : RangeInjection). j.minute) js j, length-map (kept_ranges js) (λ (j : RangeInjection). j.minute)) at e)
    where
      follows : last_fails minute_falls js j ≡ false → Neighbours MinuteOrder (js ++ j ∷ [])
      follows q = neighbours_more minute_falls MinuteOrder (λ a x h. ltb-false x.minute a.minute h) js j n q

      by : (a b c : Bool) → last_fails minute_falls js j ≡ a → ltb j.high j.low ≡ b
          → (kept_range j && leb L.samples (length (kept_ranges js))) ≡ c
          → first_of (check 4 (at p a) ∷ check 15 (at p b) ∷ check 6 (at p c) ∷ []) ≡ Some f → RangeFault L js j f.number
      by true b c ea eb ec e =
          let q : f.number ≡ 4 = cc in
          let o = last_found minute_falls js j ea in
          rw q (RangeFault.out_of_order o.0 o.1.0 o.1.1.0 (ltb-true j.minute o.1.0.minute o.1.1.1))
      by false true c ea eb ec e =
          let q : f.number ≡ 15 = cc in
          rw q (RangeFault.crossed (follows ea) (ltb-true j.high j.low eb))
      by false false true ea eb ec e =
          let q : f.number ≡ 6 = cc in
          let o = and_true_both (kept_range j) (leb L.samples (length (kept_ranges js))) ec in
          rw q
          (RangeFault.too_many (follows ea) (ltb-false j.high j.low eb) (ltb-true 2 j.injection o.0)
          (leb-true L.samples (length (kept_ranges js)) o.1))
      by false false false ea eb ec e = let z : ◌≡◌ {A = ℕ} 0 1 = cc in absurd (omega arith)

  in_order : Neighbours MinuteOrder (js ++ j ∷ []) → last_fails minute_falls js j ≡ false
  in_order n = last_holds minute_falls MinuteOrder (λ a x l. le-ltb x.minute a.minute l) js j [] n

  -- the line's fault is the first check that holds
  pub check_of_fault : {r : ℕ} → RangeFault L js j r
      → first_of (reading_checks L p (minutes_of js) (length (minutes_of (kept_ranges js))) j) ≡ Some (record { number = r; place = p })
  check_of_fault (RangeFault.out_of_order before a e l) =
      rw (decreases_last (λ (j : RangeInjection). j.minute) js j ∙ ap (λ (t : List RangeInjection). last_fails minute_falls t j) e
      ∙ last_is_tested minute_falls before a j ∙ lt-ltb j.minute a.minute l)
  check_of_fault (RangeFault.crossed n l) =
      rw (decreases_last (λ (j : RangeInjection). j.minute) js j ∙ in_order n, lt-ltb j.high j.low l)
  check_of_fault (RangeFault.too_many n u k l) =
      rw (
        decreases_last (λ (j : RangeInjection). j.minute) js j ∙ in_order n,
        le-ltb j.high j.low u,
        length-map (kept_ranges js) (λ (j : RangeInjection). j.minute),
        lt-ltb 2 j.injection k,
        le-leb L.samples (length (kept_ranges js)) l,
      )

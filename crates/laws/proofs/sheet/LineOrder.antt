-- What the checks of one line of the sheet say of all the lines up to it: the reader looks at the line before only, and the second reading says
-- that no two neighbours break the rule.
use Prim.Native.Nat.{ℕ, suc, ◌+◌, ◌≤◌}
use mathlib.Core.Path.{◌≡◌, refl, sym, ap, ◌∙◌}
use mathlib.Core.Bool.{Bool, true, false, ◌&&◌, ◌||◌}
use mathlib.Core.List.{List, [], ◌∷◌, ◌++◌, map}
use Rattle.std.specs.Prelude.{None}
use native.Mathlib.Omega.{arith}
use borrow.Author.Tests.{ltb-false, le-ltb, leb-false, lt-leb, ne_eqb}
use lib.Dec.{ltb, leb}
use lib.ListN.{length, length-append, length-map}
use Rattle.meanings.specs.declared.Limits.{Limits}
use Rattle.meanings.specs.Lists.{pick}
use Rattle.meanings.specs.Limits.{max_bandwidth}
use Rattle.meanings.specs.Sheet.{EvaluationPoint}
use Rattle.meanings.specs.Reports.{first_of, decreases, edge_below, edge_decreases}
use Rattle.meanings.specs.Sheet.{Injection, kept, add_kept, point_checks, sample_checks}
use Rattle.meanings.specs.SheetForm.{kept_of, PointForm, SampleForm, Follows, Neighbours, BandwidthRange, FitPoints, MinuteOrder, FitSamples}
use Rattle.meanings.proofs.Checks.{none_holds, at_none, or_false, bandwidth_in_range}
use Rattle.laws.proofs.sheet.Lasts.{last_fails, neighbours_more, last_holds, each_more}

abbrev pub minute_falls : Injection → Injection → Bool
minute_falls a j = ltb j.minute a.minute

abbrev pub point_falls : EvaluationPoint → EvaluationPoint → Bool
point_falls a m = ltb m.point a.point

abbrev pub edge_falls : EvaluationPoint → EvaluationPoint → Bool
edge_falls a m = edge_below m.point m.bandwidth a.point a.bandwidth

pub decreases_last : {A : Type 0} (g : A → ℕ) (xs : List A) (x : A)
    → decreases (map g xs ++ g x ∷ []) (length (map g xs)) ≡ last_fails (λ a b. ltb (g b) (g a)) xs x
decreases_last g [] x = refl
decreases_last g (a ∷ []) x = refl
decreases_last g (a ∷ b ∷ r) x = decreases_last g (b ∷ r) x

pub edge_decreases_last : (ms : List EvaluationPoint) (m : EvaluationPoint)
    → edge_decreases (map (λ (m : EvaluationPoint). m.point) ms ++ m.point ∷ []) (map (λ (m : EvaluationPoint). m.bandwidth) ms ++ m.bandwidth ∷ [])
    (length (map (λ (m : EvaluationPoint). m.point) ms))
    ≡ last_fails edge_falls ms m
edge_decreases_last [] m = refl
edge_decreases_last (a ∷ []) m = refl
edge_decreases_last (a ∷ b ∷ r) m = edge_decreases_last (b ∷ r) m

-- the kept readings with one line more
pub kept_more : (g : Injection → ℕ) (js : List Injection) (j : Injection)
    → map g (kept_of (js ++ j ∷ [])) ≡ add_kept (kept j) (g j) (map g (kept_of js))
kept_more g [] j = by (kept j)
  where
    by : (b : Bool) → map g (pick b (j ∷ []) []) ≡ add_kept b (g j) []
    by true = refl
    by false = refl
kept_more g (k ∷ js) j = by (kept k) (kept j) (kept_more g js j)
  where
    by : (b d : Bool) → map g (kept_of (js ++ j ∷ [])) ≡ add_kept d (g j) (map g (kept_of js))
        → map g (pick b (k ∷ kept_of (js ++ j ∷ [])) (kept_of (js ++ j ∷ []))) ≡ add_kept d (g j) (map g (pick b (k ∷ kept_of js) (kept_of js)))
    by true true h = ap (λ (r : List ℕ). g k ∷ r) h
    by true false h = ap (λ (r : List ℕ). g k ∷ r) h
    by false d h = h

pub kept_count : (js ks : List Injection) → length (kept_of (js ++ ks)) ≡ length (kept_of js) + length (kept_of ks)
kept_count [] ks = omega arith
kept_count (j ∷ js) ks = by (kept j) (kept_count js ks)
  where
    by : (b : Bool) → length (kept_of (js ++ ks)) ≡ length (kept_of js) + length (kept_of ks)
        → length (pick b (j ∷ kept_of (js ++ ks)) (kept_of (js ++ ks))) ≡ length (pick b (j ∷ kept_of js) (kept_of js)) + length (kept_of ks)
    by true h = omega arith
    by false h = h

kept_one : (j : Injection) (ks : List Injection) → kept j ≡ true → length (kept_of (j ∷ ks)) ≡ suc (length (kept_of ks))
kept_one j ks e = rw e

abbrev pub minutes_of : List Injection → List ℕ
minutes_of js = map (λ (j : Injection). j.minute) js

abbrev pub values_of : List Injection → List ℕ
values_of js = map (λ (j : Injection). j.value) js

abbrev pub points_of : List EvaluationPoint → List ℕ
points_of ms = map (λ (m : EvaluationPoint). m.point) ms

abbrev pub bandwidths_of : List EvaluationPoint → List ℕ
bandwidths_of ms = map (λ (m : EvaluationPoint). m.bandwidth) ms

-- a reading line without a fault after the lines js
pub sample_checks_none : (L : Limits) (p : ℕ) (js : List Injection) (j : Injection) (ks : List Injection) → Neighbours MinuteOrder (js ++ j ∷ ks)
    → length (kept_of (js ++ j ∷ ks)) ≤ L.samples
    → first_of (sample_checks L p (minutes_of js) (length (minutes_of (kept_of js))) j) ≡ None
sample_checks_none L p js j ks n few =
    rw (
      decreases_last (λ (j : Injection). j.minute) js j
          ∙ last_holds minute_falls MinuteOrder (λ a x l. le-ltb x.minute a.minute l) js j ks n,
      length-map (kept_of js) (λ (j : Injection). j.minute),
      by (kept j) refl,
    )
  where
    by : (b : Bool) → kept j ≡ b → (b && leb L.samples (length (kept_of js))) ≡ false
    by true e = lt-leb L.samples (length (kept_of js)) (omega (arith, kept_count js (j ∷ ks), kept_one j ks e))
    by false e = refl

pub sample_fits : (L : Limits) (p : ℕ) (js : List Injection) (j : Injection) → FitSamples L js → SampleForm j
    → first_of (sample_checks L p (minutes_of js) (length (minutes_of (kept_of js))) j) ≡ None → FitSamples L (js ++ j ∷ [])
sample_fits L p js j f s e =
    let a = none_holds (sample_checks L p (minutes_of js) (length (minutes_of (kept_of js))) j) e in
    record {
      forms = each_more SampleForm js j f.forms s;
      order =
          neighbours_more minute_falls MinuteOrder (λ a x q. ltb-false x.minute a.minute q) js j f.order
          (sym (decreases_last (λ (j : Injection). j.minute) js j) ∙ at_none p _ a.0);
      few = by (kept j) refl (at_none p _ a.1.0);
    }
  where
    by : (b : Bool) → kept j ≡ b → (b && leb L.samples (length (minutes_of (kept_of js)))) ≡ false
        → length (kept_of (js ++ j ∷ [])) ≤ L.samples
    by true e q =
        let l = leb-false L.samples (length (minutes_of (kept_of js))) q in
        omega (arith, kept_count js (j ∷ []), kept_one j [] e, length-map (kept_of js) (λ (j : Injection). j.minute))
    by false e q = let n : length (kept_of (j ∷ [])) ≡ 0 = rw e in omega (arith, kept_count js (j ∷ []), f.few)

follows : (a m : EvaluationPoint) → (point_falls a m || edge_falls a m) ≡ false → Follows a m
follows a m e =
    let o = or_false (point_falls a m) (edge_falls a m) e in
    let w = or_false _ _ o.1 in
    record { point_order = ltb-false m.point a.point o.0; left_edge = ltb-false _ _ w.0; right_edge = ltb-false _ _ w.1 }

both_hold : (ms : List EvaluationPoint) (m : EvaluationPoint) → last_fails point_falls ms m ≡ false → last_fails edge_falls ms m ≡ false
    → last_fails (λ a x. point_falls a x || edge_falls a x) ms m ≡ false
both_hold [] m e g = refl
both_hold (a ∷ []) m e g = rw (e, g)
both_hold (a ∷ b ∷ r) m e g = both_hold (b ∷ r) m e g

-- the lines ms and one more whose mark and edges do not fall
pub marks_follow : (ms : List EvaluationPoint) (m : EvaluationPoint) → Neighbours Follows ms → last_fails point_falls ms m ≡ false
    → last_fails edge_falls ms m ≡ false → Neighbours Follows (ms ++ m ∷ [])
marks_follow ms m n e g = neighbours_more (λ a x. point_falls a x || edge_falls a x) Follows follows ms m n (both_hold ms m e g)

pub no_edge_falls : (ms : List EvaluationPoint) (m : EvaluationPoint) (ns : List EvaluationPoint) → Neighbours Follows (ms ++ m ∷ ns)
    → last_fails edge_falls ms m ≡ false
no_edge_falls ms m ns n = last_holds edge_falls Follows edges ms m ns n
  where
    edges : (a x : EvaluationPoint) → Follows a x → edge_falls a x ≡ false
    edges a x l =
        rw (
          le-ltb (x.point + a.bandwidth) (a.point + x.bandwidth) l.left_edge,
          le-ltb (x.point + x.bandwidth) (a.point + a.bandwidth) l.right_edge,
        )

-- a mark line without a fault after the lines ms
pub point_checks_none : (L : Limits) (p : ℕ) (ms : List EvaluationPoint) (m : EvaluationPoint) (ns : List EvaluationPoint)
    → Neighbours Follows (ms ++ m ∷ ns) → BandwidthRange m
    → length (ms ++ m ∷ ns) ≤ L.points → first_of (point_checks L p (points_of ms) (bandwidths_of ms) m) ≡ None
point_checks_none L p ms m ns n r few =
    rw (
      decreases_last (λ (m : EvaluationPoint). m.point) ms m
          ∙ last_holds point_falls Follows (λ a x l. le-ltb x.point a.point l.point_order) ms m ns n,
      ne_eqb m.bandwidth 0 (λ e. omega arith),
      le-ltb max_bandwidth m.bandwidth (omega arith),
      edge_decreases_last ms m ∙ no_edge_falls ms m ns n,
      length-map ms (λ (m : EvaluationPoint). m.point),
      lt-leb L.points (length ms) (omega (arith, length-append ms (m ∷ ns))),
    )

pub point_fits : (L : Limits) (p : ℕ) (ms : List EvaluationPoint) (m : EvaluationPoint) → FitPoints L ms → PointForm m
    → first_of (point_checks L p (points_of ms) (bandwidths_of ms) m) ≡ None → FitPoints L (ms ++ m ∷ [])
point_fits L p ms m f s e =
    let a = none_holds (point_checks L p (points_of ms) (bandwidths_of ms) m) e in
    let r = bandwidth_in_range m.bandwidth (at_none p _ a.1.0) in
    let few = leb-false L.points (length (points_of ms)) (at_none p _ a.1.1.1.0) in
    let one = sym (decreases_last (λ (m : EvaluationPoint). m.point) ms m) ∙ at_none p _ a.0 in
    let two = sym (edge_decreases_last ms m) ∙ at_none p _ a.1.1.0 in
    record {
      forms = each_more PointForm ms m f.forms s;
      ranges = each_more BandwidthRange ms m f.ranges (record { low = r.0; high = r.1 });
      order = marks_follow ms m f.order one two;
      few = omega (arith, length-append ms (m ∷ []), length-map ms (λ (m : EvaluationPoint). m.point));
    }

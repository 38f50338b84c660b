-- What is wrong with a mark line after faultless ones, and the first of the line's checks that holds, say each other: each check is either's
-- condition, and they come in the same order.
use Prim.Native.Nat.{ℕ, ◌≤◌, ◌<◌}
use mathlib.Core.Path.{◌≡◌, refl, ap, ◌∙◌}
use mathlib.Core.Logic.{◌⊎◌, inl, inr}
use mathlib.Core.Bool.{Bool, true, false, ◌||◌}
use mathlib.Core.List.{List, [], ◌∷◌, ◌++◌}
use Rattle.std.specs.Prelude.{Some}
use native.Mathlib.Omega.{arith}
use borrow.Author.Tests.{ltb-true, lt-ltb, le-ltb, leb-true, le-leb, eqb-true, eq-eqb, ne_eqb, ltb-false}
use lib.Dec.{ltb, leb, eqb}
use lib.ListN.{length, length-map}
use Rattle.meanings.specs.declared.Limits.{Limits}
use Rattle.meanings.specs.Limits.{max_bandwidth}
use Rattle.meanings.specs.Sheet.{EvaluationPoint}
use Rattle.meanings.specs.Reports.{Fault, check, at, first_of, bad_bandwidth}
use Rattle.meanings.specs.Sheet.{point_checks}
use Rattle.meanings.specs.SheetForm.{Follows, Neighbours, BandwidthRange, PointFault}
use Rattle.meanings.proofs.Checks.{bandwidth_in_range}
use Rattle.laws.proofs.sheet.Lasts.{last_fails, neighbours_more, last_holds, last_found, last_is_tested, neighbours_weaker}
use Rattle.laws.proofs.sheet.LineOrder.{point_falls, edge_falls, decreases_last, edge_decreases_last}
use Rattle.laws.proofs.sheet.LineOrder.{points_of, bandwidths_of, marks_follow, no_edge_falls}

-- the second reading's word for marks that do not fall
abbrev pub PointOrder : EvaluationPoint → EvaluationPoint → Type 0
PointOrder a b = a.point ≤ b.point

marks_rise : (ms : List EvaluationPoint) (m : EvaluationPoint) → Neighbours Follows ms → last_fails point_falls ms m ≡ false
    → Neighbours PointOrder (ms ++ m ∷ [])
marks_rise ms m n e =
    neighbours_more point_falls PointOrder (λ a x q. ltb-false x.point a.point q) ms m
    (neighbours_weaker Follows PointOrder (λ a b r. r.point_order) ms n) e

no_mark_falls : (ms : List EvaluationPoint) (m : EvaluationPoint) → Neighbours PointOrder (ms ++ m ∷ []) → last_fails point_falls ms m ≡ false
no_mark_falls ms m n = last_holds point_falls PointOrder (λ a x l. le-ltb x.point a.point l) ms m [] n

bandwidth_wrong : (h : ℕ) → bad_bandwidth h ≡ true → (h ≡ 0) ⊎ (max_bandwidth < h)
bandwidth_wrong h e = by (eqb h 0) refl e
  where
    by : (b : Bool) → eqb h 0 ≡ b → (b || ltb max_bandwidth h) ≡ true → (h ≡ 0) ⊎ (max_bandwidth < h)
    by true q e = inl (eqb-true h 0 q)
    by false q e = inr (ltb-true max_bandwidth h e)

wrong_bandwidth : (h : ℕ) → (h ≡ 0) ⊎ (max_bandwidth < h) → bad_bandwidth h ≡ true
wrong_bandwidth h (inl e) = rw (eq-eqb h 0 e)
wrong_bandwidth h (inr l) = rw (ne_eqb h 0 (λ e. omega arith), lt-ltb max_bandwidth h l)

range_of : (m : EvaluationPoint) → bad_bandwidth m.bandwidth ≡ false → BandwidthRange m
range_of m e = let r = bandwidth_in_range m.bandwidth e in record { low = r.0; high = r.1 }

in_range : (m : EvaluationPoint) → BandwidthRange m → bad_bandwidth m.bandwidth ≡ false
in_range m r = rw (ne_eqb m.bandwidth 0 (λ e. omega arith), le-ltb max_bandwidth m.bandwidth r.high)

-- the first check that holds is the line's fault
pub point_fault_of_check : (L : Limits) (p : ℕ) (ms : List EvaluationPoint) (m : EvaluationPoint) (f : Fault) → Neighbours Follows ms
    → first_of (point_checks L p (points_of ms) (bandwidths_of ms) m) ≡ Some f → PointFault L ms m f.number
point_fault_of_check L p ms m f n e =
    by (last_fails point_falls ms m) (bad_bandwidth m.bandwidth) (last_fails edge_falls ms m) (leb L.points (length ms)) refl refl refl refl
    (rw (decreases_last (λ (m : EvaluationPoint). m.point) ms m, edge_decreases_last ms m, length-map ms (λ (m : EvaluationPoint). m.point)) at e)
  where
    by : (a b c d : Bool) → last_fails point_falls ms m ≡ a → bad_bandwidth m.bandwidth ≡ b → last_fails edge_falls ms m ≡ c
        → leb L.points (length ms) ≡ d
        → first_of (check 5 (at p a) ∷ check 9 (at p b) ∷ check 10 (at p c) ∷ check 6 (at p d) ∷ []) ≡ Some f
        → PointFault L ms m f.number
    by true b c d ea eb ec ed e =
        let q : f.number ≡ 5 = cc in
        let o = last_found point_falls ms m ea in
        rw q (PointFault.out_of_order o.0 o.1.0 o.1.1.0 (ltb-true m.point o.1.0.point o.1.1.1))
    by false true c d ea eb ec ed e =
        let q : f.number ≡ 9 = cc in
        rw q (PointFault.bandwidth (marks_rise ms m n ea) (bandwidth_wrong m.bandwidth eb))
    by false false true d ea eb ec ed e =
        let q : f.number ≡ 10 = cc in
        rw q
        (PointFault.edge (marks_rise ms m n ea) (range_of m eb)
        (λ (w : Neighbours Follows (ms ++ m ∷ [])). let g = no_edge_falls ms m [] w in let z : ◌≡◌ {A = ℕ} 0 1 = cc in omega arith))
    by false false false true ea eb ec ed e =
        let q : f.number ≡ 6 = cc in
        rw q (PointFault.too_many (marks_follow ms m n ea ec) (range_of m eb) (leb-true L.points (length ms) ed))
    by false false false false ea eb ec ed e = let z : ◌≡◌ {A = ℕ} 0 1 = cc in absurd (omega arith)

-- the line's fault is the first check that holds
pub check_of_point_fault : (L : Limits) (p : ℕ) (ms : List EvaluationPoint) (m : EvaluationPoint) {r : ℕ} → Neighbours Follows ms → PointFault L ms m r
    → first_of (point_checks L p (points_of ms) (bandwidths_of ms) m) ≡ Some (record { number = r; place = p })
check_of_point_fault L p ms m n (PointFault.out_of_order before a e l) =
    rw (decreases_last (λ (m : EvaluationPoint). m.point) ms m ∙ ap (λ (t : List EvaluationPoint). last_fails point_falls t m) e
    ∙ last_is_tested point_falls before a m
    ∙ lt-ltb m.point a.point l)
check_of_point_fault L p ms m n (PointFault.bandwidth o b) =
    rw (decreases_last (λ (m : EvaluationPoint). m.point) ms m ∙ no_mark_falls ms m o, wrong_bandwidth m.bandwidth b)
check_of_point_fault L p ms m n (PointFault.edge o b w) =
    rw (
      decreases_last (λ (m : EvaluationPoint). m.point) ms m ∙ no_mark_falls ms m o,
      in_range m b,
      edge_decreases_last ms m ∙ by (last_fails edge_falls ms m) refl,
    )
  where
    by : (c : Bool) → last_fails edge_falls ms m ≡ c → last_fails edge_falls ms m ≡ true
    by true e = e
    by false e = absurd (w (marks_follow ms m n (no_mark_falls ms m o) e))
check_of_point_fault L p ms m n (PointFault.too_many w b l) =
    rw (
      decreases_last (λ (m : EvaluationPoint). m.point) ms m
          ∙ no_mark_falls ms m (neighbours_weaker Follows PointOrder (λ a b r. r.point_order) (ms ++ m ∷ []) w),
      in_range m b,
      edge_decreases_last ms m ∙ no_edge_falls ms m [] w,
      length-map ms (λ (m : EvaluationPoint). m.point),
      le-leb L.points (length ms) l,
    )

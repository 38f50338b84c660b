-- Lists that pass 8, 6, 7, 4 and 5 are refused exactly if no mark has a k-th distance. Accepted lists are those of a sweep with the new half
-- widths, which accepts them.
use Prim.Native.Nat.{ℕ, ◌*◌, ◌≤◌, ◌<◌}
use mathlib.Core.Path.{◌≡◌, refl, ◌∙◌}
use mathlib.Core.Bool.{Bool, true, false}
use mathlib.Core.List.{List, ◌++◌}
use Rattle.std.specs.Prelude.{None}
use native.Mathlib.Omega.{arith}
use borrow.Author.Tests.{ltb-false, eqb-false, ne_eqb, le-ltb}
use lib.Dec.{ltb, eqb}
use lib.ListN.{length, get_or}
use Rattle.meanings.specs.declared.Limits.{Limits}
use Rattle.meanings.specs.Limits.{full, LimitsWithin, max_u16, row_width}
use Rattle.meanings.specs.Lists.{Ordered, AtMost}
use Rattle.meanings.specs.Reports.{given, refused, first_of, uneven_rows, curve_size_checks, order_checks, sample_order_checks}
use Rattle.meanings.specs.Reports.{point_order_checks, windows_checks}
use Rattle.meanings.specs.Calls.{smooth_refusal}
use Rattle.meanings.proofs.Checks.{none_holds, none_of_both, first_of_rest, at_none, or_false, no_decrease_ordered, sample_order_accepts}
use Rattle.meanings.proofs.Checks.{curve_sizes_accept, differ_false}
use Rattle.meanings.specs.neighbours.Neighbours.{neighbour_bandwidths, Kth, too_few, too_few_checks, neighbours_checks, neighbours_refusal, neighbours}
use Rattle.meanings.proofs.Kth.{kth_exists}
use Rattle.laws.proofs.neighbours.Edges.{bandwidths_length, windows_fit}

-- what 14 looks at
pub enough : (n k : ℕ) → too_few n k ≡ false → (1 ≤ k) × (k ≤ n)
enough n k e =
    let o = or_false (eqb k 0) (ltb n k) e in
    let z : k ≡ 0 → ⊥ = eqb-false k 0 o.0 in
    (omega arith, ltb-false n k o.1)

pub not_too_few : (n k : ℕ) → 1 ≤ k → k ≤ n → too_few n k ≡ false
not_too_few n k l h = rw (ne_eqb k 0 (λ e. omega arith), le-ltb n k h)

pub is_too_few : (n k : ℕ) → ¬ ((1 ≤ k) × (k ≤ n)) → too_few n k ≡ true
is_too_few n k f = by (too_few n k) refl
  where
    by : (b : Bool) → too_few n k ≡ b → b ≡ true
    by true e = refl
    by false e = absurd (f (enough n k e))

-- what an accepted call has shown, under limits at most the full ones
pub record NeighboursAccepted (ts vs zs : List ℕ) (k : ℕ) (hs : List ℕ) (rows : ℕ) : Type 0 where
  pub even : length ts ≡ length vs
  pub even_points : length zs ≡ length hs
  pub rows_fit : rows ≡ row_width * length zs
  pub few : length ts ≤ full.samples
  pub few_points : length zs ≤ full.points
  pub some_point : 0 < length zs
  pub ordered : Ordered ts
  pub ordered_points : Ordered zs
  pub low : 1 ≤ k
  pub high : k ≤ length ts

module _ (L : Limits) (ts vs zs : List ℕ) (k : ℕ) (hs : List ℕ) where
  -- the three parts of the checks
  none_of_parts : (rows : ℕ) → first_of (neighbours_checks L ts vs zs k hs rows) ≡ None
      → (first_of (curve_size_checks L ts vs zs hs (uneven_rows row_width rows (length zs))) ≡ None)
      × (first_of (order_checks ts zs) ≡ None) × (first_of (too_few_checks (length ts) k) ≡ None)
  none_of_parts rows e =
      let a = none_of_both (curve_size_checks L ts vs zs hs (uneven_rows row_width rows (length zs))) (order_checks ts zs ++ too_few_checks (length ts) k) e in
      let b = none_of_both (order_checks ts zs) (too_few_checks (length ts) k) a.1 in
      (a.0, b.0, b.1)

  pub neighbours_accepts : LimitsWithin L full → (rows : ℕ) → first_of (neighbours_checks L ts vs zs k hs rows) ≡ None
      → NeighboursAccepted ts vs zs k hs rows
  neighbours_accepts w rows e =
      let a = none_of_parts rows e in
      let s = curve_sizes_accept L ts vs zs hs (uneven_rows row_width rows (length zs)) a.0 in
      let o = none_of_both (sample_order_checks ts) (point_order_checks zs) a.1 in
      let t = enough (length ts) k (at_none 0 _ (none_holds (too_few_checks (length ts) k) a.2).0) in
      record {
        even = s.even;
        even_points = s.even_points;
        rows_fit = differ_false rows (row_width * length zs) s.no_more;
        few = let f = s.few in let m = w.samples in omega arith;
        few_points = let f = s.few_points in let m = w.points in omega arith;
        some_point = s.some_point;
        ordered = sample_order_accepts ts o.0;
        ordered_points = no_decrease_ordered zs (none_holds (point_order_checks zs) o.1).0;
        low = t.0;
        high = t.1;
      }

  -- a sweep with the new half widths accepts what the call accepts
  pub sweep_accepts : (rs : List ℕ) → AtMost max_u16 ts → AtMost max_u16 zs → neighbours_refusal L ts vs zs k hs rs ≡ None
      → smooth_refusal L ts vs zs (neighbour_bandwidths ts zs k) rs ≡ None
  sweep_accepts rs minutes points e =
      let a = none_of_parts (length rs) e in
      let nb = neighbour_bandwidths ts zs k in
      let more = uneven_rows row_width (length rs) (length zs) in
      let s = curve_sizes_accept L ts vs zs hs more a.0 in
      let o = none_of_both (sample_order_checks ts) (point_order_checks zs) a.1 in
      let t = enough (length ts) k (at_none 0 _ (none_holds (too_few_checks (length ts) k) a.2).0) in
      let same : length nb ≡ length hs = bandwidths_length ts zs k ∙ s.even_points in
      let sizes : first_of (curve_size_checks L ts vs zs nb more) ≡ None = rw same a.0 in
      let windows = windows_fit ts zs k t.0 t.1 minutes points (no_decrease_ordered zs (none_holds (point_order_checks zs) o.1).0) in
      first_of_rest (curve_size_checks L ts vs zs nb more) (order_checks ts zs ++ windows_checks zs nb) sizes
      ∙ first_of_rest (order_checks ts zs) (windows_checks zs nb) a.1
      ∙ windows

-- lists that pass 8, 6, 7, 4, 5
module _ (L : Limits) (ts vs zs : List ℕ) (k : ℕ) (hs rs : List ℕ)
    (fit : first_of (curve_size_checks L ts vs zs hs (uneven_rows row_width (length rs) (length zs))) ≡ None)
    (order : first_of (order_checks ts zs) ≡ None) where
  decided : neighbours_refusal L ts vs zs k hs rs ≡ first_of (too_few_checks (length ts) k)
  decided =
      first_of_rest (curve_size_checks L ts vs zs hs (uneven_rows row_width (length rs) (length zs)))
      (order_checks ts zs ++ too_few_checks (length ts) k) fit
      ∙ first_of_rest (order_checks ts zs) (too_few_checks (length ts) k) order

  -- every mark has its k-th distance: accepted
  pub accepted_with_kth : ((i : ℕ) → i < length zs → (d : ℕ) × Kth ts (get_or zs i 0) k d) → neighbours L ts vs zs k hs rs ≡ given tt
  unfolding neighbours
  accepted_with_kth f =
      let s = curve_sizes_accept L ts vs zs hs _ fit in
      let r = (kth_exists ts (get_or zs 0 0) k).0 (f 0 s.some_point) in
      rw (decided, not_too_few (length ts) k r.0 r.1)

  -- one has none: 14 at 0
  pub refused_without_kth : (i : ℕ) → ¬ ((d : ℕ) × Kth ts (get_or zs i 0) k d) → neighbours L ts vs zs k hs rs ≡ refused (record { number = 14; place = 0 })
  unfolding neighbours
  refused_without_kth i f = rw (decided, is_too_few (length ts) k (λ r. f ((kth_exists ts (get_or zs i 0) k).1 r)))

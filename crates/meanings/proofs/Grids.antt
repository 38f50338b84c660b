-- Filled marks rise or stay, and share one half width of the table, so neither they nor an edge can fall: a sweep over them is refused for
-- its readings alone.
use Prim.Native.Nat.{ℕ, zero, suc, ◌+◌, ◌-◌, ◌*◌, ◌≤◌, ◌<◌}
use mathlib.Core.Path.{◌≡◌, refl, sym, ◌∙◌}
use mathlib.Core.Logic.{◌⊎◌, inl, inr}
use mathlib.Core.Bool.{false, or-false}
use Rattle.std.specs.Prelude.{None}
use mathlib.Core.List.{List, [], ◌∷◌, ◌++◌}
use native.Mathlib.Nat.{not-suc-le-zero, le_of_suc-le-suc, eq-or-lt_of_le}
use native.Mathlib.Omega.{arith}
use borrow.Author.Tests.{ltb-false, leb-false, eqb-false, le-ltb, ne_eqb}
use lib.Dec.{ltb}
use lib.ListN.{length, get_or, replicate, length-append, length-replicate, get_or-replicate, get_or-append}
use lib.Seq.{get_or_at}
use Rattle.meanings.specs.declared.Limits.{Limits}
use Rattle.meanings.specs.Limits.{max_u16, max_bandwidth, row_width}
use Rattle.meanings.specs.Reports.{given, first_of, decreases, bad_bandwidth}
use Rattle.meanings.specs.Reports.{edge_decreases, uneven_samples, series_checks, fill_checks, smooth_checks}
use Rattle.meanings.specs.Grid.{presets, grid}
use Rattle.meanings.specs.Calls.{fill_refusal, fill, fill_points, fill_bandwidths, smooth_refusal}
use Rattle.meanings.proofs.Checks.{none_holds, at_none, differ_false, differ_same, given_accepted}
use Rattle.meanings.proofs.Presets.{presets_rise}
use Rattle.meanings.proofs.Search.{none_lowest}

-- what the filler accepts
pub record FillAccepted (L : Limits) (z d preset n m : ℕ) : Type 0 where
  pub even : n ≡ m
  pub some_point : 0 < n
  pub few_points : n ≤ L.points
  pub known : preset < length presets
  pub last : z + (n - 1) * d ≤ max_u16

pub fill_accepts : (L : Limits) (z d preset n m : ℕ) → first_of (fill_checks L (length presets) z d preset n m) ≡ None
    → FillAccepted L z d preset n m
fill_accepts L z d preset n m e =
    let a = none_holds (fill_checks L (length presets) z d preset n m) e in
    let o : n ≡ 0 → ⊥ = eqb-false n 0 (at_none 0 _ a.1.0) in
    record {
      even = differ_false n m (at_none 0 _ a.0);
      some_point = omega arith;
      few_points = ltb-false L.points n (at_none 0 _ a.1.1.0);
      known = leb-false (length presets) preset (at_none 0 _ a.1.1.1.0);
      last = ltb-false max_u16 (z + (n - 1) * d) (at_none 0 _ a.1.1.1.1.0);
    }

pub grid_length : (z d n : ℕ) → length (grid z d n) ≡ n
grid_length z d zero = refl
grid_length z d (suc n) = length-append (grid z d n) _ ∙ (let l = grid_length z d n in omega arith)

-- mark k is first + k × spacing
pub grid_at : (z d n k : ℕ) → k < n → get_or (grid z d n) k 0 ≡ z + k * d
grid_at z d zero k l = absurd (not-suc-le-zero l)
grid_at z d (suc n) k l = by (eq-or-lt_of_le (le_of_suc-le-suc l)) (grid_at z d n k)
  where
    by : (k ≡ n) ⊎ (k < n) → (k < n → get_or (grid z d n) k 0 ≡ z + k * d) → get_or (grid z d n ++ (z + n * d) ∷ []) k 0 ≡ z + k * d
    by (inl e) f = rw e (get_or_at (grid z d n) (z + n * d) [] 0 n (grid_length z d n))
    by (inr m) f = get_or-append (grid z d n) ((z + n * d) ∷ []) 0 k (let g = grid_length z d n in omega arith) ∙ f m

module _ (z d n h : ℕ) where
  -- no filled mark is below the one before
  no_point_decrease : (k : ℕ) → k < n → decreases (grid z d n) k ≡ false
  no_point_decrease zero l = refl
  no_point_decrease (suc k) l = rw (grid_at z d n (suc k) l, grid_at z d n k (omega arith)) (le-ltb (z + suc k * d) (z + k * d) (omega arith))

  -- nor an edge of its window
  no_edge_back : (k : ℕ) → k < n → edge_decreases (grid z d n) (replicate n h) k ≡ false
  no_edge_back zero l = refl
  no_edge_back (suc k) l =
      rw (
        grid_at z d n (suc k) l,
        grid_at z d n k (omega arith),
        get_or-replicate n (suc k) h 0 l,
        get_or-replicate n k h 0 (omega arith),
        le-ltb (z + suc k * d + h) (z + k * d + h) (omega arith),
      )

-- a sweep over filled lists, with rows of five times their length, is refused exactly with 8, 6 or 4 of the readings
pub filled_grid_by_samples : (L : Limits) (ts vs : List ℕ) (z d preset n m : ℕ) → FillAccepted L z d preset n m
    → first_of (smooth_checks L ts vs (grid z d n) (replicate m (get_or presets preset 0)) (row_width * n)) ≡ first_of (series_checks L ts vs)
filled_grid_by_samples L ts vs z d preset n m a =
    rw (
      sym a.even,
      grid_length z d n,
      length-replicate n h,
      differ_same n n refl,
      differ_same (row_width * n) (row_width * n) refl,
      or-false (uneven_samples ts vs),
      or-false (uneven_samples ts vs),
      le-ltb L.points n a.few_points,
      or-false (ltb L.samples (length ts)),
      ne_eqb n 0 (λ (e : n ≡ 0). let p = a.some_point in omega arith),
      none_lowest (decreases (grid z d n)) n (no_point_decrease z d n h),
      none_lowest (λ k. bad_bandwidth (get_or (replicate n h) k 0)) n in_range,
      none_lowest (edge_decreases (grid z d n) (replicate n h)) n (no_edge_back z d n h),
    )
  where
    h : ℕ
    h = get_or presets preset 0

    in_range : (k : ℕ) → k < n → bad_bandwidth (get_or (replicate n h) k 0) ≡ false
    in_range k l =
        let low = presets_rise.above preset a.known in
        let high = presets_rise.below preset a.known in
        rw (get_or-replicate n k h 0 l, ne_eqb h 0 (λ (e : h ≡ 0). omega arith), le-ltb max_bandwidth h high)

-- the same of the lists that an accepted filling leaves
pub fill_then_smooth_by_samples : (L : Limits) (ts vs : List ℕ) (z d preset : ℕ) (zs hs rs : List ℕ) → fill L z d preset zs hs ≡ given tt
    → length rs ≡ row_width * length zs
    → smooth_refusal L ts vs (fill_points L z d preset zs hs) (fill_bandwidths L z d preset zs hs) rs ≡ first_of (series_checks L ts vs)
unfolding fill fill_points fill_bandwidths
fill_then_smooth_by_samples L ts vs z d preset zs hs rs e q =
    let a = (given_accepted (fill_refusal L z d preset zs hs) tt tt e).0 in
    rw (a, q) (filled_grid_by_samples L ts vs z d preset (length zs) (length hs) (fill_accepts L z d preset (length zs) (length hs) a))

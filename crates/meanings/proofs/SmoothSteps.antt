-- An accepted sweep takes one step a mark, each of which lands on its mark's window: minutes are ordered and no edge falls, so no edge of
-- the record has passed the next window's.
use Prim.Native.Nat.{ℕ, zero, suc, ◌+◌, ◌*◌, ◌≤◌, ◌<◌, zero-le}
use mathlib.Core.Path.{◌≡◌, refl, ap, ◌∙◌}
use mathlib.Core.Bool.{Bool, false}
use Rattle.std.specs.Prelude.{None}
use mathlib.Core.List.{List, ◌++◌}
use native.Mathlib.Nat.{le_trans}
use native.Mathlib.Omega.{arith}
use borrow.Author.Tests.{ltb-true, lt-ltb, leb-true, le-leb, le-ltb, ltb-false, ne_eqb}
use lib.Dec.{ltb, leb}
use lib.ListN.{length, get_or, drop, drop_of_length-le}
use lib.Seq.{drop-cons}
use Rattle.meanings.specs.declared.Limits.{Limits}
use Rattle.meanings.specs.declared.RunningSums.{RunningSums}
use Rattle.meanings.specs.Lists.{lowest, Ordered}
use Rattle.meanings.specs.Limits.{full, LimitsWithin, max_bandwidth, row_width}
use Rattle.meanings.specs.Moves.{moves}
use Rattle.meanings.specs.Reports.{Answer, given, first_of, bad_bandwidth, edge_decreases, left_edge_below}
use Rattle.meanings.specs.Reports.{right_edge_below, uneven_rows, curve_size_checks, sample_order_checks, point_order_checks}
use Rattle.meanings.specs.Reports.{order_checks, windows_checks, curve_checks, smooth_checks}
use Rattle.meanings.specs.Estimate.{left_of, right_of}
use Rattle.meanings.specs.Running.{fresh, moved, advance, next_record, after, passes}
use Rattle.meanings.proofs.Checks.{none_holds, none_of_both, or_false, bandwidth_in_range, sample_order_accepts, curve_sizes_accept}
use Rattle.meanings.proofs.Checks.{differ_false, differ_same}
use Rattle.meanings.proofs.Passes.{passes_are_last_edges}
use Rattle.meanings.proofs.Search.{lowest_none}
use Rattle.meanings.proofs.Steps.{Small, at_window, moved_lands, fresh_lands}
use Rattle.meanings.proofs.Window.{count_grows, left_at_most_right, right_at_most_length}

-- an edge that does not fall passes at least as many readings
pub left_grows : (ts : List ℕ) (z h z' h' : ℕ) → z + h' ≤ z' + h → left_of ts z h ≤ left_of ts z' h'
unfolding left_of
left_grows ts z h z' h' l =
    count_grows (λ t. ltb (t + h) z) (λ t. ltb (t + h') z') (λ t e. lt-ltb (t + h') z' (let m = ltb-true (t + h) z e in omega arith)) ts

pub right_grows : (ts : List ℕ) (z h z' h' : ℕ) → z + h ≤ z' + h' → right_of ts z h ≤ right_of ts z' h'
unfolding right_of
right_grows ts z h z' h' l =
    count_grows (λ t. leb t (z + h)) (λ t. leb t (z' + h')) (λ t e. le-leb t (z' + h') (let m = leb-true t (z + h) e in omega arith)) ts

-- lengths, order and windows: each part finds nothing where all together do
pub none_of_three : (L : Limits) (ts vs zs hs : List ℕ) (more : Bool) → first_of (curve_checks L ts vs zs hs more) ≡ None
    → (first_of (curve_size_checks L ts vs zs hs more) ≡ None) × (first_of (order_checks ts zs) ≡ None) × (first_of (windows_checks zs hs) ≡ None)
none_of_three L ts vs zs hs more e =
    let a = none_of_both (curve_size_checks L ts vs zs hs more) (order_checks ts zs ++ windows_checks zs hs) e in
    let b = none_of_both (order_checks ts zs) (windows_checks zs hs) a.1 in
    (a.0, b.0, b.1)

-- what the checks of readings and marks have found of them, under limits at most the full ones
pub record CurveAccepted (ts vs zs hs : List ℕ) : Type 0 where
  pub even : length ts ≡ length vs
  pub even_points : length zs ≡ length hs
  pub few : length ts ≤ full.samples
  pub few_points : length zs ≤ full.points
  pub ordered : Ordered ts
  pub bandwidths : (k : ℕ) → k < length zs → (0 < get_or hs k 0) × (get_or hs k 0 ≤ max_bandwidth)
  -- neither edge falls from mark to mark
  pub left_edges : (k : ℕ) → suc k < length zs → get_or zs k 0 + get_or hs (suc k) 0 ≤ get_or zs (suc k) 0 + get_or hs k 0
  pub right_edges : (k : ℕ) → suc k < length zs → get_or zs k 0 + get_or hs k 0 ≤ get_or zs (suc k) 0 + get_or hs (suc k) 0

-- of an accepted sweep, with so many numbers in its rows
pub record SmoothAccepted (ts vs zs hs : List ℕ) (rows : ℕ) : Type 0 where
  pub lists : CurveAccepted ts vs zs hs
  pub rows_fit : rows ≡ row_width * length zs

module _ (L : Limits) (within : LimitsWithin L full) (ts vs zs hs : List ℕ) where
  -- the three parts of the checks, each of which finds nothing
  pub parts_accept : (more : Bool) → first_of (curve_size_checks L ts vs zs hs more) ≡ None → first_of (sample_order_checks ts) ≡ None
      → first_of (windows_checks zs hs) ≡ None → CurveAccepted ts vs zs hs
  parts_accept more s o w =
      let sizes = curve_sizes_accept L ts vs zs hs more s in
      let windows = none_holds (windows_checks zs hs) w in
      record {
        even = sizes.even;
        even_points = sizes.even_points;
        few = le_trans sizes.few within.samples;
        few_points = le_trans sizes.few_points within.points;
        ordered = sample_order_accepts ts o;
        bandwidths = λ k l.
            bandwidth_in_range (get_or hs k 0)
            (lowest_none (λ k. bad_bandwidth (get_or hs k 0)) (length hs) windows.0 k (let q = sizes.even_points in omega arith));
        left_edges = λ k l. ltb-false _ _ (falls windows.1.0 k l).0;
        right_edges = λ k l. ltb-false _ _ (falls windows.1.0 k l).1;
      }
    where
      falls : lowest (edge_decreases zs hs) (length zs) ≡ None → (k : ℕ) → suc k < length zs
          → (left_edge_below (get_or zs (suc k) 0) (get_or hs (suc k) 0) (get_or zs k 0) (get_or hs k 0) ≡ false)
          × (right_edge_below (get_or zs (suc k) 0) (get_or hs (suc k) 0) (get_or zs k 0) (get_or hs k 0) ≡ false)
      falls q k l = or_false _ _ (lowest_none (edge_decreases zs hs) (length zs) q (suc k) l)

  pub curve_accepts : (more : Bool) → first_of (curve_checks L ts vs zs hs more) ≡ None → CurveAccepted ts vs zs hs
  curve_accepts more e =
      let a = none_of_three L ts vs zs hs more e in
      parts_accept more a.0 (none_of_both (sample_order_checks ts) (point_order_checks zs) a.1).0 a.2

  pub smooth_accepts : (rows : ℕ) → first_of (smooth_checks L ts vs zs hs rows) ≡ None → SmoothAccepted ts vs zs hs rows
  smooth_accepts rows e =
      let more = uneven_rows row_width rows (length zs) in
      let a = none_of_three L ts vs zs hs more e in
      record {
        lists = curve_accepts more e;
        rows_fit = differ_false rows (row_width * length zs) (curve_sizes_accept L ts vs zs hs more a.0).no_more;
      }

-- the record after k steps of such a sweep
abbrev pub running_at : List ℕ → List ℕ → List ℕ → List ℕ → ℕ → RunningSums
running_at ts vs zs hs zero = fresh
running_at ts vs zs hs (suc k) = at_window ts vs (get_or zs k 0) (get_or hs k 0)

module _ (ts vs zs hs : List ℕ) (s : Small ts vs) (a : CurveAccepted ts vs zs hs) where
  pub step_lands : (k : ℕ) → k < length zs → moved ts vs (running_at ts vs zs hs k) (get_or zs k 0) (get_or hs k 0) ≡ running_at ts vs zs hs (suc k)
  step_lands zero l = fresh_lands ts vs s a.ordered (get_or zs 0 0) (get_or hs 0 0)
  step_lands (suc k) l =
      moved_lands ts vs s a.ordered (get_or zs (suc k) 0) (get_or hs (suc k) 0) (running_at ts vs zs hs (suc k))
      (left_at_most_right ts (get_or zs k 0) (get_or hs k 0))
      (right_grows ts (get_or zs k 0) (get_or hs k 0) (get_or zs (suc k) 0) (get_or hs (suc k) 0) (a.right_edges k l))
      (left_grows ts (get_or zs k 0) (get_or hs k 0) (get_or zs (suc k) 0) (get_or hs (suc k) 0) (a.left_edges k l))
      refl
      refl

  -- the record's edges lie within the readings
  pub running_within : (k : ℕ) → ((running_at ts vs zs hs k).left ≤ (running_at ts vs zs hs k).right) × ((running_at ts vs zs hs k).right ≤ length ts)
  running_within zero = (omega arith, zero-le)
  running_within (suc k) = (left_at_most_right ts (get_or zs k 0) (get_or hs k 0), right_at_most_length ts (get_or zs k 0) (get_or hs k 0))

  -- no step of it is refused
  pub step_accepted : (k : ℕ) → k < length zs
      → advance ts vs (running_at ts vs zs hs k) (get_or zs k 0) (get_or hs k 0) ≡ given (running_at ts vs zs hs (suc k))
  unfolding advance
  step_accepted k l =
      let w = running_within k in
      let b = a.bandwidths k l in
      rw (
        differ_same _ _ a.even,
        le-ltb _ _ a.few,
        le-ltb _ _ w.0,
        le-ltb _ _ w.1,
        ne_eqb _ 0 (λ (e : get_or hs k 0 ≡ 0). omega arith),
        le-ltb _ _ b.1,
      )
      (ap given (step_lands k l))

  -- from the record after k steps, the steps of the other marks
  rest_lands : (n k : ℕ) → k + n ≡ length zs
      → after ts vs (running_at ts vs zs hs k) (moves (drop k zs) (drop k hs)) ≡ running_at ts vs zs hs (length zs)
  rest_lands zero k e =
      let q : k ≡ length zs = omega arith in
      rw (drop_of_length-le zs {i = k} (omega arith)) (ap (running_at ts vs zs hs) q)
  rest_lands (suc n) k e =
      let l : k < length zs = omega arith in
      let m : k < length hs = omega (arith, a.even_points) in
      rw (drop-cons zs k 0 l, drop-cons hs k 0 m)
      (ap
      (λ (x : Answer RunningSums). after ts vs (next_record (running_at ts vs zs hs k) x) (moves (drop (suc k) zs) (drop (suc k) hs)))
      (step_accepted k l)
      ∙ rest_lands n (suc k) (omega arith))

  -- the record after one step a mark
  pub after_lands : after ts vs fresh (moves zs hs) ≡ running_at ts vs zs hs (length zs)
  after_lands = rest_lands (length zs) 0 (omega arith)

  -- its edges are the sweep's passes
  pub passes_are_edges : passes ts vs fresh (moves zs hs) ≡ (running_at ts vs zs hs (length zs)).right + (running_at ts vs zs hs (length zs)).left
  passes_are_edges =
      passes_are_last_edges ts vs (moves zs hs) ∙ ap (λ (r : RunningSums). r.right + r.left) after_lands

-- Demand 3 about the whole sweep. An accepted one has shown that minutes are ordered, every half width is in range and no edge falls, so
-- none of its steps is refused and its list of steps has no edge back: its passes are takings plus lettings, at most one each a reading.
use Prim.Native.Nat.{ℕ, suc, ◌+◌, ◌*◌, ◌≤◌, suc-le-suc}
use mathlib.Core.Path.{◌≡◌}
use mathlib.Core.Bool.{Bool, false}
use mathlib.Core.List.{List, [], ◌∷◌}
use Rattle.std.specs.Prelude.{Option, None, Some}
use native.Mathlib.Omega.{arith}
use borrow.Author.Tests.{ltb-false, le-ltb}
use lib.ListN.{length, get_or}
use Rattle.meanings.specs.declared.Limits.{Limits}
use Rattle.meanings.specs.Lists.{AtMost}
use Rattle.meanings.specs.Limits.{full, LimitsWithin, max_u16, row_width}
use Rattle.meanings.specs.Moves.{Move, moves}
use Rattle.meanings.specs.Reports.{given, first_of, bad_bandwidth, left_edge_below, right_edge_below}
use Rattle.meanings.specs.Reports.{edge_decreases, uneven_rows, windows_checks, curve_checks}
use Rattle.meanings.specs.Running.{fresh, passes}
use Rattle.meanings.specs.EventLog.{empty_log, log_after, insertion_count, eviction_count}
use Rattle.meanings.specs.Calls.{smooth_refusal, smooth}
use Rattle.meanings.specs.Claim.{accepted_next, NoEdgeBackAfter, NoEdgeBack}
use Rattle.meanings.proofs.Checks.{none_holds, or_false, differ_same, given_accepted}
use Rattle.meanings.proofs.Claim.{right_counts_insertions, left_counts_evictions}
use Rattle.meanings.proofs.Passes.{passes_are_last_edges, passes_at_most_twice}
use Rattle.meanings.proofs.Search.{NoneBelow, lowest_none}
use Rattle.meanings.proofs.SmoothSteps.{none_of_three, curve_accepts}

-- windows that pass report 9 nowhere and 10 nowhere
no_report : (zs hs : List ℕ) → first_of (windows_checks zs hs) ≡ None
    → NoneBelow (λ k. bad_bandwidth (get_or hs k 0)) (length hs) × NoneBelow (edge_decreases zs hs) (length zs)
no_report zs hs e =
    let o = none_holds (windows_checks zs hs) e in
    (lowest_none _ (length hs) o.0, lowest_none _ (length zs) o.1.0)

-- steps that report 9 nowhere and report 10 nowhere have no edge back: each is accepted, so the accepted one before is the one before
module _ (ts vs : List ℕ) (even : length ts ≡ length vs) (few : length ts ≤ full.samples) where
  accepted : (o : Option Move) (z h : ℕ) → bad_bandwidth h ≡ false
      → accepted_next ts vs o (record { point = z; bandwidth = h }) ≡ Some (record { point = z; bandwidth = h })
  accepted o z h e = rw (differ_same (length ts) (length vs) even, le-ltb full.samples (length ts) few, e)

  follows : (z h : ℕ) (zs hs : List ℕ) → NoneBelow (λ k. bad_bandwidth (get_or hs k 0)) (length hs)
      → NoneBelow (λ k. edge_decreases (z ∷ zs) (h ∷ hs) (suc k)) (length zs)
      → NoEdgeBackAfter ts vs (Some (record { point = z; bandwidth = h })) (moves zs hs)
  follows z h [] hs b e = tt
  follows z h (z' ∷ zs) [] b e = tt
  follows z h (z' ∷ zs) (h' ∷ hs) b e =
      let o = or_false (left_edge_below z' h' z h) (right_edge_below z' h' z h) (e 0 (omega arith)) in
      let l = ltb-false (z' + h) (z + h') o.0 in
      let r = ltb-false (z' + h') (z + h) o.1 in
      (λ t. (l, r), rw (accepted _ z' h' (b 0 (omega arith))) (follows z' h' zs hs (λ k m. b (suc k) (suc-le-suc m)) (λ k m. e (suc k) (suc-le-suc m))))

  no_edge_back : (zs hs : List ℕ) → NoneBelow (λ k. bad_bandwidth (get_or hs k 0)) (length hs) → NoneBelow (edge_decreases zs hs) (length zs)
      → NoEdgeBack ts vs (moves zs hs)
  no_edge_back [] hs b e = tt
  no_edge_back (z ∷ zs) [] b e = tt
  no_edge_back (z ∷ zs) (h ∷ hs) b e = (
    λ t. tt,
    rw (accepted None z h (b 0 (omega arith)))
        (follows z h zs hs (λ k l. b (suc k) (suc-le-suc l)) (λ k l. e (suc k) (suc-le-suc l))),
  )

module _ (L : Limits) (within : LimitsWithin L full) (ts vs zs hs : List ℕ) (minutes : AtMost max_u16 ts) (values : AtMost max_u16 vs) where
  -- the passes over accepted readings and marks count the insertions and evictions of an empty log that is told them
  pub curve_passes : (more : Bool) → first_of (curve_checks L ts vs zs hs more) ≡ None
      → (passes ts vs fresh (moves zs hs)
      ≡ insertion_count (log_after ts vs empty_log (moves zs hs)) + eviction_count (log_after ts vs empty_log (moves zs hs)))
      × (passes ts vs fresh (moves zs hs) ≤ 2 * length ts)
  curve_passes more e =
      let s = curve_accepts L within ts vs zs hs more e in
      let f = no_report zs hs (none_of_three L ts vs zs hs more e).2 in
      let b = no_edge_back ts vs s.even s.few zs hs f.0 f.1 in
      let p = passes_are_last_edges ts vs (moves zs hs) in
      let m = passes_at_most_twice ts vs (moves zs hs) in
      let r = right_counts_insertions ts vs minutes values s.ordered (moves zs hs) b in
      let l = left_counts_evictions ts vs minutes values s.ordered (moves zs hs) b in
      omega arith

  -- so do those that an accepted sweep gives
  pub smooth_passes : (rs : List ℕ) (n : ℕ) → smooth L ts vs zs hs rs ≡ given n
      → (n ≡ insertion_count (log_after ts vs empty_log (moves zs hs)) + eviction_count (log_after ts vs empty_log (moves zs hs))) × (n ≤ 2 * length ts)
  unfolding smooth
  smooth_passes rs n q =
      let a = given_accepted (smooth_refusal L ts vs zs hs rs) (passes ts vs fresh (moves zs hs)) n q in
      rw a.1 at (curve_passes (uneven_rows row_width (length rs) (length zs)) a.0)

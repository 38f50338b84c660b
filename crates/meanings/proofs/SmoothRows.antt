-- Each row of an accepted sweep is the one that the question at one mark gives, and each record on the way is the one that one step a mark
-- gives from a fresh record.
use Prim.Native.Nat.{ℕ, zero, suc, ◌*◌, ◌≤◌, ◌<◌}
use mathlib.Core.Path.{◌≡◌, refl, sym, ap, ◌∙◌}
use mathlib.Core.Logic.{◌⊎◌, inl, inr}
use Rattle.std.specs.Prelude.{None}
use mathlib.Core.List.{List, [], ◌∷◌, ◌++◌}
use native.Mathlib.Nat.{not-suc-le-zero, le_refl, le_trans, le_of_suc-le, le_of_suc-le-suc, eq-or-lt_of_le}
use native.Mathlib.Omega.{arith}
use borrow.Author.Tests.{le-ltb}
use lib.ListN.{length, get_or, take, drop, length-append, length-drop}
use lib.Seq.{drop_at, drop-append-le, take-append-le}
use Rattle.meanings.specs.declared.Limits.{Limits}
use Rattle.meanings.specs.declared.RunningSums.{RunningSums}
use Rattle.meanings.specs.Lists.{AtMost, Ordered}
use Rattle.meanings.specs.Limits.{full, LimitsWithin, max_u16, row_width}
use Rattle.meanings.specs.Moves.{Move, moves}
use Rattle.meanings.specs.Reports.{given, first_of, bad_bandwidth, uneven_rows, order_checks, windows_checks, smooth_checks}
use Rattle.meanings.specs.Estimate.{WithinLimits, left_of, right_of, weight_of, sum_of, estimate, fields, rows}
use Rattle.meanings.specs.Running.{fresh, next_record, after_step, after, passes, window_sum, window_sums, combined, record_row}
use Rattle.meanings.specs.Calls.{evaluate, evaluate_refusal, smooth, smooth_refusal, smooth_rows}
use Rattle.meanings.proofs.Bounds.{weight_bound, sum_bound}
use Rattle.meanings.proofs.Checks.{differ_same, given_accepted, none_holds, curve_sizes_accept}
use Rattle.meanings.proofs.Modulo.{combined_exact}
use Rattle.meanings.proofs.Moments.{weight_formula, sum_formula}
use Rattle.meanings.proofs.Passes.{after_append}
use Rattle.meanings.proofs.Search.{lowest_none}
use Rattle.meanings.proofs.Steps.{Small}
use Rattle.meanings.proofs.SmoothSteps.{CurveAccepted, none_of_three, smooth_accepts, running_at, step_accepted}

pub rows_length : (ts vs zs hs : List ℕ) (n : ℕ) → length (rows ts vs zs hs n) ≡ row_width * n
rows_length ts vs zs hs zero = refl
rows_length ts vs zs hs (suc n) = length-append (rows ts vs zs hs n) _ ∙ (let l = rows_length ts vs zs hs n in omega arith)

-- the five numbers of mark k
pub row_at_point : (ts vs zs hs : List ℕ) (n k : ℕ) → k < n
    → take row_width (drop (row_width * k) (rows ts vs zs hs n)) ≡ fields (estimate ts vs (get_or zs k 0) (get_or hs k 0))
row_at_point ts vs zs hs zero k l = absurd (not-suc-le-zero l)
row_at_point ts vs zs hs (suc n) k l = by (eq-or-lt_of_le (le_of_suc-le-suc l)) (row_at_point ts vs zs hs n k)
  where
    M : List ℕ
    M = rows ts vs zs hs n

    F : List ℕ
    F = fields (estimate ts vs (get_or zs n 0) (get_or hs n 0))

    by : (k ≡ n) ⊎ (k < n) → (k < n → take row_width (drop (row_width * k) M) ≡ fields (estimate ts vs (get_or zs k 0) (get_or hs k 0)))
        → take row_width (drop (row_width * k) (M ++ F)) ≡ fields (estimate ts vs (get_or zs k 0) (get_or hs k 0))
    by (inl e) f = rw (e, drop_at M F (row_width * n) (rows_length ts vs zs hs n))
    by (inr m) f =
        let r = rows_length ts vs zs hs n in
        let d = length-drop (row_width * k) M in
        rw (drop-append-le (row_width * k) M F (omega arith), take-append-le row_width (drop (row_width * k) M) F (omega arith)) (f m)

-- the question at one mark, under limits that allow as many readings, refuses none of what an accepted sweep holds; its row is the sweep's
module _ (L : Limits) (ts vs zs hs rs : List ℕ) (n k : ℕ) (q : smooth L ts vs zs hs rs ≡ given n) (l : k < length zs) where
  checked : first_of (smooth_checks L ts vs zs hs (length rs)) ≡ None
  unfolding smooth
  checked = (given_accepted (smooth_refusal L ts vs zs hs rs) (passes ts vs fresh (moves zs hs)) n q).0

  point_accepted : (M : Limits) → L.samples ≤ M.samples → evaluate_refusal M ts vs (get_or hs k 0) ≡ None
  point_accepted M m =
      let more = uneven_rows row_width (length rs) (length zs) in
      let a = none_of_three L ts vs zs hs more checked in
      let sizes = curve_sizes_accept L ts vs zs hs more a.0 in
      let ordered = (none_holds (order_checks ts zs) a.1).0 in
      let windows = none_holds (windows_checks zs hs) a.2 in
      let few : length ts ≤ M.samples = le_trans sizes.few m in
      let b = lowest_none (λ k. bad_bandwidth (get_or hs k 0)) (length hs) windows.0 k (omega (arith, sizes.even_points)) in
      rw (differ_same _ _ sizes.even, le-ltb _ _ few, ordered, b)

  pub smooth_row_is_evaluate : (M : Limits) → L.samples ≤ M.samples
      → (evaluate M ts vs (get_or zs k 0) (get_or hs k 0) ≡ given (estimate ts vs (get_or zs k 0) (get_or hs k 0)))
      × (take row_width (drop (row_width * k) (smooth_rows L ts vs zs hs rs)) ≡ fields (estimate ts vs (get_or zs k 0) (get_or hs k 0)))
  unfolding smooth_rows evaluate
  smooth_row_is_evaluate M m = (rw (point_accepted M m), rw checked (row_at_point ts vs zs hs (length zs) k l))

-- one step more in front of the rest
moves_suc : (zs hs : List ℕ) (k : ℕ) → k < length zs → k < length hs
    → moves (take (suc k) zs) (take (suc k) hs) ≡ moves (take k zs) (take k hs) ++ record { point = get_or zs k 0; bandwidth = get_or hs k 0 } ∷ []
moves_suc [] hs k l m = absurd (not-suc-le-zero l)
moves_suc (z ∷ zs) [] k l m = absurd (not-suc-le-zero m)
moves_suc (z ∷ zs) (h ∷ hs) zero l m = refl
moves_suc (z ∷ zs) (h ∷ hs) (suc k) l m =
    ap (λ (r : List Move). record { point = z; bandwidth = h } ∷ r) (moves_suc zs hs k (le_of_suc-le-suc l) (le_of_suc-le-suc m))

pub smooth_is_one_step_a_point : (ts vs zs hs : List ℕ) → Small ts vs → CurveAccepted ts vs zs hs → (k : ℕ) → k ≤ length zs
    → after ts vs fresh (moves (take k zs) (take k hs)) ≡ running_at ts vs zs hs k
smooth_is_one_step_a_point ts vs zs hs s a zero l = refl
smooth_is_one_step_a_point ts vs zs hs s a (suc k) l =
    let m : k < length hs = rw a.even_points at l in
    let before = smooth_is_one_step_a_point ts vs zs hs s a k (le_of_suc-le l) in
    let step : Move = record { point = get_or zs k 0; bandwidth = get_or hs k 0 } in
    ap (after ts vs fresh) (moves_suc zs hs k l m)
    ∙ after_append ts vs fresh (moves (take k zs) (take k hs)) (step ∷ [])
    ∙ ap (λ (x : RunningSums). after_step ts vs x step) before
    ∙ ap (next_record (running_at ts vs zs hs k)) (step_accepted ts vs zs hs s a k l)

-- the record of a window gives the window's row, whatever its passes: nothing that wraps is lost, since weight and sum fit 64 bits
window_gives_row : (ts vs : List ℕ) (z h n : ℕ) → Ordered ts → WithinLimits ts vs h
    → record_row (record { left = left_of ts z h; right = right_of ts z h; sums = window_sums ts vs z h; passes = n }) z h ≡ estimate ts vs z h
unfolding record_row estimate
window_gives_row ts vs z h n o f = rw (weight_had, sum_had)
  where
    weight_had : combined 64 z h (window_sum ts vs z h 0 0) (window_sum ts vs z h 1 0) (window_sum ts vs z h 2 0) ≡ weight_of ts z h
    weight_had =
        combined_exact 64 z h _ _ _ (weight_of ts z h) (weight_formula ts vs z h o)
        (omega (arith, weight_bound ts vs z h f.few f.bandwidth))

    sum_had : combined 64 z h (window_sum ts vs z h 0 1) (window_sum ts vs z h 1 1) (window_sum ts vs z h 2 1) ≡ sum_of ts vs z h
    sum_had = combined_exact 64 z h _ _ _ (sum_of ts vs z h) (sum_formula ts vs z h o) (omega (arith, sum_bound ts vs z h f))

-- so does a record of any origin that has the window's edges and sums
pub record_of_window_gives_row : (ts vs : List ℕ) (z h : ℕ) (r : RunningSums) → Ordered ts → WithinLimits ts vs h → r.left ≡ left_of ts z h
    → r.right ≡ right_of ts z h → r.sums ≡ window_sums ts vs z h → record_row r z h ≡ estimate ts vs z h
record_of_window_gives_row ts vs z h r o f left right sums =
    ap (λ (x : RunningSums). record_row x z h) same ∙ window_gives_row ts vs z h r.passes o f
  where
    same : r ≡ record { left = left_of ts z h; right = right_of ts z h; sums = window_sums ts vs z h; passes = r.passes }
    same = λ i. record { left = left i; right = right i; sums = sums i; passes = r.passes }

-- the five numbers of mark k are those of the row that the record after k + 1 steps gives
pub smooth_row_is_record_row : (L : Limits) → LimitsWithin L full → (ts vs zs hs rs : List ℕ) (n k : ℕ) → AtMost max_u16 ts → AtMost max_u16 vs
    → smooth L ts vs zs hs rs ≡ given n → k < length zs
    → take row_width (drop (row_width * k) (smooth_rows L ts vs zs hs rs))
    ≡ fields (record_row (after ts vs fresh (moves (take (suc k) zs) (take (suc k) hs))) (get_or zs k 0) (get_or hs k 0))
smooth_row_is_record_row L w ts vs zs hs rs n k minutes values q l =
    let a = (smooth_accepts L w ts vs zs hs (length rs) (checked L ts vs zs hs rs n k q l)).lists in
    let s : Small ts vs = record { even = a.even; few = a.few; minutes = minutes; values = values } in
    let fit : WithinLimits ts vs (get_or hs k 0) = record { even = a.even; few = a.few; values = values; bandwidth = (a.bandwidths k l).1 } in
    (smooth_row_is_evaluate L ts vs zs hs rs n k q l L (le_refl _)).1
    ∙ sym
    (rw (smooth_is_one_step_a_point ts vs zs hs s a (suc k) l)
    (ap fields (window_gives_row ts vs (get_or zs k 0) (get_or hs k 0) _ a.ordered fit)))

-- The row of a record with a window's edges and sums is the meaning's row; the sums over its run, taken in from zero, are these.
use Prim.Native.Nat.{ℕ, ◌-◌, ◌^◌, ◌≤◌, ◌<◌}
use mathlib.Core.Path.{◌≡◌, ◌∙◌}
use mathlib.Core.List.{List}
use native.Mathlib.Nat.{zero-add, mod-eq_of_lt}
use native.Mathlib.Omega.{arith}
use lib.ListN.{length}
use Rattle.meanings.specs.declared.Estimate.{Estimate}
use Rattle.meanings.specs.declared.PowerSums.{PowerSums}
use Rattle.meanings.specs.Limits.{full}
use Rattle.meanings.specs.Estimate.{left_of, right_of, estimate}
use Rattle.meanings.specs.Running.{six, sum_at, plus, power_sum, window_sum, window_sums, record_row}
use Rattle.meanings.proofs.Checks.{EvaluateAccepted}
use Rattle.meanings.proofs.Steps.{Small, power_sum_bound, six_agree, six_at}
use Rattle.meanings.proofs.SmoothRows.{record_of_window_gives_row}
use Rattle.meanings.proofs.Window.{left_at_most_right, right_at_most_length}
use Rattle.regression.specs.declared.estimator.point.Span.{Span}
use Rattle.regression.specs.Rows.{RunWithin, RunJoined, IsSpan, Of16Bits}
use Rattle.arithmetic.proofs.Zeros.{IsZeros, zeros}
use Rattle.regression.proofs.Searches.{run_within}

-- readings of 16 bits, as their type says
pub of_16_bits : {ts vs : List ℕ} → length ts ≡ length vs → length ts ≤ full.samples
    → Of16Bits ts → Of16Bits vs → Small ts vs
of_16_bits e f t v = record { even = e; few = f; minutes = λ i l. omega (arith, t.fits i); values = λ i l. omega (arith, v.fits i) }

-- what is taken in from zero at a window's edges is the window's sums
inserted_from_zero : (ts vs : List ℕ) (z h : ℕ) → Small ts vs → (z₀ r : PowerSums) (a b : ℕ) → z₀ ≡ six (λ p q. 0)
    → a ≡ left_of ts z h → b ≡ right_of ts z h
    → r ≡ six (λ p q. plus 64 (sum_at z₀ p q) (power_sum ts vs a (b - a) p q))
    → r ≡ window_sums ts vs z h
inserted_from_zero ts vs z h s z₀ r a b e l m q =
    q
    ∙ rw (e, l, m)
    (six_agree (λ i j. plus 64 (sum_at (six (λ p q. 0)) i j) (window_sum ts vs z h i j)) (window_sum ts vs z h)
    (λ i j x y. rw (six_at (λ p q. 0) i j x y, zero-add) (mod-eq_of_lt (below i j x y))))
  where
    below : (i j : ℕ) → i ≤ 2 → j ≤ 1 → window_sum ts vs z h i j < 2 ^ 64
    below i j x y =
        let l = left_at_most_right ts z h in
        let m = right_at_most_length ts z h in
        omega (arith, power_sum_bound ts vs s (left_of ts z h) (right_of ts z h - left_of ts z h) i j x y (omega arith))

-- the row at one mark: the sums over the span, taken in from zero, are the window's
module _ {ts vs : List ℕ} {z h : ℕ} {s : Span} (a : EvaluateAccepted ts vs h) (i : IsSpan ts z h s) where
  pub span_run_within : RunWithin ts vs s.left s.right
  span_run_within =
      let l : s.left ≤ s.right = omega (arith, i.left_is, i.right_is, left_at_most_right ts z h) in
      run_within a.even l (omega (arith, i.right_is, right_at_most_length ts z h))

  module _ {z₀ q : PowerSums} (t : Of16Bits ts) (v : Of16Bits vs) (e : IsZeros z₀)
      (g : RunJoined (plus 64) z₀ ts vs s.left s.right q) where
    small : Small ts vs
    small = of_16_bits a.even a.few t v

    sums_are : q ≡ window_sums ts vs z h
    sums_are = inserted_from_zero ts vs z h small z₀ q s.left s.right (zeros e) i.left_is i.right_is g.sums

    pub row_of_span : {r : Estimate} → r ≡ record_row (record { left = s.left; right = s.right; sums = q; passes = 0 }) z h
        → r ≡ estimate ts vs z h
    row_of_span e =
        e
        ∙ record_of_window_gives_row ts vs z h (record { left = s.left; right = s.right; sums = q; passes = 0 }) a.ordered
        (record { even = a.even; few = a.few; values = small.values; bandwidth = a.bandwidth }) i.left_is i.right_is sums_are

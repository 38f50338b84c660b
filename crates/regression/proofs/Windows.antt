-- For ordered minutes an edge that has come to a bound is the row's: the minutes before it are below the bound and those from it on are not. Both
-- edges together have gained the new run and lost the old one.
use Prim.Native.Nat.{ℕ, ◌+◌, ◌-◌, ◌≤◌, ◌<◌, zero-le}
use Rattle.std.specs.Prelude.{Result, Ok}
use mathlib.Core.Path.{◌≡◌, refl, sym, ap, ◌∙◌}
use mathlib.Core.Logic.{◌↔◌}
use mathlib.Core.List.{List}
use native.Mathlib.Nat.{sub-zero}
use native.Mathlib.Omega.{arith}
use lib.ListN.{length, get_or}
use Rattle.meanings.specs.declared.Limits.{Limits}
use Rattle.meanings.specs.declared.PowerSums.{PowerSums}
use Rattle.meanings.specs.declared.Refusal.{Refusal}
use Rattle.meanings.specs.declared.RunningSums.{RunningSums}
use Rattle.meanings.specs.Estimate.{left_of, right_of}
use Rattle.meanings.specs.Limits.{full}
use Rattle.meanings.specs.Lists.{distance, Ordered}
use Rattle.meanings.specs.Reports.{verdict_fault, first_of, turn_checks}
use Rattle.meanings.specs.Running.{six, sum_at, plus, minus, power_sum, window_sum, term, new_passes}
use Rattle.meanings.specs.Turn.{turned, turn_refusal}
use Rattle.meanings.proofs.Checks.{TurnAccepted, turn_accepts, same_limits}
use Rattle.meanings.proofs.Steps.{six_agree, six_at, range_joins}
use Rattle.meanings.proofs.Window.{left_at_most_right, right_at_most_length, before_left, before_right}
use Rattle.arithmetic.specs.Wrapping.{plus_plus}
use Rattle.arithmetic.specs.declared.sums.Edge.{Edge}
use Rattle.arithmetic.proofs.Zeros.{IsZeros, zeros}
use Rattle.regression.specs.Travels.{Lowered}
use Rattle.regression.proofs.Settles.{settles_is_minus, settles_alike, settles_apart}
use Rattle.regression.proofs.Travels.{edge}

-- two places are one where the same positions stand before both
same_place : (n a b : ℕ) → a ≤ n → b ≤ n → ((i : ℕ) → i < n → (i < a) ↔ (i < b)) → a ≡ b
same_place n a b l m e = omega (arith, not_below a b (λ k. omega (arith, (e a (omega arith)).1 k)), not_below b a (λ k. omega (arith, (e b (omega arith)).0 k)))
  where
    not_below : (x y : ℕ) → ¬ (x < y) → y ≤ x
    not_below x y f = omega arith

module _ {ts vs : List ℕ} {m : ℕ} {e f : Edge PowerSums} (o : Ordered ts) (w : Lowered ts vs m e f) where
  before_edge : (i : ℕ) → i < length ts → (i < f.at) ↔ (get_or ts i 0 < m)
  before_edge i l = (below, λ b. not_from (λ k. omega (arith, from k)))
    where
      below : i < f.at → get_or ts i 0 < m
      below k = omega (arith, o i (f.at - 1) (omega arith) (omega (arith, w.raised.reaches.among.inside)), w.before (omega arith))

      from : f.at ≤ i → m ≤ get_or ts i 0
      from k = omega (arith, o f.at i k l, w.raised.reaches.reached (omega arith))

      not_from : ¬ (f.at ≤ i) → i < f.at
      not_from n = omega arith

  pub edge_is_left : (z h : ℕ) → m ≡ z - h → f.at ≡ left_of ts z h
  edge_is_left z h q =
      same_place (length ts) _ _ w.raised.reaches.among.inside
      (omega (arith, left_at_most_right ts z h, right_at_most_length ts z h))
      (λ i l. (
        λ k. (before_left ts z h o i l).1 (omega (arith, (before_edge i l).0 k)),
        λ k. (before_edge i l).1 (omega (arith, (before_left ts z h o i l).0 k)),
      ))

  pub edge_is_right : (z h : ℕ) → m ≡ z + h + 1 → f.at ≡ right_of ts z h
  edge_is_right z h q =
      same_place (length ts) _ _ w.raised.reaches.among.inside (right_at_most_length ts z h)
      (λ i l. (
        λ k. (before_right ts z h o i l).1 (omega (arith, (before_edge i l).0 k)),
        λ k. (before_edge i l).1 (omega (arith, (before_right ts z h o i l).0 k)),
      ))

module _ (ts vs : List ℕ) (r : RunningSums) (z h : ℕ) (t : TurnAccepted ts vs r.left r.right h) where
  module _ {low n passes : ℕ} {zero₆ sums : PowerSums} {right left : Edge PowerSums}
      (b : Lowered ts vs (z + h + 1) (edge r.right r.sums) right)
      (q : low ≡ z - h)
      (e : IsZeros zero₆)
      (c : Lowered ts vs low (edge r.left zero₆) left)
      (f : n ≡ plus 64 r.passes (distance r.left left.at))
      (g : passes ≡ plus 64 n (distance r.right right.at))
      (d : sums ≡ six (λ p q. minus 64 (sum_at right.sums p q) (sum_at left.sums p q))) where
    here_right : right.at ≡ right_of ts z h
    here_right = edge_is_right t.ordered b z h refl

    here_left : left.at ≡ left_of ts z h
    here_left = edge_is_left t.ordered c z h q

    -- a range by what lies before its ends
    from_start : (p q a b : ℕ) → a ≤ b → power_sum ts vs 0 a p q + power_sum ts vs a (b - a) p q ≡ power_sum ts vs 0 b p q
    from_start p q a b l = rw (sub-zero a, sub-zero b) at (range_joins (term p q ts vs) 0 a b zero-le l)

    new_sums_settle : (p q : ℕ) → p ≤ 2 → q ≤ 1
        → minus 64 (sum_at right.sums p q) (sum_at left.sums p q)
        ≡ minus 64 (plus 64 (sum_at r.sums p q) (window_sum ts vs z h p q)) (power_sum ts vs r.left (r.right - r.left) p q)
    new_sums_settle p q x y =
        let gone = rw (ap (λ (s : PowerSums). sum_at s p q) (zeros e) ∙ six_at (λ p q. 0) p q x y, here_left) at (c.raised.carried.each p q x y) in
        let come = rw here_right at (b.raised.carried.each p q x y) in
        let new = from_start p q (left_of ts z h) (right_of ts z h) (left_at_most_right ts z h) in
        let old = from_start p q r.left r.right t.edges in
        settles_is_minus (settles_alike (settles_apart come gone) _ _ (omega arith))

    pub turned_so : record { left = left.at; right = right.at; sums = sums; passes = passes } ≡ turned ts vs r z h
    unfolding turned
    turned_so = λ i. record {
      left = here_left i;
      right = here_right i;
      sums = (d ∙ six_agree _ _ new_sums_settle) i;
      passes = travelled i;
    }
      where
        travelled : passes ≡ new_passes r (left_of ts z h) (right_of ts z h)
        travelled =
            g
            ∙ ap (λ (k : ℕ). plus 64 k (distance r.right right.at)) f
            ∙ plus_plus 64 r.passes (distance r.left left.at) (distance r.right right.at)
            ∙ (λ i. plus 64 r.passes (distance r.left (here_left i) + distance r.right (here_right i)))

-- what the check found is what the turn is refused for
module _ (ts vs : List ℕ) (r : RunningSums) (h : ℕ) {L : Limits} {v : Result Unit Refusal} (l : L ≡ full)
    (f : verdict_fault v ≡ first_of (turn_checks L ts vs r.left r.right h)) where
  of_turn : {w : Result Unit Refusal} → v ≡ w → turn_refusal ts vs r h ≡ verdict_fault w
  of_turn q = sym (ap verdict_fault (sym q) ∙ f ∙ ap (λ (M : Limits). first_of (turn_checks M ts vs r.left r.right h)) l)

  pub turn_accepted : {unit : Unit {0}} → v ≡ Ok unit → TurnAccepted ts vs r.left r.right h
  turn_accepted q = turn_accepts full (same_limits full) ts vs r.left r.right h (of_turn q)

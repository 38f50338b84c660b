-- An edge on its way: each reading passed upward is taken in, each passed downward is let go, so that the sums always have what lies before the
-- edge more, and what lay before it at first less.
use Prim.Native.Nat.{ℕ, zero, suc, ◌+◌, ◌-◌, ◌^◌, ◌≤◌, ◌<◌}
use mathlib.Core.Path.{◌≡◌, ap, ◌∙◌}
use mathlib.Core.List.{List}
use native.Mathlib.Nat.{zero-add}
use native.Mathlib.Numerals.{add-one}
use native.Mathlib.Omega.{arith}
use lib.ListN.{length, get_or}
use Rattle.meanings.specs.declared.PowerSums.{PowerSums}
use Rattle.meanings.specs.Running.{six, sum_at, plus, minus, power_sum, term}
use Rattle.meanings.proofs.Steps.{six_at}
use Rattle.arithmetic.specs.declared.sums.Edge.{Edge}
use Rattle.regression.specs.Travels.{Among, Carried, Reaches, Raised, Lowered}
use Rattle.regression.proofs.Settles.{settles_at_first, settles_gains, settles_loses, settles_on, settles_alike}

abbrev pub edge : ℕ → PowerSums → Edge PowerSums
edge i s = record { at = i; sums = s }

-- every sum is below 2^w
pub record Small (w : ℕ) (s : PowerSums) : Type 0 where
  pub s00 : s.s00 < 2 ^ w
  pub s10 : s.s10 < 2 ^ w
  pub s20 : s.s20 < 2 ^ w
  pub s01 : s.s01 < 2 ^ w
  pub s11 : s.s11 < 2 ^ w
  pub s21 : s.s21 < 2 ^ w

-- what lies before the next position
one_more_before : (ts vs : List ℕ) (i p q : ℕ) → power_sum ts vs 0 (i + 1) p q ≡ power_sum ts vs 0 i p q + term p q ts vs i
one_more_before ts vs i p q = rw (add-one i, zero-add i)

-- an edge on its way up among the readings, from position i₀ with the sums s₀ to position i with the sums s
pub record Rising (ts vs : List ℕ) (i₀ : ℕ) (s₀ : PowerSums) (i : ℕ) (s : PowerSums) : Type 0 where
  pub among : Among ts vs i
  pub carried : Carried ts vs (edge i₀ s₀) (edge i s)

-- the same on its way down, where it always stands before a minute of at least m
pub record Falling (ts vs : List ℕ) (m i₀ : ℕ) (s₀ : PowerSums) (i : ℕ) (s : PowerSums) : Type 0 where
  pub reaches : Reaches ts vs m i
  pub carried : Carried ts vs (edge i₀ s₀) (edge i s)

carried_at_first : (ts vs : List ℕ) (i : ℕ) (s : PowerSums) → Small 64 s → Carried ts vs (edge i s) (edge i s)
carried_at_first ts vs i s l = record { each = λ p q a b. settles_at_first (fits p q) }
  where
    fits : (p q : ℕ) → sum_at s p q < 2 ^ 64
    fits zero zero = l.s00
    fits (suc zero) zero = l.s10
    fits (suc (suc p)) zero = l.s20
    fits zero (suc q) = l.s01
    fits (suc zero) (suc q) = l.s11
    fits (suc (suc p)) (suc q) = l.s21

module _ {ts vs : List ℕ} {i : ℕ} {s : PowerSums} where
  pub rising_begins : Among ts vs i → Small 64 s → Rising ts vs i s i s
  rising_begins a l = record { among = a; carried = carried_at_first ts vs i s l }

  pub falling_begins : {m : ℕ} → Reaches ts vs m i → Small 64 s → Falling ts vs m i s i s
  falling_begins a l = record { reaches = a; carried = carried_at_first ts vs i s l }

module _ {ts vs : List ℕ} {i₀ : ℕ} {s₀ : PowerSums} {i : ℕ} {s : PowerSums} (w : Rising ts vs i₀ s₀ i s) where
  pub rises : {s' : PowerSums} → i < length ts → s' ≡ six (λ p q. plus 64 (sum_at s p q) (term p q ts vs i)) → Rising ts vs i₀ s₀ (i + 1) s'
  rises {s'} l e = record {
    among = record { even = w.among.even; inside = omega arith };
    carried = record {
      each = λ p q a b.
          rw (one_more_before ts vs i p q, ap (λ (t : PowerSums). sum_at t p q) e ∙ six_at (λ p q. plus 64 (sum_at s p q) (term p q ts vs i)) p q a b)
          (settles_gains (w.carried.each p q a b) (term p q ts vs i));
    };
  }

module _ {ts vs : List ℕ} {m i₀ : ℕ} {s₀ : PowerSums} {i : ℕ} {s : PowerSums} (w : Falling ts vs m i₀ s₀ i s) where
  pub falls : {s' : PowerSums} → 0 < i → m ≤ get_or ts (i - 1) 0 → s' ≡ six (λ p q. minus 64 (sum_at s p q) (term p q ts vs (i - 1)))
      → Falling ts vs m i₀ s₀ (i - 1) s'
  falls {s'} l r e = record {
    reaches = record { among = record { even = w.reaches.among.even; inside = omega (arith, w.reaches.among.inside) }; reached = λ b. r };
    carried = record {
      each = λ p q a b.
          rw (ap (λ (t : PowerSums). sum_at t p q) e ∙ six_at (λ p q. minus 64 (sum_at s p q) (term p q ts vs (i - 1))) p q a b)
          (settles_loses (term p q ts vs (i - 1)) (rw (before p q) at (w.carried.each p q a b)));
    };
  }
    where
      before : (p q : ℕ) → power_sum ts vs 0 i p q ≡ power_sum ts vs 0 (i - 1) p q + term p q ts vs (i - 1)
      before p q = let n : i ≡ i - 1 + 1 = omega arith in ap (λ (k : ℕ). power_sum ts vs 0 k p q) n ∙ one_more_before ts vs (i - 1) p q

-- up and then down: what lies before the highest place was gained and lost
pub both_ways : {ts vs : List ℕ} {m : ℕ} {e f g : Edge PowerSums} → Raised ts vs m e f → Lowered ts vs m f g → Lowered ts vs m e g
both_ways {ts} {vs} a b = record {
  raised = record {
    reaches = b.raised.reaches;
    carried = record {
      each = λ p q x y. settles_alike (settles_on (a.carried.each p q x y) (b.raised.carried.each p q x y)) _ _ (omega arith);
    };
  };
  before = b.before;
}

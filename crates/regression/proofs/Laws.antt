-- Laws over plain variables that the functions' proofs cite: runs of readings, searching.
use Prim.Native.Nat.{ℕ, suc, ◌+◌, ◌-◌, ◌^◌, ◌≤◌, ◌<◌}
use mathlib.Core.Path.{◌≡◌, refl, sym, ap, ◌∙◌}
use mathlib.Core.List.{List}
use native.Mathlib.Nat.{le_refl, sub_self, add-sub_of_le}
use native.Mathlib.Numerals.{add-one}
use native.Mathlib.Omega.{arith}
use borrow.Author.Tests.{le-leb, lt-leb}
use lib.Dec.{leb}
use lib.ListN.{get_or}
use Rattle.meanings.specs.declared.PowerSums.{PowerSums}
use Rattle.meanings.specs.Lists.{first, total}
use Rattle.meanings.specs.Running.{six, sum_at, power_sum, term}
use Rattle.regression.specs.Rows.{RunWithin, RunJoined, FoundFrom}

-- below, op is plus w or minus w: each of the six sums is joined by it with the terms of a run

-- of the run from a up to e the readings before i are joined to s, which makes r
pub record Joined (op : ℕ → ℕ → ℕ) (s : PowerSums) (ts vs : List ℕ) (a e i : ℕ) (r : PowerSums) : Type 0 where
  pub chain : (x y z : ℕ) → op (op x y) z ≡ op x (y + z)
  pub from : a ≤ i
  pub upto : i ≤ e
  pub joined : RunJoined op s ts vs a i r

-- every sum is below 2^w
pub record Small (w : ℕ) (s : PowerSums) : Type 0 where
  pub s00 : s.s00 < 2 ^ w
  pub s10 : s.s10 < 2 ^ w
  pub s20 : s.s20 < 2 ^ w
  pub s01 : s.s01 < 2 ^ w
  pub s11 : s.s11 < 2 ^ w
  pub s21 : s.s21 < 2 ^ w

six_same : (f g : ℕ → ℕ → ℕ) → ((p q : ℕ) → f p q ≡ g p q) → six f ≡ six g
six_same f g e = cc (e 0 0, e 1 0, e 2 0, e 0 1, e 1 1, e 2 1)

total_grows : (g : ℕ → ℕ) (a i : ℕ) → a ≤ i → total g a (i - a) + g i ≡ total g a (i + 1 - a)
total_grows g a i l = let n : i + 1 - a ≡ suc (i - a) = omega arith in rw (n, add-sub_of_le l)

module _ {op : ℕ → ℕ → ℕ} {s : PowerSums} {ts vs : List ℕ} {a e : ℕ} where
  pub run_begins : (w : ℕ) → ((x : ℕ) → x < 2 ^ w → op x 0 ≡ x) → ((x y z : ℕ) → op (op x y) z ≡ op x (y + z)) → Small w s
      → RunWithin ts vs a e → Joined op s ts vs a e a s
  run_begins w none chain small l = record { chain = chain; from = le_refl a; upto = l.minutes.ordered; joined = record { sums = fields } }
    where
      fields : six (sum_at s) ≡ six (λ p q. op (sum_at s p q) (power_sum ts vs a (a - a) p q))
      fields =
          rw (sub_self a)
          (cc (
            none _ small.s00,
            none _ small.s10,
            none _ small.s20,
            none _ small.s01,
            none _ small.s11,
            none _ small.s21,
          ))

  module _ {i : ℕ} {r : PowerSums} (j : Joined op s ts vs a e i r) where
    pub run_grows : {r' : PowerSums} → i < e → r' ≡ six (λ p q. op (sum_at r p q) (term p q ts vs i)) → Joined op s ts vs a e (i + 1) r'
    run_grows l t = record {
      chain = j.chain;
      from = omega (arith, j.from);
      upto = omega arith;
      joined = record {
        sums = t
            ∙ ap (λ (u : PowerSums). six (λ p q. op (sum_at u p q) (term p q ts vs i))) j.joined.sums
            ∙ six_same (λ p q. op (op (sum_at s p q) (power_sum ts vs a (i - a) p q)) (term p q ts vs i)) _
            (λ p q. j.chain _ _ _ ∙ ap (op (sum_at s p q)) (total_grows (term p q ts vs) a i j.from));
      };
    }

    pub run_ends : e ≤ i → RunJoined op s ts vs a e r
    run_ends l = let q : e ≡ i = omega (arith, j.upto) in rw q j.joined

-- the search for a minute of at least m, from a up to e, goes on at i
pub record Searched (ts : List ℕ) (m a e i : ℕ) : Type 0 where
  pub upto : i ≤ e
  pub same : first (λ j. leb m (get_or ts j 0)) a (e - a) ≡ first (λ j. leb m (get_or ts j 0)) i (e - i)

pub search_begins : {ts : List ℕ} {m a e : ℕ} → a ≤ e → Searched ts m a e a
search_begins l = record { upto = l; same = refl }

module _ {ts : List ℕ} {m a e i : ℕ} (s : Searched ts m a e i) where
  one_left : i < e → e - i ≡ suc (e - (i + 1))
  one_left l = omega arith

  pub search_goes_on : i < e → get_or ts i 0 < m → Searched ts m a e (i + 1)
  search_goes_on l t = record { upto = omega arith; same = s.same ∙ rw (one_left l, lt-leb _ _ t, add-one i) }

  pub search_finds : i < e → m ≤ get_or ts i 0 → FoundFrom ts a e m i
  search_finds l t = record { found = sym (s.same ∙ rw (one_left l, le-leb _ _ t)) }

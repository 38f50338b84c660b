-- Each weighted value is at least the lowest and at most the highest one times its weight, so the totals are too, and no rounding of a quotient
-- to the nearest number leaves the whole numbers that the quotient lies between.
use Prim.Native.Nat.{ℕ, zero, suc, ◌+◌, ◌*◌, ◌≤◌, ◌<◌}
use mathlib.Core.Path.{◌≡◌, refl}
use mathlib.Core.Logic.{◌⊎◌, inl, inr}
use native.Mathlib.Nat.{le_trans, mul-le-mul, le_refl, zero-mul}
use native.Mathlib.Decide.{dec_le, dec_lt}
use native.Mathlib.Omega.{arith}
use Rattle.meanings.specs.Lists.{total}
use Rattle.meanings.specs.Estimate.{rounded}
use Rattle.meanings.proofs.Rounding.{rounded_at_least, rounded_at_most}
use Rattle.laws.specs.rows.Weighted.{Weighs, Extreme, Between}

-- a total above zero has a term above zero
pub some_weighs : (w : ℕ → ℕ) (n : ℕ) → 0 < total w 0 n → (i : ℕ) × Weighs w n i
some_weighs w zero l = absurd (omega arith)
some_weighs w (suc n) l = by (dec_lt 0 (w (0 + n))) (some_weighs w n)
  where
    by : Dec (0 < w (0 + n)) → (0 < total w 0 n → (i : ℕ) × Weighs w n i) → (i : ℕ) × Weighs w (suc n) i
    by (yes a) f = (0 + n, record { within = omega arith; above_zero = a })
    by (no a) f = let p = f (omega arith) in (p.0, record { within = let q = p.1.within in omega arith; above_zero = p.1.above_zero })

-- of readings with weights above zero there is an extreme one, lowest or highest
module _ (R : ℕ → ℕ → Type 0) (either_way : (a b : ℕ) → R a b ⊎ R b a) (onward : (a b c : ℕ) → R a b → R b c → R a c) (w v : ℕ → ℕ) where
  itself : (a : ℕ) → R a a
  itself a = by (either_way a a)
    where
      by : R a a ⊎ R a a → R a a
      by (inl r) = r
      by (inr r) = r

  -- a reading more without a weight, and one with
  longer : {n i : ℕ} → Weighs w n i → Weighs w (suc n) i
  longer g = record { within = let l = g.within in omega arith; above_zero = g.above_zero }

  shorter : {n i : ℕ} → ¬ (0 < w n) → Weighs w (suc n) i → Weighs w n i
  shorter {n} {i} a g = record { within = by (dec_lt i n); above_zero = g.above_zero }
    where
      by : Dec (i < n) → i < n
      by (yes l) = l
      by (no l) = let e : i ≡ n = omega (arith, g.within) in absurd (a (rw e at g.above_zero))

  extreme_or_none : (n : ℕ) → ((i : ℕ) → ¬ Weighs w n i) ⊎ ((x : ℕ) × Extreme R w v n x)
  extreme_or_none zero = inl (λ i g. let l = g.within in omega arith)
  extreme_or_none (suc n) = by (dec_lt 0 (w n)) (extreme_or_none n)
    where
      last : 0 < w n → Weighs w (suc n) n
      last a = record { within = omega arith; above_zero = a }

      -- what R says of all readings before, and of the last one
      all : (x : ℕ) → R x (v n) → ((i : ℕ) → Weighs w n i → R x (v i)) → (i : ℕ) → Weighs w (suc n) i → R x (v i)
      all x r f i g = at_last (dec_lt i n)
        where
          at_last : Dec (i < n) → R x (v i)
          at_last (yes l) = f i (record { within = l; above_zero = g.above_zero })
          at_last (no l) = let e : i ≡ n = omega (arith, g.within) in rw e r

      by : Dec (0 < w n) → ((i : ℕ) → ¬ Weighs w n i) ⊎ ((x : ℕ) × Extreme R w v n x)
          → ((i : ℕ) → ¬ Weighs w (suc n) i) ⊎ ((x : ℕ) × Extreme R w v (suc n) x)
      by (no a) (inl f) = inl (λ i g. f i (shorter a g))
      by (no a) (inr e) = inr (
        e.0,
        record {
          position = e.1.position;
          weighs = longer e.1.weighs;
          reached = e.1.reached;
          each = λ i g. e.1.each i (shorter a g);
        },
      )
      by (yes a) (inl f) = inr (
        v n,
        record {
          position = n;
          weighs = last a;
          reached = refl;
          each = all (v n) (itself (v n)) (λ i g. absurd (f i g));
        },
      )
      by (yes a) (inr e) = nearer (either_way (v n) e.0)
        where
          nearer : R (v n) e.0 ⊎ R e.0 (v n) → ((i : ℕ) → ¬ Weighs w (suc n) i) ⊎ ((x : ℕ) × Extreme R w v (suc n) x)
          nearer (inl r) = inr (
            v n,
            record {
              position = n;
              weighs = last a;
              reached = refl;
              each = all (v n) (itself (v n)) (λ i g. onward (v n) e.0 (v i) r (e.1.each i g));
            },
          )
          nearer (inr r) = inr (
            e.0,
            record {
              position = e.1.position;
              weighs = longer e.1.weighs;
              reached = e.1.reached;
              each = all e.0 r e.1.each;
            },
          )

  extreme : (n i : ℕ) → Weighs w n i → (x : ℕ) × Extreme R w v n x
  extreme n i g = by (extreme_or_none n)
    where
      by : ((i : ℕ) → ¬ Weighs w n i) ⊎ ((x : ℕ) × Extreme R w v n x) → (x : ℕ) × Extreme R w v n x
      by (inl f) = absurd (f i g)
      by (inr e) = e

-- a total of weight times value lies as the values do, in an order that sums and multiples keep
module _ (R : ℕ → ℕ → Type 0) (itself : (a : ℕ) → R a a) (adds : (a b c d : ℕ) → R a b → R c d → R (a + c) (b + d))
    (scales : (k a b : ℕ) → R a b → R (k * a) (k * b)) (w v : ℕ → ℕ) (x : ℕ) where
  term_lies : (i : ℕ) → Dec (0 < w i) → (0 < w i → R x (v i)) → R (w i * x) (w i * v i)
  term_lies i (yes a) f = scales (w i) x (v i) (f a)
  term_lies i (no a) f =
      let z : w i ≡ 0 = omega arith in
      rw (z, zero-mul x, zero-mul (v i)) (itself 0)

  total_lies : (n : ℕ) → ((i : ℕ) → Weighs w n i → R x (v i)) → R (total w 0 n * x) (total (λ i. w i * v i) 0 n)
  total_lies zero f = rw (zero-mul x) (itself 0)
  total_lies (suc n) f =
      let before = total_lies n (λ i g. f i (record { within = omega (arith, g.within); above_zero = g.above_zero })) in
      let term = term_lies (0 + n) (dec_lt 0 (w (0 + n))) (λ a. f (0 + n) (record { within = omega arith; above_zero = a })) in
      let e : (total w 0 n + w (0 + n)) * x ≡ total w 0 n * x + w (0 + n) * x = omega arith in
      rw e (adds _ _ _ _ before term)

total_at_least : (w v : ℕ → ℕ) (x n : ℕ) → ((i : ℕ) → Weighs w n i → x ≤ v i) → total w 0 n * x ≤ total (λ i. w i * v i) 0 n
total_at_least = total_lies (λ a b. a ≤ b) le_refl (λ a b c d l m. omega arith) (λ k a b l. mul-le-mul (le_refl k) l)

total_at_most : (w v : ℕ → ℕ) (x n : ℕ) → ((i : ℕ) → Weighs w n i → v i ≤ x) → total (λ i. w i * v i) 0 n ≤ total w 0 n * x
total_at_most = total_lies (λ a b. b ≤ a) le_refl (λ a b c d l m. omega arith) (λ k a b l. mul-le-mul (le_refl k) l)

up_or_down : (a b : ℕ) → (a ≤ b) ⊎ (b ≤ a)
up_or_down a b = by (dec_le a b)
  where
    by : Dec (a ≤ b) → (a ≤ b) ⊎ (b ≤ a)
    by (yes l) = inl l
    by (no l) = inr (omega arith)

pub mean_among : (w v : ℕ → ℕ) (n : ℕ) → 0 < total w 0 n → Between w v n (rounded (total (λ i. w i * v i) 0 n) (total w 0 n))
mean_among w v n p =
    let some = some_weighs w n p in
    let low = extreme (λ a b. a ≤ b) up_or_down (λ a b c l m. le_trans l m) w v n some.0 some.1 in
    let high = extreme (λ a b. b ≤ a) (λ a b. up_or_down b a) (λ a b c l m. le_trans m l) w v n some.0 some.1 in
    record {
      low = low.0;
      high = high.0;
      lowest = low.1;
      highest = high.1;
      at_least = rounded_at_least _ _ low.0 p (total_at_least w v low.0 n low.1.each);
      at_most = rounded_at_most _ _ high.0 p (total_at_most w v high.0 n high.1.each);
    }

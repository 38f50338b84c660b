-- A step over ordered minutes lands on the row's edges, and its sums stay the direct sums over its run: what it takes in and lets go is
-- what the new run has more and less than the old one, and no sum of 1,024 readings reaches 2^64.
use Prim.Native.Nat.{ℕ, zero, suc, ◌+◌, ◌-◌, ◌*◌, ◌%◌, ◌^◌, ◌≤◌, ◌<◌, zero-le}
use mathlib.Core.Path.{◌≡◌, refl, sym, ◌∙◌, ap}
use mathlib.Core.List.{List}
use native.Mathlib.Nat.{mod-eq_of_lt, add-mod_right, le_trans, mul-le-mul, mul-le-mul_left, mul-le-mul_right, pow-le-pow_left, pow-le-pow_right}
use native.Mathlib.Omega.{arith}
use borrow.Author.Tests.{lt-ltb, le-ltb, le-leb, lt-leb}
use lib.ListN.{length, get_or}
use Rattle.meanings.specs.declared.PowerSums.{PowerSums}
use Rattle.meanings.specs.declared.RunningSums.{RunningSums}
use Rattle.meanings.specs.Lists.{total, distance, Ordered, AtMost}
use Rattle.meanings.specs.Limits.{full, max_u16}
use Rattle.meanings.specs.Estimate.{left_of, right_of}
use Rattle.meanings.specs.Running.{term, power_sum, six, sum_at, plus, minus, new_right}
use Rattle.meanings.specs.Running.{new_left, new_sums, new_passes, moved, window_sums, fresh}
use Rattle.meanings.proofs.Bounds.{total_at_most}
use Rattle.meanings.proofs.Search.{first_is_first, first_unique}
use Rattle.meanings.proofs.Totals.{total_split}
use Rattle.meanings.proofs.Window.{left_at_most_right, right_at_most_length, before_left, before_right}

module _ (ts : List ℕ) (z h : ℕ) (o : Ordered ts) where
  -- from an edge that is not past it, the search for the new right finds the row's right
  pub right_found : (r : ℕ) → r ≤ right_of ts z h → new_right ts r z h ≡ right_of ts z h
  right_found r l =
      first_unique _ r (length ts - r) _ _ (first_is_first _ r (length ts - r))
      (record {
        from = l;
        upto = let m = right_at_most_length ts z h in omega arith;
        before = λ j a b. le-ltb _ _ ((before_right ts z h o j (let m = right_at_most_length ts z h in omega arith)).0 b);
        there = λ b. lt-ltb _ _ (over (omega arith));
      })
    where
      over : right_of ts z h < length ts → z + h < get_or ts (right_of ts z h) 0
      over b = not_below (λ m. omega (arith, (before_right ts z h o (right_of ts z h) b).1 m))
        where
          not_below : ¬ (get_or ts (right_of ts z h) 0 ≤ z + h) → z + h < get_or ts (right_of ts z h) 0
          not_below n = omega arith

  -- and then the search for the new left finds the row's left
  pub left_found : (l : ℕ) → l ≤ left_of ts z h → new_left ts l (right_of ts z h) z h ≡ left_of ts z h
  left_found l m =
      first_unique _ l (right_of ts z h - l) _ _ (first_is_first _ l (right_of ts z h - l))
      (record {
        from = m;
        upto = omega (arith, left_at_most_right ts z h);
        before = λ j a b. lt-leb _ _ ((before_left ts z h o j (omega (arith, left_at_most_right ts z h, right_at_most_length ts z h))).0 b);
        there = λ b. le-leb _ _ (inside (omega (arith, left_at_most_right ts z h, right_at_most_length ts z h)));
      })
    where
      inside : left_of ts z h < length ts → z ≤ get_or ts (left_of ts z h) 0 + h
      inside b = not_above (λ m. omega (arith, (before_left ts z h o (left_of ts z h) b).1 m))
        where
          not_above : ¬ (get_or ts (left_of ts z h) 0 + h < z) → z ≤ get_or ts (left_of ts z h) 0 + h
          not_above n = omega arith

-- neighbouring ranges join
pub range_joins : (g : ℕ → ℕ) (a b c : ℕ) → a ≤ b → b ≤ c → total g a (b - a) + total g b (c - b) ≡ total g a (c - a)
range_joins g a b c l m =
    let n : c - a ≡ (b - a) + (c - b) = omega arith in
    let s : a + (b - a) ≡ b = omega arith in
    sym (rw (n, total_split g a (b - a) (c - b), s))

-- a sum that had a and loses b, with nothing wrapped in between
pub wraps_back : (w s a b c : ℕ) → s + a ≡ b + c → s + a < 2 ^ w → minus w (plus w s a) b ≡ c
wraps_back w s a b c e l =
    rw (mod-eq_of_lt l, mod-eq_of_lt (let m : b < 2 ^ w = omega arith in m))
    (ap (λ (n : ℕ). n % 2 ^ w) (let k : s + a + (2 ^ w - b) ≡ c + 2 ^ w = omega arith in k) ∙ add-mod_right c (2 ^ w) ∙ mod-eq_of_lt (omega arith))

-- edges that only go forth: their passes are the edges' sum
pub passes_count : (r : RunningSums) (l' r' : ℕ) → r.left ≤ l' → r.right ≤ r' → r.passes ≡ r.right + r.left → r' + l' < 2 ^ 64
    → new_passes r l' r' ≡ r' + l'
unfolding distance
passes_count r l' r' a b n small = mod-eq_of_lt (omega arith) ∙ whole
  where
    whole : r.passes + (distance r.left l' + distance r.right r') ≡ r' + l'
    whole = omega arith

-- two ways to give the six sums are one where they agree at the six powers
pub six_agree : (f g : ℕ → ℕ → ℕ) → ((p q : ℕ) → p ≤ 2 → q ≤ 1 → f p q ≡ g p q) → six f ≡ six g
six_agree f g e = λ i. record {
  s00 = e 0 0 (omega arith) (omega arith) i;
  s10 = e 1 0 (omega arith) (omega arith) i;
  s20 = e 2 0 (omega arith) (omega arith) i;
  s01 = e 0 1 (omega arith) (omega arith) i;
  s11 = e 1 1 (omega arith) (omega arith) i;
  s21 = e 2 1 (omega arith) (omega arith) i;
}

pub six_at : (f : ℕ → ℕ → ℕ) (p q : ℕ) → p ≤ 2 → q ≤ 1 → sum_at (six f) p q ≡ f p q
six_at f zero zero a b = refl
six_at f zero (suc zero) a b = refl
six_at f zero (suc (suc q)) a b = absurd (omega arith)
six_at f (suc zero) zero a b = refl
six_at f (suc zero) (suc zero) a b = refl
six_at f (suc zero) (suc (suc q)) a b = absurd (omega arith)
six_at f (suc (suc zero)) zero a b = refl
six_at f (suc (suc zero)) (suc zero) a b = refl
six_at f (suc (suc zero)) (suc (suc q)) a b = absurd (omega arith)
six_at f (suc (suc (suc p))) zero a b = absurd (omega arith)
six_at f (suc (suc (suc p))) (suc q) a b = absurd (omega arith)

-- readings of 16 bits, at most as many as are kept
pub record Small (ts vs : List ℕ) : Type 0 where
  pub even : length ts ≡ length vs
  pub few : length ts ≤ full.samples
  pub minutes : AtMost max_u16 ts
  pub values : AtMost max_u16 vs

module _ (ts vs : List ℕ) (s : Small ts vs) where
  term_at_most : (p q i : ℕ) → i < length ts → term p q ts vs i ≤ 65536 ^ p * 65536 ^ q
  term_at_most p q i l = mul-le-mul (pow-le-pow_left t p) (pow-le-pow_left v q)
    where
      t : get_or ts i 0 ≤ 65536
      t = omega (arith, s.minutes i l)

      v : get_or vs i 0 ≤ 65536
      v = omega (arith, s.values i (omega arith))

  pub power_sum_at_most : (a n p q : ℕ) → a + n ≤ length ts → power_sum ts vs a n p q ≤ 1024 * (65536 ^ p * 65536 ^ q)
  power_sum_at_most a n p q l =
      le_trans (total_at_most (term p q ts vs) (65536 ^ p * 65536 ^ q) a n (λ i m. term_at_most p q (a + i) (omega arith)))
      (mul-le-mul_right (65536 ^ p * 65536 ^ q) (omega (arith, s.few)))

  -- none of the six comes near 2^64
  pub power_sum_bound : (a n p q : ℕ) → p ≤ 2 → q ≤ 1 → a + n ≤ length ts → power_sum ts vs a n p q ≤ 2 ^ 58
  power_sum_bound a n p q x y l =
      le_trans (power_sum_at_most a n p q l)
      (mul-le-mul_left 1024 (mul-le-mul (pow-le-pow_right (omega arith) x) (pow-le-pow_right (omega arith) y)))

  -- a record whose sums are direct sums over its run, moved to later edges
  pub sums_move : (r : RunningSums) (l' r' : ℕ) → r.left ≤ r.right → r.right ≤ r' → r' ≤ length ts → r.left ≤ l' → l' ≤ r'
      → r.sums ≡ six (power_sum ts vs r.left (r.right - r.left))
      → new_sums ts vs r l' r' ≡ six (power_sum ts vs l' (r' - l'))
  sums_move r l' r' a b c d f e = six_agree _ _ one
    where
      one : (p q : ℕ) → p ≤ 2 → q ≤ 1
          → minus 64 (plus 64 (sum_at r.sums p q) (power_sum ts vs r.right (r' - r.right) p q)) (power_sum ts vs r.left (l' - r.left) p q)
          ≡ power_sum ts vs l' (r' - l') p q
      one p q x y =
          let g = term p q ts vs in
          let old = ap (λ (t : PowerSums). sum_at t p q) e ∙ six_at (power_sum ts vs r.left (r.right - r.left)) p q x y in
          let taken = range_joins g r.left r.right r' a b in
          let gone = range_joins g r.left l' r' d f in
          let most = power_sum_bound r.left (r' - r.left) p q x y (omega arith) in
          wraps_back 64 _ _ _ _ (omega arith) (omega arith)

-- the record of a window: the row's edges, the direct sums over its run, and the passes of edges that have only gone forth
abbrev pub at_window : List ℕ → List ℕ → ℕ → ℕ → RunningSums
at_window ts vs z h = record {
  left = left_of ts z h;
  right = right_of ts z h;
  sums = window_sums ts vs z h;
  passes = right_of ts z h + left_of ts z h;
}

module _ (ts vs : List ℕ) (s : Small ts vs) (o : Ordered ts) (z h : ℕ) where
  -- a step to a window whose edges the record's have not passed lands on that window's record
  pub moved_lands : (r : RunningSums) → r.left ≤ r.right → r.right ≤ right_of ts z h → r.left ≤ left_of ts z h
      → r.sums ≡ six (power_sum ts vs r.left (r.right - r.left))
      → r.passes ≡ r.right + r.left
      → moved ts vs r z h ≡ at_window ts vs z h
  unfolding moved
  moved_lands r a b c e n =
      rw (right_found ts z h o r.right b, left_found ts z h o r.left c)
      (λ i. record {
        left = left_of ts z h;
        right = right_of ts z h;
        sums = sums_move ts vs s r (left_of ts z h) (right_of ts z h) a b (right_at_most_length ts z h) c (left_at_most_right ts z h) e i;
        passes = passes_count r _ _ c b n small i;
      })
    where
      small : right_of ts z h + left_of ts z h < 2 ^ 64
      small = omega (arith, s.few, left_at_most_right ts z h, right_at_most_length ts z h)

  pub fresh_lands : moved ts vs fresh z h ≡ at_window ts vs z h
  fresh_lands = moved_lands fresh (omega arith) zero-le zero-le refl refl

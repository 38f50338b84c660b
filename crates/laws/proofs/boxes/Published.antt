-- The source's local sums are the cells: the strip of x is how many rising cuts are at or below x, so it is a exactly if cut a − 1 is at or below x
-- and cut a is not. A term of the uniform estimator is the reading's weight over 4 h₁ h₂ inside the box, else 0.
use Prim.Native.Nat.{ℕ, zero, suc, ◌+◌, ◌-◌, ◌*◌, ◌≤◌, ◌<◌, zero-le}
use mathlib.Core.Path.{◌≡◌, refl, sym, ap, ◌∙◌}
use mathlib.Core.Bool.{Bool, true, false, true≢false, ◌&&◌}
use mathlib.Core.List.{List}
use native.Mathlib.Decide.{dec_lt, dec_le, ℕ_discrete}
use native.Mathlib.Nat.{mul-pos}
use native.Mathlib.Omega.{arith}
use borrow.Author.Tests.{lt-ltb, le-ltb, le-leb, lt-leb, leb-true, eq-eqb, ne_eqb}
use lib.Dec.{ltb, leb, eqb}
use lib.ListN.{length, get_or}
use Rattle.meanings.specs.Lists.{pick, count, Ordered}
use Rattle.meanings.specs.Published.{Fraction, whole, ◌⊗◌, ◌≈◌, sum_all}
use Rattle.meanings.proofs.Window.{front_is_counted, count_at_most_length}
use Rattle.meanings.proofs.Published.{same_den_adds}
use Rattle.meanings.proofs.Sorting.{sorted_is_ordered, sorted_counts}
use Rattle.meanings.specs.boxes.Boxes.{Axis, shift, cuts, member, distinct, strip, tally, inside, gathered, strips, cell, box}
use Rattle.laws.specs.boxes.Published.{rising_cuts, grid_size, above_grid, to_grid, place, local_sum}
use Rattle.laws.specs.boxes.Published.{scaled_uniform, uniform_density}
use Rattle.laws.specs.boxes.Windows.{Narrow}
use Rattle.laws.proofs.boxes.Strips.{strip_is_tally, no_cut_is_zero}
use Rattle.laws.proofs.boxes.Sums.{gathered_ext, gathered_more, gathered_none}
use Rattle.laws.proofs.boxes.Cells.{cell_tells_strips}

-- a strip as a count of rising cuts
strip_by_rising : (cs : List ℕ) (x : ℕ) → strip cs x ≡ count (λ c. leb c x) (rising_cuts cs)
unfolding strip rising_cuts
strip_by_rising cs x = sym (sorted_counts (λ c. leb c x) (distinct cs))

rising_ordered : (cs : List ℕ) → Ordered (rising_cuts cs)
unfolding rising_cuts
rising_ordered cs = sorted_is_ordered (distinct cs)

-- cut number a is at or below x exactly if more than a cuts are
module _ (cs : List ℕ) (a x : ℕ) (l : a < length (rising_cuts cs)) where
  pub cut_counted : get_or (rising_cuts cs) a 0 ≤ x → a < strip cs x
  cut_counted m =
      rw (strip_by_rising cs x)
      ((front_is_counted (λ c. leb c x) (λ u v o e. le-leb u x (let t = leb-true v x e in omega arith)) (rising_cuts cs) (rising_ordered cs) a l).1
      (le-leb _ x m))

  pub cut_passed : a < strip cs x → get_or (rising_cuts cs) a 0 ≤ x
  cut_passed m =
      leb-true _ x
      ((front_is_counted (λ c. leb c x) (λ u v o e. le-leb u x (let t = leb-true v x e in omega arith)) (rising_cuts cs) (rising_ordered cs) a l).0
      (rw (strip_by_rising cs x) at m))

pub strip_to_rising : (cs : List ℕ) (x : ℕ) → strip cs x ≤ length (rising_cuts cs)
strip_to_rising cs x = rw (strip_by_rising cs x) (count_at_most_length (λ c. leb c x) (rising_cuts cs))

-- no cut is 0, so each rising cut is above it
pub rising_positive : (cs : List ℕ) (a : ℕ) → a < length (rising_cuts cs) → member 0 cs ≡ false → 0 < get_or (rising_cuts cs) a 0
rising_positive cs a l z = by (dec_lt 0 (get_or (rising_cuts cs) a 0))
  where
    none : strip cs 0 ≡ 0
    none = strip_is_tally cs 0 ∙ (rw z refl)

    by : Dec (0 < get_or (rising_cuts cs) a 0) → 0 < get_or (rising_cuts cs) a 0
    by (yes p) = p
    by (no p) = absurd (let c = cut_counted cs a 0 l (omega arith) in omega (arith, none))

-- one number more has one strip more at most
strip_by_one : (cs : List ℕ) (x : ℕ) → strip cs (suc x) ≤ suc (strip cs x)
strip_by_one cs x = rw (strip_is_tally cs (suc x), strip_is_tally cs x) (by (member (suc x) cs))
  where
    by : (b : Bool) → pick b (suc (tally (λ m. member m cs) (suc x))) (tally (λ m. member m cs) (suc x)) ≤ suc (tally (λ m. member m cs) (suc x))
    by true = omega arith
    by false = omega arith

-- the grid rises from point to point, as the source asks
pub grid_rises : (cs : List ℕ) (a : ℕ) → member 0 cs ≡ false → suc a < length (rising_cuts cs)
    → get_or (rising_cuts cs) a 0 < get_or (rising_cuts cs) (suc a) 0
grid_rises cs a z l = by (dec_lt (get_or (rising_cuts cs) a 0) (get_or (rising_cuts cs) (suc a) 0))
  where
    equal : (c : ℕ) → 0 < c → get_or (rising_cuts cs) a 0 ≡ c → get_or (rising_cuts cs) (suc a) 0 ≤ c → ⊥
    equal zero p e f = omega arith
    equal (suc x) p e f =
        let m = cut_counted cs (suc a) (suc x) l f in
        let s = strip_by_one cs x in
        let h : a < strip cs x = omega arith in
        let g = cut_passed cs a x (omega arith) h in
        omega arith

    by : Dec (get_or (rising_cuts cs) a 0 < get_or (rising_cuts cs) (suc a) 0) → get_or (rising_cuts cs) a 0 < get_or (rising_cuts cs) (suc a) 0
    by (yes p) = p
    by (no p) = absurd (equal (get_or (rising_cuts cs) a 0) (rising_positive cs a (omega arith) z) refl (omega arith))

-- the rising cuts are the cuts: strips rise at cuts alone, and at each rising cut
strip_at_next : (cs : List ℕ) (x : ℕ) (b : Bool) → member (suc x) cs ≡ b → strip cs (suc x) ≡ pick b (suc (strip cs x)) (strip cs x)
strip_at_next cs x b e = rw (strip_is_tally cs (suc x), strip_is_tally cs x, e) refl

pub rising_is_cut : (cs : List ℕ) (a : ℕ) → a < length (rising_cuts cs) → member 0 cs ≡ false → member (get_or (rising_cuts cs) a 0) cs ≡ true
rising_is_cut cs a l z = at (get_or (rising_cuts cs) a 0) refl (rising_positive cs a l z)
  where
    at : (c : ℕ) → get_or (rising_cuts cs) a 0 ≡ c → 0 < c → member c cs ≡ true
    at zero e p = absurd (omega arith)
    at (suc x) e p = by (member (suc x) cs) refl
      where
        by : (b : Bool) → member (suc x) cs ≡ b → b ≡ true
        by true f = refl
        by false f =
            absurd
            (let m = cut_counted cs a (suc x) l (omega arith) in
            let s : strip cs (suc x) ≡ strip cs x = strip_at_next cs x false f in
            let g = cut_passed cs a x l (omega arith) in
            omega arith)

pub cut_is_rising : (cs : List ℕ) (c : ℕ) → member 0 cs ≡ false → member c cs ≡ true
    → (a : ℕ) × ((a < length (rising_cuts cs)) × (get_or (rising_cuts cs) a 0 ≡ c))
cut_is_rising cs zero z m = absurd (true≢false (sym m ∙ z))
cut_is_rising cs (suc x) z m =
    let s : strip cs (suc x) ≡ suc (strip cs x) = strip_at_next cs x true m in
    let t = strip_to_rising cs (suc x) in
    let l : strip cs x < length (rising_cuts cs) = omega arith in
    let p = cut_passed cs (strip cs x) (suc x) l (omega arith) in
    (strip cs x, (l, by p (dec_le (get_or (rising_cuts cs) (strip cs x) 0) x) l))
  where
    by : get_or (rising_cuts cs) (strip cs x) 0 ≤ suc x → Dec (get_or (rising_cuts cs) (strip cs x) 0 ≤ x) → strip cs x < length (rising_cuts cs)
        → get_or (rising_cuts cs) (strip cs x) 0 ≡ suc x
    by p (yes o) l = absurd (let c = cut_counted cs (strip cs x) x l o in omega arith)
    by p (no o) l = omega arith

-- one direction of (4): between neighbouring points of the grid is in a strip
module _ (A : Axis) (z : member 0 (cuts A) ≡ false) (x : ℕ) where
  above_by_strip : (a : ℕ) → a ≤ grid_size A → above_grid A (suc a) x ≡ leb a (strip (cuts A) x)
  above_by_strip zero l = sym (le-leb 0 (strip (cuts A) x) zero-le)
  above_by_strip (suc a) l = by (dec_le (get_or (rising_cuts (cuts A)) a 0) x)
    where
      by : Dec (get_or (rising_cuts (cuts A)) a 0 ≤ x) → ltb (get_or (rising_cuts (cuts A)) a 0 - 1) x ≡ leb (suc a) (strip (cuts A) x)
      by (yes m) =
          let p = rising_positive (cuts A) a (omega arith) z in
          lt-ltb _ x (omega arith) ∙ sym (le-leb (suc a) _ (cut_counted (cuts A) a x (omega arith) m))
      by (no m) =
          le-ltb _ x (omega arith) ∙ sym (lt-leb (suc a) _ (below (dec_lt a (strip (cuts A) x))))
        where
          below : Dec (a < strip (cuts A) x) → strip (cuts A) x < suc a
          below (yes s) = absurd (m (cut_passed (cuts A) a x (omega arith) s))
          below (no s) = omega arith

  to_by_strip : (a : ℕ) → to_grid A (suc a) x ≡ leb (strip (cuts A) x) a
  to_by_strip a = by (dec_le (suc a) (grid_size A))
    where
      by : Dec (suc a ≤ grid_size A)
          → pick (leb (suc a) (grid_size A)) (leb x (get_or (rising_cuts (cuts A)) a 0 - 1)) true ≡ leb (strip (cuts A) x) a
      by (no l) =
          let s = strip_to_rising (cuts A) x in
          rw (lt-leb (suc a) (grid_size A) (omega arith)) (sym (le-leb (strip (cuts A) x) a (omega arith)))
      by (yes l) = rw (le-leb (suc a) (grid_size A) l) (side (dec_le (get_or (rising_cuts (cuts A)) a 0) x))
        where
          below : ¬ (get_or (rising_cuts (cuts A)) a 0 ≤ x) → Dec (a < strip (cuts A) x) → strip (cuts A) x ≤ a
          below m (yes s) = absurd (m (cut_passed (cuts A) a x l s))
          below m (no s) = omega arith

          side : Dec (get_or (rising_cuts (cuts A)) a 0 ≤ x) → leb x (get_or (rising_cuts (cuts A)) a 0 - 1) ≡ leb (strip (cuts A) x) a
          side (yes m) =
              let p = rising_positive (cuts A) a l z in
              lt-leb x _ (omega arith) ∙ sym (lt-leb _ a (cut_counted (cuts A) a x l m))
          side (no m) =
              le-leb x _ (omega arith) ∙ sym (le-leb _ a (below m (dec_lt a (strip (cuts A) x))))

  pub between_points : (a : ℕ) → a ≤ grid_size A → above_grid A (suc a) x && to_grid A (suc a) x ≡ eqb (strip (cuts A) x) a
  between_points a l = rw (above_by_strip a l, to_by_strip a) (by (ℕ_discrete (strip (cuts A) x) a))
    where
      by : Dec (strip (cuts A) x ≡ a) → leb a (strip (cuts A) x) && leb (strip (cuts A) x) a ≡ eqb (strip (cuts A) x) a
      by (yes e) = rw (le-leb a (strip (cuts A) x) (omega arith), le-leb (strip (cuts A) x) a (omega arith)) (sym (eq-eqb _ a e))
      by (no e) = rw (ne_eqb _ a e) (apart (dec_le a (strip (cuts A) x)))
        where
          apart : Dec (a ≤ strip (cuts A) x) → leb a (strip (cuts A) x) && leb (strip (cuts A) x) a ≡ false
          apart (yes u) = rw (le-leb a _ u, lt-leb (strip (cuts A) x) a (omega (arith, e))) refl
          apart (no u) = rw (lt-leb a (strip (cuts A) x) (omega arith)) refl

-- no cut of a direction within its limit is 0
pub narrow_cuts : (A : Axis) → Narrow A → member 0 (cuts A) ≡ false
unfolding cuts
narrow_cuts A p =
    no_cut_is_zero (shift A) A.points A.bandwidths (length A.points) (λ k l. let h = p.within k l in omega arith)

-- (4): the local sum at j₁ = a + 1 and j₂ = b + 1 is cell 65 a + b
pub local_sum_is_cell : (A B : Axis) → Narrow A → Narrow B → (w : ℕ → ℕ) (n a b : ℕ) → a ≤ grid_size A → b ≤ grid_size B → b < strips
    → local_sum A B w n (suc a) (suc b) ≡ cell A B w n (strips * a + b)
unfolding local_sum cell
local_sum_is_cell A B p q w n a b l m r =
    gathered_ext _ _ w n
    (λ i u. rw (between_points A (narrow_cuts A p) (place A i) a l, between_points B (narrow_cuts B q) (place B i) b m)
    (sym (cell_tells_strips A B q.few i a b r)))

-- The uniform estimator.
abbrev over : ℕ → ℕ → Fraction
over n d = record { num = n; den = d }

one_term : (w h k : ℕ) → 0 < h → 0 < k → (u v : Bool)
    → whole w ⊗ ((over 1 h ⊗ pick u (over 1 2) (whole 0)) ⊗ (over 1 k ⊗ pick v (over 1 2) (whole 0))) ≈ over (pick (u && v) w 0) (4 * h * k)
one_term w h k p q true true = record {
  left_den = mul-pos (omega arith) (mul-pos (mul-pos p (omega arith)) (mul-pos q (omega arith)));
  right_den = mul-pos (mul-pos (omega arith) p) q;
  cross = omega arith;
}
one_term w h k p q true false = record {
  left_den = mul-pos (omega arith) (mul-pos (mul-pos p (omega arith)) (mul-pos q (omega arith)));
  right_den = mul-pos (mul-pos (omega arith) p) q;
  cross = omega arith;
}
one_term w h k p q false true = record {
  left_den = mul-pos (omega arith) (mul-pos (mul-pos p (omega arith)) (mul-pos q (omega arith)));
  right_den = mul-pos (mul-pos (omega arith) p) q;
  cross = omega arith;
}
one_term w h k p q false false = record {
  left_den = mul-pos (omega arith) (mul-pos (mul-pos p (omega arith)) (mul-pos q (omega arith)));
  right_den = mul-pos (mul-pos (omega arith) p) q;
  cross = omega arith;
}

-- (17) without its factor 1/N
uniform_sum : (A B : Axis) (w : ℕ → ℕ) (n j k : ℕ) → 0 < get_or A.bandwidths j 0 → 0 < get_or B.bandwidths k 0
    → sum_all (λ i. whole (w i) ⊗ (scaled_uniform A j i ⊗ scaled_uniform B k i)) n
    ≈ over (gathered (λ i. inside A j i && inside B k i) w n) (4 * get_or A.bandwidths j 0 * get_or B.bandwidths k 0)
uniform_sum A B w zero j k p q =
    rw (gathered_none (λ i. inside A j i && inside B k i) w)
    (record { left_den = omega arith; right_den = mul-pos (mul-pos (omega arith) p) q; cross = omega arith })
uniform_sum A B w (suc n) j k p q =
    rw (gathered_more (λ i. inside A j i && inside B k i) w n)
    (same_den_adds _ _ _ _ (4 * get_or A.bandwidths j 0 * get_or B.bandwidths k 0) (uniform_sum A B w n j k p q)
    (one_term (w n) (get_or A.bandwidths j 0) (get_or B.bandwidths k 0) p q (inside A j n) (inside B k n)))

-- (17): 4 N h₁ h₂ times the density is the count, weighted by value the sum
pub uniform_density_is_box : (A B : Axis) (w : ℕ → ℕ) (n j k : ℕ) → 0 < n → 0 < get_or A.bandwidths j 0 → 0 < get_or B.bandwidths k 0
    → whole (4 * n * get_or A.bandwidths j 0 * get_or B.bandwidths k 0) ⊗ uniform_density A B w n j k ≈ whole (box A B w n j k)
unfolding uniform_density box
uniform_density_is_box A B w n j k r p q =
    let e = uniform_sum A B w n j k p q in
    cleared n (get_or A.bandwidths j 0) (get_or B.bandwidths k 0) _ _ r e
  where
    cleared : (n h k : ℕ) (a : Fraction) (g : ℕ) → 0 < n → a ≈ over g (4 * h * k) → whole (4 * n * h * k) ⊗ (over 1 n ⊗ a) ≈ whole g
    cleared n h k a g r e = record {
      left_den = mul-pos (omega arith) (mul-pos r e.left_den);
      right_den = omega arith;
      cross = omega (arith, ap (λ m. m * n) e.cross);
    }

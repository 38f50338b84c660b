-- Where count and sum of a pair of marks stand: a list of lists of one length has list j from j times that length on, and the list of boxes is one
-- such list in another.
use Prim.Native.Nat.{ℕ, zero, suc, ◌+◌, ◌*◌, ◌<◌}
use mathlib.Core.Path.{◌≡◌, refl, ap, ◌∙◌}
use mathlib.Core.Logic.{◌⊎◌, inl, inr}
use mathlib.Core.List.{List, [], ◌∷◌, ◌++◌}
use native.Mathlib.Nat.{zero-add, le_of_suc-le-suc, eq-or-lt_of_le}
use native.Mathlib.Omega.{arith}
use lib.ListN.{length, get_or, length-append, get_or-append}
use Rattle.meanings.specs.boxes.Boxes.{Axis, one, value, box, joined, box_places, box_row, box_list}
use Rattle.promises.specs.boxes.Filled.{count_place, sum_place}

-- what stands behind a list
behind : (xs ys : List ℕ) (k : ℕ) → get_or (xs ++ ys) (length xs + k) 0 ≡ get_or ys k 0
behind [] ys k = ap (λ (i : ℕ). get_or ys i 0) (zero-add k)
behind (x ∷ xs) ys k = let e : suc (length xs) + k ≡ suc (length xs + k) = omega arith in rw e (behind xs ys k)

row_below : (w j m r : ℕ) → j < m → r < w → j * w + r < m * w
row_below w j zero r l s = absurd (omega arith)
row_below w j (suc m) r l s = by (eq-or-lt_of_le (le_of_suc-le-suc l)) (row_below w j m r)
  where
    by : (j ≡ m) ⊎ (j < m) → (j < m → r < w → j * w + r < m * w) → j * w + r < suc m * w
    by (inl e) f = rw e (omega arith)
    by (inr o) f = let h = f o s in omega arith

module _ (g : ℕ → List ℕ) (w : ℕ) (even : (i : ℕ) → length (g i) ≡ w) where
  joined_length : (m : ℕ) → length (joined g m) ≡ m * w
  joined_length zero = omega arith
  joined_length (suc m) = length-append (joined g m) (g m) ∙ (let l = joined_length m in let e = even m in omega arith)

  joined_at : (m j r : ℕ) → j < m → r < w → get_or (joined g m) (j * w + r) 0 ≡ get_or (g j) r 0
  joined_at zero j r l s = absurd (omega arith)
  joined_at (suc m) j r l s = by (eq-or-lt_of_le (le_of_suc-le-suc l)) (joined_at m j r)
    where
      by : (j ≡ m) ⊎ (j < m) → (j < m → r < w → get_or (joined g m) (j * w + r) 0 ≡ get_or (g j) r 0)
          → get_or (joined g m ++ g m) (j * w + r) 0 ≡ get_or (g j) r 0
      by (inl e) f = rw (e, ← (joined_length m)) (behind (joined g m) (g m) r)
      by (inr o) f =
          let b = row_below w j m r o s in
          let h = joined_length m in
          get_or-append (joined g m) (g m) 0 (j * w + r) (omega arith) ∙ f o s

module _ (A B : Axis) (vs : List ℕ) (n : ℕ) where
  row_length : (j m : ℕ) → length (box_row A B vs n j m) ≡ m * 2
  row_length j m = joined_length (box_places A B vs n j) 2 (λ k. refl) m

  pub box_list_length : length (box_list A B vs n) ≡ 2 * length A.points * length B.points
  unfolding box_list
  box_list_length =
      joined_length (λ j. box_row A B vs n j (length B.points)) (length B.points * 2) (λ j. row_length j (length B.points))
      (length A.points)
      ∙ omega arith

  -- number r, 0 or 1, of a pair
  placed : (j k r : ℕ) → j < length A.points → k < length B.points → r < 2
      → get_or (box_list A B vs n) (j * (length B.points * 2) + (k * 2 + r)) 0 ≡ get_or (box_places A B vs n j k) r 0
  unfolding box_list
  placed j k r l m s =
      joined_at (λ i. box_row A B vs n i (length B.points)) (length B.points * 2) (λ i. row_length i (length B.points))
      (length A.points) j (k * 2 + r) l (omega arith)
      ∙ joined_at (box_places A B vs n j) 2 (λ i. refl) (length B.points) k r m s

  pub count_stands : (j k : ℕ) → j < length A.points → k < length B.points
      → get_or (box_list A B vs n) (count_place (length B.points) j k) 0 ≡ box A B one n j k
  count_stands j k l m =
      ap (λ (p : ℕ). get_or (box_list A B vs n) p 0) (spread j (length B.points) k) ∙ placed j k 0 l m (omega arith)
    where
      spread : (j b k : ℕ) → 2 * (j * b + k) ≡ j * (b * 2) + (k * 2 + 0)
      spread j b k = omega arith

  pub sum_stands : (j k : ℕ) → j < length A.points → k < length B.points
      → get_or (box_list A B vs n) (sum_place (length B.points) j k) 0 ≡ box A B (value vs) n j k
  sum_stands j k l m =
      ap (λ (p : ℕ). get_or (box_list A B vs n) p 0) (spread j (length B.points) k) ∙ placed j k 1 l m (omega arith)
    where
      spread : (j b k : ℕ) → 2 * (j * b + k) + 1 ≡ j * (b * 2) + (k * 2 + 1)
      spread j b k = omega arith

-- A box is four numbers of the table over the cells, so boxes by tables over the cells of readings are those of the meaning.
use Prim.Native.Nat.{ℕ, zero, suc, ◌+◌, ◌%◌, ◌^◌, ◌≤◌, ◌<◌}
use mathlib.Core.Path.{◌≡◌, refl, ap, ◌∙◌}
use mathlib.Core.List.{List}
use native.Mathlib.Nat.{mod-eq_of_lt}
use native.Mathlib.Omega.{arith}
use lib.ListN.{length, get_or}
use Rattle.meanings.specs.Running.{plus, minus}
use Rattle.meanings.proofs.Modulo.{minus_exact}
use Rattle.meanings.specs.boxes.Boxes.{Axis, one, value, joined, cell_list, box, box_places, box_row, box_list}
use Rattle.laws.specs.boxes.Windows.{first_strip, end_strip, Narrow}
use Rattle.laws.proofs.boxes.Strips.{end_strip_most, window_strips_in_order}
use Rattle.laws.proofs.boxes.Corners.{cell_list_length}
use mir.Val.{Fits}
use mir.Syntax.{w32}
use Rattle.boxes.proofs.Tables.{box_by_table}
use Rattle.boxes.specs.Tables.{Accumulated, Tried}
use Rattle.boxes.proofs.CumulativeFilling.{rows_most}
use Rattle.boxes.specs.Pairs.{number_at, four_terms, pair_places, table_row, table_boxes, Strips, BoxesTried}
use Rattle.boxes.specs.Filling.{CellsOf, StripsOf, BoxesByStrips}

joined_same : (f g : ℕ → List ℕ) (n : ℕ) → ((k : ℕ) → k < n → f k ≡ g k) → joined f n ≡ joined g n
joined_same f g zero h = refl
joined_same f g (suc n) h = rw (joined_same f g n (λ k l. h k (omega arith)), h n (omega arith)) refl

module _ (A : Axis) (p : Narrow A) (k : ℕ) where
  first_most : first_strip A k ≤ 65
  first_most = let e = end_strip_most A k in let o = window_strips_in_order A k in omega (arith, p.few)

  end_most : end_strip A k ≤ 65
  end_most = let e = end_strip_most A k in omega (arith, p.few)

-- the strips of a direction's windows are at most 65
strips_there : (A : Axis) → Narrow A → {fs es : List ℕ} {n : ℕ} → StripsOf fs es n A → Strips fs es n
strips_there A p S = record {
  firsts = S.firsts;
  ends = S.ends;
  first = λ k l. rw (S.first k l) (first_most A p k);
  end = λ k l. rw (S.end k l) (end_most A p k);
}

-- what fits in 64 bits is had exactly
exact_terms : (p q s t x : ℕ) → x + s + t ≡ p + q → p + q < 2 ^ 64 → minus 64 (minus 64 (plus 64 p q) s) t ≡ x
exact_terms p q s t x e l =
    let f = minus_exact 64 (p + q) s (x + t) (omega arith) (omega arith) in
    let h : (x + t) % 2 ^ 64 ≡ x + t = mod-eq_of_lt (omega arith) in
    rw f (rw h at (minus_exact 64 (x + t) t x refl (omega arith)))

-- One table, over cells of 32 bits.
module _ (A B : Axis) (p : Narrow A) (q : Narrow B) (w : ℕ → ℕ) (r : ℕ) (fit : (i : ℕ) → Fits w32 (get_or (cell_list A B w r) i 0)) {xs : List ℕ}
    (T : Accumulated (cell_list A B w r) xs) (j k : ℕ) (l : j < length A.points) (m : k < length B.points) where
  number_most : (x y : ℕ) → x ≤ 65 → y ≤ 65 → number_at xs x y ≤ 18146236825600
  number_most x y u v =
      let h = rows_most (cell_list A B w r) x y fit v in
      let e = T.holds x y u v in
      omega arith

  pub four_terms_make_box : four_terms xs (first_strip A j) (end_strip A j) (first_strip B k) (end_strip B k) ≡ box A B w r j k
  unfolding four_terms
  four_terms_make_box =
      let a = number_most (end_strip A j) (end_strip B k) (end_most A p j) (end_most B q k) in
      let b = number_most (first_strip A j) (first_strip B k) (first_most A p j) (first_most B q k) in
      exact_terms (number_at xs (end_strip A j) (end_strip B k)) (number_at xs (first_strip A j) (first_strip B k))
      (number_at xs (first_strip A j) (end_strip B k)) (number_at xs (end_strip A j) (first_strip B k)) (box A B w r j k)
      (box_by_table A B w r T p q j k l m) (omega arith)

-- Both tables.
module _ {cs ss : List ℕ} (fit : (i : ℕ) → Fits w32 (get_or cs i 0)) (fit-too : (i : ℕ) → Fits w32 (get_or ss i 0))
    {A B : Axis} {vs : List ℕ} {r : ℕ} (C : CellsOf cs ss A B vs r) {fs es : List ℕ} {n : ℕ} (S : StripsOf fs es n A)
    {ls hs : List ℕ} {m : ℕ} (O : StripsOf ls hs m B) {xs ys : List ℕ} (X : Accumulated cs xs) (Y : Accumulated ss ys) where
  counted : Accumulated (cell_list A B one r) xs
  counted = rw (← C.counts) X

  summed : Accumulated (cell_list A B (value vs) r) ys
  summed = rw (← C.sums) Y

  mark : (j : ℕ) → j < n → j < length A.points
  mark j l = omega (arith, S.all)

  other : (k : ℕ) → k < m → k < length B.points
  other k l = omega (arith, O.all)

  pair_same : (j k : ℕ) → j < n → k < m → pair_places xs ys (get_or fs j 0) (get_or es j 0) ls hs k ≡ box_places A B vs r j k
  pair_same j k l u =
      rw (
        S.first j l,
        S.end j l,
        O.first k u,
        O.end k u,
        four_terms_make_box A B C.narrow C.narrow_other one r (rw (← C.counts) fit) counted j k (mark j l) (other k u),
        four_terms_make_box A B C.narrow C.narrow_other (value vs) r (rw (← C.sums) fit-too) summed j k (mark j l) (other k u),
      ) refl

  row_same : (j : ℕ) → j < n → table_row xs ys (get_or fs j 0) (get_or es j 0) ls hs m ≡ box_row A B vs r j (length B.points)
  unfolding table_row
  row_same j l = rw (← O.all) (joined_same _ _ m (λ k u. pair_same j k l u))

  pub tables_make_boxes : table_boxes xs ys fs es n ls hs m ≡ box_list A B vs r
  unfolding table_boxes box_list
  tables_make_boxes = rw (← S.all) (joined_same _ _ n (λ j l. row_same j l))

-- a table over a list of cells has been filled
filled_table : (cs : List ℕ) (A B : Axis) (w : ℕ → ℕ) (r : ℕ) → cs ≡ cell_list A B w r → (xs₀ xs : List ℕ) → length xs₀ ≡ 4356 → Tried cs xs₀ xs
    → Accumulated cs xs
filled_table cs A B w r e xs₀ xs l t = t.filled (record { cells = ap length e ∙ cell_list_length A B w r; room = l })

module _ {fs es : List ℕ} {n : ℕ} {ls hs : List ℕ} {m : ℕ} {cs ss bs bs' xs₀ ys₀ xs ys : List ℕ} (a : length xs₀ ≡ 4356) (b : length ys₀ ≡ 4356)
    (fit : (i : ℕ) → Fits w32 (get_or cs i 0)) (fit-too : (i : ℕ) → Fits w32 (get_or ss i 0))
    (X : Tried cs xs₀ xs) (Y : Tried ss ys₀ ys) (t : BoxesTried xs ys fs es n ls hs m bs bs') where
  pub boxes_by_strips : BoxesByStrips fs es n ls hs m cs ss bs bs'
  boxes_by_strips = record {
    boxes = λ room A B vs r C S O.
        let U = filled_table cs A B one r C.counts xs₀ xs a X in
        let Z = filled_table ss A B (value vs) r C.sums ys₀ ys b Y in
        t.put (record {
          counts = U.room;
          sums = Z.room;
          few = omega (arith, S.all, C.narrow.few);
          other_few = omega (arith, O.all, C.narrow_other.few);
          room = room;
          strips = strips_there A C.narrow S;
          others = strips_there B C.narrow_other O;
        }) ∙ tables_make_boxes fit fit-too C S O U Z;
  }

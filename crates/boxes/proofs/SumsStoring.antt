-- Two numbers of a pair stand behind those of the pairs before it, and a minute mark's row behind the rows before it; and the call from it.
use Rattle.std.proofs.Common.{◌≡◌, ℕ, zero, suc, ◌+◌, ◌-◌, ◌*◌, ◌%◌, ◌^◌, ◌<◌, ◌≤◌, List, [], ◌∷◌, ◌++◌, length, get_or, take, drop, set, sym}
use Rattle.std.proofs.Common.{refl, ap, ◌∙◌, mul_comm, add-one, arith, length-set, length-append, length-drop, take_all, take-suc-set}
use Rattle.std.proofs.lemmas.List.{length-map, get_or-map, length-take-le}
use Rattle.std.specs.List.{All}
use Rattle.std.proofs.lemmas.Slice.{take-put_mid}
use mir.Val.{Fits}
use mir.Syntax.{w64}
use borrow.Rule.Slice.PartMut.{put_mid}
use Rattle.meanings.specs.declared.boxes.Window.{Window}
use Rattle.meanings.specs.boxes.Lent.{firsts, ends}
use Rattle.boxes.specs.Pairs.{four_terms, pair_places, table_row, table_boxes, Strips, BoxesTried}
use Rattle.boxes.specs.Rows.{WithinStrips, RowReady, RowsReady}

-- the four numbers of a box: the first two added, then each of the others taken away
pub four_terms_are : (xs : List ℕ) (a b c d : ℕ) → ((i : ℕ) → Fits w64 (get_or xs i 0))
    → (((get_or xs (66 * b + d) 0 + get_or xs (66 * a + c) 0) % 2 ^ 64 + (2 ^ 64 - get_or xs (66 * a + d) 0)) % 2 ^ 64
    + (2 ^ 64 - get_or xs (66 * b + c) 0)) % 2 ^ 64 ≡ four_terms xs a b c d
unfolding four_terms
four_terms_are xs a b c d f = rw (mod_small (f (66 * a + d)).fits, mod_small (f (66 * b + c)).fits) refl
  where
    mod_small : {m : ℕ} → m < 2 ^ 64 → m % 2 ^ 64 ≡ m
    mod_small l = omega (arith, l)

-- Two numbers more.
take_two_more : (bs : List ℕ) (p u v : ℕ) → p + 1 < length bs → take (p + 2) (set (set bs p u) (p + 1) v) ≡ take p bs ++ u ∷ v ∷ []
take_two_more bs p u v l =
    let e : p + 2 ≡ suc (p + 1) = omega arith in
    let f : p + 1 ≡ suc p = add-one p in
    let one : take (p + 1) (set bs p u) ≡ take p bs ++ (u ∷ []) = rw f (take-suc-set bs p u (omega arith)) in
    let two : take (suc (p + 1)) (set (set bs p u) (p + 1) v) ≡ take (p + 1) (set bs p u) ++ (v ∷ [])
    = take-suc-set (set bs p u) (p + 1) v (rw (length-set bs p u) l) in
    rw e (two ∙ ap (λ ys. ys ++ (v ∷ [])) one ∙ both (take p bs))
  where
    both : (xs : List ℕ) → (xs ++ (u ∷ [])) ++ (v ∷ []) ≡ xs ++ u ∷ v ∷ []
    both [] = refl
    both (x ∷ xs) = ap (λ ys. x ∷ ys) (both xs)

-- one pair more of a row
row_more : (xs ys : List ℕ) (a b : ℕ) (ls hs : List ℕ) (k : ℕ)
    → table_row xs ys a b ls hs (k + 1) ≡ table_row xs ys a b ls hs k ++ pair_places xs ys a b ls hs k
unfolding table_row
row_more xs ys a b ls hs k = rw (add-one k) refl

pub row_none : (xs ys : List ℕ) (a b : ℕ) (ls hs : List ℕ) → table_row xs ys a b ls hs 0 ≡ []
unfolding table_row
row_none xs ys a b ls hs = refl

numbers_go_on : (xs ys : List ℕ) (a b : ℕ) (ls hs bs : List ℕ) (k u v : ℕ) → 2 * k + 1 < length bs → take (2 * k) bs ≡ table_row xs ys a b ls hs k
    → u ≡ four_terms xs a b (get_or ls k 0) (get_or hs k 0) → v ≡ four_terms ys a b (get_or ls k 0) (get_or hs k 0)
    → take (2 * (k + 1)) (set (set bs (2 * k) u) (2 * k + 1) v) ≡ table_row xs ys a b ls hs (k + 1)
numbers_go_on xs ys a b ls hs bs k u v l s e f =
    let q : 2 * (k + 1) ≡ 2 * k + 2 = omega arith in
    rw q (take_two_more bs (2 * k) u v l ∙ ap (λ us. us ++ u ∷ v ∷ []) s ∙ rw (e, f) (sym (row_more xs ys a b ls hs k)))

-- the strips of window k
first_at : (ws : List Window) (k : ℕ) (w : Window) → k < length ws → get_or (firsts ws) k 0 ≡ (get_or ws k w).first
first_at ws k w l = get_or-map (λ (v : Window). v.first) ws k w 0 l

end_at : (ws : List Window) (k : ℕ) (w : Window) → k < length ws → get_or (ends ws) k 0 ≡ (get_or ws k w).end
end_at ws k w l = get_or-map (λ (v : Window). v.end) ws k w 0 l

pub row_goes_on : (xs ys : List ℕ) (a b : ℕ) (os : List Window) (bs : List ℕ) (k u v : ℕ) (w : Window) → k < length os → 2 * k + 1 < length bs
    → take (2 * k) bs ≡ table_row xs ys a b (firsts os) (ends os) k
    → u ≡ four_terms xs a b (get_or os k w).first (get_or os k w).end → v ≡ four_terms ys a b (get_or os k w).first (get_or os k w).end
    → take (2 * (k + 1)) (set (set bs (2 * k) u) (2 * k + 1) v) ≡ table_row xs ys a b (firsts os) (ends os) (k + 1)
row_goes_on xs ys a b os bs k u v w m l s e f =
    numbers_go_on xs ys a b (firsts os) (ends os) bs k u v l s (rw (first_at os k w m, end_at os k w m) e) (rw (first_at os k w m, end_at os k w m) f)

-- windows of strips, either way round
all_strips : (ws : List Window) → All WithinStrips ws → Strips (firsts ws) (ends ws) (length ws)
all_strips ws a = record {
  firsts = omega (arith, length-map ws (λ (v : Window). v.first));
  ends = omega (arith, length-map ws (λ (v : Window). v.end));
  first = λ k l. let w : Window = record { first = 0; end = 0 } in rw (first_at ws k w l) (a k w l).0;
  end = λ k l. let w : Window = record { first = 0; end = 0 } in rw (end_at ws k w l) (a k w l).1;
}

pub strips_all : (ws : List Window) → Strips (firsts ws) (ends ws) (length ws) → All WithinStrips ws
strips_all ws s k w l = (rw (first_at ws k w l) at (s.first k l), rw (end_at ws k w l) at (s.end k l))

pub row_ends : (xs ys : List ℕ) (a b : ℕ) (ls hs bs : List ℕ) (n k : ℕ) → length bs ≡ 2 * n → k ≤ n → n ≤ k → take (2 * k) bs ≡ table_row xs ys a b ls hs k
    → bs ≡ table_row xs ys a b ls hs n
row_ends xs ys a b ls hs bs n k r l m s = let q : n ≡ k = omega arith in sym (take_all (2 * k) bs (omega arith)) ∙ rw q s

row_length : (xs ys : List ℕ) (a b : ℕ) (ls hs : List ℕ) (k : ℕ) → length (table_row xs ys a b ls hs k) ≡ 2 * k
unfolding table_row
row_length xs ys a b ls hs zero = refl
row_length xs ys a b ls hs (suc k) =
    length-append (table_row xs ys a b ls hs k) (pair_places xs ys a b ls hs k) ∙ omega (arith, row_length xs ys a b ls hs k)

-- Rows.
boxes_more : (xs ys fs es : List ℕ) (j : ℕ) (ls hs : List ℕ) (m : ℕ)
    → table_boxes xs ys fs es (j + 1) ls hs m ≡ table_boxes xs ys fs es j ls hs m ++ table_row xs ys (get_or fs j 0) (get_or es j 0) ls hs m
unfolding table_boxes
boxes_more xs ys fs es j ls hs m = rw (add-one j) refl

boxes_none : (xs ys fs es ls hs : List ℕ) (m : ℕ) → [] ≡ table_boxes xs ys fs es 0 ls hs m
unfolding table_boxes
boxes_none xs ys fs es ls hs m = refl

-- the rows of the first j minute windows, up to `at`
pub record RowsTo (xs ys : List ℕ) (ws os : List Window) (bs : List ℕ) (at j : ℕ) : Type 0 where
  pub reached : at ≡ 2 * (length os * j)
  pub stored : take at bs ≡ table_boxes xs ys (firsts ws) (ends ws) j (firsts os) (ends os) (length os)

-- what a row of n takes
rows_scaled : (m j n : ℕ) → j < n → m * j + m ≤ m * n
rows_scaled zero j n l = omega arith
rows_scaled (suc m) j n l = let h = rows_scaled m j n l in omega (arith, h)

all_places : (n m : ℕ) → 2 * n * m ≡ 2 * (m * n)
all_places n m = omega (arith, mul_comm n m)

row_further : (m j : ℕ) → m * (j + 1) ≡ m * j + m
row_further zero j = omega arith
row_further (suc m) j = omega (arith, row_further m j)

pub rows_begin : (xs ys : List ℕ) (ws os : List Window) (bs : List ℕ) → RowsTo xs ys ws os bs 0 0
rows_begin xs ys ws os bs = record { reached = omega arith; stored = boxes_none xs ys (firsts ws) (ends ws) (firsts os) (ends os) (length os) }

module _ (xs ys : List ℕ) (ws os : List Window) (bs : List ℕ) (at j : ℕ) (r : RowsTo xs ys ws os bs at j) (c : length bs ≡ 2 * length ws * length os) where
  pub row_there : j < length ws → at + 2 * length os ≤ length bs
  row_there l =
      let s = rows_scaled (length os) j (length ws) l in
      let e = all_places (length ws) (length os) in
      omega (arith, r.reached, c)

  pub rows_go_on : (cs : List ℕ) (w : Window) → j < length ws
      → cs ≡ table_row xs ys (get_or ws j w).first (get_or ws j w).end (firsts os) (ends os) (length os)
      → RowsTo xs ys ws os (put_mid at (at + 2 * length os - at) bs cs) (at + 2 * length os) (j + 1)
  rows_go_on cs v l p =
      let q : cs ≡ table_row xs ys (get_or (firsts ws) j 0) (get_or (ends ws) j 0) (firsts os) (ends os) (length os)
      = rw (first_at ws j v l, end_at ws j v l) p in
      let w : length cs ≡ 2 * length os
      = ap length q ∙ row_length xs ys (get_or (firsts ws) j 0) (get_or (ends ws) j 0) (firsts os) (ends os) (length os) in
      record {
        reached = let e = row_further (length os) j in omega (arith, r.reached);
        stored =
            take-put_mid at (at + 2 * length os - at) bs cs (at + 2 * length os) (omega (arith, w)) (omega (arith, row_there l))
            ∙ rw (r.stored, q) (sym (boxes_more xs ys (firsts ws) (ends ws) j (firsts os) (ends os) (length os)));
      }

  pub rows_end : length ws ≤ j → j ≤ length ws → bs ≡ table_boxes xs ys (firsts ws) (ends ws) (length ws) (firsts os) (ends os) (length os)
  rows_end l m =
      let q : length ws ≡ j = omega arith in
      let e = all_places (length ws) (length os) in
      let s : length bs ≤ at = rw (r.reached, c, e, q) (omega arith) in
      sym (take_all at bs s) ∙ (rw q r.stored)

pub row_ready : (xs ys : List ℕ) (ws os : List Window) (bs₀ bs : List ℕ) (at j : ℕ) (w : Window) → RowsReady ws os bs₀
    → RowsTo xs ys ws os bs at j → length bs ≡ length bs₀ → j < length ws
    → RowReady (get_or ws j w) os (take (at + 2 * length os - at) (drop at bs))
row_ready xs ys ws os bs₀ bs at j w f r e l =
    let q = row_there xs ys ws os bs at j r (e ∙ f.room) l in
    record {
      strips = f.strips j w l;
      others = f.others;
      room = length-take-le (at + 2 * length os - at) (drop at bs) (omega (arith, length-drop at bs)) ∙ omega arith;
    }

-- The call: what it has tested, and then from both tables as arrays.
pub rows_ready : {ws os : List Window} {bs : List ℕ} → length ws ≤ 32 → length os ≤ 32 → length bs ≡ 2 * length ws * length os
    → All WithinStrips ws → All WithinStrips os → RowsReady ws os bs
rows_ready l m e a b = record { few = l; other_few = m; strips = a; others = b; room = e }

pub boxes_put : {xs ys xs' ys' : List ℕ} {ws os : List Window} {bs bs' : List ℕ} → length xs ≡ 4356 → xs' ≡ xs → length ys ≡ 4356 → ys' ≡ ys
    → RowsReady ws os bs → bs' ≡ table_boxes xs' ys' (firsts ws) (ends ws) (length ws) (firsts os) (ends os) (length os)
    → BoxesTried xs ys (firsts ws) (ends ws) (length ws) (firsts os) (ends os) (length os) bs bs'
boxes_put {ws = ws} {os} l d m e r p = record {
  put = λ g. rw (← d, ← e) p;
  left = λ g. absurd (g (record {
    counts = l;
    sums = m;
    few = r.few;
    other_few = r.other_few;
    room = r.room;
    strips = all_strips ws r.strips;
    others = all_strips os r.others;
  }));
}

-- Wrong programs, each written out and shut out on a concrete input.
use Prim.Native.Nat.{ℕ, zero, suc, ◌+◌, ◌*◌}
use mathlib.Core.Path.{◌≡◌, refl, ap}
use mathlib.Core.Bool.{Bool, true, ◌&&◌}
use mathlib.Core.List.{List, [], ◌∷◌}
use native.Mathlib.Omega.{arith}
use lib.Dec.{ltb, leb, eqb}
use lib.ListN.{length, get_or}
use Rattle.meanings.specs.Lists.{pick, count, distance}
use Rattle.meanings.specs.Reports.{Answer, given, refused, differ}
use Rattle.meanings.proofs.Checks.{differ_true}
use Rattle.meanings.specs.boxes.Boxes.{Axis, minute_axis, temperature_axis, shift, left_cut, right_cut, cuts_to, cuts, distinct, strip, strip_of}
use Rattle.meanings.specs.boxes.Boxes.{inside, gathered, one, value, cells, strips, cell, cell_list, box, box_places, box_list, joined}
use Rattle.meanings.specs.boxes.Boxes.{boxes, boxes_then, counts_then}
use Rattle.meanings.specs.boxes.Cases.{four_minutes, four_temperatures, four_values, sevens, minutes_with, temperatures_with}

-- Strips: what makes one of a direction and a reading.
abbrev IsStrip : (Axis → ℕ → ℕ) → Type 0
IsStrip F = (A : Axis) (i : ℕ) → F A i ≡ strip_of A i

-- edges below 0 held to 0
pub no_cuts_joined_at_zero : ¬ IsStrip (λ A i. strip (cuts_to 0 A.points A.bandwidths (length A.points)) (get_or A.samples i 0))
unfolding strip cuts
no_cuts_joined_at_zero f = let e : ◌≡◌ {A = ℕ} 1 2 = f (minute_axis (0 ∷ []) (0 ∷ 0 ∷ []) (10 ∷ 5 ∷ [])) 0 in omega arith

-- a reading on a cut held to lie below it
pub no_cut_reading_below : ¬ IsStrip (λ A i. count (λ c. ltb c (get_or A.samples i 0 + shift A)) (distinct (cuts A)))
unfolding strip cuts
no_cut_reading_below f = let e : ◌≡◌ {A = ℕ} 0 1 = f (minute_axis (10 ∷ []) (20 ∷ []) (10 ∷ [])) 0 in omega arith

-- equal cuts counted each
pub no_equal_cuts_twice : ¬ IsStrip (λ A i. count (λ c. leb c (get_or A.samples i 0 + shift A)) (cuts A))
unfolding strip cuts
no_equal_cuts_twice f = let e : ◌≡◌ {A = ℕ} 4 2 = f (minute_axis (50 ∷ []) (20 ∷ 20 ∷ []) (10 ∷ 10 ∷ [])) 0 in omega arith

-- cuts below 0, where no reading can lie, left out
pub no_cuts_trimmed : ¬ IsStrip (λ A i. count (λ c. leb (shift A) c && leb c (get_or A.samples i 0 + shift A)) (distinct (cuts A)))
unfolding strip cuts
no_cuts_trimmed f = let e : ◌≡◌ {A = ℕ} 0 1 = f (temperature_axis (0 ∷ []) (0 ∷ []) (1 ∷ [])) 0 in omega arith

-- the right edge cut without 1 more
pub no_cut_at_the_right_edge : ¬ IsStrip (λ A i. strip (left_cut (shift A) (get_or A.points 0 0) (get_or A.bandwidths 0 0)
    ∷ (get_or A.points 0 0 + shift A + get_or A.bandwidths 0 0) ∷ []) (get_or A.samples i 0 + shift A))
unfolding strip cuts
no_cut_at_the_right_edge f = let e : ◌≡◌ {A = ℕ} 2 1 = f (minute_axis (30 ∷ []) (20 ∷ []) (10 ∷ [])) 0 in omega arith

-- Boxes: what makes the number of two directions, the weights of so many readings, and a pair of marks.
abbrev BoxFunction : Type 0
BoxFunction = Axis → Axis → (ℕ → ℕ) → ℕ → ℕ → ℕ → ℕ

abbrev IsBox : BoxFunction → Type 0
IsBox F = (A B : Axis) (w : ℕ → ℕ) (n j k : ℕ) → F A B w n j k ≡ box A B w n j k

-- windows whose left edge never goes back
abbrev furthest : Axis → ℕ → ℕ
furthest A zero = left_cut (shift A) (get_or A.points 0 0) (get_or A.bandwidths 0 0)
furthest A (suc k) =
    let c = left_cut (shift A) (get_or A.points (suc k) 0) (get_or A.bandwidths (suc k) 0) in
    pick (ltb c (furthest A k)) (furthest A k) c

abbrev inside_one_way : Axis → ℕ → ℕ → Bool
inside_one_way A k i =
    leb (furthest A k) (get_or A.samples i 0 + shift A)
    && ltb (get_or A.samples i 0 + shift A) (right_cut (shift A) (get_or A.points k 0) (get_or A.bandwidths k 0))

pub no_one_way_edges : ¬ IsBox (λ A B w n j k. gathered (λ i. inside_one_way A j i && inside B k i) w n)
unfolding box gathered distance
no_one_way_edges f =
    let e : ◌≡◌ {A = ℕ} 0 1
    = f (minute_axis (60 ∷ []) (100 ∷ 101 ∷ []) (10 ∷ 50 ∷ [])) (temperature_axis (0 ∷ []) (0 ∷ []) (1 ∷ [])) one 1 1 0 in
    omega arith

-- a window without its right edge
abbrev inside_open : Axis → ℕ → ℕ → Bool
inside_open A k i =
    leb (get_or A.points k 0) (get_or A.samples i 0 + get_or A.bandwidths k 0)
    && ltb (get_or A.samples i 0) (get_or A.points k 0 + get_or A.bandwidths k 0)

pub no_open_right_edge : ¬ IsBox (λ A B w n j k. gathered (λ i. inside_open A j i && inside_open B k i) w n)
unfolding box gathered distance
no_open_right_edge f =
    let e : ◌≡◌ {A = ℕ} 0 1
    = f (minute_axis (30 ∷ []) (20 ∷ []) (10 ∷ [])) (temperature_axis (0 ∷ []) (0 ∷ []) (1 ∷ [])) one 1 0 0 in
    omega arith

-- Cells: what makes the number of two directions, the weights of so many readings, and a cell.
abbrev CellFunction : Type 0
CellFunction = Axis → Axis → (ℕ → ℕ) → ℕ → ℕ → ℕ

abbrev IsCell : CellFunction → Type 0
IsCell F = (A B : Axis) (w : ℕ → ℕ) (n c : ℕ) → F A B w n c ≡ cell A B w n c

-- as many cells to a minute strip as there are temperature strips
pub no_rows_of_used_strips : ¬ IsCell (λ A B w n c. gathered (λ i. eqb ((length (distinct (cuts B)) + 1) * strip_of A i + strip_of B i) c) w n)
unfolding cell gathered strip cuts
no_rows_of_used_strips f = let e : ◌≡◌ {A = ℕ} 0 2 = f four_minutes four_temperatures one 4 66 in omega arith

pub no_temperature_slowest : ¬ IsCell (λ A B w n c. gathered (λ i. eqb (strips * strip_of B i + strip_of A i) c) w n)
unfolding cell gathered strip cuts
no_temperature_slowest f = let e : ◌≡◌ {A = ℕ} 80 20 = f four_minutes four_temperatures (value four_values) 4 196 in omega arith

-- The lists at exit: what makes one of both directions, the values and the three lists at entry.
abbrev ListFunction : Type 0
ListFunction = Axis → Axis → List ℕ → List ℕ → List ℕ → List ℕ → List ℕ

-- what a list function gives where the call is accepted
abbrev GivenBy : ListFunction → ListFunction → Type 0
GivenBy F G = (A B : Axis) (vs bs cs ss : List ℕ) → boxes A B vs bs cs ss ≡ given tt → F A B vs bs cs ss ≡ G A B vs bs cs ss

-- one number of a list, on the case of four readings
abbrev at_four : ListFunction → ℕ → ℕ
at_four F k = get_or (F four_minutes four_temperatures four_values (sevens 8) (sevens cells) (sevens cells)) k 0

four_accepted : boxes four_minutes four_temperatures four_values (sevens 8) (sevens cells) (sevens cells) ≡ given tt
unfolding boxes
four_accepted = refl

differs_at_four : (F G : ListFunction) (k : ℕ) → GivenBy F G → at_four F k ≡ at_four G k
differs_at_four F G k f = ap (λ (xs : List ℕ). get_or xs k 0) (f _ _ _ _ _ _ four_accepted)

-- cells without readings left as they were
pub no_unused_cells_left : ¬ ((A B : Axis) (vs bs cs ss : List ℕ) (c : ℕ) → boxes A B vs bs cs ss ≡ given tt
    → cell A B one (length A.samples) c ≡ 0 → get_or (counts_then A B vs bs cs ss) c 0 ≡ get_or cs c 0)
unfolding cell gathered strip cuts boxes counts_then cell_list
no_unused_cells_left f =
    let e : ◌≡◌ {A = ℕ} 0 7
    = f four_minutes four_temperatures four_values (sevens 8) (sevens cells) (sevens cells) 0 refl refl in
    omega arith

pub no_count_and_sum_swapped : ¬ GivenBy boxes_then (λ A B vs bs cs ss. joined
    (λ j. joined (λ k. box A B (value vs) (length A.samples) j k ∷ box A B one (length A.samples) j k ∷ []) (length B.points))
    (length A.points))
unfolding boxes_then box_list box gathered distance
no_count_and_sum_swapped f = let e : ◌≡◌ {A = ℕ} 2 100 = differs_at_four _ _ 0 f in omega arith

pub no_temperature_marks_slowest : ¬ GivenBy boxes_then (λ A B vs bs cs ss. joined
    (λ k. joined (λ j. box_places A B vs (length A.samples) j k) (length A.points))
    (length B.points))
unfolding boxes_then box_list box gathered distance
no_temperature_marks_slowest f = let e : ◌≡◌ {A = ℕ} 80 20 = differs_at_four _ _ 3 f in omega arith

-- one fixed list, whatever the readings
pub no_fixed_boxes : (xs : List ℕ) → ¬ GivenBy boxes_then (λ A B vs bs cs ss. xs)
unfolding boxes_then box_list box gathered distance boxes
no_fixed_boxes xs f =
    let a : 2 ≡ get_or xs 0 0 = differs_at_four _ _ 0 f in
    let b : 0 ≡ get_or xs 0 0
    = ap (λ (ys : List ℕ). get_or ys 0 0)
    (f (minutes_with 0 (9 ∷ []) (1 ∷ [])) (temperatures_with 0 (9 ∷ []) (1 ∷ [])) [] (7 ∷ 7 ∷ []) (sevens cells) (sevens cells) refl) in
    omega arith

-- the lists left untouched by an accepted call
pub no_boxes_left : ¬ GivenBy boxes_then (λ A B vs bs cs ss. bs)
unfolding boxes_then box_list box gathered distance
no_boxes_left f = let e : ◌≡◌ {A = ℕ} 2 7 = differs_at_four _ _ 0 f in omega arith

-- Reports.

-- of a refusal, number and place in one number; of an accepted call one that none has
seen : Answer Unit → ℕ
seen (given u) = 100000
seen (refused f) = 100 * f.number + f.place

-- marks of both directions out of order
pub seventeen_not_before_five : ¬ (boxes (minutes_with 0 (9 ∷ 8 ∷ []) (1 ∷ 1 ∷ [])) (temperatures_with 0 (9 ∷ 8 ∷ []) (1 ∷ 1 ∷ [])) []
    (sevens 8) (sevens cells) (sevens cells) ≡ refused (record { number = 17; place = 1 }))
unfolding boxes seen
seventeen_not_before_five e = let n : ◌≡◌ {A = ℕ} 501 1701 = ap seen e in omega arith

-- half widths of both directions out of range, at different positions
pub temperature_half_widths_not_first :
    ¬ (boxes (minutes_with 0 (9 ∷ 9 ∷ []) (1 ∷ 0 ∷ [])) (temperatures_with 0 (9 ∷ []) (0 ∷ [])) []
    (sevens 4) (sevens cells) (sevens cells) ≡ refused (record { number = 9; place = 0 }))
unfolding boxes seen
temperature_half_widths_not_first e = let n : ◌≡◌ {A = ℕ} 901 900 = ap seen e in omega arith

-- cells cleared before a refusal: a half width of 0
pub no_cells_cleared_before_a_refusal : ¬ ((A B : Axis) (vs bs cs ss : List ℕ) → get_or (counts_then A B vs bs cs ss) 0 0 ≡ 0)
unfolding counts_then
no_cells_cleared_before_a_refusal f =
    let e : ◌≡◌ {A = ℕ} 7 0
    = f (minutes_with 0 (9 ∷ []) (0 ∷ [])) (temperatures_with 0 (9 ∷ []) (1 ∷ [])) [] (sevens 2) (sevens cells) (sevens cells) in
    omega arith

-- 2 × 2^32 × 2^31 places are not 0, though 64 bits hold no more of them
pub no_wrapped_places : (m n : ℕ) → m ≡ 4294967296 → n ≡ 2147483648 → differ 0 (2 * m * n) ≡ true
no_wrapped_places m n p q = differ_true 0 (2 * m * n) (rw (p, q) (λ e. omega arith))

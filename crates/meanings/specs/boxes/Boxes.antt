-- SPECIFICATION, "Minute and temperature together": cuts, strips, cells and boxes, and the call that fills them in.
-- Readings have the positions 0 to n - 1 of three lists: minutes, temperatures and values.
use Rattle.std.specs.Prelude.{ℕ, zero, suc, ◌+◌, ◌-◌, ◌*◌, Bool, false, ◌||◌, ◌&&◌, List, [], ◌∷◌, ◌++◌, ltb, leb, eqb, length, get_or}
use Rattle.std.specs.Prelude.{Option}
use Rattle.meanings.specs.declared.Limits.{Limits}
use Rattle.meanings.specs.Limits.{max_bandwidth}
use Rattle.meanings.specs.Lists.{pick, count, total, distance, lowest}
use Rattle.meanings.specs.Reports.{Fault, Answer, unless, accepted_or, Check, check, at, first_of, differ, decreases, point_order_checks, bandwidth_list_checks}

-- how many readings there may be, and how many marks in each direction
abbrev pub box_limits : Limits
box_limits = record { samples = 1024; points = 32 }

-- the greatest half width of a temperature mark
abbrev pub max_temperature_bandwidth : ℕ
max_temperature_bandwidth = 256

-- how many cells a minute strip has in the lists of cells
abbrev pub strips : ℕ
strips = 65

-- the length of each list of cells, 65 × 65
abbrev pub cells : ℕ
cells = 4225

-- One direction: the places of the readings along it, its marks with their half widths, and the greatest half width.
pub record Axis : Type 0 where
  pub samples : List ℕ
  pub points : List ℕ
  pub bandwidths : List ℕ
  pub widest : ℕ

abbrev pub minute_axis : List ℕ → List ℕ → List ℕ → Axis
minute_axis ts zs hs = record { samples = ts; points = zs; bandwidths = hs; widest = max_bandwidth }

abbrev pub temperature_axis : List ℕ → List ℕ → List ℕ → Axis
temperature_axis ts zs hs = record { samples = ts; points = zs; bandwidths = hs; widest = max_temperature_bandwidth }

-- reading i lies in the closed window of mark k: |x − z| ≤ h
abbrev pub inside : Axis → ℕ → ℕ → Bool
inside A k i = leb (distance (get_or A.samples i 0) (get_or A.points k 0)) (get_or A.bandwidths k 0)

-- Cuts and strips. An edge may lie below 0, so readings and edges are moved up alike, by one more than the greatest half width: then no cut is 0.
abbrev pub shift : Axis → ℕ
shift A = A.widest + 1

-- the left edge z − h, and the right edge z + h plus 1, both moved up by s
abbrev pub left_cut : ℕ → ℕ → ℕ → ℕ
left_cut s z h = z + s - h

abbrev pub right_cut : ℕ → ℕ → ℕ → ℕ
right_cut s z h = z + s + h + 1

-- both cuts of each of the first n marks
abbrev pub cuts_to : ℕ → List ℕ → List ℕ → ℕ → List ℕ
cuts_to s zs hs zero = []
cuts_to s zs hs (suc n) = left_cut s (get_or zs n 0) (get_or hs n 0) ∷ right_cut s (get_or zs n 0) (get_or hs n 0) ∷ cuts_to s zs hs n

abbrev pub member : ℕ → List ℕ → Bool
member c [] = false
member c (d ∷ ds) = eqb c d || member c ds

-- each number of a list once
abbrev pub distinct : List ℕ → List ℕ
distinct [] = []
distinct (c ∷ cs) = pick (member c cs) (distinct cs) (c ∷ distinct cs)

-- how many distinct cuts lie at or below x
unfoldable pub strip : List ℕ → ℕ → ℕ
strip cs x = count (λ c. leb c x) (distinct cs)

-- a direction's cuts, and the strip of its reading i
unfoldable pub cuts : Axis → List ℕ
cuts A = cuts_to (shift A) A.points A.bandwidths (length A.points)

abbrev pub strip_of : Axis → ℕ → ℕ
strip_of A i = strip (cuts A) (get_or A.samples i 0 + shift A)

-- A second reading of a strip: how many of the numbers below n pass a test, and so how many numbers up to x are cuts.
abbrev pub tally : (ℕ → Bool) → ℕ → ℕ
tally p zero = 0
tally p (suc n) = pick (p n) (suc (tally p n)) (tally p n)

-- Sums over readings.

-- what the readings that pass a test weigh together
unfoldable pub gathered : (ℕ → Bool) → (ℕ → ℕ) → ℕ → ℕ
gathered test w n = total (λ i. pick (test i) (w i) 0) 0 n

-- a reading's weight in a count, and in a sum of values
abbrev pub one : ℕ → ℕ
one i = 1

abbrev pub value : List ℕ → ℕ → ℕ
value vs i = get_or vs i 0

-- the cell of reading i: temperature fastest, 65 to a minute strip
abbrev pub cell_of : Axis → Axis → ℕ → ℕ
cell_of A B i = strips * strip_of A i + strip_of B i

-- what the readings of cell c weigh together
unfoldable pub cell : Axis → Axis → (ℕ → ℕ) → ℕ → ℕ → ℕ
cell A B w n c = gathered (λ i. eqb (cell_of A B i) c) w n

-- g a, g (a + 1), .. , m numbers
abbrev pub listed : (ℕ → ℕ) → ℕ → ℕ → List ℕ
listed g a zero = []
listed g a (suc m) = g a ∷ listed g (suc a) m

-- the list of all cells
unfoldable pub cell_list : Axis → Axis → (ℕ → ℕ) → ℕ → List ℕ
cell_list A B w n = listed (cell A B w n) 0 cells

-- what the readings inside the closed box of minute mark j and temperature mark k weigh together
unfoldable pub box : Axis → Axis → (ℕ → ℕ) → ℕ → ℕ → ℕ → ℕ
box A B w n j k = gathered (λ i. inside A j i && inside B k i) w n

-- g 0, then g 1, .. , m lists one behind the other
abbrev pub joined : (ℕ → List ℕ) → ℕ → List ℕ
joined g zero = []
joined g (suc m) = joined g m ++ g m

-- count and value sum of a pair of marks
abbrev pub box_places : Axis → Axis → List ℕ → ℕ → ℕ → ℕ → List ℕ
box_places A B vs n j k = box A B one n j k ∷ box A B (value vs) n j k ∷ []

-- the boxes of the first m temperature marks with minute mark j
abbrev pub box_row : Axis → Axis → List ℕ → ℕ → ℕ → ℕ → List ℕ
box_row A B vs n j m = joined (box_places A B vs n j) m

-- the list of all boxes, minute marks slowest
unfoldable pub box_list : Axis → Axis → List ℕ → ℕ → List ℕ
box_list A B vs n = joined (λ j. box_row A B vs n j (length B.points)) (length A.points)

-- The call. b, c and s are the lengths of the lists of boxes, cell counts and cell sums.

-- three lists of readings; marks with half widths; two places a pair of marks; two lists of cells: 8
abbrev pub uneven_boxes : Axis → Axis → List ℕ → ℕ → ℕ → ℕ → Bool
uneven_boxes A B vs b c s =
    differ (length A.samples) (length B.samples)
    || differ (length A.samples) (length vs)
    || differ (length A.points) (length A.bandwidths)
    || differ (length B.points) (length B.bandwidths)
    || differ b (2 * length A.points * length B.points)
    || differ c cells
    || differ s cells

-- over the limits: 6; a direction without marks: 7
abbrev pub crowded_boxes : Limits → Axis → Axis → Bool
crowded_boxes L A B =
    ltb L.samples (length A.samples) || ltb L.points (length A.points) || ltb L.points (length B.points)

abbrev pub no_box : Axis → Axis → Bool
no_box A B = eqb (length A.points) 0 || eqb (length B.points) 0

abbrev pub box_size_checks : Limits → Axis → Axis → List ℕ → ℕ → ℕ → ℕ → List Check
box_size_checks L A B vs b c s =
    check 8 (at 0 (uneven_boxes A B vs b c s)) ∷ check 6 (at 0 (crowded_boxes L A B)) ∷ check 7 (at 0 (no_box A B)) ∷ []

-- marks of the first direction in order: 5; of the second: 17
abbrev pub second_order_checks : List ℕ → List Check
second_order_checks zs = check 17 (lowest (decreases zs) (length zs)) ∷ []

-- half widths of a direction: 9
abbrev pub axis_bandwidth_checks : Axis → List Check
axis_bandwidth_checks A = bandwidth_list_checks A.widest A.bandwidths

-- 8, 6, 7, 5, 17, 9
abbrev pub box_checks : Axis → Axis → List ℕ → ℕ → ℕ → ℕ → List Check
box_checks A B vs b c s =
    box_size_checks box_limits A B vs b c s
    ++ point_order_checks A.points
    ++ second_order_checks B.points
    ++ axis_bandwidth_checks A
    ++ axis_bandwidth_checks B

abbrev pub box_refusal : Axis → Axis → List ℕ → ℕ → ℕ → ℕ → Option Fault
box_refusal A B vs b c s = first_of (box_checks A B vs b c s)

-- accepted, or the report; bs, cs and ss are the three lists at entry
unfoldable pub boxes : Axis → Axis → List ℕ → List ℕ → List ℕ → List ℕ → Answer Unit
boxes A B vs bs cs ss = unless (box_refusal A B vs (length bs) (length cs) (length ss)) tt

-- the three lists at exit
unfoldable pub boxes_then : Axis → Axis → List ℕ → List ℕ → List ℕ → List ℕ → List ℕ
boxes_then A B vs bs cs ss =
    accepted_or (box_refusal A B vs (length bs) (length cs) (length ss)) (box_list A B vs (length A.samples)) bs

unfoldable pub counts_then : Axis → Axis → List ℕ → List ℕ → List ℕ → List ℕ → List ℕ
counts_then A B vs bs cs ss =
    accepted_or (box_refusal A B vs (length bs) (length cs) (length ss)) (cell_list A B one (length A.samples)) cs

unfoldable pub sums_then : Axis → Axis → List ℕ → List ℕ → List ℕ → List ℕ → List ℕ
sums_then A B vs bs cs ss =
    accepted_or (box_refusal A B vs (length bs) (length cs) (length ss)) (cell_list A B (value vs) (length A.samples)) ss

-- When the call of minute and temperature together is refused, and what an accepted one leaves. SPECIFICATION, "Minute and temperature together". A
-- list at exit has a prime.
use Rattle.std.specs.Prelude.{ℕ, suc, ◌+◌, ◌-◌, ◌*◌, ◌≤◌, ◌<◌, ◌≡◌, true, false, ◌&&◌, ◌↔◌, ◌⊎◌, List, eqb, length, get_or}
use Rattle.meanings.specs.Limits.{max_bandwidth}
use Rattle.meanings.specs.Lists.{total}
use Rattle.meanings.specs.Published.{whole, ◌⊗◌, ◌≈◌}
use Rattle.meanings.specs.boxes.Boxes.{Axis, minute_axis, temperature_axis, shift, left_cut, right_cut, cuts_to, cuts, member, strip, strip_of, inside}
use Rattle.meanings.specs.boxes.Boxes.{max_temperature_bandwidth, gathered, one, value, cell_of, cell_list, box_list}
use Rattle.laws.specs.boxes.Published.{grid_size, grid_point, local_sum, uniform_density}
use Rattle.laws.specs.boxes.Windows.{first_strip, end_strip, to_right_edge, below_left_edge}
use Rattle.promises.specs.conditions.Conditions.{Conditions, no_more, condition, AtZero, FallsAt, bandwidth_list_conditions}

-- the ten lists of a call, at entry
pub record TenLists : Type 0 where
  pub minutes : List ℕ
  pub temperatures : List ℕ
  pub values : List ℕ
  pub points : List ℕ
  pub bandwidths : List ℕ
  pub temperature_points : List ℕ
  pub temperature_bandwidths : List ℕ
  pub boxes : List ℕ
  pub counts : List ℕ
  pub sums : List ℕ

-- its two directions, and how many readings there are
abbrev pub along_minutes : TenLists → Axis
along_minutes q = minute_axis q.minutes q.points q.bandwidths

abbrev pub along_temperatures : TenLists → Axis
along_temperatures q = temperature_axis q.temperatures q.temperature_points q.temperature_bandwidths

abbrev pub readings : TenLists → ℕ
readings q = length q.minutes

-- lengths that agree
abbrev pub Even : TenLists → Type 0
Even q =
    (length q.minutes ≡ length q.temperatures)
    × (length q.minutes ≡ length q.values)
    × (length q.points ≡ length q.bandwidths)
    × (length q.temperature_points ≡ length q.temperature_bandwidths)
    × (length q.boxes ≡ 2 * length q.points * length q.temperature_points)
    × (length q.counts ≡ 4225)
    × (length q.sums ≡ 4225)

-- when the call is refused, in the order that counts: 8, 6, 7, 5, 17, 9. Nothing is asked of the order of readings, nor of edges.
abbrev pub box_conditions : TenLists → Conditions
box_conditions q =
    condition 8 (AtZero (¬ Even q))
    (condition 6 (AtZero ((1024 < length q.minutes) ⊎ (32 < length q.points) ⊎ (32 < length q.temperature_points)))
    (condition 7 (AtZero ((length q.points ≡ 0) ⊎ (length q.temperature_points ≡ 0)))
    (condition 5 (FallsAt q.points)
    (condition 17 (FallsAt q.temperature_points)
    (bandwidth_list_conditions max_bandwidth q.bandwidths
    (bandwidth_list_conditions max_temperature_bandwidth q.temperature_bandwidths no_more))))))

-- where count and sum of minute mark j and temperature mark k stand, among m temperature marks
abbrev pub count_place : ℕ → ℕ → ℕ → ℕ
count_place m j k = 2 * (j * m + k)

abbrev pub sum_place : ℕ → ℕ → ℕ → ℕ
sum_place m j k = 2 * (j * m + k) + 1

-- the cells of a list, from minute strip a on m strips and from temperature strip b on k of them, added up
abbrev pub block_of : List ℕ → ℕ → ℕ → ℕ → ℕ → ℕ
block_of cells a m b k = total (λ x. total (λ y. get_or cells (65 * x + y) 0) b k) a m

-- One kind of number, counts or sums: reading i weighs w i, the box of marks j and k stands at place at j k of bs, and cells is the list of cells.
pub record Weighed (A B : Axis) (w : ℕ → ℕ) (n : ℕ) (at : ℕ → ℕ → ℕ) (bs cells : List ℕ) : Type 0 where
  -- a box has what the readings weigh that lie in both closed windows, over all readings
  pub box_direct : (j k : ℕ) → j < length A.points → k < length B.points
      → get_or bs (at j k) 0 ≡ gathered (λ i. inside A j i && inside B k i) w n
  -- a cell has what the readings of its two strips weigh, so one without readings has 0
  pub cell_direct : (p q : ℕ) → p ≤ 64 → q ≤ 64 → get_or cells (65 * p + q) 0 ≡ gathered (λ i. eqb (strip_of A i) p && eqb (strip_of B i) q) w n
  -- a box is the sum of its cells: those of the strips of its two windows
  pub box_of_cells : (j k : ℕ) → j < length A.points → k < length B.points
      → get_or bs (at j k) 0
      ≡ block_of cells (first_strip A j) (end_strip A j - first_strip A j) (first_strip B k) (end_strip B k - first_strip B k)
  -- (18): the signed sum of four sums over all readings
  pub box_by_four_sums : (j k : ℕ) → j < length A.points → k < length B.points
      → get_or bs (at j k) 0
      + gathered (λ i. below_left_edge A j i && to_right_edge B k i) w n
      + gathered (λ i. to_right_edge A j i && below_left_edge B k i) w n
      ≡ gathered (λ i. to_right_edge A j i && to_right_edge B k i) w n
      + gathered (λ i. below_left_edge A j i && below_left_edge B k i) w n
  -- each of the four a sum of cells, from the first one on
  pub right_right : (j k : ℕ) → j < length A.points → k < length B.points
      → gathered (λ i. to_right_edge A j i && to_right_edge B k i) w n ≡ block_of cells 0 (end_strip A j) 0 (end_strip B k)
  pub left_right : (j k : ℕ) → j < length A.points → k < length B.points
      → gathered (λ i. below_left_edge A j i && to_right_edge B k i) w n ≡ block_of cells 0 (first_strip A j) 0 (end_strip B k)
  pub right_left : (j k : ℕ) → j < length A.points → k < length B.points
      → gathered (λ i. to_right_edge A j i && below_left_edge B k i) w n ≡ block_of cells 0 (end_strip A j) 0 (first_strip B k)
  pub left_left : (j k : ℕ) → j < length A.points → k < length B.points
      → gathered (λ i. below_left_edge A j i && below_left_edge B k i) w n ≡ block_of cells 0 (first_strip A j) 0 (first_strip B k)
  -- (4): the source's local sums, without 1/N, at the grid of the distinct cuts less 1 are the cells; cells off the grid are 0
  pub local_sums : (a b : ℕ) → a ≤ grid_size A → b ≤ grid_size B → local_sum A B w n (suc a) (suc b) ≡ get_or cells (65 * a + b) 0
  pub off_grid : (a b : ℕ) → a ≤ 64 → b ≤ 64 → (grid_size A < a) ⊎ (grid_size B < b) → get_or cells (65 * a + b) 0 ≡ 0
  -- (17): 4 N h₁ h₂ times the density with the uniform kernel
  pub uniform : (j k : ℕ) → j < length A.points → k < length B.points → 0 < n
      → whole (4 * n * get_or A.bandwidths j 0 * get_or B.bandwidths k 0) ⊗ uniform_density A B w n j k ≈ whole (get_or bs (at j k) 0)
  -- all cells together are all readings; the number 4,225 is m, lest the sum be computed
  pub adds_up : (m : ℕ) → m ≡ 4225 → total (λ c. get_or cells c 0) 0 m ≡ total w 0 n

-- one direction of an accepted call
pub record OneDirection (A : Axis) : Type 0 where
  -- at most 64 distinct cuts, above 0, rising on the grid
  pub grid_small : grid_size A ≤ 64
  pub no_cut_zero : member 0 (cuts A) ≡ false
  pub grid_rises : (a : ℕ) → suc a < grid_size A → grid_point A (suc a) < grid_point A (suc (suc a))
  -- each point of the grid is a cut less 1, and each cut less 1 a point of the grid
  pub grid_is_cuts : (a : ℕ) → a < grid_size A → member (grid_point A (suc a) + 1) (cuts A) ≡ true
  pub cuts_on_grid : (c : ℕ) → member c (cuts A) ≡ true → (a : ℕ) × ((a < grid_size A) × (grid_point A (suc a) + 1 ≡ c))
  -- a reading's strip
  pub strip_small : (i : ℕ) → strip_of A i ≤ 64
  -- moved up further, readings keep their strips
  pub strips_stay : (d i : ℕ)
      → strip (cuts_to (shift A + d) A.points A.bandwidths (length A.points)) (get_or A.samples i 0 + (shift A + d)) ≡ strip_of A i
  -- a reading lies in a window exactly if its strip is one of the window's
  pub window_strips : (k i : ℕ) → k < length A.points
      → (inside A k i ≡ true) ↔ ((first_strip A k ≤ strip_of A i) × (strip_of A i < end_strip A k))

-- what an accepted call leaves
pub record FilledIn (q : TenLists) (bs' cs' ss' : List ℕ) : Type 0 where
  -- the three lists, whole, by direct counts and sums
  pub boxes_are : bs' ≡ box_list (along_minutes q) (along_temperatures q) q.values (readings q)
  pub counts_are : cs' ≡ cell_list (along_minutes q) (along_temperatures q) one (readings q)
  pub sums_are : ss' ≡ cell_list (along_minutes q) (along_temperatures q) (value q.values) (readings q)
  pub boxes_length : length bs' ≡ 2 * length q.points * length q.temperature_points
  pub counts_length : length cs' ≡ 4225
  pub sums_length : length ss' ≡ 4225
  -- one law for both directions
  pub minute_direction : OneDirection (along_minutes q)
  pub temperature_direction : OneDirection (along_temperatures q)
  -- counts and sums
  pub counted : Weighed (along_minutes q) (along_temperatures q) one (readings q) (count_place (length q.temperature_points)) bs' cs'
  pub summed : Weighed (along_minutes q) (along_temperatures q) (value q.values) (readings q) (sum_place (length q.temperature_points)) bs' ss'
  -- each reading is in exactly one of the 4,225 cells
  pub one_cell : (i : ℕ) → cell_of (along_minutes q) (along_temperatures q) i < 4225
  pub cell_tells : (i p r : ℕ) → r ≤ 64
      → (cell_of (along_minutes q) (along_temperatures q) i ≡ 65 * p + r)
      ↔ ((strip_of (along_minutes q) i ≡ p) × (strip_of (along_temperatures q) i ≡ r))
  -- the counts add up to the number of readings, the sums to that of their values
  pub counts_add_up : (m : ℕ) → m ≡ 4225 → total (λ c. get_or cs' c 0) 0 m ≡ readings q
  pub sums_add_up : (m : ℕ) → m ≡ 4225 → total (λ c. get_or ss' c 0) 0 m ≡ total (λ i. get_or q.values i 0) 0 (readings q)
  -- every count and every sum has 32 bits
  pub counts_small : (c : ℕ) → c < 4225 → get_or cs' c 0 ≤ 1024
  pub sums_small : (c : ℕ) → c < 4225 → get_or ss' c 0 ≤ 67107840

-- a cut of a direction: the left edge of one of its marks, or its right edge plus 1, moved up
abbrev pub IsCut : Axis → ℕ → Type 0
IsCut A c =
    (k : ℕ)
    × ((k < length A.points)
    × ((c ≡ left_cut (shift A) (get_or A.points k 0) (get_or A.bandwidths k 0))
    ⊎ (c ≡ right_cut (shift A) (get_or A.points k 0) (get_or A.bandwidths k 0))))

-- Worked cases of minute and temperature together.
use Rattle.std.specs.Prelude.{ℕ, ◌+◌, ◌*◌, List, [], ◌∷◌, eqb, length, replicate}
use Rattle.meanings.specs.Lists.{pick}
use Rattle.meanings.specs.Reports.{Answer, given, refused}
use Rattle.meanings.specs.boxes.Boxes.{Axis, minute_axis, temperature_axis, cells, listed, strip_of, box_list}
use Rattle.meanings.specs.boxes.Boxes.{boxes, boxes_then, counts_then, sums_then}

-- answer and the three lists at exit
pub record Outcome : Type 0 where
  pub answer : Answer Unit
  pub boxes : List ℕ
  pub counts : List ℕ
  pub sums : List ℕ

-- readings, marks and half widths of both directions, and the three lists at entry
pub record BoxesInput : Type 0 where
  pub minutes : Axis
  pub temperatures : Axis
  pub values : List ℕ
  pub boxes : List ℕ
  pub counts : List ℕ
  pub sums : List ℕ

abbrev pub outcome : BoxesInput → Outcome
outcome q = record {
  answer = boxes q.minutes q.temperatures q.values q.boxes q.counts q.sums;
  boxes = boxes_then q.minutes q.temperatures q.values q.boxes q.counts q.sums;
  counts = counts_then q.minutes q.temperatures q.values q.boxes q.counts q.sums;
  sums = sums_then q.minutes q.temperatures q.values q.boxes q.counts q.sums;
}

-- four readings, two marks each way; the cuts are 0, 21, 30, 41 and 50, 61, 199, 202
abbrev pub four_minutes : Axis
four_minutes = minute_axis (10 ∷ 20 ∷ 20 ∷ 35 ∷ []) (10 ∷ 35 ∷ []) (10 ∷ 5 ∷ [])

abbrev pub four_temperatures : Axis
four_temperatures = temperature_axis (50 ∷ 60 ∷ 200 ∷ 50 ∷ []) (55 ∷ 200 ∷ []) (5 ∷ 1 ∷ [])

abbrev pub four_values : List ℕ
four_values = 40 ∷ 60 ∷ 80 ∷ 20 ∷ []

abbrev pub sevens : ℕ → List ℕ
sevens n = replicate n 7

abbrev pub four : BoxesInput
four = record {
  minutes = four_minutes;
  temperatures = four_temperatures;
  values = four_values;
  boxes = sevens 8;
  counts = sevens cells;
  sums = sevens cells;
}

-- the number beside c in a list of numbers by twos, else 0
abbrev pub beside : ℕ → List ℕ → ℕ
beside c [] = 0
beside c (d ∷ []) = 0
beside c (d ∷ n ∷ rest) = pick (eqb c d) n (beside c rest)

-- a list of cells, 0 but where it says
abbrev pub only : List ℕ → List ℕ
only ps = listed (λ c. beside c ps) 0 cells

abbrev pub four_outcome : Outcome
four_outcome = record {
  answer = given tt;
  boxes = 2 ∷ 100 ∷ 1 ∷ 80 ∷ 1 ∷ 20 ∷ 0 ∷ 0 ∷ [];
  counts = only (66 ∷ 2 ∷ 68 ∷ 1 ∷ 196 ∷ 1 ∷ []);
  sums = only (66 ∷ 100 ∷ 68 ∷ 80 ∷ 196 ∷ 20 ∷ []);
}

-- Strips. One direction, and the strip of each of its readings.
pub record StripsCase : Type 0 where
  pub axis : Axis
  pub expected : List ℕ

abbrev pub strips_result : StripsCase → List ℕ
strips_result c = listed (strip_of c.axis) 0 (length c.axis.samples)

abbrev strips_of : Axis → List ℕ → StripsCase
strips_of A ss = record { axis = A; expected = ss }

-- a, a + d, .. , n numbers
abbrev pub steps : ℕ → ℕ → ℕ → List ℕ
steps a d n = listed (λ k. a + d * k) 0 n

abbrev pub strips_cases : List StripsCase
strips_cases =
    -- next to either edge of 10 to 30
    strips_of (minute_axis (9 ∷ 10 ∷ 30 ∷ 31 ∷ []) (20 ∷ []) (10 ∷ [])) (0 ∷ 1 ∷ 1 ∷ 2 ∷ [])
    ∷ strips_of (temperature_axis (9 ∷ 10 ∷ 30 ∷ 31 ∷ []) (20 ∷ []) (10 ∷ [])) (0 ∷ 1 ∷ 1 ∷ 2 ∷ [])
    -- edges that go back: cuts 51, 90, 111, 152
    ∷ strips_of (minute_axis (50 ∷ 60 ∷ 100 ∷ 111 ∷ 152 ∷ []) (100 ∷ 101 ∷ []) (10 ∷ 50 ∷ [])) (0 ∷ 1 ∷ 2 ∷ 3 ∷ 4 ∷ [])
    -- cuts below 0 stay apart: −10, −5, 6, 11
    ∷ strips_of (minute_axis (0 ∷ 6 ∷ 11 ∷ []) (0 ∷ 0 ∷ []) (10 ∷ 5 ∷ [])) (2 ∷ 3 ∷ 4 ∷ [])
    -- the widest windows: cuts −65536, −65535, 65536, 65537, where no reading lies
    ∷ strips_of (minute_axis (0 ∷ 65535 ∷ []) (0 ∷ 0 ∷ []) (65535 ∷ 65536 ∷ [])) (2 ∷ 2 ∷ [])
    ∷ strips_of (temperature_axis (0 ∷ 255 ∷ []) (0 ∷ 255 ∷ []) (256 ∷ 256 ∷ [])) (2 ∷ 2 ∷ [])
    -- equal marks, and a window that begins where another ends: cuts 10, 31, 52
    ∷ strips_of (minute_axis (9 ∷ 30 ∷ 31 ∷ 60 ∷ []) (20 ∷ 20 ∷ 41 ∷ []) (10 ∷ 10 ∷ 10 ∷ [])) (0 ∷ 1 ∷ 2 ∷ 3 ∷ [])
    -- all 65 strips
    ∷ strips_of (minute_axis (0 ∷ 10 ∷ 11 ∷ 31010 ∷ 31011 ∷ []) (steps 0 1000 32) (replicate 32 10)) (1 ∷ 1 ∷ 2 ∷ 63 ∷ 64 ∷ [])
    ∷ strips_of (temperature_axis (1 ∷ 217 ∷ 218 ∷ 219 ∷ []) (steps 0 7 32) (replicate 32 1)) (1 ∷ 63 ∷ 63 ∷ 64 ∷ [])
    ∷ []

-- Boxes. Both directions, the values, and the list of boxes.
pub record PairsCase : Type 0 where
  pub minutes : Axis
  pub temperatures : Axis
  pub values : List ℕ
  pub expected : List ℕ

abbrev pub pairs_result : PairsCase → List ℕ
pairs_result c = box_list c.minutes c.temperatures c.values (length c.minutes.samples)

abbrev pairs : Axis → Axis → List ℕ → List ℕ → PairsCase
pairs A B vs bs = record { minutes = A; temperatures = B; values = vs; expected = bs }

abbrev pub pairs_cases : List PairsCase
pairs_cases =
    -- readings on both edges of 10 to 30, and next to them, either way
    pairs
    (minute_axis (9 ∷ 10 ∷ 30 ∷ 31 ∷ []) (20 ∷ []) (10 ∷ []))
    (temperature_axis (7 ∷ 7 ∷ 7 ∷ 7 ∷ []) (7 ∷ []) (1 ∷ []))
    (1 ∷ 2 ∷ 4 ∷ 8 ∷ [])
    (2 ∷ 6 ∷ [])
    ∷ pairs
    (minute_axis (7 ∷ 7 ∷ 7 ∷ 7 ∷ []) (7 ∷ []) (1 ∷ []))
    (temperature_axis (9 ∷ 10 ∷ 30 ∷ 31 ∷ []) (20 ∷ []) (10 ∷ []))
    (1 ∷ 2 ∷ 4 ∷ 8 ∷ [])
    (2 ∷ 6 ∷ [])
    -- an edge that goes back
    ∷ pairs
    (minute_axis (60 ∷ []) (100 ∷ 101 ∷ []) (10 ∷ 50 ∷ []))
    (temperature_axis (0 ∷ []) (0 ∷ []) (1 ∷ []))
    (9 ∷ [])
    (0 ∷ 0 ∷ 1 ∷ 9 ∷ [])
    -- one reading outside in one direction only; minute marks slowest
    ∷ pairs
    (minute_axis (5 ∷ 90 ∷ 5 ∷ []) (5 ∷ 90 ∷ []) (1 ∷ 1 ∷ []))
    (temperature_axis (3 ∷ 3 ∷ 200 ∷ []) (3 ∷ 150 ∷ 200 ∷ []) (1 ∷ 1 ∷ 1 ∷ []))
    (10 ∷ 20 ∷ 40 ∷ [])
    (1 ∷ 10 ∷ 0 ∷ 0 ∷ 1 ∷ 40 ∷ 1 ∷ 20 ∷ 0 ∷ 0 ∷ 0 ∷ 0 ∷ [])
    -- the widest windows
    ∷ pairs
    (minute_axis (65535 ∷ []) (0 ∷ []) (65536 ∷ []))
    (temperature_axis (255 ∷ []) (0 ∷ []) (256 ∷ []))
    (65535 ∷ [])
    (1 ∷ 65535 ∷ [])
    -- no readings
    ∷ pairs (minute_axis [] (1 ∷ []) (1 ∷ [])) (temperature_axis [] (1 ∷ []) (1 ∷ [])) [] (0 ∷ 0 ∷ [])
    ∷ []

-- Refusals: input, and the report; the three lists stay.
pub record RefusalCase : Type 0 where
  pub input : BoxesInput
  pub number : ℕ
  pub place : ℕ

abbrev pub refusal_expected : RefusalCase → Outcome
refusal_expected c = record {
  answer = refused (record { number = c.number; place = c.place });
  boxes = c.input.boxes;
  counts = c.input.counts;
  sums = c.input.sums;
}

-- lists of sevens, of so many numbers
abbrev asked : Axis → Axis → List ℕ → ℕ → ℕ → ℕ → BoxesInput
asked A B vs b c s =
    record { minutes = A; temperatures = B; values = vs; boxes = sevens b; counts = sevens c; sums = sevens s }

-- refused, with lists of those lengths
abbrev uneven : Axis → Axis → List ℕ → ℕ → ℕ → ℕ → RefusalCase
uneven A B vs b c s = record { input = asked A B vs b c s; number = 8; place = 0 }

-- refused with this report and place, where the three lists have their lengths
abbrev refuses : Axis → Axis → List ℕ → ℕ → ℕ → RefusalCase
refuses A B vs n p = record {
  input = asked A B vs (2 * length A.points * length B.points) cells cells;
  number = n;
  place = p;
}

-- so many readings at 3, and marks with half widths
abbrev pub minutes_with : ℕ → List ℕ → List ℕ → Axis
minutes_with n zs hs = minute_axis (replicate n 3) zs hs

abbrev pub temperatures_with : ℕ → List ℕ → List ℕ → Axis
temperatures_with n zs hs = temperature_axis (replicate n 3) zs hs

-- marks out of order, with half widths of 0
abbrev falling : ℕ → Axis
falling n = minutes_with n (9 ∷ 8 ∷ []) (0 ∷ 0 ∷ [])

abbrev falling_too : ℕ → Axis
falling_too n = temperatures_with n (9 ∷ 8 ∷ []) (0 ∷ 0 ∷ [])

abbrev pub refusal_cases : List RefusalCase
refusal_cases =
    -- 8, each list in turn
    uneven (falling 2) (falling_too 1) (1 ∷ 1 ∷ []) 8 cells cells
    ∷ uneven (falling 2) (falling_too 2) (1 ∷ []) 8 cells cells
    ∷ uneven (minutes_with 1 (9 ∷ 8 ∷ []) (0 ∷ [])) (falling_too 1) (1 ∷ []) 8 cells cells
    ∷ uneven (falling 1) (temperatures_with 1 (9 ∷ 8 ∷ []) (0 ∷ [])) (1 ∷ []) 8 cells cells
    ∷ uneven (falling 1) (falling_too 1) (1 ∷ []) 7 cells cells
    ∷ uneven (falling 1) (falling_too 1) (1 ∷ []) 4 cells cells
    ∷ uneven (falling 1) (falling_too 1) (1 ∷ []) 8 4224 cells
    ∷ uneven (falling 1) (falling_too 1) (1 ∷ []) 8 cells 4226
    -- 6 before 7
    ∷ refuses (minutes_with 1025 [] []) (temperatures_with 1025 [] []) (replicate 1025 1) 6 0
    ∷ refuses (minutes_with 1 (replicate 33 5) (replicate 33 0)) (temperatures_with 1 [] []) (1 ∷ []) 6 0
    ∷ refuses (minutes_with 1 [] []) (temperatures_with 1 (replicate 33 5) (replicate 33 0)) (1 ∷ []) 6 0
    -- 7 before 5 and 17
    ∷ refuses (minutes_with 1 [] []) (falling_too 1) (1 ∷ []) 7 0
    ∷ refuses (falling 1) (temperatures_with 1 [] []) (1 ∷ []) 7 0
    -- 5 before 17, 17 before 9
    ∷ refuses (minutes_with 1 (9 ∷ 9 ∷ 8 ∷ []) (0 ∷ 0 ∷ 0 ∷ [])) (falling_too 1) (1 ∷ []) 5 2
    ∷ refuses (minutes_with 1 (9 ∷ 9 ∷ []) (0 ∷ 0 ∷ [])) (temperatures_with 1 (9 ∷ 10 ∷ 8 ∷ []) (0 ∷ 0 ∷ 0 ∷ [])) (1 ∷ []) 17 2
    -- 9 by each direction's own limit, minutes first
    ∷ refuses (minutes_with 1 (9 ∷ 9 ∷ []) (1 ∷ 0 ∷ [])) (temperatures_with 1 (9 ∷ []) (0 ∷ [])) (1 ∷ []) 9 1
    ∷ refuses (minutes_with 1 (9 ∷ 9 ∷ []) (65536 ∷ 65537 ∷ [])) (temperatures_with 1 (9 ∷ []) (0 ∷ [])) (1 ∷ []) 9 1
    ∷ refuses (minutes_with 1 (9 ∷ []) (65536 ∷ [])) (temperatures_with 1 (9 ∷ 9 ∷ []) (256 ∷ 257 ∷ [])) (1 ∷ []) 9 1
    ∷ []

-- SPECIFICATION, "Half widths by neighbours": each mark's half width by its K nearest readings, and the call that fills in half widths and rows.
-- ts and vs are minutes and values of the readings, zs the marks, k is K; hs and rs are the lists of half widths and rows at entry.
use Rattle.std.specs.Prelude.{ℕ, ◌+◌, ◌-◌, ◌≤◌, ◌<◌, Bool, ◌||◌, List, [], ◌∷◌, ◌++◌, ltb, leb, eqb, length, get_or}
use Rattle.std.specs.Prelude.{Option}
use Rattle.meanings.specs.declared.Limits.{Limits}
use Rattle.meanings.specs.Limits.{row_width}
use Rattle.meanings.specs.Lists.{pick, count, distance}
use Rattle.meanings.specs.Reports.{Fault, Answer, unless, accepted_or, Check, check, at, first_of, uneven_rows, curve_size_checks, order_checks}
use Rattle.meanings.specs.Estimate.{rows}

-- how far each reading lies from mark z
abbrev pub distances : List ℕ → ℕ → List ℕ
distances [] z = []
distances (t ∷ ts) z = distance t z ∷ distances ts z

-- a number set before the first one of a list that is not below it
abbrev pub inserted : ℕ → List ℕ → List ℕ
inserted x [] = x ∷ []
inserted x (y ∷ ys) = pick (ltb y x) (y ∷ inserted x ys) (x ∷ y ∷ ys)

-- the same numbers from the smallest to the greatest, equal ones as often as they occur
abbrev pub sorted : List ℕ → List ℕ
sorted [] = []
sorted (x ∷ xs) = inserted x (sorted xs)

-- the k-th smallest distance of mark z to a reading, counted from 1
unfoldable pub kth_distance : List ℕ → ℕ → ℕ → ℕ
kth_distance ts z k = get_or (sorted (distances ts z)) (k - 1) 0

-- the half width is 1 more
abbrev pub neighbour_bandwidth : List ℕ → ℕ → ℕ → ℕ
neighbour_bandwidth ts z k = kth_distance ts z k + 1

-- that of each mark
abbrev pub neighbour_bandwidths : List ℕ → List ℕ → ℕ → List ℕ
neighbour_bandwidths ts [] k = []
neighbour_bandwidths ts (z ∷ zs) k = neighbour_bandwidth ts z k ∷ neighbour_bandwidths ts zs k

-- A second reading, by counting.

-- how many readings lie nearer to z than d, and how many no further than d
unfoldable pub nearer : List ℕ → ℕ → ℕ → ℕ
nearer ts z d = count (λ t. ltb (distance t z) d) ts

unfoldable pub within : List ℕ → ℕ → ℕ → ℕ
within ts z d = count (λ t. leb (distance t z) d) ts

-- d is the k-th smallest distance: fewer than k readings are nearer, and at least k no further
pub record Kth (ts : List ℕ) (z k d : ℕ) : Type 0 where
  pub few_nearer : nearer ts z d < k
  pub enough_within : k ≤ within ts z d

-- The call.

-- so many readings have no k-th: k is 0 or over their number: 14
abbrev pub too_few : ℕ → ℕ → Bool
too_few n k = eqb k 0 || ltb n k

abbrev pub too_few_checks : ℕ → ℕ → List Check
too_few_checks n k = check 14 (at 0 (too_few n k)) ∷ []

-- with room for so many numbers in the rows: 8, 6, 7, 4, 5, 14
abbrev pub neighbours_checks : Limits → List ℕ → List ℕ → List ℕ → ℕ → List ℕ → ℕ → List Check
neighbours_checks L ts vs zs k hs rows =
    curve_size_checks L ts vs zs hs (uneven_rows row_width rows (length zs)) ++ order_checks ts zs ++ too_few_checks (length ts) k

abbrev pub neighbours_refusal : Limits → List ℕ → List ℕ → List ℕ → ℕ → List ℕ → List ℕ → Option Fault
neighbours_refusal L ts vs zs k hs rs = first_of (neighbours_checks L ts vs zs k hs (length rs))

-- accepted, or the report
unfoldable pub neighbours : Limits → List ℕ → List ℕ → List ℕ → ℕ → List ℕ → List ℕ → Answer Unit
neighbours L ts vs zs k hs rs = unless (neighbours_refusal L ts vs zs k hs rs) tt

-- the half widths at exit
unfoldable pub bandwidths_then : Limits → List ℕ → List ℕ → List ℕ → ℕ → List ℕ → List ℕ → List ℕ
bandwidths_then L ts vs zs k hs rs = accepted_or (neighbours_refusal L ts vs zs k hs rs) (neighbour_bandwidths ts zs k) hs

-- the rows at exit: those of the new half widths
unfoldable pub rows_then : Limits → List ℕ → List ℕ → List ℕ → ℕ → List ℕ → List ℕ → List ℕ
rows_then L ts vs zs k hs rs =
    accepted_or (neighbours_refusal L ts vs zs k hs rs) (rows ts vs zs (neighbour_bandwidths ts zs k) (length zs)) rs

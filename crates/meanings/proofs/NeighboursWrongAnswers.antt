-- Wrong programs of another shape than the code, each written out and shut out on a concrete input.
use Prim.Native.Nat.{ℕ, suc, ◌+◌, ◌-◌, ◌*◌}
use mathlib.Core.Path.{◌≡◌, refl, ap}
use mathlib.Core.Bool.{Bool}
use mathlib.Core.List.{List, [], ◌∷◌}
use native.Mathlib.Omega.{arith}
use lib.Dec.{leb, eqb}
use lib.ListN.{length, get_or, replicate}
use Rattle.meanings.specs.Limits.{full}
use Rattle.meanings.specs.Lists.{pick, first, distance}
use Rattle.meanings.specs.Reports.{Answer, given, refused}
use Rattle.meanings.specs.Estimate.{rows, estimate, left_of, right_of, kernel, weight_of, sum_of, value_of, rounded}
use Rattle.meanings.specs.neighbours.Neighbours.{distances, sorted, kth_distance, neighbour_bandwidth, neighbour_bandwidths}
use Rattle.meanings.specs.neighbours.Neighbours.{within, neighbours, bandwidths_then, rows_then}

-- what makes a half width of minutes, a mark and K
abbrev BandwidthFunction : Type 0
BandwidthFunction = List ℕ → ℕ → ℕ → ℕ

abbrev IsByNeighbours : BandwidthFunction → Type 0
IsByNeighbours F = (ts : List ℕ) (z k : ℕ) → F ts z k ≡ neighbour_bandwidth ts z k

-- the half width of k readings in a row, from a start that is searched for at so many positions: up to the first whose reading is no further
-- from the mark than the one k places on
abbrev by_runs : (List ℕ → ℕ → ℕ → ℕ → Bool) → (ℕ → ℕ → ℕ) → BandwidthFunction
by_runs stays tries ts z k =
    let a = first (stays ts z k) 0 (tries (length ts) k) in
    pick (leb (get_or ts a 0 + get_or ts (a + k - 1) 0) (2 * z)) (z - get_or ts a 0) (get_or ts (a + k - 1) 0 - z) + 1

abbrev by_sums : List ℕ → ℕ → ℕ → ℕ → Bool
by_sums ts z k a = leb (2 * z) (get_or ts a 0 + get_or ts (a + k) 0)

-- the sheet's minutes, of which the last one is nearest to mark 60, by 25; the search itself finds it
abbrev minutes : List ℕ
minutes = 10 ∷ 20 ∷ 20 ∷ 35 ∷ []

pub runs_find_the_last : by_runs by_sums (λ n k. n - k) minutes 60 1 ≡ 26
runs_find_the_last = refl

-- the loop of the paper of SPECIFICATION 2.10 ends before the last run of readings: 41 for 26
pub no_end_before_the_last_run : ¬ IsByNeighbours (by_runs by_sums (λ n k. n - k - 1))
unfolding kth_distance distance
no_end_before_the_last_run f = let e : ◌≡◌ {A = ℕ} 41 26 = f minutes 60 1 in omega arith

-- where K is all of them it reads one place behind the list, here as 0: the start leaves the only run
pub no_read_past_the_list : ¬ IsByNeighbours (by_runs by_sums (λ n k. n - k + 1))
unfolding kth_distance distance
no_read_past_the_list f = let e : ◌≡◌ {A = ℕ} 41 51 = f minutes 60 4 in omega arith

-- the two distances compared in place of the sum: it stays where the minutes in front are equal, 11 for 1
pub no_distances_compared : ¬ IsByNeighbours (by_runs (λ ts z k a. leb (distance (get_or ts a 0) z) (distance (get_or ts (a + k) 0) z)) (λ n k. n - k))
unfolding kth_distance distance
no_distances_compared f = let e : ◌≡◌ {A = ℕ} 11 1 = f (0 ∷ 0 ∷ 0 ∷ 10 ∷ []) 10 1 in omega arith

-- equal distances counted once
abbrev once : List ℕ → List ℕ
once [] = []
once (x ∷ []) = x ∷ []
once (x ∷ y ∷ ys) = pick (eqb x y) (once (y ∷ ys)) (x ∷ once (y ∷ ys))

pub no_repeats_counted_once : ¬ IsByNeighbours (λ ts z k. get_or (once (sorted (distances ts z))) (k - 1) 0 + 1)
unfolding kth_distance distance
no_repeats_counted_once f = let e : ◌≡◌ {A = ℕ} 11 1 = f minutes 20 2 in omega arith

-- the distance itself, without 1 more
pub no_bare_distance : ¬ IsByNeighbours kth_distance
unfolding kth_distance distance
no_bare_distance f = let e : ◌≡◌ {A = ℕ} 25 26 = f minutes 60 1 in omega arith

-- K counted from 0
pub not_counted_from_zero : ¬ IsByNeighbours (λ ts z k. kth_distance ts z (suc k) + 1)
unfolding kth_distance distance
not_counted_from_zero f = let e : ◌≡◌ {A = ℕ} 41 26 = f minutes 60 1 in omega arith

-- readings at the distance itself not counted as no further
pub not_without_its_own_distance : ¬ (within (10 ∷ []) 20 10 ≡ 0)
unfolding within distance
not_without_its_own_distance e = let n : ◌≡◌ {A = ℕ} 1 0 = e in omega arith

-- one number of an answer: the report's, and of an accepted call one that no report has
seen : Answer Unit → ℕ
seen (given u) = 100
seen (refused f) = f.number

-- K refused where it is the number of readings
pub no_refusal_of_all_readings : ¬ (neighbours full (7 ∷ []) (1 ∷ []) (7 ∷ []) 1 (0 ∷ []) (replicate 5 0) ≡ refused (record { number = 14; place = 0 }))
unfolding neighbours seen
no_refusal_of_all_readings e = let n : ◌≡◌ {A = ℕ} 100 14 = ap seen e in omega arith

-- 14 looked at before 5
pub fourteen_not_before_five : ¬ (neighbours full [] [] (1 ∷ 0 ∷ []) 1 (0 ∷ 0 ∷ []) (replicate 10 0) ≡ refused (record { number = 14; place = 0 }))
unfolding neighbours seen
fourteen_not_before_five e = let n : ◌≡◌ {A = ℕ} 5 14 = ap seen e in omega arith

-- half widths stored before a refusal: marks out of order
pub no_half_widths_before_a_refusal :
    ¬ ((ts vs zs : List ℕ) (k : ℕ) (hs rs : List ℕ) → bandwidths_then full ts vs zs k hs rs ≡ neighbour_bandwidths ts zs k)
unfolding bandwidths_then kth_distance distance
no_half_widths_before_a_refusal f =
    let n : ◌≡◌ {A = ℕ} 9 4 = ap (λ (hs : List ℕ). get_or hs 0 0) (f (5 ∷ []) (1 ∷ []) (8 ∷ 7 ∷ []) 1 (9 ∷ 9 ∷ []) (replicate 10 0)) in
    omega arith

-- rows of the half widths that the list held
pub no_rows_of_the_old_half_widths :
    ¬ ((ts vs zs : List ℕ) (k : ℕ) (hs rs : List ℕ) → neighbours full ts vs zs k hs rs ≡ given tt
    → rows_then full ts vs zs k hs rs ≡ rows ts vs zs hs (length zs))
unfolding neighbours rows_then kth_distance distance estimate left_of right_of kernel weight_of sum_of value_of rounded
no_rows_of_the_old_half_widths f =
    let n : ◌≡◌ {A = ℕ} 1 81 = ap (λ (rs : List ℕ). get_or rs 2 0) (f (5 ∷ []) (1 ∷ []) (5 ∷ []) 1 (9 ∷ []) (replicate 5 0) refl) in
    omega arith

-- one fixed half width
pub no_fixed_half_width : (h : ℕ) → ¬ IsByNeighbours (λ ts z k. h)
unfolding kth_distance distance
no_fixed_half_width h f =
    let a : h ≡ 1 = f minutes 20 1 in
    let b : h ≡ 6 = f minutes 25 1 in
    omega arith

-- Both claims about a row function hold of something, and wrong functions do not satisfy them: each is written out here, and one list of readings
-- shows where it fails. The first four fail where the value leaves the readings with a weight, the fifth and sixth where readings of equal minute
-- change places.
use Prim.Native.Nat.{ℕ, zero, suc, ◌+◌, ◌-◌, ◌*◌, ◌%◌, ◌≤◌, ◌<◌}
use mathlib.Core.Path.{◌≡◌, refl, sym, ap, ◌∙◌}
use mathlib.Core.Logic.{◌↔◌}
use mathlib.Core.Bool.{◌||◌}
use mathlib.Core.List.{List, [], ◌∷◌}
use native.Mathlib.Omega.{arith}
use lib.Dec.{eqb}
use lib.ListN.{length, get_or}
use Rattle.meanings.specs.declared.Estimate.{Estimate}
use Rattle.meanings.specs.Lists.{pick, distance, Ordered}
use Rattle.meanings.specs.Reports.{differ}
use Rattle.meanings.specs.Estimate.{left_of, right_of, kernel, over_run, weight_of, sum_of, rounded, missing, value_of, estimate}
use Rattle.meanings.proofs.Checks.{no_decrease_ordered}
use Rattle.laws.specs.rows.Weighted.{Weighs, Between}
use Rattle.laws.specs.rows.AmongReadings.{RowFunction, weight_at, value_at, Among, StaysAmong}
use Rattle.laws.specs.rows.Rearranged.{Rearranged, MayChangePlaces}
use Rattle.laws.proofs.rows.AmongReadings.{estimate_among}
use Rattle.laws.proofs.rows.Rearranged.{estimate_may_change_places}

-- a row with its edges as they are, and this weight, sum and value
abbrev row_with : List ℕ → ℕ → ℕ → ℕ → ℕ → ℕ → Estimate
row_with ts z h weight sum value = record { left = left_of ts z h; right = right_of ts z h; weight = weight; sum = sum; value = value }

-- one too high where the quotient is exact
abbrev one_too_high : RowFunction
one_too_high ts vs z h =
    let w = weight_of ts z h in
    let s = sum_of ts vs z h in
    row_with ts z h w s (pick (eqb w 0) missing (pick (eqb (s % w) 0) (rounded s w + 1) (rounded s w)))

-- a reading on an edge in the sum, as if it had the weight 1, but not in the weight
abbrev edge_in_the_sum : RowFunction
edge_in_the_sum ts vs z h =
    let w = weight_of ts z h in
    let s = over_run (λ i. pick (eqb (kernel z h (get_or ts i 0)) 0) 1 (kernel z h (get_or ts i 0)) * get_or vs i 0) ts z h in
    row_with ts z h w s (value_of s w)

-- the last reading before the window still in the sum
abbrev reading_left_in : RowFunction
reading_left_in ts vs z h =
    let w = weight_of ts z h in
    let l = left_of ts z h in
    let s = sum_of ts vs z h + pick (eqb l 0) 0 (h * h * get_or vs (l - 1) 0) in
    row_with ts z h w s (value_of s w)

-- 0 for a missing value
abbrev missing_as_zero : RowFunction
missing_as_zero ts vs z h =
    let w = weight_of ts z h in
    let s = sum_of ts vs z h in
    row_with ts z h w s (pick (eqb w 0) 0 (rounded s w))

-- weights by the place in the run, not by the minute
abbrev weights_by_line : RowFunction
weights_by_line ts vs z h =
    let l = left_of ts z h in
    let w = over_run (λ i. kernel l h i) ts z h in
    let s = over_run (λ i. kernel l h i * get_or vs i 0) ts z h in
    row_with ts z h w s (value_of s w)

-- of readings of equal minute the first alone
abbrev equal_minutes_once : RowFunction
equal_minutes_once ts vs z h =
    let g : ℕ → ℕ = λ i. pick (eqb i 0 || differ (get_or ts i 0) (get_or ts (i - 1) 0)) (kernel z h (get_or ts i 0)) 0 in
    let w = over_run g ts z h in
    let s = over_run (λ i. g i * get_or vs i 0) ts z h in
    row_with ts z h w s (value_of s w)

-- a number between the values of readings with a weight is at most what each of these is
at_most_each : {w v : ℕ → ℕ} {n x : ℕ} (m : ℕ) → ((i : ℕ) → Weighs w n i → v i ≤ m) → Between w v n x → x ≤ m
at_most_each m f b =
    let p = b.highest in
    let l = f p.position p.weighs in
    let q = p.reached in
    let u = b.at_most in
    omega arith

-- the readings 10:900 and 20:60 at mark 20 with half width 10: the first has no weight
abbrev edge_minutes : List ℕ
edge_minutes = 10 ∷ 20 ∷ []

abbrev edge_values : List ℕ
edge_values = 900 ∷ 60 ∷ []

edge_at_most_60 : (i : ℕ) → Weighs (weight_at edge_minutes 20 10) 2 i → value_at edge_values i ≤ 60
unfolding kernel distance
edge_at_most_60 zero g = absurd (let p = g.above_zero in omega arith)
edge_at_most_60 (suc zero) g = omega arith
edge_at_most_60 (suc (suc i)) g = absurd (let l = g.within in omega arith)

-- the value is 60, though 900 lies in the run: the highest value of a reading with a weight is 60
pub edge_row : estimate edge_minutes edge_values 20 10 ≡ record { left = 0; right = 2; weight = 100; sum = 6000; value = 60 }
unfolding estimate left_of right_of kernel distance weight_of sum_of value_of rounded
edge_row = refl

pub edge_row_among : Among edge_minutes edge_values 20 10 (estimate edge_minutes edge_values 20 10)
edge_row_among =
    estimate_among edge_minutes edge_values 20 10 (no_decrease_ordered edge_minutes refl)
    (λ q. let e : 60 ≡ 65536 = ap (λ (x : Estimate). x.value) (sym edge_row) ∙ q in omega arith)

-- so that reading weighs nothing, though its distance is the half width
pub no_weight_on_the_edge : ¬ ((ts : List ℕ) (z h i : ℕ) → Weighs (weight_at ts z h) (length ts) i ↔ ((i < length ts) × (distance (get_or ts i 0) z ≤ h)))
unfolding kernel distance
no_weight_on_the_edge f = let p = ((f edge_minutes 20 10 0).1 (omega arith, omega arith)).above_zero in omega arith

pub no_value_one_too_high : ¬ StaysAmong one_too_high
unfolding left_of right_of kernel distance weight_of sum_of rounded
no_value_one_too_high f =
    let a = f (0 ∷ []) (5 ∷ []) 0 1 refl (λ q. let e : ◌≡◌ {A = ℕ} 6 65536 = q in omega arith) in
    let l : 6 ≤ 5 = at_most_each 5 all a.between in
    omega arith
  where
    all : (i : ℕ) → Weighs (weight_at (0 ∷ []) 0 1) 1 i → value_at (5 ∷ []) i ≤ 5
    all zero g = omega arith
    all (suc i) g = absurd (let l = g.within in omega arith)

pub no_edge_in_the_sum : ¬ StaysAmong edge_in_the_sum
unfolding left_of right_of kernel distance weight_of value_of rounded
no_edge_in_the_sum f =
    let a = f edge_minutes edge_values 20 10 refl (λ q. let e : ◌≡◌ {A = ℕ} 69 65536 = q in omega arith) in
    let l : 69 ≤ 60 = at_most_each 60 edge_at_most_60 a.between in
    omega arith

pub no_reading_left_in : ¬ StaysAmong reading_left_in
unfolding left_of right_of kernel distance weight_of sum_of value_of rounded
no_reading_left_in f =
    let a = f (9 ∷ 20 ∷ []) edge_values 20 10 refl (λ q. let e : ◌≡◌ {A = ℕ} 960 65536 = q in omega arith) in
    let l : 960 ≤ 60 = at_most_each 60 all a.between in
    omega arith
  where
    all : (i : ℕ) → Weighs (weight_at (9 ∷ 20 ∷ []) 20 10) 2 i → value_at edge_values i ≤ 60
    all zero g = absurd (let p = g.above_zero in omega arith)
    all (suc zero) g = omega arith
    all (suc (suc i)) g = absurd (let l = g.within in omega arith)

pub no_missing_as_zero : ¬ StaysAmong missing_as_zero
unfolding left_of right_of kernel distance weight_of sum_of rounded
no_missing_as_zero f =
    let a = f [] [] 5 1 refl (λ q. let e : ◌≡◌ {A = ℕ} 0 65536 = q in omega arith) in
    let l : 0 < 0 = a.weight_above_zero in
    omega arith

-- the readings 20:1, 20:2 and 20:3 with one on either side, and the three values as 3, 1, 2
abbrev three_minutes : List ℕ
three_minutes = 15 ∷ 20 ∷ 20 ∷ 20 ∷ 25 ∷ []

abbrev three_values : List ℕ
three_values = 7 ∷ 1 ∷ 2 ∷ 3 ∷ 8 ∷ []

abbrev three_rearranged : List ℕ
three_rearranged = 7 ∷ 3 ∷ 1 ∷ 2 ∷ 8 ∷ []

three_ordered : Ordered three_minutes
three_ordered = no_decrease_ordered three_minutes refl

pub three_are_rearranged : Rearranged three_minutes three_values three_rearranged
three_are_rearranged = record { even = refl; even' = refl; as_often = λ t v. omega arith }

pub three_rows_alike : estimate three_minutes three_values 20 10 ≡ estimate three_minutes three_rearranged 20 10
three_rows_alike = estimate_may_change_places three_minutes three_values three_rearranged 20 10 three_ordered three_are_rearranged

pub no_weights_by_line : ¬ MayChangePlaces weights_by_line
unfolding left_of right_of kernel distance value_of rounded
no_weights_by_line f =
    let e = ap (λ (x : Estimate). x.sum) (f three_minutes three_values three_rearranged 20 10 three_ordered three_are_rearranged) in
    omega arith

pub no_equal_minutes_once : ¬ MayChangePlaces equal_minutes_once
unfolding left_of right_of kernel distance value_of rounded
no_equal_minutes_once f =
    let e = ap (λ (x : Estimate). x.sum) (f three_minutes three_values three_rearranged 20 10 three_ordered three_are_rearranged) in
    omega arith

-- SPECIFICATION, "The running record and the book", 3.1 to 3.10: the six running sums, the record, the step, lists of steps, passes.
use Rattle.std.specs.Prelude.{ℕ, zero, suc, ◌+◌, ◌-◌, ◌*◌, ◌%◌, ◌^◌, List, [], ◌∷◌, ltb, leb, length, get_or}
use Rattle.meanings.specs.declared.Estimate.{Estimate}
use Rattle.meanings.specs.declared.PowerSums.{PowerSums}
use Rattle.meanings.specs.declared.RunningSums.{RunningSums}
use Rattle.meanings.specs.Lists.{first, total, distance}
use Rattle.meanings.specs.Estimate.{over_run, value_of}
use Rattle.meanings.specs.Limits.{full}
use Rattle.meanings.specs.Moves.{Move}
use Rattle.meanings.specs.Reports.{Answer, given, refused, unless, first_of, advance_checks}

-- what reading i adds to the sum of its powers p and q: minute to the power p, times value to the power q
abbrev pub term : ℕ → ℕ → List ℕ → List ℕ → ℕ → ℕ
term p q ts vs i = get_or ts i 0 ^ p * get_or vs i 0 ^ q

-- that sum over n readings from position a on
abbrev pub power_sum : List ℕ → List ℕ → ℕ → ℕ → ℕ → ℕ → ℕ
power_sum ts vs a n p q = total (term p q ts vs) a n

-- the six sums, each given by its powers
abbrev pub six : (ℕ → ℕ → ℕ) → PowerSums
six f = record { s00 = f 0 0; s10 = f 1 0; s20 = f 2 0; s01 = f 0 1; s11 = f 1 1; s21 = f 2 1 }

-- one of the six sums, by its powers
abbrev pub sum_at : PowerSums → ℕ → ℕ → ℕ
sum_at s zero zero = s.s00
sum_at s (suc zero) zero = s.s10
sum_at s (suc (suc p)) zero = s.s20
sum_at s zero (suc q) = s.s01
sum_at s (suc zero) (suc q) = s.s11
sum_at s (suc (suc p)) (suc q) = s.s21

-- the six running sums over the run of a mark's window
abbrev pub window_sum : List ℕ → List ℕ → ℕ → ℕ → ℕ → ℕ → ℕ
window_sum ts vs z h p q = over_run (term p q ts vs) ts z h

abbrev pub window_sums : List ℕ → List ℕ → ℕ → ℕ → PowerSums
window_sums ts vs z h = six (window_sum ts vs z h)

-- sum and difference modulo 2^w
abbrev pub plus : ℕ → ℕ → ℕ → ℕ
plus w a b = (a + b) % 2 ^ w

abbrev pub minus : ℕ → ℕ → ℕ → ℕ
minus w a b = (a + (2 ^ w - b % 2 ^ w)) % 2 ^ w

-- fresh: all zero
abbrev pub fresh : RunningSums
fresh = record { left = 0; right = 0; sums = six (λ p q. 0); passes = 0 }

-- new right: from the old one on, up to a minute beyond the right edge or to the end of the readings
abbrev pub new_right : List ℕ → ℕ → ℕ → ℕ → ℕ
new_right ts right z h = first (λ i. ltb (z + h) (get_or ts i 0)) right (length ts - right)

-- new left: from the old one on, up to a minute that has reached the left edge or to the new right
abbrev pub new_left : List ℕ → ℕ → ℕ → ℕ → ℕ → ℕ
new_left ts left right' z h = first (λ i. leb z (get_or ts i 0 + h)) left (right' - left)

-- new sums: with the terms of what is inserted, without those of what is evicted, modulo 2^64
abbrev pub new_sums : List ℕ → List ℕ → RunningSums → ℕ → ℕ → PowerSums
new_sums ts vs r left' right' =
    six (λ p q.
    minus 64
    (plus 64 (sum_at r.sums p q) (power_sum ts vs r.right (right' - r.right) p q))
    (power_sum ts vs r.left (left' - r.left) p q))

-- new passes: with the distances that both edges travel, modulo 2^64
abbrev pub new_passes : RunningSums → ℕ → ℕ → ℕ
new_passes r left' right' = plus 64 r.passes (distance r.left left' + distance r.right right')

-- the record with its edges at the new left and the new right
abbrev pub moved_to : List ℕ → List ℕ → RunningSums → ℕ → ℕ → RunningSums
moved_to ts vs r left' right' =
    record { left = left'; right = right'; sums = new_sums ts vs r left' right'; passes = new_passes r left' right' }

-- what an accepted step makes of a record: new right first, then new left
unfoldable pub moved : List ℕ → List ℕ → RunningSums → ℕ → ℕ → RunningSums
moved ts vs r z h =
    let right' = new_right ts r.right z h in
    moved_to ts vs r (new_left ts r.left right' z h) right'

-- the step: the new record, or the report
unfoldable pub advance : List ℕ → List ℕ → RunningSums → ℕ → ℕ → Answer RunningSums
advance ts vs r z h = unless (first_of (advance_checks full ts vs r.left r.right h)) (moved ts vs r z h)

-- the record after a step: the new one, or the old one where it was refused
abbrev pub next_record : RunningSums → Answer RunningSums → RunningSums
next_record r (given r') = r'
next_record r (refused e) = r

-- the record after a step of a list
abbrev pub after_step : List ℕ → List ℕ → RunningSums → Move → RunningSums
after_step ts vs r m = next_record r (advance ts vs r m.point m.bandwidth)

-- the record after a list of steps over the same readings, refused ones included
abbrev pub after : List ℕ → List ℕ → RunningSums → List Move → RunningSums
after ts vs r [] = r
after ts vs r (m ∷ ms) = after ts vs (after_step ts vs r m) ms

-- insertions plus evictions of a step: the positions passed by its edges
abbrev pub passed : RunningSums → RunningSums → ℕ
passed r r' = (r'.right - r.right) + (r'.left - r.left)

-- those of a list of steps
abbrev pub passes : List ℕ → List ℕ → RunningSums → List Move → ℕ
passes ts vs r [] = 0
passes ts vs r (m ∷ ms) = passed r (after_step ts vs r m) + passes ts vs (after_step ts vs r m) ms

-- (h² − z²) a + 2 z b − c modulo 2^w
abbrev pub combined : ℕ → ℕ → ℕ → ℕ → ℕ → ℕ → ℕ
combined w z h a b c = minus w (plus w (h * h * a) (2 * z * b)) (z * z * a + c)

-- the row that a record of any origin gives at mark z with half width h: its edges, weight and sum by the formula over its six sums modulo
-- 2^64, and their rounded quotient
unfoldable pub record_row : RunningSums → ℕ → ℕ → Estimate
record_row r z h =
    let weight = combined 64 z h r.sums.s00 r.sums.s10 r.sums.s20 in
    let sum = combined 64 z h r.sums.s01 r.sums.s11 r.sums.s21 in
    record { left = r.left; right = r.right; weight = weight; sum = sum; value = value_of sum weight }

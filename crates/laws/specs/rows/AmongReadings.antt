-- SPECIFICATION, "What holds of every curve": a present value lies between the lowest and the highest value of the readings with a weight above
-- zero. It is said of any function that makes a row of minutes, values, a mark and a half width; `estimate` satisfies it
-- (proofs/AmongReadings.antt), and wrong functions do not (proofs/WrongRows.antt).
use Rattle.std.specs.Prelude.{ℕ, ◌<◌, ◌≡◌, List, ◌↔◌, length, get_or}
use Rattle.std.specs.Prelude.{None}
use Rattle.meanings.specs.declared.Estimate.{Estimate}
use Rattle.meanings.specs.Lists.{distance}
use Rattle.meanings.specs.Limits.{full}
use Rattle.meanings.specs.Estimate.{kernel, missing}
use Rattle.meanings.specs.Calls.{evaluate_refusal}
use Rattle.laws.specs.rows.Weighted.{Weighs, Between}

abbrev pub RowFunction : Type 0
RowFunction = List ℕ → List ℕ → ℕ → ℕ → Estimate

-- the weight of reading i at mark z with half width h, and its value
abbrev pub weight_at : List ℕ → ℕ → ℕ → ℕ → ℕ
weight_at ts z h i = kernel z h (get_or ts i 0)

abbrev pub value_at : List ℕ → ℕ → ℕ
value_at vs i = get_or vs i 0

-- what is claimed of a row with a present value
pub record Among (ts vs : List ℕ) (z h : ℕ) (e : Estimate) : Type 0 where
  pub weight_above_zero : 0 < e.weight
  -- among all readings; those with a weight above zero are the ones nearer to the mark than the half width
  pub between : Between (weight_at ts z h) (value_at vs) (length ts) e.value
  pub weighs_is_near : (i : ℕ) → Weighs (weight_at ts z h) (length ts) i ↔ ((i < length ts) × (distance (get_or ts i 0) z < h))

-- for all that the question at one mark accepts
abbrev pub StaysAmong : RowFunction → Type 0
StaysAmong F =
    (ts vs : List ℕ) (z h : ℕ) → evaluate_refusal full ts vs h ≡ None → ¬ ((F ts vs z h).value ≡ missing) → Among ts vs z h (F ts vs z h)

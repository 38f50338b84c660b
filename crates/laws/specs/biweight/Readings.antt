-- SPECIFICATION, "The biweight row": a present value lies between the lowest and the highest value of the readings with a weight above zero, said
-- of the row's own weights. `StaysAmong` of `Rattle.laws.specs.rows.AmongReadings` says it of the same readings by the other kernel's weights.
use Rattle.std.specs.Prelude.{ℕ, ◌<◌, ◌↔◌, List, length, get_or}
use Rattle.meanings.specs.declared.Estimate.{Estimate}
use Rattle.meanings.specs.Lists.{distance}
use Rattle.meanings.specs.biweight.Biweight.{biweight_kernel}
use Rattle.laws.specs.rows.AmongReadings.{value_at}
use Rattle.laws.specs.rows.Weighted.{Weighs, Between}

-- the weight of reading i at mark z with half width h
abbrev pub biweight_weight_at : List ℕ → ℕ → ℕ → ℕ → ℕ
biweight_weight_at ts z h i = biweight_kernel z h (get_or ts i 0)

pub record BiweightAmong (ts vs : List ℕ) (z h : ℕ) (e : Estimate) : Type 0 where
  pub weight_above_zero : 0 < e.weight
  pub between : Between (biweight_weight_at ts z h) (value_at vs) (length ts) e.value
  pub weighs_is_near : (i : ℕ) → Weighs (biweight_weight_at ts z h) (length ts) i ↔ ((i < length ts) × (distance (get_or ts i 0) z < h))

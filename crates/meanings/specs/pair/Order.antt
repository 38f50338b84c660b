-- SPECIFICATION, "Two tanks": when the first of two tanks is no higher than the second, by the call's answer; the answer with the tanks
-- exchanged; and what the rows of two sweeps say.
use Rattle.std.specs.Prelude.{ℕ, ◌+◌, ◌*◌, ◌<◌, ◌≡◌, List, length, get_or, Option, None, Some}
use Rattle.meanings.specs.declared.pair.Parting.{Parting}
use Rattle.meanings.specs.Limits.{row_width}
use Rattle.meanings.specs.Reports.{Answer, given, refused}
use Rattle.meanings.specs.Estimate.{estimate}
use Rattle.meanings.specs.declared.pair.Tank.TheVariants.{First, Second}
use Rattle.meanings.specs.pair.Comparison.{of_tank}

-- the answer is no refusal, and the first tank is not the higher one
abbrev pub NoHigher : Answer (Option Parting) → Type 0
NoHigher (given (Some p)) = p.higher ≡ Second
NoHigher (given None) = Unit
NoHigher (refused e) = ⊥

-- the answer with the tanks exchanged: the same position, the other tank
abbrev pub exchanged : Answer (Option Parting) → Answer (Option Parting)
exchanged (given (Some p)) = given (Some (record { position = p.position; higher = of_tank p.higher Second First }))
exchanged (given None) = given None
exchanged (refused e) = refused e

-- two tanks have the same value at each mark
abbrev pub SameValues : List ℕ → List ℕ → List ℕ → List ℕ → List ℕ → List ℕ → Type 0
SameValues ts vs us ws zs hs =
    (k : ℕ) → k < length zs → (estimate ts vs (get_or zs k 0) (get_or hs k 0)).value ≡ (estimate us ws (get_or zs k 0) (get_or hs k 0)).value

-- the position at which the tanks part, if they do
abbrev pub position_in : Answer (Option Parting) → Option ℕ
position_in (given (Some p)) = Some p.position
position_in (given None) = None
position_in (refused e) = None

-- row k of a list of rows: of its five numbers the last is the value
abbrev pub value_field : List ℕ → ℕ → ℕ
value_field rs k = get_or rs (row_width * k + 4) 0

-- the value fields of two lists of rows for n marks agree before k and differ at k
pub record RowsPartAt (rs qs : List ℕ) (n k : ℕ) : Type 0 where
  pub inside : k < n
  pub before : (j : ℕ) → j < k → value_field rs j ≡ value_field qs j
  pub there : ¬ (value_field rs k ≡ value_field qs k)

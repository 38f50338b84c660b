-- SPECIFICATION, "Questions with a limit": the lowest reading without which the row at a mark is low enough where it was not, or not where it
-- was. ts and vs are minutes and values of the readings, z a mark, h its half width.
use Rattle.std.specs.Prelude.{ℕ, suc, Bool, true, false, not, ◌≡◌, List, ◌∷◌, ◌++◌, length, take, drop, Option}
use Rattle.meanings.specs.declared.Limits.{Limits}
use Rattle.meanings.specs.Lists.{lowest}
use Rattle.meanings.specs.Reports.{Answer, unless}
use Rattle.meanings.specs.Estimate.{estimate}
use Rattle.meanings.specs.Calls.{evaluate_refusal}
use Rattle.meanings.specs.limit.Threshold.{low_enough}

-- the list without its element at position i
abbrev pub without : ℕ → List ℕ → List ℕ
without i xs = take i xs ++ drop (suc i) xs

-- the same in other words: ys is xs with the element behind a front of i others taken out
pub record Removed (i : ℕ) (xs ys : List ℕ) : Type 0 where
  pub front : List ℕ
  pub element : ℕ
  pub back : List ℕ
  pub place : length front ≡ i
  pub whole : xs ≡ front ++ element ∷ back
  pub rest : ys ≡ front ++ back

-- whether the row at the mark is low enough
unfoldable pub verdict : List ℕ → List ℕ → ℕ → ℕ → ℕ → Bool
verdict ts vs z h limit = low_enough limit (estimate ts vs z h)

-- one is true and the other is not
abbrev pub differs : Bool → Bool → Bool
differs true b = not b
differs false b = b

-- without reading i alone the verdict is the other one
unfoldable pub decides : List ℕ → List ℕ → ℕ → ℕ → ℕ → ℕ → Bool
decides ts vs z h limit i = differs (verdict (without i ts) (without i vs) z h limit) (verdict ts vs z h limit)

-- the lowest such reading of all, if there is one
abbrev pub first_decisive : List ℕ → List ℕ → ℕ → ℕ → ℕ → Option ℕ
first_decisive ts vs z h limit = lowest (decides ts vs z h limit) (length ts)

-- the whole call, with the checks of the question at one mark
unfoldable pub decisive : Limits → List ℕ → List ℕ → ℕ → ℕ → ℕ → Answer (Option ℕ)
decisive L ts vs z h limit = unless (evaluate_refusal L ts vs h) (first_decisive ts vs z h limit)

-- Every worked case holds of the meanings: both sides are computed.
use mathlib.Core.Path.{◌≡◌, refl}
use mathlib.Core.List.{[], ◌∷◌, map}
use Rattle.meanings.specs.Lists.{distance}
use Rattle.meanings.specs.Estimate.{estimate, left_of, right_of, kernel, weight_of, sum_of, value_of, rounded}
use Rattle.meanings.specs.decisive.Decisive.{without, verdict, decides, decisive}
use Rattle.meanings.specs.decisive.Cases.{DecisiveCase, decisive_result, decisive_cases}

pub decisive_cases_hold : map (λ (c : DecisiveCase). decisive_result c) decisive_cases ≡ map (λ (c : DecisiveCase). c.expected) decisive_cases
unfolding decisive decides verdict estimate left_of right_of kernel distance weight_of sum_of value_of rounded
decisive_cases_hold = refl

-- of a reading outside the run: weight and sum stay (Removal.antt), left and right may change
pub edges_may_change : (left_of (0 ∷ 50 ∷ []) 50 5 ≡ 1)
    × (right_of (0 ∷ 50 ∷ []) 50 5 ≡ 2)
    × (left_of (without 0 (0 ∷ 50 ∷ [])) 50 5 ≡ 0)
    × (right_of (without 0 (0 ∷ 50 ∷ [])) 50 5 ≡ 1)
unfolding left_of right_of
edges_may_change = (refl, refl, refl, refl)

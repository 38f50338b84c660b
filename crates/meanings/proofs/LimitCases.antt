-- Every worked case holds of the meanings: both sides are computed.
use mathlib.Core.Path.{◌≡◌, refl}
use mathlib.Core.List.{map}
use Rattle.meanings.specs.Lists.{distance}
use Rattle.meanings.specs.Estimate.{estimate, left_of, right_of, kernel, weight_of, sum_of, value_of, rounded}
use Rattle.meanings.specs.Running.{moved, advance}
use Rattle.meanings.specs.limit.Crossing.{low_at, first_at_most}
use Rattle.meanings.specs.limit.Cases.{CrossingCase, crossing_result, crossing_cases}

pub crossing_cases_hold : map (λ (c : CrossingCase). crossing_result c) crossing_cases ≡ map (λ (c : CrossingCase). c.expected) crossing_cases
unfolding first_at_most low_at estimate left_of right_of kernel distance weight_of sum_of value_of rounded moved advance
crossing_cases_hold = refl

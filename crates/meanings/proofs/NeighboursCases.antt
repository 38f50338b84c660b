-- Every worked case holds of the meanings: both sides are computed.
use mathlib.Core.Path.{◌≡◌, refl}
use mathlib.Core.List.{map}
use Rattle.meanings.specs.Lists.{distance}
use Rattle.meanings.specs.Estimate.{estimate, left_of, right_of, kernel, weight_of, sum_of, value_of, rounded}
use Rattle.meanings.specs.neighbours.Neighbours.{kth_distance, neighbours, bandwidths_then, rows_then}
use Rattle.meanings.specs.neighbours.Cases.{NeighboursCase, neighbours_result, neighbours_cases}

pub neighbours_cases_hold :
    map (λ (c : NeighboursCase). neighbours_result c) neighbours_cases ≡ map (λ (c : NeighboursCase). c.expected) neighbours_cases
unfolding neighbours bandwidths_then rows_then kth_distance distance estimate left_of right_of kernel weight_of sum_of value_of rounded
neighbours_cases_hold = refl

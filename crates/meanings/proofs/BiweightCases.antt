-- Every worked case holds of the meanings: both sides are computed.
use mathlib.Core.Path.{refl}
use Rattle.meanings.specs.Lists.{distance}
use Rattle.meanings.specs.Estimate.{left_of, right_of, value_of, rounded}
use Rattle.meanings.specs.biweight.Biweight.{biweight_at, biweight_weight, biweight_sum, biweight_row, biweight}
use Rattle.meanings.specs.biweight.Cases.{AllHold, biweight_cases}

pub biweight_cases_hold : AllHold biweight_cases
unfolding biweight biweight_row biweight_weight biweight_sum biweight_at left_of right_of distance value_of rounded
biweight_cases_hold = refl

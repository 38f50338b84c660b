-- Every worked case holds of the meanings: both sides are computed.
use mathlib.Core.Path.{◌≡◌, refl}
use mathlib.Core.List.{map}
use lib.Count.{count_trailing_zeros}
use lib.Ieee.{of_int, to_bits, round, size, span, climb, units, odd}
use Rattle.meanings.specs.doubles.Doubles.{handed}
use Rattle.meanings.specs.doubles.Cases.{NumberCase, number_result, number_cases, RowCase, weight_result, sum_result, row_cases}

pub number_cases_hold : map (λ (c : NumberCase). number_result c) number_cases ≡ map (λ (c : NumberCase). c.expected) number_cases
unfolding handed of_int to_bits round size span climb units odd count_trailing_zeros
number_cases_hold = refl

pub weight_cases_hold : map (λ (c : RowCase). weight_result c) row_cases ≡ map (λ (c : RowCase). c.weight_expected) row_cases
unfolding handed of_int to_bits round size span climb units odd count_trailing_zeros
weight_cases_hold = refl

pub sum_cases_hold : map (λ (c : RowCase). sum_result c) row_cases ≡ map (λ (c : RowCase). c.sum_expected) row_cases
unfolding handed of_int to_bits round size span climb units odd count_trailing_zeros
sum_cases_hold = refl

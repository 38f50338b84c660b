-- Every worked case holds of the meanings: both sides are computed.
use mathlib.Core.Path.{◌≡◌, refl}
use mathlib.Core.List.{map}
use Rattle.meanings.specs.Lists.{distance}
use Rattle.meanings.specs.boxes.Boxes.{strip, cuts, gathered, cell, cell_list, box, box_list, boxes, boxes_then, counts_then, sums_then}
use Rattle.meanings.specs.boxes.Cases.{StripsCase, strips_result, strips_cases, PairsCase, pairs_result, pairs_cases}
use Rattle.meanings.specs.boxes.Cases.{RefusalCase, refusal_expected, refusal_cases, outcome, four, four_outcome}

pub strips_cases_hold : map (λ (c : StripsCase). strips_result c) strips_cases ≡ map (λ (c : StripsCase). c.expected) strips_cases
unfolding strip cuts
strips_cases_hold = refl

pub pairs_cases_hold : map (λ (c : PairsCase). pairs_result c) pairs_cases ≡ map (λ (c : PairsCase). c.expected) pairs_cases
unfolding box_list box gathered distance
pairs_cases_hold = refl

pub refusal_cases_hold :
    map (λ (c : RefusalCase). outcome c.input) refusal_cases ≡ map (λ (c : RefusalCase). refusal_expected c) refusal_cases
unfolding boxes boxes_then counts_then sums_then
refusal_cases_hold = refl

-- answer and all three lists, whole
pub four_readings : outcome four ≡ four_outcome
unfolding strip cuts gathered cell cell_list box box_list boxes boxes_then counts_then sums_then distance
four_readings = refl

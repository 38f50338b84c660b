-- Every worked case holds of the meanings: both sides are computed.
use mathlib.Core.Path.{◌≡◌, refl}
use mathlib.Core.List.{[], ◌∷◌, ◌++◌, map}
use lib.ListN.{replicate}
use Rattle.meanings.specs.Lists.{distance}
use Rattle.meanings.specs.Estimate.{estimate, left_of, right_of, kernel, weight_of, sum_of, value_of, rounded}
use Rattle.meanings.specs.Reports.{given, refused}
use Rattle.meanings.specs.Running.{moved, advance}
use Rattle.meanings.specs.Output.{decimal, decimal_with, curve_text, refusal_text}
use Rattle.meanings.specs.declared.ranges.Kind.TheVariants.{Ranges}
use Rattle.meanings.specs.ranges.Ranges.{range_estimate, smooth_ranges, smooth_ranges_rows}
use Rattle.meanings.specs.ranges.Cases.{RangeCase, range_result, range_cases}
use Rattle.meanings.specs.ranges.RangeSheet.{sheet_front, read_either}
use Rattle.meanings.specs.ranges.RangeOutput.{range_curve_text, either_program, text_front, write_either, write_either_buffer}
use Rattle.meanings.specs.ranges.SheetCases.{SheetCase, sheet_result, sheet_cases, text_of, ProgramCase, program_result, program_text, program_cases}

pub range_cases_hold : map (λ (c : RangeCase). range_result c) range_cases ≡ map (λ (c : RangeCase). c.expected) range_cases
unfolding smooth_ranges smooth_ranges_rows range_estimate estimate left_of right_of kernel distance weight_of sum_of value_of rounded moved advance
range_cases_hold = refl

pub sheet_cases_hold : map (λ (c : SheetCase). sheet_result c) sheet_cases ≡ map (λ (c : SheetCase). c.expected) sheet_cases
unfolding read_either sheet_front
sheet_cases_hold = refl

pub program_cases_hold : map (λ (c : ProgramCase). program_result c) program_cases ≡ map (λ (c : ProgramCase). program_text c) program_cases
unfolding either_program read_either sheet_front curve_text range_curve_text refusal_text decimal decimal_with range_estimate estimate left_of right_of kernel
    distance weight_of sum_of value_of rounded moved advance
program_cases_hold = refl

-- a lent buffer: one of another length is refused before the sheet is looked at, and stays; else the text stands in front of its rest
pub short_buffer_refused : (write_either [] (7 ∷ 7 ∷ []) ≡ refused (record { number = 8; place = 0 })) × (write_either_buffer [] (7 ∷ 7 ∷ []) ≡ 7 ∷ 7 ∷ [])
unfolding write_either write_either_buffer
short_buffer_refused = (refl, refl)

pub rest_stays :
    text_front
    (given (record { kind = Ranges; minutes = []; lows = []; highs = []; points = 1 ∷ []; bandwidths = 1 ∷ [] })) (replicate 95 7)
    ≡ text_of ("mark,half,left,right,weight,sumlow,sumhigh,vdklow,vdkhigh" ∷ "1,1,0,0,0,0,0,-,-" ∷ "" ∷ "kept,passes" ∷ "0,0" ∷ []) ++ 7 ∷ 7 ∷ []
unfolding range_curve_text decimal decimal_with range_estimate estimate left_of right_of kernel distance weight_of sum_of value_of rounded moved advance
rest_stays = refl

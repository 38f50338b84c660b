-- Every worked case of the reader with its five lists holds of the meanings: both sides are computed.
use mathlib.Core.Path.{◌≡◌, refl}
use mathlib.Core.List.{map}
use Rattle.meanings.specs.ranges.RangeSheet.{sheet_front, read_either}
use Rattle.meanings.specs.ranges.RangeCalls.{read_ranges}
use Rattle.meanings.specs.ranges.ReaderCases.{ReaderCase, reader_result, reader_expected, reader_cases}

pub reader_cases_hold : map (λ (c : ReaderCase). reader_result c) reader_cases ≡ map (λ (c : ReaderCase). reader_expected c) reader_cases
unfolding read_ranges read_either sheet_front
reader_cases_hold = refl

-- What the second reading says of single lines of ranges, of lists of them, and of what a sheet keeps of them.
use Prim.Native.Nat.{ℕ}
use mathlib.Core.Path.{◌≡◌, refl}
use mathlib.Core.List.{List, [], ◌∷◌}
use native.Mathlib.Omega.{arith}
use Rattle.meanings.specs.Limits.{full}
use Rattle.meanings.specs.Bytes.{ascii, feed}
use Rattle.meanings.specs.Output.{decimal, decimal_with}
use Rattle.meanings.specs.ranges.RangeSheet.{RangeInjection, RangeContents}
use Rattle.laws.specs.ranges.RangeForm.{range_text, RangeForm, NotCrossed, FitRanges, IsRangeSheet, RangeFault}

abbrev reading : ℕ → ℕ → ℕ → ℕ → RangeInjection
reading t j l u = record { minute = t; injection = j; low = l; high = u }

-- a line is its four numbers
pub text_of_a_range : range_text (reading 10 3 40 50) ≡ ascii "10,3,40,50"
unfolding decimal decimal_with
text_of_a_range = refl

-- equal ends do not cross
pub equal_ends_do_not_cross : NotCrossed (reading 10 3 40 40)
equal_ends_do_not_cross = omega arith

-- a high of five digits can be over 65,535
pub high_over_16_bits_has_no_form : ¬ RangeForm (reading 5 3 0 70000)
high_over_16_bits_has_no_form f = let l = f.high_range in omega arith

-- the ends of a range must not cross, in a line that is not kept too
pub dropped_line_must_not_cross : ¬ FitRanges full (reading 12 1 901 900 ∷ [])
dropped_line_must_not_cross f = let u = f.uncrossed in omega arith

-- where one reading may be kept, there may be lines beside it that are not
pub dropped_line_is_not_counted : FitRanges (record { samples = 1; points = 1 }) (reading 12 1 9 9 ∷ reading 14 3 5 7 ∷ [])
dropped_line_is_not_counted = record { forms = omega arith; order = omega arith; uncrossed = omega arith; few = omega arith }

-- a line that is early and crossed has the report 4, and not 15
pub early_line_is_not_refused_as_crossed : (r : ℕ) → RangeFault full (reading 3 3 0 5 ∷ []) (reading 2 3 9 5) r → ¬ (r ≡ 15)
early_line_is_not_refused_as_crossed r (RangeFault.out_of_order before j₀ q l) e = omega arith
early_line_is_not_refused_as_crossed r (RangeFault.crossed o l) e = omega arith
early_line_is_not_refused_as_crossed r (RangeFault.too_many o u k l) e = omega arith

-- a sheet with one range from 40 to 50 keeps the high 50
pub highs_are_the_highs : (s : List ℕ) (c : RangeContents) (i : IsRangeSheet full s c)
    → i.range_lines ≡ record { content = reading 10 3 40 50; ending = feed } ∷ [] → c.highs ≡ 50 ∷ []
highs_are_the_highs s c i e = rw e at i.highs

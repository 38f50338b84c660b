-- The second reading says of worked sheets what SPECIFICATION has them give: each way to be refused behind the header line of ranges has a sheet here,
-- and a sheet that is refused before it.
use Prim.Native.Nat.{ℕ}
use mathlib.Core.Path.{refl}
use mathlib.Core.List.{[], ◌∷◌}
use native.Mathlib.Omega.{arith}
use Rattle.meanings.specs.Limits.{full}
use Rattle.meanings.specs.Bytes.{ascii, feed, return_feed}
use Rattle.meanings.specs.Sheet.{EvaluationPoint}
use Rattle.meanings.specs.SheetForm.{Ended}
use Rattle.meanings.specs.Output.{decimal, decimal_with}
use Rattle.meanings.specs.declared.ranges.Kind.TheVariants.{Ranges}
use Rattle.meanings.specs.ranges.RangeSheet.{RangeInjection, RangeContents, sheet_front, read_either}
use Rattle.laws.specs.ranges.RangeForm.{NamesRanges, IsRangeSheet, faulty_range, RangeFault, EitherRefused}
use Rattle.laws.specs.ranges.RangeForm.{for_a_range}
use Rattle.laws.proofs.ranges.EitherForms.{read_is_refused_form}

mark_line : ℕ → ℕ → Ended EvaluationPoint
mark_line z h = record { content = record { point = z; bandwidth = h }; ending = feed }

reading : ℕ → ℕ → ℕ → ℕ → RangeInjection
reading t j l u = record { minute = t; injection = j; low = l; high = u }

range : ℕ → ℕ → ℕ → ℕ → Ended RangeInjection
range t j l u = record { content = reading t j l u; ending = feed }

abbrev pub whole_contents : RangeContents
whole_contents = record {
  kind = Ranges;
  minutes = 10 ∷ 20 ∷ 20 ∷ 35 ∷ [];
  lows = 40 ∷ 0 ∷ 80 ∷ 0 ∷ [];
  highs = 40 ∷ 60 ∷ 80 ∷ 20 ∷ [];
  points = 20 ∷ 25 ∷ 60 ∷ [];
  bandwidths = 10 ∷ 15 ∷ 20 ∷ [];
}

-- the sheet of SPECIFICATION 7.9 with two readings known from 0 up; one line ends in a carriage return and a line feed
pub whole_sheet_is_range_sheet :
    IsRangeSheet full
    (ascii "mark,half\n20,10\n25,15\n60,20\n\nminute,inj,low,high\n10,3,40,40\n12,1,900,900\r\n14,2,400,400\n20,3,0,60\n20,4,80,80\n35,5,0,20\n")
    whole_contents
unfolding mark_line reading range decimal decimal_with
whole_sheet_is_range_sheet = record {
  front = record {
    header_ending = feed;
    point_lines = mark_line 20 10 ∷ mark_line 25 15 ∷ mark_line 60 20 ∷ [];
    empty_line_ending = feed;
    range_header_ending = feed;
    behind = ascii "10,3,40,40\n12,1,900,900\r\n14,2,400,400\n20,3,0,60\n20,4,80,80\n35,5,0,20\n";
    printed = refl;
    short = omega arith;
    some_point = omega arith;
    fit_points = omega arith;
  };
  range_lines = range 10 3 40 40
      ∷ record { content = reading 12 1 900 900; ending = return_feed }
      ∷ range 14 2 400 400
      ∷ range 20 3 0 60
      ∷ range 20 4 80 80
      ∷ range 35 5 0 20
      ∷ [];
  lines_printed = refl;
  fit_ranges = record { forms = omega arith; order = omega arith; uncrossed = omega arith; few = omega arith };
  kind = refl;
  minutes = refl;
  lows = refl;
  highs = refl;
  points = refl;
  bandwidths = refl;
}

-- a line that is not kept, crossed: 15 at 60
crossed_front : NamesRanges full (ascii "mark,half\n20,10\n25,15\n60,20\n\nminute,inj,low,high\n10,3,40,40\n12,1,901,900\n")
unfolding mark_line decimal decimal_with
crossed_front = record {
  header_ending = feed;
  point_lines = mark_line 20 10 ∷ mark_line 25 15 ∷ mark_line 60 20 ∷ [];
  empty_line_ending = feed;
  range_header_ending = feed;
  behind = ascii "10,3,40,40\n12,1,901,900\n";
  printed = refl;
  short = omega arith;
  some_point = omega arith;
  fit_points = omega arith;
}

pub crossed_is_refused : EitherRefused full (ascii "mark,half\n20,10\n25,15\n60,20\n\nminute,inj,low,high\n10,3,40,40\n12,1,901,900\n") 15 60
unfolding crossed_front mark_line reading range decimal decimal_with
crossed_is_refused =
    for_a_range 15 60 crossed_front
    (faulty_range (range 10 3 40 40 ∷ []) (omega arith) (range 12 1 901 900) (omega arith) ([], refl) (RangeFault.crossed (omega arith) (omega arith)))

-- crossed at the second line and early at the fourth: 15 at the second; early and crossed: 4; too many kept; a line of a plain sheet; a third text for
-- the header line; a half width of 0 before it
pub refused_as_worked :
    EitherRefused full (ascii "mark,half\n1,1\n\nminute,inj,low,high\n3,3,0,5\n4,3,9,5\n5,3,0,5\n4,3,0,5\n") 15 43
    × EitherRefused full (ascii "mark,half\n1,1\n\nminute,inj,low,high\n3,3,0,5\n2,3,9,5\n") 4 43
    × EitherRefused (record { samples = 1; points = 1 }) (ascii "mark,half\n1,1\n\nminute,inj,low,high\n3,3,0,5\n3,3,0,5\n") 6 43
    × EitherRefused full (ascii "mark,half\n1,1\n\nminute,inj,low,high\n7,3,5\n") 3 35
    × EitherRefused full (ascii "mark,half\n1,1\n\nminute,inj,low\n7,3,5\n") 2 15
    × EitherRefused full (ascii "mark,half\n1,0\n\nminute,inj,low,high\n7,3,5,5\n") 9 10
unfolding read_either sheet_front
refused_as_worked = (
  read_is_refused_form full _ 15 43 refl,
  read_is_refused_form full _ 4 43 refl,
  read_is_refused_form (record { samples = 1; points = 1 }) _ 6 43 refl,
  read_is_refused_form full _ 3 35 refl,
  read_is_refused_form full _ 2 15 refl,
  read_is_refused_form full _ 9 10 refl,
)

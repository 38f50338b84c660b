-- Worked cases of the reader of both kinds of sheet, and of what is written for one.
use Rattle.std.specs.Prelude.{ℕ, List, [], ◌∷◌, ◌++◌}
use Prim.Native.String.{String}
use Rattle.meanings.specs.Limits.{full}
use Rattle.meanings.specs.Bytes.{ascii, line_feed}
use Rattle.meanings.specs.Reports.{Answer, given, refused}
use Rattle.meanings.specs.declared.ranges.Kind.{Kind}
use Rattle.meanings.specs.declared.ranges.Kind.TheVariants.{Plain, Ranges}
use Rattle.meanings.specs.ranges.RangeSheet.{RangeContents, read_either}
use Rattle.meanings.specs.ranges.RangeOutput.{either_program}

-- a sheet, and what the reader makes of it
pub record SheetCase : Type 0 where
  pub sheet : String
  pub expected : Answer RangeContents

infix 90 ◌⇒◌
abbrev ◌⇒◌ : String → Answer RangeContents → SheetCase
s ⇒ a = record { sheet = s; expected = a }

abbrev pub sheet_result : SheetCase → Answer RangeContents
sheet_result c = read_either full (ascii c.sheet)

-- the readings of SPECIFICATION 7.9 with these lows and highs, and its marks
abbrev whole_lists : Kind → List ℕ → List ℕ → RangeContents
whole_lists k ls us = record {
  kind = k;
  minutes = 10 ∷ 20 ∷ 20 ∷ 35 ∷ [];
  lows = ls;
  highs = us;
  points = 20 ∷ 25 ∷ 60 ∷ [];
  bandwidths = 10 ∷ 15 ∷ 20 ∷ [];
}

abbrev pub sheet_cases : List SheetCase
sheet_cases =
    -- the sheet of SPECIFICATION 7.9 with two readings known from 0 up
    "mark,half\n20,10\n25,15\n60,20\n\nminute,inj,low,high\n10,3,40,40\n12,1,900,900\n14,2,400,400\n20,3,0,60\n20,4,80,80\n35,5,0,20\n"
    ⇒ given (whole_lists Ranges (40 ∷ 0 ∷ 80 ∷ 0 ∷ []) (40 ∷ 60 ∷ 80 ∷ 20 ∷ []))
    -- and as it is: each value as low and high
    ∷ "mark,half\n20,10\n25,15\n60,20\n\nminute,inj,vdk\n10,3,40\n12,1,900\n14,2,400\n20,3,60\n20,4,80\n35,5,20\n"
    ⇒ given (whole_lists Plain (40 ∷ 60 ∷ 80 ∷ 20 ∷ []) (40 ∷ 60 ∷ 80 ∷ 20 ∷ []))
    -- a dropped line is crossed
    ∷ "mark,half\n20,10\n25,15\n60,20\n\nminute,inj,low,high\n10,3,40,40\n12,1,901,900\n14,2,400,400\n20,3,0,60\n20,4,80,80\n35,5,0,20\n"
    ⇒ refused (record { number = 15; place = 60 })
    -- crossed at the second line, early at the fourth: the first faulty line
    ∷ "mark,half\n1,1\n\nminute,inj,low,high\n3,3,0,5\n4,3,9,5\n5,3,0,5\n4,3,0,5\n" ⇒ refused (record { number = 15; place = 43 })
    -- early and crossed: 4
    ∷ "mark,half\n1,1\n\nminute,inj,low,high\n3,3,0,5\n2,3,9,5\n" ⇒ refused (record { number = 4; place = 43 })
    -- the header line alone tells the kind
    ∷ "mark,half\n1,1\n\nminute,inj,low,high\n"
    ⇒ given (record { kind = Ranges; minutes = []; lows = []; highs = []; points = 1 ∷ []; bandwidths = 1 ∷ [] })
    ∷ "mark,half\n1,1\n\nminute,inj,vdk\n"
    ⇒ given (record { kind = Plain; minutes = []; lows = []; highs = []; points = 1 ∷ []; bandwidths = 1 ∷ [] })
    -- equal ends are a range
    ∷ "mark,half\n1,1\n\nminute,inj,low,high\n7,3,5,5\n"
    ⇒ given (record { kind = Ranges; minutes = 7 ∷ []; lows = 5 ∷ []; highs = 5 ∷ []; points = 1 ∷ []; bandwidths = 1 ∷ [] })
    -- with carriage returns
    ∷ "mark,half\r\n1,1\r\n\r\nminute,inj,low,high\r\n7,3,4,5\r\n"
    ⇒ given (record { kind = Ranges; minutes = 7 ∷ []; lows = 4 ∷ []; highs = 5 ∷ []; points = 1 ∷ []; bandwidths = 1 ∷ [] })
    -- a third text, and no line feed
    ∷ "mark,half\n1,1\n\nminute,inj,low\n7,3,5\n" ⇒ refused (record { number = 2; place = 15 })
    ∷ "mark,half\n1,1\n\nminute,inj,low,high" ⇒ refused (record { number = 2; place = 15 })
    ∷ "mark,half\n1,1\n\nminute,inj,vdk,vdk\n" ⇒ refused (record { number = 2; place = 15 })
    ∷ "mark,half\n1,1\n\n" ⇒ refused (record { number = 2; place = 15 })
    -- a line of the other kind
    ∷ "mark,half\n1,1\n\nminute,inj,vdk\n7,3,5,5\n" ⇒ refused (record { number = 3; place = 30 })
    ∷ "mark,half\n1,1\n\nminute,inj,low,high\n7,3,5\n" ⇒ refused (record { number = 3; place = 35 })
    -- five numbers, a number too large, inj 0, no line feed
    ∷ "mark,half\n1,1\n\nminute,inj,low,high\n7,3,5,5,5\n" ⇒ refused (record { number = 3; place = 35 })
    ∷ "mark,half\n1,1\n\nminute,inj,low,high\n7,3,5,65536\n" ⇒ refused (record { number = 3; place = 35 })
    ∷ "mark,half\n1,1\n\nminute,inj,low,high\n7,3,65536,65535\n" ⇒ refused (record { number = 3; place = 35 })
    ∷ "mark,half\n1,1\n\nminute,inj,low,high\n7,0,5,5\n" ⇒ refused (record { number = 3; place = 35 })
    ∷ "mark,half\n1,1\n\nminute,inj,low,high\n7,3,5,5" ⇒ refused (record { number = 3; place = 35 })
    -- before the second header line nothing is new
    ∷ "mark,half\n1,0\n\nminute,inj,low,high\n7,3,5,5\n" ⇒ refused (record { number = 9; place = 10 })
    ∷ "" ⇒ refused (record { number = 2; place = 0 })
    ∷ []

-- lines with a line feed behind each
abbrev pub text_of : List String → List ℕ
text_of [] = []
text_of (t ∷ ts) = ascii t ++ line_feed ∷ text_of ts

-- a sheet, and the lines that are written for it
pub record ProgramCase : Type 0 where
  pub sheet : String
  pub lines : List String

infix 90 ◌prints◌
abbrev ◌prints◌ : String → List String → ProgramCase
s prints ts = record { sheet = s; lines = ts }

abbrev pub program_result : ProgramCase → List ℕ
program_result c = either_program (ascii c.sheet)

abbrev pub program_text : ProgramCase → List ℕ
program_text c = text_of c.lines

abbrev pub program_cases : List ProgramCase
program_cases =
    -- the sheet of SPECIFICATION 7.9 with two readings known from 0 up: both sums, both values, and both missing
    "mark,half\n20,10\n25,15\n60,20\n\nminute,inj,low,high\n10,3,40,40\n12,1,900,900\n14,2,400,400\n20,3,0,60\n20,4,80,80\n35,5,0,20\n"
    prints ("mark,half,left,right,weight,sumlow,sumhigh,vdklow,vdkhigh"
    ∷ "20,10,0,3,200,8000,14000,40,70"
    ∷ "25,15,0,4,525,16000,30500,30,58"
    ∷ "60,20,4,4,0,0,0,-,-"
    ∷ ""
    ∷ "kept,passes"
    ∷ "4,8"
    ∷ [])
    -- and as it is: no column stands twice
    ∷ "mark,half\n20,10\n25,15\n60,20\n\nminute,inj,vdk\n10,3,40\n12,1,900\n14,2,400\n20,3,60\n20,4,80\n35,5,20\n"
    prints ("mark,half,left,right,weight,sum,vdk"
    ∷ "20,10,0,3,200,14000,70"
    ∷ "25,15,0,4,525,30500,58"
    ∷ "60,20,4,4,0,0,-"
    ∷ ""
    ∷ "kept,passes"
    ∷ "4,8"
    ∷ [])
    -- a crossed range
    ∷ "mark,half\n20,10\n25,15\n60,20\n\nminute,inj,low,high\n10,3,40,40\n12,1,901,900\n" prints ("refused,place" ∷ "15,60" ∷ [])
    -- no readings: the header line alone decides
    ∷ "mark,half\n1,1\n\nminute,inj,low,high\n"
    prints ("mark,half,left,right,weight,sumlow,sumhigh,vdklow,vdkhigh" ∷ "1,1,0,0,0,0,0,-,-" ∷ "" ∷ "kept,passes" ∷ "0,0" ∷ [])
    ∷ "mark,half\n1,1\n\nminute,inj,vdk\n"
    prints ("mark,half,left,right,weight,sum,vdk" ∷ "1,1,0,0,0,0,-" ∷ "" ∷ "kept,passes" ∷ "0,0" ∷ [])
    -- no byte
    ∷ "" prints ("refused,place" ∷ "2,0" ∷ [])
    ∷ []

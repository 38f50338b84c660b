-- Worked cases of the reader of both kinds with its five lent lists: its answer, and what each list holds at exit.
use Rattle.std.specs.Prelude.{ℕ, List, [], ◌∷◌}
use Prim.Native.String.{String}
use Rattle.meanings.specs.declared.Limits.{Limits}
use Rattle.meanings.specs.declared.ranges.Kind.TheVariants.{Plain, Ranges}
use Rattle.meanings.specs.declared.ranges.RangeCounts.{RangeCounts}
use Rattle.meanings.specs.Bytes.{ascii}
use Rattle.meanings.specs.Reports.{Answer, given, refused}
use Rattle.meanings.specs.ranges.RangeCalls.{read_ranges, range_counts, range_front, minutes_of, lows_of, highs_of, points_of, bandwidths_of}

-- the five lists
pub record Lists : Type 0 where
  pub minutes : List ℕ
  pub lows : List ℕ
  pub highs : List ℕ
  pub points : List ℕ
  pub bandwidths : List ℕ

-- a sheet, the lists at entry, and what is expected: the answer, and the lists at exit
pub record ReaderCase : Type 0 where
  pub sheet : String
  pub lists : Lists
  pub answer : Answer RangeCounts
  pub after : Lists

-- limits that each list shows
abbrev few : Limits
few = record { samples = 3; points = 2 }

abbrev pub reader_result : ReaderCase → Answer RangeCounts × Lists
reader_result c =
    let l = c.lists in
    let o = read_ranges few (ascii c.sheet) l.minutes l.lows l.highs l.points l.bandwidths in (
      range_counts o,
      record {
        minutes = range_front o minutes_of l.minutes;
        lows = range_front o lows_of l.lows;
        highs = range_front o highs_of l.highs;
        points = range_front o points_of l.points;
        bandwidths = range_front o bandwidths_of l.bandwidths;
      },
    )

abbrev pub reader_expected : ReaderCase → Answer RangeCounts × Lists
reader_expected c = (c.answer, c.after)

abbrev lists : List ℕ → List ℕ → List ℕ → List ℕ → List ℕ → Lists
lists ts ls us zs hs = record { minutes = ts; lows = ls; highs = us; points = zs; bandwidths = hs }

-- lists that differ at entry
abbrev at_entry : Lists
at_entry = lists (11 ∷ 12 ∷ 13 ∷ []) (21 ∷ 22 ∷ 23 ∷ []) (31 ∷ 32 ∷ 33 ∷ []) (41 ∷ 42 ∷ []) (51 ∷ 52 ∷ [])

-- refused with this report at this place: each list holds what it held
abbrev unread : String → Lists → ℕ → ℕ → ReaderCase
unread s l n p = record { sheet = s; lists = l; answer = refused (record { number = n; place = p }); after = l }

-- lists of which one is too long or too short: 8, before the report 2 of the empty sheet
abbrev uneven : List ℕ → List ℕ → List ℕ → List ℕ → List ℕ → ReaderCase
uneven ts ls us zs hs = unread "" (lists ts ls us zs hs) 8 0

abbrev two : List ℕ
two = 7 ∷ 7 ∷ []

abbrev three : List ℕ
three = 7 ∷ 7 ∷ 7 ∷ []

abbrev four : List ℕ
four = 7 ∷ 7 ∷ 7 ∷ 7 ∷ []

abbrev pub reader_cases : List ReaderCase
reader_cases =
    -- two kept readings and one mark, in front of what the lists held
    record {
      sheet = "mark,half\n9,4\n\nminute,inj,low,high\n1,3,2,3\n5,3,6,8\n5,2,6,8\n";
      lists = at_entry;
      answer = given (record { samples = 2; points = 1; kind = Ranges });
      after = lists (1 ∷ 5 ∷ 13 ∷ []) (2 ∷ 6 ∷ 23 ∷ []) (3 ∷ 8 ∷ 33 ∷ []) (9 ∷ 42 ∷ []) (4 ∷ 52 ∷ []);
    }
    -- a plain sheet: a value stands in both lists
    ∷ record {
      sheet = "mark,half\n9,4\n10,5\n\nminute,inj,vdk\n1,3,2\n";
      lists = at_entry;
      answer = given (record { samples = 1; points = 2; kind = Plain });
      after = lists (1 ∷ 12 ∷ 13 ∷ []) (2 ∷ 22 ∷ 23 ∷ []) (2 ∷ 32 ∷ 33 ∷ []) (9 ∷ 10 ∷ []) (4 ∷ 5 ∷ []);
    }
    -- the sheet's own report, behind a kept reading
    ∷ unread "mark,half\n9,4\n\nminute,inj,low,high\n1,3,2,3\n5,3,9,8\n" at_entry 15 43
    ∷ unread "" at_entry 2 0
    -- 6: a kept reading over the limit, whose dropped lines don't count; behind 15, and of a mark
    ∷ unread "mark,half\n9,4\n\nminute,inj,low,high\n1,3,2,3\n1,3,2,3\n1,3,2,3\n1,3,2,3\n" at_entry 6 59
    ∷ unread "mark,half\n9,4\n\nminute,inj,low,high\n1,3,2,3\n1,3,2,3\n1,3,2,3\n1,3,3,2\n" at_entry 15 59
    ∷ unread "mark,half\n9,4\n9,4\n9,4\n\nminute,inj,low,high\n" at_entry 6 18
    ∷ record {
      sheet = "mark,half\n9,4\n\nminute,inj,low,high\n1,3,2,3\n5,3,6,8\n6,4,4,4\n6,2,7,7\n6,1,7,7\n";
      lists = at_entry;
      answer = given (record { samples = 3; points = 1; kind = Ranges });
      after = lists (1 ∷ 5 ∷ 6 ∷ []) (2 ∷ 6 ∷ 4 ∷ []) (3 ∷ 8 ∷ 4 ∷ []) (9 ∷ 42 ∷ []) (4 ∷ 52 ∷ []);
    }
    -- 8: each list too short, and too long
    ∷ uneven two three three two two
    ∷ uneven three two three two two
    ∷ uneven three three two two two
    ∷ uneven three three three (7 ∷ []) two
    ∷ uneven three three three two (7 ∷ [])
    ∷ uneven four three three two two
    ∷ uneven three four three two two
    ∷ uneven three three four two two
    ∷ uneven three three three three two
    ∷ uneven three three three two three
    ∷ []

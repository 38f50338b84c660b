-- The second reading of the sheet says of SPECIFICATION's sheets what stands there: the whole sheet of 7.9 is the sheet of its readings and
-- marks, and the sheet of C12 is refused with 10 at byte 16, for an edge that falls. Each way to be refused has a sheet of its own here.
use Prim.Native.Nat.{ℕ, ◌<◌}
use mathlib.Core.Path.{◌≡◌, refl}
use mathlib.Core.Logic.{inl, inr}
use mathlib.Core.List.{List, [], ◌∷◌}
use native.Mathlib.Omega.{arith}
use lib.ListN.{length}
use Rattle.meanings.specs.declared.Limits.{Limits}
use Rattle.meanings.specs.Limits.{full}
use Rattle.meanings.specs.Bytes.{ascii, feed, return_feed, ending_bytes}
use Rattle.meanings.specs.Sheet.{EvaluationPoint}
use Rattle.meanings.specs.Sheet.{Injection, read_sheet}
use Rattle.meanings.specs.SheetForm.{Ended, IsSheet, Refused, too_long, no_point_header, no_empty_line, malformed_point, faulty_point, no_point}
use Rattle.meanings.specs.SheetForm.{no_sample_header, malformed_sample, faulty_sample, PointFault, SampleFault, edge, Neighbours, Follows, Begins}
use Rattle.meanings.specs.SheetForm.{point_head, sample_head}
use Rattle.meanings.specs.Output.{decimal, decimal_with}
use Rattle.meanings.specs.Cases.{contents}
use Rattle.laws.proofs.sheet.Headers.{lines_of_empty_line}
use Rattle.laws.proofs.sheet.ValueLines.{no_point_begins, no_sample_begins}
use Rattle.laws.proofs.sheet.Outcomes.{refused_is_refused}

mark : ℕ → ℕ → EvaluationPoint
mark z h = record { point = z; bandwidth = h }

-- lines that end in a line feed
mark_line : ℕ → ℕ → Ended EvaluationPoint
mark_line z h = record { content = mark z h; ending = feed }

abbrev one_each : Limits
one_each = record { samples = 1; points = 1 }

reading : ℕ → ℕ → ℕ → Injection
reading t j v = record { minute = t; injection = j; value = v }

line : ℕ → ℕ → ℕ → Ended Injection
line t j v = record { content = reading t j v; ending = feed }

pub whole_sheet_is_sheet :
    IsSheet full
    (ascii "mark,half\n20,10\n25,15\n60,20\n\nminute,inj,vdk\n10,3,40\n12,1,900\n14,2,400\n20,3,60\n20,4,80\n35,5,20\n")
    (contents (10 ∷ 20 ∷ 20 ∷ 35 ∷ []) (40 ∷ 60 ∷ 80 ∷ 20 ∷ []) (20 ∷ 25 ∷ 60 ∷ []) (10 ∷ 15 ∷ 20 ∷ []))
unfolding mark mark_line reading line decimal decimal_with
whole_sheet_is_sheet = record {
  header_ending = feed;
  point_lines = mark_line 20 10 ∷ mark_line 25 15 ∷ mark_line 60 20 ∷ [];
  empty_line_ending = feed;
  sample_header_ending = feed;
  sample_lines = line 10 3 40 ∷ line 12 1 900 ∷ line 14 2 400 ∷ line 20 3 60 ∷ line 20 4 80 ∷ line 35 5 20 ∷ [];
  printed = refl;
  short = omega arith;
  some_point = omega arith;
  fit_points = omega arith;
  fit_samples = omega arith;
  points = refl;
  bandwidths = refl;
  minutes = refl;
  values = refl;
}

-- the same with a carriage return in the endings of both header lines, of the empty line, of one line of values each, and of the last
pub mixed_endings_is_sheet :
    IsSheet full
    (ascii "mark,half\r\n20,10\n25,15\r\n60,20\n\r\nminute,inj,vdk\r\n10,3,40\n12,1,900\n14,2,400\r\n20,3,60\n20,4,80\n35,5,20\r\n")
    (contents (10 ∷ 20 ∷ 20 ∷ 35 ∷ []) (40 ∷ 60 ∷ 80 ∷ 20 ∷ []) (20 ∷ 25 ∷ 60 ∷ []) (10 ∷ 15 ∷ 20 ∷ []))
unfolding mark mark_line reading line decimal decimal_with
mixed_endings_is_sheet = record {
  header_ending = return_feed;
  point_lines = mark_line 20 10 ∷ record { content = mark 25 15; ending = return_feed } ∷ mark_line 60 20 ∷ [];
  empty_line_ending = return_feed;
  sample_header_ending = return_feed;
  sample_lines = line 10 3 40
      ∷ line 12 1 900
      ∷ record { content = reading 14 2 400; ending = return_feed }
      ∷ line 20 3 60
      ∷ line 20 4 80
      ∷ record { content = reading 35 5 20; ending = return_feed }
      ∷ [];
  printed = refl;
  short = omega arith;
  some_point = omega arith;
  fit_points = omega arith;
  fit_samples = omega arith;
  points = refl;
  bandwidths = refl;
  minutes = refl;
  values = refl;
}

-- refused where lines end so: no mark, a line without its line feed, and a second carriage return in each kind of line
pub no_points_with_returns_is_refused : Refused full (ascii "mark,half\r\n\r\n") 7 11
no_points_with_returns_is_refused = no_point (omega arith) return_feed return_feed ([], refl)

pub return_alone_is_refused : Refused full (ascii "mark,half\r\n0,1\r\n\r") 3 16
unfolding read_sheet
return_alone_is_refused = refused_is_refused full (ascii "mark,half\r\n0,1\r\n\r") 3 16 refl

pub second_return_is_refused :
    Refused full (ascii "mark,half\r\r\n") 2 0
    × Refused full (ascii "mark,half\r\n0,1\r\r\n") 3 11
    × Refused full (ascii "mark,half\n0,1\n\r\r\n") 3 14
    × Refused full (ascii "mark,half\n0,1\n\nminute,inj,vdk\r\r\n") 2 15
    × Refused full (ascii "mark,half\n0,1\n\nminute,inj,vdk\n0,3,1\r\r\n") 3 30
unfolding read_sheet
second_return_is_refused = (
  refused_is_refused full (ascii "mark,half\r\r\n") 2 0 refl,
  refused_is_refused full (ascii "mark,half\r\n0,1\r\r\n") 3 11 refl,
  refused_is_refused full (ascii "mark,half\n0,1\n\r\r\n") 3 14 refl,
  refused_is_refused full (ascii "mark,half\n0,1\n\nminute,inj,vdk\r\r\n") 2 15 refl,
  refused_is_refused full (ascii "mark,half\n0,1\n\nminute,inj,vdk\n0,3,1\r\r\n") 3 30 refl,
)

pub edge_back_is_refused : Refused full (ascii "mark,half\n20,10\n21,12\n") 10 16
unfolding mark mark_line decimal decimal_with
edge_back_is_refused =
    faulty_point (omega arith) feed (mark_line 20 10 ∷ []) (omega arith) (mark_line 21 12) (omega arith) ([], refl)
    (edge (omega arith) (omega arith) (λ (n : Neighbours Follows (mark 20 10 ∷ mark 21 12 ∷ [])). omega (arith, n)))

pub no_points_is_refused : Refused full (ascii "mark,half\n\n") 7 10
no_points_is_refused = no_point (omega arith) feed feed ([], refl)

pub no_empty_line_is_refused : Refused full (ascii "mark,half\n0,1\n") 3 14
unfolding mark mark_line decimal decimal_with
no_empty_line_is_refused = no_empty_line (omega arith) feed (mark_line 0 1 ∷ []) (omega arith) refl

-- an empty line left out in the midst: the line behind the marks is no mark line
pub no_empty_line_in_the_midst_is_refused : Refused full (ascii "mark,half\n0,1\nminute,inj,vdk\n5,3,9\n") 3 14
unfolding read_sheet
no_empty_line_in_the_midst_is_refused = refused_is_refused full (ascii "mark,half\n0,1\nminute,inj,vdk\n5,3,9\n") 3 14 refl

pub overlong_is_refused : (s : List ℕ) → 32768 < length s → Refused full s 1 32768
overlong_is_refused s l = too_long l

pub empty_is_refused : Refused full [] 2 0
empty_is_refused = no_point_header (omega arith) (λ e (b : Begins (point_head e) []). let e = b.1 in let z : ◌≡◌ {A = ℕ} 0 1 = cc in omega arith)

pub unended_point_is_refused : Refused full (ascii "mark,half\n0,1\n0,1") 3 14
unfolding mark mark_line decimal decimal_with
unended_point_is_refused =
    malformed_point (omega arith) feed (mark_line 0 1 ∷ []) (omega arith) 48 (ascii ",1") refl
    (λ d (b : Begins (ending_bytes d) (ascii "0,1")).
    let e = lines_of_empty_line (ascii "0,1") d b in let z : ◌≡◌ {A = ℕ} 0 1 = cc in omega arith)
    (no_point_begins (ascii "0,1") (ascii "0,1") refl)

pub early_point_is_refused : Refused full (ascii "mark,half\n7,1\n6,0\n") 5 14
unfolding mark mark_line decimal decimal_with
early_point_is_refused =
    faulty_point (omega arith) feed (mark_line 7 1 ∷ []) (omega arith) (mark_line 6 0) (omega arith) ([], refl)
    (PointFault.out_of_order [] (mark 7 1) refl (omega arith))

pub zero_bandwidth_is_refused : Refused full (ascii "mark,half\n7,1\n7,0\n") 9 14
unfolding mark mark_line decimal decimal_with
zero_bandwidth_is_refused =
    faulty_point (omega arith) feed (mark_line 7 1 ∷ []) (omega arith) (mark_line 7 0) (omega arith) ([], refl)
    (PointFault.bandwidth (omega arith) (inl refl))

pub wide_bandwidth_is_refused : Refused full (ascii "mark,half\n0,65537\n") 9 10
unfolding mark mark_line decimal decimal_with
wide_bandwidth_is_refused =
    faulty_point (omega arith) feed [] (omega arith) (mark_line 0 65537) (omega arith) ([], refl) (PointFault.bandwidth (omega arith) (inr (omega arith)))

pub second_point_is_refused : Refused one_each (ascii "mark,half\n0,1\n0,1\n") 6 14
unfolding mark mark_line decimal decimal_with
second_point_is_refused =
    faulty_point (omega arith) feed (mark_line 0 1 ∷ []) (omega arith) (mark_line 0 1) (omega arith) ([], refl)
    (PointFault.too_many (omega arith) (omega arith) (omega arith))

pub no_sample_header_is_refused : Refused full (ascii "mark,half\n0,1\n\n") 2 15
unfolding mark mark_line decimal decimal_with
no_sample_header_is_refused =
    no_sample_header (omega arith) feed (mark_line 0 1 ∷ []) (omega arith) (omega arith) feed [] refl
    (λ f (b : Begins (sample_head f) []). let e = b.1 in let z : ◌≡◌ {A = ℕ} 0 1 = cc in omega arith)

pub unended_sample_is_refused : Refused full (ascii "mark,half\n0,1\n\nminute,inj,vdk\n5,1,9\n5,1,9") 3 36
unfolding mark mark_line reading line decimal decimal_with
unended_sample_is_refused =
    malformed_sample (omega arith) feed (mark_line 0 1 ∷ []) (omega arith) (omega arith) feed feed (line 5 1 9 ∷ []) (omega arith) 53 (ascii ",1,9") refl
    (no_sample_begins (ascii "5,1,9") (ascii "5,1,9") refl)

-- checked against a line that is not kept
pub early_sample_is_refused : Refused full (ascii "mark,half\n0,1\n\nminute,inj,vdk\n5,1,9\n4,3,9\n") 4 36
unfolding mark mark_line reading line decimal decimal_with
early_sample_is_refused =
    faulty_sample (omega arith) feed (mark_line 0 1 ∷ []) (omega arith) (omega arith) feed feed (line 5 1 9 ∷ []) (omega arith) (line 4 3 9) (omega arith)
    ([], refl) (SampleFault.out_of_order [] (reading 5 1 9) refl (omega arith))

-- a line that is not kept does not count
pub second_kept_sample_is_refused : Refused one_each (ascii "mark,half\n0,1\n\nminute,inj,vdk\n5,2,9\n5,3,9\n5,3,9\n") 6 42
unfolding mark mark_line reading line decimal decimal_with
second_kept_sample_is_refused =
    faulty_sample (omega arith) feed (mark_line 0 1 ∷ []) (omega arith) (omega arith) feed feed (line 5 2 9 ∷ line 5 3 9 ∷ []) (omega arith) (line 5 3 9)
    (omega arith) ([], refl) (SampleFault.too_many (omega arith) (omega arith) (omega arith))

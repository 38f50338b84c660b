-- Wrong readers and rows of another shape than the code, each shut out on a concrete input: what it would answer, or leave in a lent list, is not what
-- the meaning says.
use Prim.Native.Nat.{ℕ, ◌+◌, ◌/◌}
use mathlib.Core.Path.{◌≡◌, refl, ap}
use mathlib.Core.List.{List, [], ◌∷◌}
use Rattle.std.specs.Prelude.{Option, None, Some}
use native.Mathlib.Omega.{arith}
use lib.ListN.{get_or, replicate}
use Rattle.meanings.specs.Lists.{distance}
use Rattle.meanings.specs.Limits.{full}
use Rattle.meanings.specs.Bytes.{ascii}
use Rattle.meanings.specs.Estimate.{estimate, left_of, right_of, kernel, weight_of, sum_of, value_of, rounded}
use Rattle.meanings.specs.Reports.{Answer, given, refused}
use Rattle.meanings.specs.Sheet.{Lines, end, unended, line, sample_line, read_sheet}
use Rattle.meanings.specs.declared.ranges.Kind.{Kind}
use Rattle.meanings.specs.declared.ranges.Kind.TheVariants.{Plain, Ranges}
use Rattle.meanings.specs.ranges.Ranges.{range_estimate}
use Rattle.meanings.specs.ranges.RangeSheet.{sheet_front, no_readings, read_readings, second_header, range_contents, RangeContents, read_either}
use Rattle.meanings.specs.ranges.RangeCalls.{read_ranges, range_front, minutes_of, highs_of}
use Rattle.laws.specs.ranges.RangeForm.{EitherRefused}
use Rattle.laws.proofs.ranges.EitherForms.{read_is_refused_form, one_report}

-- the kind that the first reading line would tell
pub kind_of_first : Lines → Kind
kind_of_first end = Plain
kind_of_first (unended t) = Plain
kind_of_first (line t e ls) = by (sample_line t)
  where
    by : {A : Type 0} → Option A → Kind
    by None = Ranges
    by (Some j) = Plain

-- what a kind is as a number; a report has none
number_of_kind : Kind → ℕ
number_of_kind Plain = 0
number_of_kind Ranges = 1

kind_seen : Answer RangeContents → ℕ
kind_seen (given c) = number_of_kind c.kind
kind_seen (refused e) = 2

-- the kind taken from the first reading line
pub no_kind_by_the_first_line :
    ¬ ((s : List ℕ)
    → sheet_front full s
    (λ f.
    second_header f.place f.rest
    (λ k p ls. read_readings full (kind_of_first ls) p no_readings ls (λ r. given (range_contents (kind_of_first ls) f r))))
    ≡ read_either full s)
unfolding sheet_front read_either kind_of_first number_of_kind kind_seen
no_kind_by_the_first_line h =
    let n : ◌≡◌ {A = ℕ} 0 1 = ap kind_seen (h (ascii "mark,half\n1,1\n\nminute,inj,low,high\n")) in omega arith

-- the middles of ranges
abbrev middles : List ℕ → List ℕ → List ℕ
middles [] us = []
middles (l ∷ ls) [] = []
middles (l ∷ ls) (u ∷ us) = ((l + u) / 2) ∷ middles ls us

-- values rounded from the middle
pub no_value_of_the_middle :
    ¬ ((ts ls us : List ℕ) (z h : ℕ) → (range_estimate ts ls us z h).value.high ≡ (estimate ts (middles ls us) z h).value)
unfolding range_estimate estimate left_of right_of kernel distance weight_of sum_of value_of rounded
no_value_of_the_middle h = let n : ◌≡◌ {A = ℕ} 2 1 = h (0 ∷ []) (0 ∷ []) (2 ∷ []) 0 1 in omega arith

-- a list stored before a later line is refused
pub no_list_stored_before_a_refusal :
    ¬ (range_front
    (read_ranges full (ascii "mark,half\n1,1\n\nminute,inj,low,high\n5,3,0,1\n6,3,2,1\n") (replicate 1024 7) (replicate 1024 7) (replicate 1024 7)
    (replicate 512 7) (replicate 512 7))
    minutes_of (replicate 1024 7)
    ≡ 5 ∷ replicate 1023 7)
unfolding read_ranges read_either sheet_front
no_list_stored_before_a_refusal e = let n : ◌≡◌ {A = ℕ} 7 5 = ap (λ (r : List ℕ). get_or r 0 0) e in omega arith

-- the highs of a plain sheet left as they were
pub no_highs_unfilled :
    ¬ (range_front
    (read_ranges full (ascii "mark,half\n1,1\n\nminute,inj,vdk\n5,3,1\n") (replicate 1024 7) (replicate 1024 7) (replicate 1024 7) (replicate 512 7)
    (replicate 512 7))
    highs_of (replicate 1024 7)
    ≡ replicate 1024 7)
unfolding read_ranges read_either sheet_front
no_highs_unfilled e = let n : ◌≡◌ {A = ℕ} 1 7 = ap (λ (r : List ℕ). get_or r 0 0) e in omega arith

-- the reader of plain sheets taking ranges
pub no_ranges_for_the_first_reader :
    ¬ (read_sheet full (ascii "mark,half\n1,1\n\nminute,inj,low,high\n")
    ≡ given (record { minutes = []; values = []; points = 1 ∷ []; bandwidths = 1 ∷ [] }))
unfolding read_sheet
no_ranges_for_the_first_reader e = let z : ◌≡◌ {A = ℕ} 0 1 = cc in omega arith

-- a torn line behind a faultless one refused at the first line's place
pub no_place_of_the_first_line : ¬ EitherRefused full (ascii "mark,half\n1,1\n\nminute,inj,low,high\n3,3,0,5\n7,3,5\n") 3 35
unfolding read_either sheet_front
no_place_of_the_first_line r = let e = one_report full _ 3 35 3 43 r (read_is_refused_form full _ 3 43 refl) in omega (arith, e.1)

-- Wrong readers of another shape than the code, each shut out on a concrete sheet: what it would answer, or leave in a lent list, is not what
-- the meaning says.
use Prim.Native.Nat.{ℕ, zero, suc, ◌*◌, ◌≤◌}
use Rattle.meanings.specs.declared.Counts.{Counts}
use mathlib.Core.Path.{◌≡◌, refl, sym, ap, ◌∙◌}
use mathlib.Core.List.{List, [], ◌∷◌, ◌++◌, append-nil}
use native.Mathlib.Omega.{arith}
use lib.Dec.{eqb}
use lib.ListN.{length, get_or, replicate, length-append, length-replicate}
use Rattle.meanings.specs.Lists.{pick}
use Rattle.meanings.specs.Limits.{full}
use Rattle.meanings.specs.Sheet.{EvaluationPoint}
use Rattle.meanings.specs.Bytes.{ascii, carriage_return, feed}
use Rattle.meanings.specs.Reports.{Answer, Fault, given, refused}
use Rattle.meanings.specs.Sheet.{Contents, Outcome, refused_at, read_sheet}
use Rattle.meanings.specs.Output.{decimal, decimal_with}
use Rattle.meanings.specs.SheetForm.{Ended, without_endings, Each, Neighbours, PointForm, BandwidthRange, Follows, FitPoints}
use Rattle.meanings.specs.SheetForm.{PointFault, edge, Refused, faulty_point, point_head, print_point, print_points, print_front}
use Rattle.meanings.specs.Calls.{counts, read, read_minutes}
use Rattle.laws.proofs.sheet.Printed.{refused_only}

-- a fault reported each time
pub no_fault_each_time : ¬ ((s : List ℕ) → (f : Fault) × (read_sheet full s ≡ refused f))
unfolding read_sheet
no_fault_each_time h = let e = (h (ascii "mark,half\n1,1\n\nminute,inj,vdk\n")).1 in let z : ◌≡◌ {A = ℕ} 0 1 = cc in omega arith

-- how many readings an answer keeps; a report keeps none
keeps : Answer Counts → ℕ
keeps (given c) = c.samples
keeps (refused f) = 0

-- readings dropped after a gap in minutes instead of by inj
pub no_drop_by_gap : ¬ (counts (read_sheet full (ascii "mark,half\n1,1\n\nminute,inj,vdk\n1,3,5\n9000,3,6\n")) ≡ given (record { samples = 1; points = 1 }))
unfolding read_sheet keeps
no_drop_by_gap e = let n : ◌≡◌ {A = ℕ} 2 1 = ap keeps e in omega arith

-- a list written before a later line is refused
pub no_list_written_before_a_refusal :
    ¬ (read_minutes
    (read full (ascii "mark,half\n1,1\n\nminute,inj,vdk\n5,3,1\n4,3,1\n") (replicate 1024 7) (replicate 1024 7) (replicate 512 7) (replicate 512 7))
    (replicate 1024 7)
    ≡ 5 ∷ replicate 1023 7)
unfolding read read_sheet
no_list_written_before_a_refusal e = let n : ◌≡◌ {A = ℕ} 7 5 = ap (λ (r : List ℕ). get_or r 0 0) e in omega arith

-- an unused tail cleared
pub no_tail_cleared :
    ¬ (read_minutes
    (read full (ascii "mark,half\n1,1\n\nminute,inj,vdk\n5,3,1\n") (replicate 1024 7) (replicate 1024 7) (replicate 512 7) (replicate 512 7))
    (replicate 1024 7)
    ≡ 5 ∷ replicate 1023 0)
unfolding read read_sheet
no_tail_cleared e = let n : ◌≡◌ {A = ℕ} 7 0 = ap (λ (r : List ℕ). get_or r 1 0) e in omega arith

-- the place of a report; what is given has none
place_of : Outcome → ℕ
place_of (given c) = 0
place_of (refused f) = f.place

-- bytes without their carriage returns
abbrev pub without_returns : List ℕ → List ℕ
without_returns [] = []
without_returns (b ∷ s) = pick (eqb b carriage_return) (without_returns s) (b ∷ without_returns s)

-- every carriage return dropped
pub no_return_dropped : ¬ ((s : List ℕ) → read_sheet full s ≡ read_sheet full (without_returns s))
unfolding read_sheet
no_return_dropped h = let e = h (ascii "mark,half\n1\r,1\n\nminute,inj,vdk\n") in let z : ◌≡◌ {A = ℕ} 0 1 = cc in omega arith

-- all carriage returns before a line feed cut
pub no_second_return_cut : ¬ (read_sheet full (ascii "mark,half\n1,1\r\r\n\nminute,inj,vdk\n") ≡ read_sheet full (ascii "mark,half\n1,1\n\nminute,inj,vdk\n"))
unfolding read_sheet
no_second_return_cut e = let z : ◌≡◌ {A = ℕ} 0 1 = cc in omega arith

-- report 7 behind the carriage return of the empty line
pub no_place_behind_the_return : ¬ (read_sheet full (ascii "mark,half\r\n\r\n") ≡ refused_at 12 7)
unfolding read_sheet place_of
no_place_behind_the_return e = let n : ◌≡◌ {A = ℕ} 11 12 = ap place_of e in omega arith

-- a carriage return at the sheet's end taken for a line ending: for the empty line, and for that of a reading
pub no_empty_line_of_a_return : ¬ (read_sheet full (ascii "mark,half\r\n0,1\r\n\r") ≡ refused_at 17 2)
unfolding read_sheet place_of
no_empty_line_of_a_return e = let n : ◌≡◌ {A = ℕ} 16 17 = ap place_of e in omega arith

pub no_sheet_ends_in_a_return : (c : Contents) → ¬ (read_sheet full (ascii "mark,half\r\n0,1\r\n\r\nminute,inj,vdk\r\n5,3,9\r") ≡ given c)
unfolding read_sheet
no_sheet_ends_in_a_return c e = let z : ◌≡◌ {A = ℕ} 0 1 = cc in omega arith

-- the ending known in lines of values alone, and refused in a header line or in the empty line
pub no_names_line_refused_for_its_return : (f : Fault) → ¬ (read_sheet full (ascii "mark,half\r\n0,1\n\nminute,inj,vdk\r\n5,3,9\n") ≡ refused f)
unfolding read_sheet
no_names_line_refused_for_its_return f e = let z : ◌≡◌ {A = ℕ} 0 1 = cc in omega arith

pub no_empty_line_refused_for_its_return : (f : Fault) → ¬ (read_sheet full (ascii "mark,half\n0,1\n\r\nminute,inj,vdk\n5,3,9\n") ≡ refused f)
unfolding read_sheet
no_empty_line_refused_for_its_return f e = let z : ◌≡◌ {A = ℕ} 0 1 = cc in omega arith

-- a carriage return alone taken for a line ending
pub no_line_ends_in_a_return : (c : Contents) → ¬ (read_sheet full (ascii "mark,half\r0,1\r\rminute,inj,vdk\r5,3,9\r") ≡ given c)
unfolding read_sheet
no_line_ends_in_a_return c e = let z : ◌≡◌ {A = ℕ} 0 1 = cc in omega arith

-- the number of a report
number_of : {n m p q : ℕ} → ◌≡◌ {A = Outcome} (refused (record { number = n; place = p })) (refused (record { number = m; place = q })) → n ≡ m
number_of {n} {m} {p} {q} e =
    let f : ◌≡◌ {A = Fault} (record { number = n; place = p }) (record { number = m; place = q }) = cc in ap (λ (f : Fault). f.number) f

-- 512 equal marks, and one more whose left edge falls: one too many, and an edge back
pub same_mark : EvaluationPoint
same_mark = record { point = 3; bandwidth = 2 }

pub last_mark : EvaluationPoint
last_mark = record { point = 4; bandwidth = 4 }

-- their lines
pub same_line : Ended EvaluationPoint
same_line = record { content = same_mark; ending = feed }

pub last_line : Ended EvaluationPoint
last_line = record { content = last_mark; ending = feed }

same_lines_say : (n : ℕ) → without_endings (replicate n same_line) ≡ replicate n same_mark
unfolding same_line
same_lines_say zero = refl
same_lines_say (suc n) = ap (λ (r : List EvaluationPoint). same_mark ∷ r) (same_lines_say n)

each_same : {A : Type 0} (P : A → Type 0) (a : A) → P a → (n : ℕ) → Each P (replicate n a)
each_same P a p zero = tt
each_same P a p (suc n) = (p, each_same P a p n)

neighbours_same : {A : Type 0} (R : A → A → Type 0) (a : A) → R a a → (n : ℕ) → Neighbours R (replicate n a)
neighbours_same R a r zero = tt
neighbours_same R a r (suc zero) = tt
neighbours_same R a r (suc (suc n)) = (r, neighbours_same R a r (suc n))

neighbours_then : {A : Type 0} (R : A → A → Type 0) (a b : A) → R a a → R a b → (n : ℕ) → Neighbours R (replicate n a ++ b ∷ [])
neighbours_then R a b r q zero = tt
neighbours_then R a b r q (suc zero) = (q, tt)
neighbours_then R a b r q (suc (suc n)) = (r, neighbours_then R a b r q (suc n))

last_neighbours : {A : Type 0} (R : A → A → Type 0) (a b : A) (n : ℕ) → Neighbours R (replicate (suc n) a ++ b ∷ []) → R a b
last_neighbours R a b zero h = h.0
last_neighbours R a b (suc n) h = last_neighbours R a b n h.1

same_lines_length : (n : ℕ) → length (print_points (replicate n same_line)) ≡ n * 4
unfolding same_mark same_line decimal decimal_with
same_lines_length zero = refl
same_lines_length (suc n) = let e = same_lines_length n in omega arith

same_lines_fit : (n : ℕ) → n ≤ 512 → FitPoints full (without_endings (replicate n same_line))
unfolding same_mark
same_lines_fit n l =
    rw (same_lines_say n)
    (record {
      forms = each_same PointForm same_mark (record { point_range = omega arith; bandwidth_digits = omega arith }) n;
      ranges = each_same BandwidthRange same_mark (record { low = omega arith; high = omega arith }) n;
      order = neighbours_same Follows same_mark (record { point_order = omega arith; left_edge = omega arith; right_edge = omega arith }) n;
      few = let e = length-replicate n same_mark in omega arith;
    })

last_line_falls : (n : ℕ) → PointFault full (without_endings (replicate (suc n) same_line)) last_mark 10
unfolding same_mark last_mark
last_line_falls n =
    rw (same_lines_say (suc n))
    (edge (neighbours_then (λ (a b : EvaluationPoint). a.point ≤ b.point) same_mark last_mark (omega arith) (omega arith) (suc n))
    (record { low = omega arith; high = omega arith })
    (λ f. let g = last_neighbours Follows same_mark last_mark n f in omega arith))

last_line_short : length (print_point last_line) ≤ 10
unfolding last_mark last_line decimal decimal_with
last_line_short = omega arith

pub one_too_many_and_back : List ℕ
one_too_many_and_back = print_front feed (replicate 512 same_line) ++ print_point last_line

-- report 6 looked at before report 10
pub six_not_before_ten : (p : ℕ) → ¬ (read_sheet full one_too_many_and_back ≡ refused (record { number = 6; place = p }))
unfolding same_mark last_mark last_line one_too_many_and_back
six_not_before_ten p e =
    let a = same_lines_length 512 in
    let b = length-append (print_front feed (replicate 512 same_line)) (print_point last_line) in
    let c = length-append (point_head feed) (print_points (replicate 512 same_line)) in
    let d = last_line_short in
    let r : Refused full one_too_many_and_back 10 (length (print_front feed (replicate 512 same_line))) =
    faulty_point (omega arith) feed (replicate 512 same_line) (same_lines_fit 512 (omega arith)) last_line
    (record { point_range = omega arith; bandwidth_digits = omega arith }) ([], sym (append-nil one_too_many_and_back)) (last_line_falls 511) in
    let f = sym (refused_only full one_too_many_and_back 10 _ r) ∙ e in
    let n : ◌≡◌ {A = ℕ} 10 6 = number_of f in
    omega arith

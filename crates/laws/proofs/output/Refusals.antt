-- A refused sheet's report is at most 13, and its place is at most 32,768: it lies in the sheet or at its end, or the sheet is too long. So
-- its text has at most 23 bytes, and that of any two numbers of 64 bits at most 56.
use Prim.Native.Nat.{ℕ, ◌^◌, ◌≤◌, ◌<◌}
use mathlib.Core.Path.{◌≡◌, ap}
use mathlib.Core.List.{List, ◌∷◌, ◌++◌}
use native.Mathlib.Omega.{arith}
use lib.ListN.{length, length-append}
use Rattle.meanings.specs.declared.Limits.{Limits}
use Rattle.meanings.specs.Limits.{full, max_sheet}
use Rattle.meanings.specs.Bytes.{ending_bytes}
use Rattle.meanings.specs.Sheet.{EvaluationPoint}
use Rattle.meanings.specs.Reports.{Fault, refused}
use Rattle.meanings.specs.Sheet.{Injection, read_sheet}
use Rattle.meanings.specs.SheetForm.{without_endings, print_point, print_sample, point_head, print_front, empty_front, print_sheet}
use Rattle.meanings.specs.SheetForm.{PointFault, SampleFault, Refused, too_long, no_point_header, no_empty_line}
use Rattle.meanings.specs.SheetForm.{malformed_point, faulty_point, no_point, no_sample_header, malformed_sample, faulty_sample}
use Rattle.meanings.specs.Output.{refusal_text}
use Rattle.laws.proofs.text.Numbers.{decimal_length}
use Rattle.laws.proofs.sheet.Outcomes.{refused_is_refused}

pub record SmallFault (n p : ℕ) : Type 0 where
  pub number_small : n ≤ 13
  pub place_small : p ≤ max_sheet

point_fault_small : (L : Limits) (ms : List EvaluationPoint) (m : EvaluationPoint) (r : ℕ) → PointFault L ms m r → r ≤ 13
point_fault_small L ms m r (PointFault.out_of_order before m₀ e l) = omega arith
point_fault_small L ms m r (PointFault.bandwidth n b) = omega arith
point_fault_small L ms m r (PointFault.edge n b e) = omega arith
point_fault_small L ms m r (PointFault.too_many n b l) = omega arith

sample_fault_small : (L : Limits) (js : List Injection) (j : Injection) (r : ℕ) → SampleFault L js j r → r ≤ 13
sample_fault_small L js j r (SampleFault.out_of_order before j₀ e l) = omega arith
sample_fault_small L js j r (SampleFault.too_many n b l) = omega arith

-- a front of a sheet is not longer than it
front_small : (s front rest : List ℕ) → length s ≤ max_sheet → s ≡ front ++ rest → length front ≤ max_sheet
front_small s front rest l e = omega (arith, ap length e, length-append front rest)

fault_small : (L : Limits) (s : List ℕ) (n p : ℕ) → Refused L s n p → SmallFault n p
fault_small L s n p (too_long l) = omega arith
fault_small L s n p (no_point_header l w) = omega arith
fault_small L s n p (no_empty_line l e ms f q) = omega arith
fault_small L s n p (malformed_point l e ms f b rest q c w) =
    record { number_small = omega arith; place_small = front_small s (print_front e ms) (b ∷ rest) l q }
fault_small L s n p (faulty_point l e ms f m k b x) =
    let q = front_small s (print_front e ms ++ print_point m) b.0 l b.1 in
    record {
      number_small = point_fault_small L (without_endings ms) m.content n x;
      place_small = omega (arith, length-append (print_front e ms) (print_point m));
    }
fault_small L s n p (no_point l e d b) =
    let q = front_small s (point_head e ++ ending_bytes d) b.0 l b.1 in
    record { number_small = omega arith; place_small = omega (arith, length-append (point_head e) (ending_bytes d)) }
fault_small L s n p (no_sample_header l e ms f o d rest q w) =
    record { number_small = omega arith; place_small = front_small s (empty_front e ms d) rest l q }
fault_small L s n p (malformed_sample l e ms fit o d f js g b rest q w) =
    record { number_small = omega arith; place_small = front_small s (print_sheet e ms d f js) (b ∷ rest) l q }
fault_small L s n p (faulty_sample l e ms fit o d f js g j k b x) =
    let q = front_small s (print_sheet e ms d f js ++ print_sample j) b.0 l b.1 in
    record {
      number_small = sample_fault_small L (without_endings js) j.content n x;
      place_small = omega (arith, length-append (print_sheet e ms d f js) (print_sample j));
    }

pub refusal_small : (L : Limits) (s : List ℕ) (e : Fault) → read_sheet L s ≡ refused e → SmallFault e.number e.place
refusal_small L s e q = fault_small L s e.number e.place (refused_is_refused L s e.number e.place q)

pub refusal_text_fits : (s : List ℕ) (e : Fault) → read_sheet full s ≡ refused e → length (refusal_text e) ≤ 23
unfolding refusal_text
refusal_text_fits s e q =
    let f = refusal_small full s e q in
    let n = decimal_length e.number 1 (omega arith) in
    let p = decimal_length e.place 4 (omega arith) in
    simp length-append (omega arith)

pub any_refusal_fits : (n p : ℕ) → n < 2 ^ 64 → p < 2 ^ 64 → length (refusal_text (record { number = n; place = p })) ≤ 56
unfolding refusal_text
any_refusal_fits n p l m =
    let a = decimal_length n 19 (omega arith) in
    let b = decimal_length p 19 (omega arith) in
    simp length-append (omega arith)

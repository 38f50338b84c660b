-- A text is refused as its sheet is, or at 0, and has at most max_output bytes, that of a refusal at most 56. So no answer overflows.
use Prim.Native.Nat.{ℕ, ◌^◌, ◌≤◌, ◌<◌}
use Rattle.std.specs.Prelude.{Result, Ok}
use Rattle.meanings.specs.declared.Refusal.{Refusal}
use Rattle.meanings.specs.Calls.{answer_of}
use mathlib.Core.Path.{◌≡◌, refl, sym, ap, ◌∙◌}
use mathlib.Core.List.{List}
use Rattle.std.specs.Prelude.{Option, None, Some}
use native.Mathlib.Omega.{arith}
use lib.ListN.{length}
use Rattle.meanings.specs.Limits.{full, max_sheet, max_output}
use Rattle.meanings.specs.Reports.{Fault, Answer, given, refused, differ, buffer_checks}
use Rattle.meanings.specs.Sheet.{or_next}
use Rattle.meanings.specs.Output.{refusal_text}
use Rattle.meanings.specs.Calls.{buffer_refusal, write_refusal_text}
use Rattle.meanings.proofs.Checks.{given_accepted}
use Rattle.laws.proofs.output.Refusals.{any_refusal_fits}
use Rattle.meanings.specs.ranges.RangeSheet.{RangeContents, read_either}
use Rattle.meanings.specs.ranges.RangeOutput.{contents_text, either_text, either_program, text_size, write_either}
use Rattle.laws.proofs.ranges.RangePlaces.{either_refusal_small}
use Rattle.laws.proofs.ranges.RangeText.{either_program_fits}
use Rattle.exports.proofs.AnswersPlaces.{each_refusal_small, refusal_place, fault_small, answer_small, at_start}

sheet_place : (s : List ℕ) → refusal_place (read_either full s) ≤ max_sheet
sheet_place s = each_refusal_small (read_either full s) (λ f e. (either_refusal_small full s f e).place_small)

text_place : (o : Answer RangeContents) → refusal_place o ≤ max_sheet → refusal_place (text_size o) ≤ max_sheet
text_place (given c) l = l
text_place (refused e) l = l

pub write_place : (s out : List ℕ) → refusal_place (write_either s out) ≤ max_sheet
unfolding write_either
write_place s out = by (buffer_refusal out) refl
  where
    by : (f : Option Fault) → buffer_refusal out ≡ f → refusal_place (text_size (or_next f (read_either full s))) ≤ max_sheet
    by None q = text_place (read_either full s) (sheet_place s)
    by (Some e) q = fault_small (buffer_checks (length out)) (at_start (differ (length out) max_output), λ even. tt) e q

pub refusal_text_place : (n p : ℕ) (out : List ℕ) → refusal_place (write_refusal_text n p out) ≤ max_sheet
unfolding write_refusal_text
refusal_text_place n p out =
    answer_small (buffer_checks (length out)) (length (refusal_text (record { number = n; place = p }))) (
      at_start (differ (length out) max_output),
      λ even. tt,
    )

-- a curve is what the program writes
program_of : (s : List ℕ) (c : RangeContents) → read_either full s ≡ given c → length (either_program s) ≡ length (contents_text c)
unfolding either_program
program_of s c r = ap (λ (o : Answer RangeContents). length (either_text o)) r

pub size_small : (s out : List ℕ) (n : ℕ) → write_either s out ≡ given n → n ≤ max_output
unfolding write_either
size_small s out n q = by (buffer_refusal out) (read_either full s) refl q
  where
    by : (f : Option Fault) (o : Answer RangeContents) → read_either full s ≡ o → text_size (or_next f o) ≡ given n → n ≤ max_output
    by None (given c) r q = let e : length (contents_text c) ≡ n = cc in omega (arith, e, program_of s c r, either_program_fits s)
    by None (refused e) r q = let z : ◌≡◌ {A = ℕ} 0 1 = cc in absurd (omega arith)
    by (Some e) o r q = let z : ◌≡◌ {A = ℕ} 0 1 = cc in absurd (omega arith)

pub refusal_size_small : (n p : ℕ) (out : List ℕ) (k : ℕ) → n < 2 ^ 64 → p < 2 ^ 64 → write_refusal_text n p out ≡ given k → k ≤ 56
unfolding write_refusal_text
refusal_size_small n p out k l m q =
    let a = given_accepted (buffer_refusal out) (length (refusal_text (record { number = n; place = p }))) k q in
    omega (arith, a.1, any_refusal_fits n p l m)

pub text_small : (s out : List ℕ) (r : Result ℕ Refusal) (n : ℕ) → answer_of r ≡ write_either s out → r ≡ Ok n → n ≤ max_output
text_small s out r n answer met = size_small s out n (sym answer ∙ ap answer_of met)

pub refusal_size : (n p : ℕ) (out : List ℕ) (r : Result ℕ Refusal) (k : ℕ) → answer_of r ≡ write_refusal_text n p out → r ≡ Ok k
    → n < 2 ^ 64 → p < 2 ^ 64 → k ≤ 56
refusal_size n p out r k answer met l m = refusal_size_small n p out k l m (sym answer ∙ ap answer_of met)

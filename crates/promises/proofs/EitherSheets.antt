-- A sheet of either kind: the reader's meaning refuses it exactly as its form says, behind whatever is looked at first; what is written of it depends on
-- its first 32,769 bytes alone; and where the second header line is not that of ranges, everything is as for plain sheets.
use Prim.Native.Nat.{ℕ, ◌<◌}
use mathlib.Core.Path.{◌≡◌, refl, sym, ap, ◌∙◌}
use mathlib.Core.Logic.{◌⊎◌, inl, inr}
use mathlib.Core.Bool.{Bool, true, false}
use mathlib.Core.List.{List}
use Rattle.std.specs.Prelude.{Option, None, Some}
use native.Mathlib.Omega.{arith}
use borrow.Author.Tests.{ltb-true, ltb-false, lt-ltb}
use lib.Dec.{ltb}
use lib.ListN.{length, take}
use lib.Seq.{length-take-le, take_all}
use Rattle.meanings.specs.Limits.{full, max_sheet}
use Rattle.meanings.specs.Reports.{Fault, Answer, given, refused, Check, first_of}
use Rattle.meanings.specs.Claim.{refusal}
use Rattle.meanings.specs.Sheet.{Outcome, refused_at, or_next, read_sheet}
use Rattle.meanings.specs.Output.{curve_text, program}
use Rattle.meanings.specs.Calls.{buffer_refusal, curve_size, filled_front, write, write_buffer}
use Rattle.meanings.proofs.Codes.{Numbered}
use Rattle.meanings.specs.ranges.RangeSheet.{RangeInjection, RangeContents, sheet_front, read_either}
use Rattle.meanings.specs.ranges.EitherKind.{doubled}
use Rattle.meanings.specs.ranges.RangeOutput.{either_text, either_program, text_size, text_front, write_either, write_either_buffer}
use Rattle.laws.proofs.ranges.RangeText.{plain_text_stays}
use Rattle.laws.specs.ranges.RangeForm.{NamesRanges, RangeFault, out_of_order, crossed, too_many, RangeRefused, malformed_range, faulty_range}
use Rattle.laws.specs.ranges.RangeForm.{EitherRefused, as_plain, for_a_range}
use Rattle.laws.proofs.ranges.EitherForms.{of_ranges_or_plain, read_is_form, read_is_refused_form, never_both, one_report}
use Rattle.promises.specs.conditions.Conditions.{Conditions, FirstOrElse, RefusedExactly}
use Rattle.promises.proofs.conditions.FirstFaults.{FindAll, first_found, none_found, one_first, none_or_first, exactly}
use Rattle.promises.proofs.conditions.Refusals.{numbered, first_numbered, sheet_numbered}

module _ {ks : List Check} {cs : Conditions} (finds : FindAll ks cs) (s : List ℕ) where
  pub either_exactly : RefusedExactly (refusal (or_next (first_of ks) (read_either full s))) (FirstOrElse cs (EitherRefused full s))
  either_exactly =
      exactly _ (FirstOrElse cs (EitherRefused full s)) (found (first_of ks) refl (read_either full s) refl)
      (absent (first_of ks) refl (read_either full s) refl) one
    where
      found : (f : Option Fault) → first_of ks ≡ f → (o : Answer RangeContents) → read_either full s ≡ o → (n p : ℕ)
          → refusal (or_next f o) ≡ Some (record { number = n; place = p }) → FirstOrElse cs (EitherRefused full s) n p
      found None q (given c) r n p e = let z : ◌≡◌ {A = ℕ} 0 1 = cc in absurd (omega arith)
      found None q (refused g) r n p e =
          let same : g ≡ record { number = n; place = p } = cc in
          inr (none_found ks cs finds.each q, read_is_refused_form full s n p (r ∙ ap refused same))
      found (Some g) q o r n p e = inl (first_found ks cs finds.each n p (q ∙ e))

      absent : (f : Option Fault) → first_of ks ≡ f → (o : Answer RangeContents) → read_either full s ≡ o → refusal (or_next f o) ≡ None → (n p : ℕ)
          → ¬ FirstOrElse cs (EitherRefused full s) n p
      absent None q (given c) r e n p (inl a) = none_or_first cs n p (none_found ks cs finds.each q) a
      absent None q (given c) r e n p (inr b) = never_both full s c n p (read_is_form full s c r) b.1
      absent None q (refused g) r e n p a = let z : ◌≡◌ {A = ℕ} 0 1 = cc in omega arith
      absent (Some g) q o r e n p a = let z : ◌≡◌ {A = ℕ} 0 1 = cc in omega arith

      one : (n p m q : ℕ) → FirstOrElse cs (EitherRefused full s) n p → FirstOrElse cs (EitherRefused full s) m q → (n ≡ m) × (p ≡ q)
      one n p m q (inl a) (inl b) = one_first cs n p m q a b
      one n p m q (inl a) (inr b) = absurd (none_or_first cs n p b.0 a)
      one n p m q (inr a) (inl b) = absurd (none_or_first cs m q a.0 b)
      one n p m q (inr a) (inr b) = one_report full s n p m q a.1 b.1

-- its report is a number from 1 to 255
fault_numbered : {js : List RangeInjection} {j : RangeInjection} (n : ℕ) → RangeFault full js j n → Numbered n
fault_numbered n (out_of_order before j₀ e l) = (omega arith, omega arith)
fault_numbered n (crossed o l) = (omega arith, omega arith)
fault_numbered n (too_many o u l m) = (omega arith, omega arith)

range_numbered : (s : List ℕ) (names : NamesRanges full s) (n p : ℕ) → RangeRefused full s names n p → Numbered n
range_numbered s names n p (malformed_range js f b rest e w) = (omega arith, omega arith)
range_numbered s names n p (faulty_range js f j g b x) = fault_numbered n x

either_numbered : (s : List ℕ) (n p : ℕ) → EitherRefused full s n p → Numbered n
either_numbered s n p (as_plain m q w r) = sheet_numbered s n p r
either_numbered s n p (for_a_range m q names r) = range_numbered s names n p r

pub first_or_either_numbered : (cs : Conditions) → numbered cs ≡ true → (s : List ℕ) (n p : ℕ) → FirstOrElse cs (EitherRefused full s) n p → Numbered n
first_or_either_numbered cs a s n p (inl f) = first_numbered cs a n p f
first_or_either_numbered cs a s n p (inr f) = either_numbered s n p f.1

-- a text's size and its buffer at exit go by the outcome
pub text_refusal : (o : Answer RangeContents) → refusal (text_size o) ≡ refusal o
text_refusal (given c) = refl
text_refusal (refused e) = refl

pub text_stays : (o : Answer RangeContents) (out : List ℕ) (e : Fault) → refusal o ≡ Some e → text_front o out ≡ out
text_stays (given c) out e q = let z : ◌≡◌ {A = ℕ} 0 1 = cc in absurd (omega arith)
text_stays (refused f) out e q = refl

-- one byte more than a sheet may have decides
long_sheet_refused : (s : List ℕ) → max_sheet < length s → read_either full s ≡ refused_at max_sheet 1
unfolding read_either sheet_front
long_sheet_refused s l = rw (lt-ltb max_sheet (length s) l)

read_front : (s : List ℕ) → read_either full s ≡ read_either full (take 32769 s)
read_front s = by (ltb 32769 (length s)) refl
  where
    by : (b : Bool) → ltb 32769 (length s) ≡ b → read_either full s ≡ read_either full (take 32769 s)
    by true e =
        let l = ltb-true 32769 (length s) e in
        let n = length-take-le 32769 s (omega arith) in
        long_sheet_refused s (omega arith) ∙ sym (long_sheet_refused (take 32769 s) (omega arith))
    by false e = ap (read_either full) (sym (take_all 32769 s (ltb-false 32769 (length s) e)))

pub either_program_front : (s : List ℕ) → either_program s ≡ either_program (take 32769 s)
unfolding either_program
either_program_front s = ap either_text (read_front s)

-- no sheet of ranges
module _ (s : List ℕ) (none_named : ¬ NamesRanges full s) where
  plain_read : read_either full s ≡ doubled (read_sheet full s)
  plain_read = by (of_ranges_or_plain full s)
    where
      by : NamesRanges full s ⊎ (¬ NamesRanges full s × (read_either full s ≡ doubled (read_sheet full s))) → read_either full s ≡ doubled (read_sheet full s)
      by (inl n) = absurd (none_named n)
      by (inr e) = e.1

  pub plain_program : either_program s ≡ program s
  plain_program = plain_text_stays s plain_read

  pub plain_write : (out : List ℕ) → write_either s out ≡ write s out
  unfolding write_either write
  plain_write out = rw plain_read (by (buffer_refusal out) (read_sheet full s))
    where
      by : (f : Option Fault) (o : Outcome) → text_size (or_next f (doubled o)) ≡ curve_size (or_next f o)
      by None (given c) = refl
      by None (refused e) = refl
      by (Some e) o = refl

  pub plain_buffer : (out : List ℕ) → write_either_buffer s out ≡ write_buffer s out
  unfolding write_either_buffer write_buffer
  plain_buffer out = rw plain_read (by (buffer_refusal out) (read_sheet full s))
    where
      by : (f : Option Fault) (o : Outcome) → text_front (or_next f (doubled o)) out ≡ filled_front (or_next f o) curve_text out
      by None (given c) = refl
      by None (refused e) = refl
      by (Some e) o = refl

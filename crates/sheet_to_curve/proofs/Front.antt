-- What is written for a sheet depends on its first 32,769 bytes alone, and those are what is read of it.
use Prim.Native.Nat.{ℕ, ◌<◌, ◌≤◌, ◌+◌}
use mathlib.Core.Path.{◌≡◌, refl, sym, ap, ◌∙◌}
use mathlib.Core.Bool.{Bool, true, false}
use mathlib.Core.List.{List, ◌++◌}
use native.Mathlib.Omega.{arith}
use borrow.Author.Tests.{ltb-true, ltb-false, lt-ltb}
use lib.Dec.{ltb}
use lib.ListN.{length, take}
use lib.Seq.{length-take-le, take_all, take-append-le}
use Rattle.std.proofs.Common.{append-nil, drop, drop_of_length-le, drop_at, take_at, subst}
use Rattle.std.specs.Prelude.{[], Option, None, Some, IfSome}
use Rattle.meanings.specs.Limits.{full, max_sheet}
use Rattle.meanings.specs.Sheet.{refused_at}
use Rattle.meanings.specs.ranges.RangeSheet.{sheet_front, read_either}
use Rattle.meanings.specs.ranges.RangeOutput.{either_text, either_program}
use Rattle.std.specs.Io.KnownBytes.{Consumes, IsAtEnd}
use Rattle.sheet_to_curve.specs.Ends.{Event, ReadWhole}
use Rattle.sheet_to_curve.specs.Run.{ReadFront}

-- one byte more than a sheet may have decides
overlong_refused : (s : List ℕ) → max_sheet < length s → read_either full s ≡ refused_at max_sheet 1
unfolding read_either sheet_front
overlong_refused s l = rw (lt-ltb max_sheet (length s) l)

read_front : (s : List ℕ) → read_either full s ≡ read_either full (take (max_sheet + 1) s)
read_front s = by (ltb (max_sheet + 1) (length s)) refl
  where
    by : (b : Bool) → ltb (max_sheet + 1) (length s) ≡ b → read_either full s ≡ read_either full (take (max_sheet + 1) s)
    by true e =
        let l = ltb-true (max_sheet + 1) (length s) e in
        let n = length-take-le (max_sheet + 1) s (omega arith) in
        overlong_refused s (omega arith) ∙ sym (overlong_refused (take (max_sheet + 1) s) (omega arith))
    by false e = ap (read_either full) (sym (take_all (max_sheet + 1) s (ltb-false (max_sheet + 1) (length s) e)))

pub program_front : (s : List ℕ) → either_program s ≡ either_program (take (max_sheet + 1) s)
unfolding either_program
program_front s = ap either_text (read_front s)

-- what is read of a sheet is its front, and all of it if it ends before
known_sheet : (sheet got rest : List ℕ) → sheet ≡ got ++ rest → length got ≤ max_sheet + 1 → (length got < max_sheet + 1 → rest ≡ [])
    → (got ≡ take (max_sheet + 1) sheet) × (rest ≡ drop (max_sheet + 1) sheet)
known_sheet sheet got rest split within ended = by (ltb (length got) (max_sheet + 1)) refl
  where
    by : (b : Bool) → ltb (length got) (max_sheet + 1) ≡ b → (got ≡ take (max_sheet + 1) sheet) × (rest ≡ drop (max_sheet + 1) sheet)
    by true e =
        let short = ltb-true (length got) (max_sheet + 1) e in
        let none = ended short in
        let all : sheet ≡ got = split ∙ ap (λ l. got ++ l) none ∙ append-nil got in
        let size : length sheet ≤ max_sheet + 1 = omega (arith, ap length all) in
        (sym (take_all (max_sheet + 1) sheet size ∙ all), none ∙ sym (drop_of_length-le sheet size))
    by false e =
        let full_front : length got ≡ max_sheet + 1 = omega (arith, ltb-false (length got) (max_sheet + 1) e) in (
          sym (ap (take (max_sheet + 1)) split ∙ take_at got rest (max_sheet + 1) full_front),
          sym (ap (drop (max_sheet + 1)) split ∙ drop_at got rest (max_sheet + 1) full_front),
        )

-- What is read of a reader whose bytes are known tells what is written for them, and what it has left.
pub read_is_front : (P : List ℕ → Option (List ℕ) → Type 0) (input input' : Option (List ℕ)) (log log' : Option (List Event)) (got : List ℕ)
    → ReadFront input input' log log' got
    → P (either_program got) input' → IfSome input (λ sheet. P (either_program sheet) (Some (drop (max_sheet + 1) sheet)))
read_is_front P None input' log log' got front holds = tt
read_is_front P (Some sheet) None log log' got front holds = absurd front.bytes
read_is_front P (Some sheet) (Some rest) log log' got front holds =
    let parts = known_sheet sheet got rest front.bytes front.within front.end in
    subst (λ l. P (either_program sheet) (Some l)) parts.1
    (subst (λ text. P text (Some rest)) (ap either_program parts.0 ∙ sym (program_front sheet)) holds)

-- the text that lies in the buffer is that of what was read into its front
pub text_is : (P : List ℕ → Type 0) (size : ℕ) (part rest text : List ℕ) → size ≤ length part → text ≡ either_program (take size (part ++ rest))
    → P text → P (either_program (take size part))
text_is P size part rest text within is holds = subst P (is ∙ ap either_program (take-append-le size part rest within)) holds

-- what was read into a buffer of 32,769 bytes
pub front_of : (input input' : Option (List ℕ)) (log log' : Option (List Event)) (size : ℕ) (buf : List ℕ) → length buf ≡ max_sheet + 1 → size ≤ length buf
    → Consumes input input' (take size buf) → (size < length buf → IsAtEnd input') → ReadWhole log log' (take size buf) (length buf)
    → ReadFront input input' log log' (take size buf)
front_of input input' log log' size buf room within bytes end reads =
    let n = length-take-le size buf within in
    record {
      within = omega arith;
      bytes = bytes;
      end = λ short. end (omega arith);
      reads = subst (ReadWhole log log' (take size buf)) room reads;
    }

-- a fact that asks nothing holds of any bytes
pub of_any : (P : List ℕ → Type 0) (known : Option (List ℕ)) → ((bytes : List ℕ) → P bytes) → IfSome known P
of_any P None holds = tt
of_any P (Some bytes) holds = holds bytes

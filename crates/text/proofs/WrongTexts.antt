-- Wrong programs of another shape: on the empty sheet, which is refused, one that has stored in the buffer before it knows; one that writes a leading
-- zero, which in the code's shape has no room; and one that stores behind its text.
use Prim.Native.Nat.{ℕ}
use mathlib.Core.Path.{◌≡◌, sym, ap, ◌∙◌}
use mathlib.Core.List.{List, [], ◌∷◌}
use native.Mathlib.Omega.{arith}
use lib.ListN.{length, get_or}
use Rattle.meanings.specs.Limits.{max_output}
use Rattle.meanings.proofs.Checks.{differ_same}
use Rattle.meanings.specs.Output.{decimal, decimal_with}
use Rattle.meanings.specs.ranges.RangeSheet.{sheet_front, read_either}
use Rattle.meanings.specs.ranges.RangeOutput.{write_either_buffer}
use Rattle.text.specs.Written.{written}

pub stored_before_a_refusal : (b x : ℕ) (rest : List ℕ) → length (b ∷ rest) ≡ max_output → ¬ (b ≡ x)
    → ¬ (x ∷ rest ≡ write_either_buffer [] (b ∷ rest))
unfolding write_either_buffer read_either sheet_front
stored_before_a_refusal b x rest right other e =
    let stays : x ∷ rest ≡ b ∷ rest = e ∙ rw (differ_same (length (b ∷ rest)) max_output right) in
    other (sym (ap (λ (ys : List ℕ). get_or ys 0 0) stays))

-- 7 as 07
pub no_leading_zero : ¬ (decimal 7 ≡ 48 ∷ 55 ∷ [])
unfolding decimal decimal_with
no_leading_zero e = let n : ◌≡◌ {A = ℕ} 1 2 = ap length e in omega arith

-- a 0 behind the text of one byte
pub no_byte_behind_the_text : ¬ (5 ∷ 0 ∷ 9 ∷ [] ≡ written (7 ∷ 8 ∷ 9 ∷ []) (5 ∷ []))
unfolding written
no_byte_behind_the_text e = let n : ◌≡◌ {A = ℕ} 0 8 = ap (λ (ys : List ℕ). get_or ys 1 0) e in omega arith

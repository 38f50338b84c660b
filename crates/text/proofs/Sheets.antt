-- A sheet at the front of a buffer, by its size.
use Prim.Native.Nat.{ℕ, ◌<◌}
use mathlib.Core.Path.{◌≡◌, sym, ◌∙◌}
use mathlib.Core.List.{List}
use native.Mathlib.Omega.{arith}
use lib.ListN.{length, take}
use lib.Seq.{take_all}
use Rattle.std.specs.Prelude.{Result}
use Rattle.meanings.specs.declared.Refusal.{Refusal}
use Rattle.meanings.specs.Limits.{max_output}
use Rattle.meanings.specs.Calls.{answer_of}
use Rattle.meanings.specs.ranges.RangeOutput.{write_either, write_either_buffer}
use Rattle.text.specs.SheetText.{SheetWritten}

-- a buffer that is a sheet whole, by its length and by any greater number
pub all_of_it : (out : List ℕ) (n : ℕ) → length out ≡ max_output → max_output < n → take n out ≡ take max_output out
all_of_it out n right over = take_all n out (omega (arith, right, over)) ∙ sym (take_all max_output out (omega (arith, right)))

-- so what is answered and left by its length is so by any greater number
pub all_of_it_written : (out : List ℕ) (n : ℕ) (r : Result ℕ Refusal) (now : List ℕ) → length out ≡ max_output → max_output < n
    → SheetWritten (take max_output out) out r now
    → (answer_of r ≡ write_either (take n out) out) × (now ≡ write_either_buffer (take n out) out)
all_of_it_written out n r now right over w =
    let same : take n out ≡ take max_output out = all_of_it out n right over in
    (rw same w.size, rw same w.text)

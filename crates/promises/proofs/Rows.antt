-- Five numbers of a sweep's rows are a row: what stands at 5 k to 5 k + 4 is what the five numbers there are, one by one.
use Prim.Native.Nat.{ℕ, ◌+◌, ◌*◌, ◌<◌}
use mathlib.Core.Path.{◌≡◌, sym, ap, ◌∙◌}
use mathlib.Core.List.{List}
use native.Mathlib.Nat.{add-zero}
use native.Mathlib.Omega.{arith}
use lib.ListN.{get_or, take, drop}
use lib.Seq.{get_or-take, get_or-drop}
use Rattle.meanings.specs.declared.Estimate.{Estimate}
use Rattle.meanings.specs.Limits.{row_width}
use Rattle.meanings.specs.Estimate.{fields}
use Rattle.text.specs.Table.{stored_row}

five_at : (rs : List ℕ) (k : ℕ) (e : Estimate) → take row_width (drop (row_width * k) rs) ≡ fields e → (j : ℕ) → j < row_width
    → get_or rs (row_width * k + j) 0 ≡ get_or (fields e) j 0
five_at rs k e q j l =
    sym (get_or-take row_width (drop (row_width * k) rs) j 0 l ∙ get_or-drop (row_width * k) rs j 0) ∙ ap (λ (r : List ℕ). get_or r j 0) q

pub five_are_row : (rs : List ℕ) (k : ℕ) (e : Estimate) → take row_width (drop (row_width * k) rs) ≡ fields e → stored_row rs k ≡ e
five_are_row rs k e q = λ i. record {
  left = (ap (λ (n : ℕ). get_or rs n 0) (sym (add-zero (row_width * k))) ∙ five_at rs k e q 0 (omega arith)) i;
  right = five_at rs k e q 1 (omega arith) i;
  weight = five_at rs k e q 2 (omega arith) i;
  sum = five_at rs k e q 3 (omega arith) i;
  value = five_at rs k e q 4 (omega arith) i;
}

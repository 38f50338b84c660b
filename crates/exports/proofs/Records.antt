-- A list of a record's length is the record of its numbers, so the calls below are made on it.
use Prim.Native.Nat.{ℕ}
use mathlib.Core.Path.{◌≡◌, refl, sym, ap, ◌∙◌}
use mathlib.Core.List.{List}
use lib.ListN.{length}
use Rattle.meanings.specs.declared.Estimate.{Estimate}
use Rattle.meanings.specs.declared.RunningSums.{RunningSums}
use Rattle.meanings.specs.Limits.{row_width}
use Rattle.meanings.specs.Reports.{Answer, given}
use Rattle.meanings.specs.Estimate.{fields}
use Rattle.meanings.specs.Running.{record_row}
use Rattle.meanings.specs.Codes.{answered, no_detail}
use Rattle.exports.specs.Answers.{sized, stored, replaced, record_length, record_of, record_in}
use Rattle.exports.proofs.Answered.{both_sizes, same_length_replaced}
use Rattle.exports.proofs.Stores.{record_of_length}

-- the row of the record that the numbers are
module _ (xs : List ℕ) (so : length xs ≡ record_length) (ys : List ℕ) (five : length ys ≡ row_width) where
  pub row_code : (e : Estimate) → 0 ≡ answered no_detail (sized record_length xs (sized row_width ys (given e)))
  row_code e = ap (answered no_detail) (both_sizes record_length xs so row_width ys (given e) five)

  pub numbers_stored : (r : RunningSums) (z h : ℕ) (e : Estimate) (ns zs : List ℕ) → r ≡ record_of xs → e ≡ record_row r z h → ns ≡ fields e
      → zs ≡ replaced ns ys → zs ≡ stored fields (sized record_length xs (sized row_width ys (given (record_row (record_of xs) z h)))) ys
  numbers_stored r z h e ns zs p q n s =
      s
      ∙ ap (λ (ms : List ℕ). replaced ms ys) n
      ∙ same_length_replaced (fields e) ys five
      ∙ ap fields (q ∙ ap (λ (x : RunningSums). record_row x z h) p)
      ∙ ap (λ (o : Answer Estimate). stored fields o ys) (both_sizes record_length xs so row_width ys (given (record_row (record_of xs) z h)) five)

  pub row_stored : (r : RunningSums) (z h : ℕ) (e : Estimate) (zs : List ℕ) → r ≡ record_in xs → e ≡ record_row r z h → zs ≡ replaced (fields e) ys
      → zs ≡ stored fields (sized record_length xs (sized row_width ys (given (record_row (record_of xs) z h)))) ys
  row_stored r z h e zs p q s = numbers_stored r z h e (fields e) zs (p ∙ sym (record_of_length xs so)) q refl s

-- An answer as one number, in numbers: 256 times the detail, and a report's number on top.
use Prim.Native.Nat.{ℕ}
use mathlib.Core.Path.{◌≡◌, refl}
use Rattle.meanings.specs.Reports.{Fault, Answer, given, refused}
use Rattle.meanings.specs.Codes.{code, answered, answer_of}

-- report 10 at place 16
abbrev edge_back : Fault
edge_back = record { number = 10; place = 16 }

abbrev detail : ℕ → ℕ
detail n = n

pub answers_as_numbers : (code edge_back ≡ 4106) × (answered detail (given 7) ≡ 1792) × (answered detail (given 0) ≡ 0)
    × (answered detail (refused edge_back) ≡ 4106)
answers_as_numbers = (refl, refl, refl, refl)

pub numbers_as_answers : (answer_of 4106 ≡ refused edge_back) × (answer_of 1792 ≡ given 7) × (answer_of 0 ≡ given 0)
    × (answer_of 8 ≡ refused (record { number = 8; place = 0 }))
numbers_as_answers = (refl, refl, refl, refl)

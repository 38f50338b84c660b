-- SPECIFICATION, "The calls": the one number that a call for C and Rust answers, and how it is read.
use Rattle.std.specs.Prelude.{ℕ, ◌+◌, ◌*◌, ◌/◌, ◌%◌, eqb}
use Rattle.meanings.specs.Lists.{pick}
use Rattle.meanings.specs.Reports.{Fault, Answer, given, refused}

-- an answer is one number, a whole number of these units and a rest: the units count its detail, and the rest is 0 where the call is accepted,
-- else the report's number, each of which is below the unit
abbrev pub detail_unit : ℕ
detail_unit = 256

-- a refusal as one number: its place is the detail
abbrev pub code : Fault → ℕ
code e = detail_unit * e.place + e.number

-- an answer as one number: a refusal's code, or what an accepted call has to tell as detail
abbrev pub answered : {A : Type 0} → (A → ℕ) → Answer A → ℕ
answered detail (given a) = detail_unit * detail a
answered detail (refused e) = code e

-- and back: the answer that a number tells, its detail where it is accepted
abbrev pub answer_of : ℕ → Answer ℕ
answer_of c =
    pick (eqb (c % detail_unit) 0) (given (c / detail_unit)) (refused (record { number = c % detail_unit; place = c / detail_unit }))

abbrev pub no_detail : {A : Type 0} → A → ℕ
no_detail a = 0

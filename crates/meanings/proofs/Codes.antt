-- An answer's one number tells the answer: divided by the unit, it leaves the number and gives the detail, for any unit above the number. Every
-- report's number is at least 1 and below the unit, so no refusal reads as accepted, and answers that differ have different numbers.
use Prim.Native.Nat.{ℕ, ◌+◌, ◌*◌, ◌/◌, ◌%◌, ◌≤◌, ◌<◌}
use mathlib.Core.Path.{◌≡◌, sym, ap, ◌∙◌}
use native.Mathlib.Nat.{mul-add-mod_self_left, mul-add-div, mod-eq_of_lt, div-eq_of_lt}
use native.Mathlib.Omega.{arith}
use borrow.Author.Tests.{eq-eqb, ne_eqb}
use Rattle.meanings.specs.declared.Report.{Report}
use Rattle.meanings.specs.declared.Report.TheVariants.{TooLong, BadHeader, MalformedLine, SampleOutOfOrder, PointOutOfOrder, TooMany, NoPoints}
use Rattle.meanings.specs.declared.Report.TheVariants.{LengthMismatch, BandwidthOutOfRange, EdgeDecreases, InvalidRecord, UnknownPreset, GridOverflow}
use Rattle.meanings.specs.declared.Report.TheVariants.{TooFewSamples, CrossedRange, SecondSeries, TemperatureOutOfOrder}
use Rattle.meanings.specs.declared.Refusal.{Refusal}
use Rattle.meanings.specs.Reports.{Fault, Answer, given, refused, fault_of, number}
use Rattle.meanings.specs.Codes.{detail_unit, code, answered, answer_of}

-- for any unit, and any number below it
module _ (unit detail n : ℕ) (below : n < unit) where
  pub rest_is_number : (unit * detail + n) % unit ≡ n
  rest_is_number = mul-add-mod_self_left unit detail n ∙ mod-eq_of_lt below

  pub quotient_is_detail : (unit * detail + n) / unit ≡ detail
  quotient_is_detail = mul-add-div (omega arith) detail n ∙ ap (λ (q : ℕ). detail + q) (div-eq_of_lt below) ∙ omega arith

-- a number beside an accepted call's 0 that an answer can tell
abbrev pub Numbered : ℕ → Type 0
Numbered n = (1 ≤ n) × (n < detail_unit)

pub number_range : (r : Report) → Numbered (number r)
number_range TooLong = (omega arith, omega arith)
number_range BadHeader = (omega arith, omega arith)
number_range MalformedLine = (omega arith, omega arith)
number_range SampleOutOfOrder = (omega arith, omega arith)
number_range PointOutOfOrder = (omega arith, omega arith)
number_range TooMany = (omega arith, omega arith)
number_range NoPoints = (omega arith, omega arith)
number_range LengthMismatch = (omega arith, omega arith)
number_range BandwidthOutOfRange = (omega arith, omega arith)
number_range EdgeDecreases = (omega arith, omega arith)
number_range InvalidRecord = (omega arith, omega arith)
number_range UnknownPreset = (omega arith, omega arith)
number_range GridOverflow = (omega arith, omega arith)
number_range TooFewSamples = (omega arith, omega arith)
number_range CrossedRange = (omega arith, omega arith)
number_range SecondSeries = (omega arith, omega arith)
number_range TemperatureOutOfOrder = (omega arith, omega arith)

-- number and place of every fault whose number the unit has room for
pub code_read_back : (e : Fault) → e.number < detail_unit → (code e % detail_unit ≡ e.number) × (code e / detail_unit ≡ e.place)
code_read_back e l = (rest_is_number detail_unit e.place e.number l, quotient_is_detail detail_unit e.place e.number l)

pub refusal_read_back : (r : Refusal)
    → (code (fault_of r) % detail_unit ≡ number r.report) × (code (fault_of r) / detail_unit ≡ r.place) × (1 ≤ code (fault_of r) % detail_unit)
refusal_read_back r =
    let n = number_range r.report in
    let b = code_read_back (fault_of r) n.1 in
    (b.0, b.1, omega (arith, b.0))

pub accepted_read_back : (n : ℕ) → (detail_unit * n % detail_unit ≡ 0) × (detail_unit * n / detail_unit ≡ n)
accepted_read_back n = (omega arith, omega arith)

-- answers whose refusals have such numbers
abbrev pub Tellable : Answer ℕ → Type 0
Tellable (given n) = Unit
Tellable (refused e) = Numbered e.number

-- the whole answer is read back from its number
pub answer_read_back : (a : Answer ℕ) → Tellable a → answer_of (answered (λ (n : ℕ). n) a) ≡ a
answer_read_back (given n) t =
    let b = accepted_read_back n in
    rw (eq-eqb (detail_unit * n % detail_unit) 0 b.0, b.1)
answer_read_back (refused e) t =
    let b = code_read_back e t.1 in
    let z = ne_eqb (code e % detail_unit) 0 (λ q. omega (arith, b.0, t.0)) in
    rw (z, b.0, b.1)

-- so answers with the same number are the same
pub same_code_same_answer : (a b : Answer ℕ) → Tellable a → Tellable b → answered (λ (n : ℕ). n) a ≡ answered (λ (n : ℕ). n) b → a ≡ b
same_code_same_answer a b s t e = sym (answer_read_back a s) ∙ ap answer_of e ∙ answer_read_back b t

-- The results of the calls say what SPECIFICATION says: the seventeen reports have their numbers, and each answer its values or its report.
use Prim.Native.Nat.{ℕ}
use Rattle.std.specs.Prelude.{Ok, Err, None, Some}
use Rattle.meanings.specs.Calls.{answer_of}
use mathlib.Core.Path.{◌≡◌, refl}
use mathlib.Core.List.{List, [], ◌∷◌, map}
use Rattle.meanings.specs.declared.Report.TheVariants.{TooLong, BadHeader, MalformedLine, SampleOutOfOrder, PointOutOfOrder, TooMany, NoPoints}
use Rattle.meanings.specs.declared.Report.TheVariants.{LengthMismatch, BandwidthOutOfRange, EdgeDecreases, InvalidRecord, UnknownPreset, GridOverflow}
use Rattle.meanings.specs.declared.Report.TheVariants.{TooFewSamples, CrossedRange, SecondSeries, TemperatureOutOfOrder}
use Rattle.meanings.specs.declared.Refusal.{Refusal}
use Rattle.meanings.specs.Reports.{number, verdict_fault, given, refused, first_of, buffer_checks}
use Rattle.meanings.specs.EventLog.{insertion_count, eviction_count}
use Rattle.meanings.specs.Output.{program, outcome_text}
use Rattle.meanings.specs.Sheet.{read_sheet}

-- "overlong", "heading", "torn line", "early reading", "early mark", "crowded", "no marks", "uneven", "half width",
-- "edge back", "foreign record", "knob", "past the clock", "too few", "crossed range", "second tank",
-- "early temperature mark"
pub reports_are_numbered :
    map number
    (TooLong
    ∷ BadHeader
    ∷ MalformedLine
    ∷ SampleOutOfOrder
    ∷ PointOutOfOrder
    ∷ TooMany
    ∷ NoPoints
    ∷ LengthMismatch
    ∷ BandwidthOutOfRange
    ∷ EdgeDecreases
    ∷ InvalidRecord
    ∷ UnknownPreset
    ∷ GridOverflow
    ∷ TooFewSamples
    ∷ CrossedRange
    ∷ SecondSeries
    ∷ TemperatureOutOfOrder
    ∷ [])
    ≡ 1 ∷ 2 ∷ 3 ∷ 4 ∷ 5 ∷ 6 ∷ 7 ∷ 8 ∷ 9 ∷ 10 ∷ 11 ∷ 12 ∷ 13 ∷ 14 ∷ 15 ∷ 16 ∷ 17 ∷ []
reports_are_numbered = refl

-- a refusal, as each call tells it
abbrev too_many : Refusal
too_many = record { report = TooMany; place = 7 }

pub refusals_are_answered :
    (verdict_fault (Err too_many) ≡ Some (record { number = 6; place = 7 }))
    × ((A : Type 0) → answer_of {A = A} (Err too_many) ≡ refused (record { number = 6; place = 7 }))
refusals_are_answered = (refl, λ A. refl)

-- and what each gives, of every kind of value
pub values_are_answered : (verdict_fault (Ok tt) ≡ None) × ((A : Type 0) (a : A) → answer_of (Ok a) ≡ given a)
values_are_answered = (refl, λ A a. refl)

-- the book's insertions and evictions are counted by its two lists
pub log_is_counted : (insertion_count (record { inserted = 0 ∷ 1 ∷ []; evicted = 0 ∷ [] }) ≡ 2)
    × (eviction_count (record { inserted = 0 ∷ 1 ∷ []; evicted = 0 ∷ [] }) ≡ 1)
log_is_counted = (refl, refl)

-- the program reads under the limits of SPECIFICATION 1.4
pub program_limits : (s : List ℕ) → program s ≡ outcome_text (read_sheet (record { samples = 1024; points = 512 }) s)
unfolding program
program_limits s = refl

-- a buffer of another length than 44,113 is refused
pub buffer_lengths : (first_of (buffer_checks 44112) ≡ Some (record { number = 8; place = 0 }))
    × (first_of (buffer_checks 44113) ≡ None)
    × (first_of (buffer_checks 44114) ≡ Some (record { number = 8; place = 0 }))
buffer_lengths = (refl, refl, refl)

-- What the reading lines have given, as what is left of their meaning: a contract says that the meaning before a stage is the meaning of what the
-- stage gives. Each contract is one record.
use Rattle.std.specs.Prelude.{ℕ, ◌≤◌, ◌≡◌, ◌||◌, List, [], ◌∷◌, ◌++◌, take, drop}
use Rattle.std.specs.Prelude.{Option, Result, Ok, Err}
use Rattle.meanings.specs.declared.Limits.{Limits}
use Rattle.meanings.specs.declared.Refusal.{Refusal}
use Rattle.meanings.specs.Limits.{full}
use Rattle.meanings.specs.Reports.{Fault, Answer, given, refused, fault_of, check, at, first_of, differ}
use Rattle.meanings.specs.Sheet.{lines, or_next}
use Rattle.meanings.specs.declared.ranges.Kind.{Kind}
use Rattle.meanings.specs.ranges.RangeSheet.{Readings, no_readings, reading_line, with_reading}
use Rattle.meanings.specs.ranges.RangeSheet.{read_readings as read_readings_meaning}
use Rattle.sheet.specs.declared.values.Progress.{Progress}
use Rattle.sheet.specs.LineValues.{minute_before, stored_within}

-- of all lines their minutes ms, and the first n of three lists
abbrev pub read_so_far : List ℕ → ℕ → List ℕ → List ℕ → List ℕ → Readings
read_so_far ms n ts ls us = record { all = ms; minutes = take n ts; lows = take n ls; highs = take n us }

-- the kept readings alone, which is all that is asked of the lines at their end
pub record KeptReadings : Type 0 where
  pub minutes : List ℕ
  pub lows : List ℕ
  pub highs : List ℕ

abbrev pub kept_readings : Readings → Answer KeptReadings
kept_readings r = given (record { minutes = r.minutes; lows = r.lows; highs = r.highs })

-- after a reading line behind lines with these minutes
abbrev pub reading_stored : Result Progress Refusal → List ℕ → List ℕ → List ℕ → List ℕ → (Readings → Answer KeptReadings) → Answer KeptReadings
reading_stored (Ok w) before ts ls us next = next (read_so_far (before ++ minute_before w.last) w.count ts ls us)
reading_stored (Err r) before ts ls us next = refused (fault_of r)

-- a reading line with text t at byte p, after the first readings of three lists, as many as w says, which are ts', ls' and us' afterwards
pub record ReadingTried (k : Kind) (t : List ℕ) (p : ℕ) (ts ls us : List ℕ) (w : Progress) (r : Result Progress Refusal) (ts' ls' us' : List ℕ) : Type 0 where
  pub goes_on : (next : Readings → Answer KeptReadings)
      → with_reading full p (read_so_far (minute_before w.last) w.count ts ls us) (reading_line k t) next
      ≡ reading_stored r (minute_before w.last) ts' ls' us' next
  pub within : stored_within r

-- after the reading lines
abbrev pub readings_read : Result ℕ Refusal → List ℕ → List ℕ → List ℕ → Answer KeptReadings
readings_read (Ok n) ts ls us = given (record { minutes = take n ts; lows = take n ls; highs = take n us })
readings_read (Err r) ts ls us = refused (fault_of r)

abbrev pub readings_within : Result ℕ Refusal → Type 0
readings_within (Ok n) = n ≤ 1024
readings_within (Err r) = Unit {0}

pub record ReadingsFound (s : List ℕ) (from : ℕ) (k : Kind) (r : Result ℕ Refusal) (ts ls us : List ℕ) : Type 0 where
  pub outcome : read_readings_meaning full k from no_readings (lines (drop from s)) kept_readings ≡ readings_read r ts ls us
  pub within : readings_within r

-- check 8 over lists for so many minutes, lows and highs
abbrev pub size_refusal : Limits → ℕ → ℕ → ℕ → Option Fault
size_refusal L a b c = first_of (check 8 (at 0 (differ a L.samples || differ b L.samples || differ c L.samples)) ∷ [])

-- the whole call, with lists for so many minutes, lows and highs: 8, and then what the lines say
unfoldable pub readings_call : Limits → List ℕ → ℕ → Kind → ℕ → ℕ → ℕ → Answer KeptReadings
readings_call L s from k a b c =
    or_next (size_refusal L a b c) (read_readings_meaning L k from no_readings (lines (drop from s)) kept_readings)

-- what it gives, and what its lists hold; after a refusal that is left open
pub record ReadingsOutcome (s : List ℕ) (from : ℕ) (k : Kind) (a b c : ℕ) (r : Result ℕ Refusal) (ts ls us : List ℕ) : Type 0 where
  pub outcome : readings_call full s from k a b c ≡ readings_read r ts ls us
  pub within : readings_within r

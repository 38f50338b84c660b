-- What the second header line tells, and what stands behind it, as what is left of the sheet's meaning. Each contract is one record.
use Rattle.std.specs.Prelude.{ℕ, ◌≤◌, ◌≡◌, List, take, drop, Option, Some, None, Result, Ok, Err}
use Rattle.meanings.specs.declared.Limits.{Limits}
use Rattle.meanings.specs.declared.Refusal.{Refusal}
use Rattle.meanings.specs.Limits.{full}
use Rattle.meanings.specs.Reports.{Answer, given, refused, fault_of}
use Rattle.meanings.specs.Sheet.{Lines, lines, refused_at, or_next}
use Rattle.meanings.specs.declared.ranges.Kind.{Kind}
use Rattle.meanings.specs.ranges.RangeSheet.{second_header, no_readings, RangeContents, read_readings}
use Rattle.sheet.specs.ReadingsStages.{KeptReadings, kept_readings, size_refusal}
use Rattle.sheet.specs.declared.names.Names.{Names}
use Rattle.sheet.specs.declared.names.Named.{Named}

-- after the second header line at byte p
abbrev pub after_names : Option Names → List ℕ → ℕ → (Kind → ℕ → Lines → Answer RangeContents) → Answer RangeContents
after_names (Some n) s p next = next n.kind n.next (lines (drop n.next s))
after_names None s p next = refused_at p 2

pub record NamesTried (s : List ℕ) (p : ℕ) (r : Option Names) : Type 0 where
  pub goes_on : (next : Kind → ℕ → Lines → Answer RangeContents) → second_header p (lines (drop p s)) next ≡ after_names r s p next

-- after the reading lines, behind marks zs with half widths hs
abbrev pub named_read : Result Named Refusal → List ℕ → List ℕ → List ℕ → List ℕ → List ℕ → Answer RangeContents
named_read (Ok n) ts ls us zs hs =
    given (record { kind = n.kind; minutes = take n.count ts; lows = take n.count ls; highs = take n.count us; points = zs; bandwidths = hs })
named_read (Err r) ts ls us zs hs = refused (fault_of r)

abbrev pub named_within : Result Named Refusal → Type 0
named_within (Ok n) = n.count ≤ 1024
named_within (Err r) = Unit {0}

-- the kept readings with the kind and the marks
abbrev pub with_front : Kind → List ℕ → List ℕ → Answer KeptReadings → Answer RangeContents
with_front k zs hs (given x) =
    given (record { kind = k; minutes = x.minutes; lows = x.lows; highs = x.highs; points = zs; bandwidths = hs })
with_front k zs hs (refused e) = refused e

-- the whole call, with lists for so many minutes, lows and highs, behind marks zs with half widths hs: 2, then 8, and then what the lines say
unfoldable pub named_call : Limits → List ℕ → ℕ → ℕ → ℕ → ℕ → List ℕ → List ℕ → Answer RangeContents
named_call L s p a b c zs hs =
    second_header p (lines (drop p s))
    (λ k q ls.
    with_front k zs hs
    (or_next (size_refusal L a b c) (read_readings L k q no_readings ls kept_readings)))

-- what it gives, and what its lists hold; after a refusal that is left open
pub record NamedOutcome (s : List ℕ) (p a b c : ℕ) (r : Result Named Refusal) (ts ls us : List ℕ) : Type 0 where
  pub outcome : (zs hs : List ℕ) → named_call full s p a b c zs hs ≡ named_read r ts ls us zs hs
  pub within : named_within r

-- What the stages of the reader have found out, as what is left of the sheet's meaning: a stage's contract says that the meaning before it is
-- the meaning of what it gives. Each contract is one record. The stages up to the second header line are those of FrontStages.antt, those from
-- there on of SamplesStages.antt.
use Rattle.std.specs.Prelude.{ℕ, ◌≤◌, ◌≡◌, List, length, take, Result, Ok, Err}
use Rattle.meanings.specs.declared.Refusal.{Refusal}
use Rattle.meanings.specs.declared.Counts.{Counts}
use Rattle.meanings.specs.Limits.{full}
use Rattle.meanings.specs.Reports.{given, refused, fault_of}
use Rattle.meanings.specs.Sheet.{Outcome, read_sheet}
use Rattle.meanings.specs.Calls.{answer_of, counts, read, read_minutes, read_values, read_evaluation_points, read_bandwidths}

-- after the whole sheet, read into lists of full length
abbrev pub sheet_read : Result Counts Refusal → List ℕ → List ℕ → List ℕ → List ℕ → Outcome
sheet_read (Ok c) ts vs zs hs =
    given (record { minutes = take c.samples ts; values = take c.samples vs; points = take c.points zs; bandwidths = take c.points hs })
sheet_read (Err r) ts vs zs hs = refused (fault_of r)

abbrev pub used_within : Result Counts Refusal → Type 0
used_within (Ok c) = (c.samples ≤ 1024) × (c.points ≤ 512)
used_within (Err r) = Unit {0}

pub record Scanned (s : List ℕ) (r : Result Counts Refusal) (ts vs zs hs : List ℕ) : Type 0 where
  pub outcome : read_sheet full s ≡ sheet_read r ts vs zs hs
  pub within : used_within r

-- the reader's own lists have their lengths
abbrev pub FullLists : List ℕ → List ℕ → List ℕ → List ℕ → Type 0
FullLists ts vs zs hs = (length ts ≡ 1024) × (length vs ≡ 1024) × (length zs ≡ 512) × (length hs ≡ 512)

-- the sheet read into lists of the right lengths, which hold what the meaning says afterwards
pub record ReadInto (s ts vs zs hs : List ℕ) (r : Result Counts Refusal) (ts' vs' zs' hs' : List ℕ) : Type 0 where
  pub answer : answer_of r ≡ counts (read_sheet full s)
  pub minutes : ts' ≡ read_minutes (read_sheet full s) ts
  pub values : vs' ≡ read_values (read_sheet full s) vs
  pub points : zs' ≡ read_evaluation_points (read_sheet full s) zs
  pub bandwidths : hs' ≡ read_bandwidths (read_sheet full s) hs

-- the sheet read into lent lists of any lengths
pub record ReadLent (s ts vs zs hs : List ℕ) (r : Result Counts Refusal) (ts' vs' zs' hs' : List ℕ) : Type 0 where
  pub answer : answer_of r ≡ counts (read full s ts vs zs hs)
  pub minutes : ts' ≡ read_minutes (read full s ts vs zs hs) ts
  pub values : vs' ≡ read_values (read full s ts vs zs hs) vs
  pub points : zs' ≡ read_evaluation_points (read full s ts vs zs hs) zs
  pub bandwidths : hs' ≡ read_bandwidths (read full s ts vs zs hs) hs

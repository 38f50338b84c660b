-- What the reading lines have given, as what is left of the sheet's meaning: a contract says that the meaning before a stage is the meaning of
-- what the stage gives. Each contract is one record; what goes on after a stage stands in it for every way to go on.
use Rattle.std.specs.Prelude.{ℕ, ◌≤◌, ◌≡◌, ◌||◌, List, [], ◌∷◌, ◌++◌, take, drop, Result, Ok, Err}
use Rattle.meanings.specs.declared.Limits.{Limits}
use Rattle.meanings.specs.declared.Refusal.{Refusal}
use Rattle.meanings.specs.Limits.{full}
use Rattle.meanings.specs.Bytes.{sample_header}
use Rattle.meanings.specs.Reports.{given, refused, fault_of, check, at, first_of, differ}
use Rattle.meanings.specs.Sheet.{lines, Outcome, or_next, header, sample_line, with_sample, read_samples}
use Rattle.sheet.specs.declared.values.Progress.{Progress}
use Rattle.sheet.specs.LineValues.{minute_before, stored_within}

-- after a reading line behind lines with these minutes
abbrev pub sample_stored : Result Progress Refusal → List ℕ → List ℕ → List ℕ → (List ℕ → List ℕ → List ℕ → Outcome) → Outcome
sample_stored (Ok w) before ts vs next = next (before ++ minute_before w.last) (take w.count ts) (take w.count vs)
sample_stored (Err r) before ts vs next = refused (fault_of r)

-- a reading line with text t at byte p, after the first readings of ts and vs, as many as w says, which are ts' and vs' afterwards
pub record SampleTried (t : List ℕ) (p : ℕ) (ts vs : List ℕ) (w : Progress) (r : Result Progress Refusal) (ts' vs' : List ℕ) : Type 0 where
  pub goes_on : (next : List ℕ → List ℕ → List ℕ → Outcome)
      → with_sample full p (minute_before w.last) (take w.count ts) (take w.count vs) (sample_line t) next
      ≡ sample_stored r (minute_before w.last) ts' vs' next
  pub within : stored_within r

-- after the reading lines
abbrev pub samples_read : Result ℕ Refusal → List ℕ → List ℕ → List ℕ → List ℕ → Outcome
samples_read (Ok n) zs hs ts vs = given (record { minutes = take n ts; values = take n vs; points = zs; bandwidths = hs })
samples_read (Err r) zs hs ts vs = refused (fault_of r)

abbrev pub samples_within : Result ℕ Refusal → Type 0
samples_within (Ok n) = n ≤ 1024
samples_within (Err r) = Unit {0}

pub record SamplesFound (s : List ℕ) (from : ℕ) (r : Result ℕ Refusal) (ts vs : List ℕ) : Type 0 where
  pub outcome : (zs hs : List ℕ) → read_samples full zs hs from [] [] [] (lines (drop from s)) ≡ samples_read r zs hs ts vs
  pub within : samples_within r

-- the whole call from the header line at byte `from` on, with lists for so many minutes and values: 8, and then what the lines say, behind
-- marks zs with half widths hs
unfoldable pub samples_call : Limits → List ℕ → ℕ → ℕ → ℕ → List ℕ → List ℕ → Outcome
samples_call L s from a b zs hs =
    or_next (first_of (check 8 (at 0 (differ a L.samples || differ b L.samples)) ∷ []))
    (header sample_header from (lines (drop from s)) (λ p rest. read_samples L zs hs p [] [] [] rest))

-- what it gives, and what its lists hold; after a refusal that is left open
pub record SamplesOutcome (s : List ℕ) (from a b : ℕ) (r : Result ℕ Refusal) (ts vs : List ℕ) : Type 0 where
  pub outcome : (zs hs : List ℕ) → samples_call full s from a b zs hs ≡ samples_read r zs hs ts vs
  pub within : samples_within r

-- What a run leaves at its ends.
use Rattle.std.specs.Prelude.{ℕ, ◌+◌, ◌<◌, ◌≤◌, ◌≡◌, List, length, take, Option, IfSome, Result, Ok, Err, IsOk, codes, ⊤}
use Rattle.std.specs.Io.KnownBytes.{Keeps, Appends, Consumes, IsAtEnd}
use Rattle.meanings.specs.Limits.{max_sheet}
use Rattle.meanings.specs.ranges.RangeOutput.{either_program}
use Rattle.sheet_to_curve.specs.declared.Failure.{Failure}
use Rattle.sheet_to_curve.specs.declared.Failure.TheVariants.{Input, Output}
use Rattle.std.specs.declared.io.Error.{Error}
use Rattle.sheet_to_curve.specs.Ends.{Event, Moved, MovedThen, ReadWhole, WrittenUntil}

-- known bytes grow by a front of the text, and not by all of it
abbrev pub AppendsPart : Option (List ℕ) → Option (List ℕ) → List ℕ → Type 0
AppendsPart old new text = (n : ℕ) × (n < length text) × Appends old new (take n text)

-- If the input failed, nothing is written. If the output failed, a part of what is written for the input's bytes is.
abbrev pub StoppedAt : Option (List ℕ) → Option (List ℕ) → Option (List ℕ) → Failure → Type 0
StoppedAt input old new (Input e) = Keeps old new
StoppedAt input old new (Output e) = IfSome input (λ sheet. AppendsPart old new (either_program sheet))

-- which end it is that failed
abbrev pub IsOfInput : Failure → Type 0
IsOfInput (Input e) = ⊤
IsOfInput (Output e) = ⊥

abbrev pub IsOfOutput : Failure → Type 0
IsOfOutput (Input e) = ⊥
IsOfOutput (Output e) = ⊤

-- if the input failed, the writer is what it was
abbrev pub WriterStays : {W : Type 0} → Failure → W → W → Type 0
WriterStays (Input e) old new = new ≡ old
WriterStays (Output e) old new = ⊤

-- The sheet is what is read of an input: its first 32,769 bytes, or all that it has. No other read was made than those that gave these bytes, those that were
-- interrupted, and the one that met the end.
pub record ReadFront (input input' : Option (List ℕ)) (log log' : Option (List Event)) (sheet : List ℕ) : Type 0 where
  pub within : length sheet ≤ max_sheet + 1
  pub bytes : Consumes input input' sheet
  pub end : length sheet < max_sheet + 1 → IsAtEnd input'
  pub reads : ReadWhole log log' sheet (max_sheet + 1)

-- of an input whose last read failed with this error, and was not tried again
pub record ReadUntil (input input' : Option (List ℕ)) (log log' : Option (List Event)) (e : Error) : Type 0 where
  pub front : List ℕ
  pub within : length front ≤ max_sheet + 1
  pub bytes : Consumes input input' front
  pub reads : MovedThen log log' front (Err e)

-- a front of the text was written, by the same account: the last write failed with this error, or moved nothing
pub record WrittenFront (old new : Option (List ℕ)) (log log' : Option (List Event)) (text : List ℕ) (e : Error) : Type 0 where
  pub size : ℕ
  pub part : size < length text
  pub bytes : Appends old new (take size text)
  pub writes : WrittenUntil log log' (take size text) e

-- Of any reader and any writer, by what their logs say of the calls that were made: there is a sheet that was read, whose text, or a front of it, was written.
abbrev pub OfAnyReader :
    Result (Unit {0}) Failure → (input input' : Option (List ℕ)) (reads reads' : Option (List Event)) (old new : Option (List ℕ))
    (writes writes' : Option (List Event)) → Type 0
OfAnyReader (Ok x) input input' reads reads' old new writes writes' =
    (sheet : List ℕ) × ReadFront input input' reads reads' sheet × Appends old new (either_program sheet) × Moved writes writes' (either_program sheet)
OfAnyReader (Err (Input e)) input input' reads reads' old new writes writes' = ReadUntil input input' reads reads' e
OfAnyReader (Err (Output e)) input input' reads reads' old new writes writes' =
    (sheet : List ℕ) × ReadFront input input' reads reads' sheet × WrittenFront old new writes writes' (either_program sheet) e

-- a run whose text fits the room succeeds, and takes no more room than the text has bytes
abbrev pub SucceedsWithin : Result (Unit {0}) Failure → ℕ → ℕ → List ℕ → Type 0
SucceedsWithin r before after text = length text ≤ before → IsOk r × (before ≤ after + length text)

-- the line for standard error
abbrev pub line_of : Failure → List ℕ
line_of (Input e) = codes "tankcurve: standard input cannot be read\n"
line_of (Output e) = codes "tankcurve: standard output cannot be written\n"

-- What one call at an end of a run does, a read of a source or a write to a sink, and what several in a row do.
use Rattle.std.specs.Prelude.{ℕ, ◌+◌, ◌-◌, ◌<◌, ◌≤◌, ◌^◌, ◌≡◌, ◌⊎◌, List, [], ◌∷◌, ◌++◌, length, take, drop}
use Rattle.std.specs.Prelude.{All, Option, None, Some, Result, Ok, Err, MatchResult, ⊤}
use Rattle.std.specs.IoError.{error_kind}
use Rattle.std.specs.declared.io.Error.{Error}
use Rattle.std.specs.declared.io.ErrorKind.TheVariants.{Interrupted, WriteZero}

-- fewer interruptions than a loop has turns
abbrev pub IsFew : ℕ → Type 0
IsFew interruptions = interruptions < 2 ^ 64 - 1

-- a call fails by an interruption alone, and then fewer are still to come
abbrev pub FailsByInterruption : Result ℕ Error → ℕ → ℕ → Type 0
FailsByInterruption r before after = MatchResult r (λ n. after ≤ before) (λ e. (error_kind e ≡ Interrupted) × (after < before))

-- a write moves a byte or more, and takes no more room than it moves
abbrev pub TakesPart : Result ℕ Error → ℕ → ℕ → Type 0
TakesPart r before after = MatchResult r (λ n. (0 < n) × (before ≤ after + n)) (λ e. before ≤ after)

-- the bytes that are written lie over the first of the spare ones, and the others stay
abbrev pub CoversSpare : Result ℕ Error → List ℕ → List ℕ → Type 0
CoversSpare r before after = MatchResult r (λ n. after ≡ drop n before) (λ e. after ≡ before)

-- What a call came to: the bytes that it moved, or its error. A read that moved none was at the end.
abbrev pub Event : Type 0
Event = Result (List ℕ) Error

-- of a call that moved a front of these bytes
abbrev pub event : Result ℕ Error → List ℕ → Event
event (Ok n) bytes = Ok (take n bytes)
event (Err e) bytes = Err e

-- a log that is known grows by these events
abbrev pub Logs : Option (List Event) → Option (List Event) → List Event → Type 0
Logs None new events = ⊤
Logs (Some xs) None events = ⊥
Logs (Some xs) (Some ys) events = ys ≡ xs ++ events

-- a call is followed by another if it moved a byte or more, or was interrupted
abbrev pub GoesOn : Event → Type 0
GoesOn (Ok bytes) = 0 < length bytes
GoesOn (Err e) = error_kind e ≡ Interrupted

-- the bytes that were moved, in a row
abbrev pub bytes_of : List Event → List ℕ
bytes_of [] = []
bytes_of (Ok bytes ∷ events) = bytes ++ bytes_of events
bytes_of (Err e ∷ events) = bytes_of events

-- these bytes were moved, by calls of which each is followed by another
pub record Moved (old new : Option (List Event)) (bytes : List ℕ) : Type 0 where
  pub events : List Event
  pub each_goes_on : All GoesOn events
  pub bytes_are : bytes_of events ≡ bytes
  pub logged : Logs old new events

-- and then one more call came to this
pub record MovedThen (old new : Option (List Event)) (bytes : List ℕ) (last : Event) : Type 0 where
  pub between : Option (List Event)
  pub moved : Moved old between bytes
  pub logged : Logs between new (last ∷ [])

-- these bytes were read: as many as there was room for, or all up to the end, which one read has met
abbrev pub ReadWhole : Option (List Event) → Option (List Event) → List ℕ → ℕ → Type 0
ReadWhole old new bytes room = (Moved old new bytes × (length bytes ≡ room)) ⊎ MovedThen old new bytes (Ok [])

-- a write that failed with this error, or moved nothing, ended the writing of these bytes
abbrev pub WrittenUntil : Option (List Event) → Option (List Event) → List ℕ → Error → Type 0
WrittenUntil old new bytes e = MovedThen old new bytes (Err e) ⊎ (MovedThen old new bytes (Ok []) × (error_kind e ≡ WriteZero))

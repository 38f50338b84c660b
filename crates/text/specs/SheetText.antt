-- What the functions under the call say.
use Rattle.std.specs.Prelude.{ℕ, ◌*◌, ◌≤◌, ◌≡◌, List, ◌++◌, length, drop}
use Rattle.std.specs.Prelude.{Result}
use Rattle.meanings.specs.declared.Refusal.{Refusal}
use Rattle.meanings.specs.Calls.{answer_of}
use Rattle.std.specs.Prelude.{None}
use Rattle.meanings.specs.Limits.{full, row_width}
use Rattle.meanings.specs.Reports.{given}
use Rattle.meanings.specs.Calls.{smooth_refusal}
use Rattle.meanings.specs.declared.ranges.Kind.{Kind}
use Rattle.meanings.specs.ranges.Ranges.{range_row_width, range_refusal}
use Rattle.meanings.specs.ranges.RangeSheet.{RangeContents, read_either}
use Rattle.meanings.specs.ranges.RangeOutput.{write_either, write_either_buffer}

-- lists that the sweep accepts, with room for their rows
pub record PlainAccepted (ts vs zs hs : List ℕ) : Type 0 where
  pub few : length zs ≤ full.points
  pub swept : (rs : List ℕ) → length rs ≡ row_width * length zs → smooth_refusal full ts vs zs hs rs ≡ None

-- lists that the sweep over ranges accepts
pub record RangesAccepted (ts ls us zs hs : List ℕ) : Type 0 where
  pub few : length zs ≤ full.points
  pub swept : (rs : List ℕ) → length rs ≡ range_row_width * length zs → range_refusal full ts ls us zs hs rs ≡ None

-- a kind and five lists as the contents of a sheet
abbrev pub lists_of : Kind → List ℕ → List ℕ → List ℕ → List ℕ → List ℕ → RangeContents
lists_of k ts ls us zs hs = record { kind = k; minutes = ts; lows = ls; highs = us; points = zs; bandwidths = hs }

-- they are those of an accepted sheet
pub record SheetAccepted (k : Kind) (ts ls us zs hs : List ℕ) : Type 0 where
  pub sheet : List ℕ
  pub accepted : read_either full sheet ≡ given (lists_of k ts ls us zs hs)

-- a text stands in front of the buffer, and the answer is its length
pub record InFront (t out : List ℕ) (r : Result ℕ Refusal) (now : List ℕ) : Type 0 where
  pub size : answer_of r ≡ given (length t)
  pub text : now ≡ t ++ drop (length t) out

-- what is answered and left for a sheet, with a buffer of the right length
pub record SheetWritten (s out : List ℕ) (r : Result ℕ Refusal) (now : List ℕ) : Type 0 where
  pub size : answer_of r ≡ write_either s out
  pub text : now ≡ write_either_buffer s out

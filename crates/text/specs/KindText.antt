-- What the text of lists is, by the kind.
use Rattle.std.specs.Prelude.{ℕ, ◌*◌, min, ◌≡◌, List, length}
use Rattle.std.specs.Prelude.{Result}
use Rattle.meanings.specs.declared.Refusal.{Refusal}
use Rattle.meanings.specs.Calls.{answer_of}
use Rattle.meanings.specs.Limits.{full, row_width}
use Rattle.meanings.specs.Reports.{Answer}
use Rattle.meanings.specs.Output.{curve_text}
use Rattle.meanings.specs.Calls.{curve_size, filled_front}
use Rattle.meanings.specs.declared.ranges.Kind.{Kind}
use Rattle.meanings.specs.declared.ranges.Kind.TheVariants.{Plain, Ranges}
use Rattle.meanings.specs.ranges.Ranges.{range_row_width}
use Rattle.meanings.specs.ranges.RangeOutput.{text_size, text_front}
use Rattle.text.specs.Table.{lists_swept}
use Rattle.text.specs.RangeTable.{ranges_swept}

-- how many numbers a row has
abbrev pub kind_width : Kind → ℕ
kind_width Plain = row_width
kind_width Ranges = range_row_width

-- the answer for lists of a kind with rs for their rows, and the buffer at exit; a plain kind has no highs
abbrev pub kind_size : Kind → List ℕ → List ℕ → List ℕ → List ℕ → List ℕ → List ℕ → List ℕ → Answer ℕ
kind_size Plain ts ls us zs hs rs out = curve_size (lists_swept ts ls zs hs rs out)
kind_size Ranges ts ls us zs hs rs out = text_size (ranges_swept ts ls us zs hs rs out)

abbrev pub kind_buffer : Kind → List ℕ → List ℕ → List ℕ → List ℕ → List ℕ → List ℕ → List ℕ → List ℕ
kind_buffer Plain ts ls us zs hs rs out = filled_front (lists_swept ts ls zs hs rs out) curve_text out
kind_buffer Ranges ts ls us zs hs rs out = text_front (ranges_swept ts ls us zs hs rs out) out

-- the answer and the buffer are those with rows for each mark, for 512 of them where there are more
pub record KindWritten (k : Kind) (ts ls us zs hs out : List ℕ) (r : Result ℕ Refusal) (now : List ℕ) : Type 0 where
  pub rows : List ℕ
  pub room : length rows ≡ kind_width k * min (length zs) full.points
  pub size : answer_of r ≡ kind_size k ts ls us zs hs rows out
  pub text : now ≡ kind_buffer k ts ls us zs hs rows out

-- The program as it runs, at any reader and any writer, and in memory. What is known of a run is the contract of `run`, word for word: the field ensured.
-- A reader's type comes with what its impls say of its values (what they have left, whether their reads can fail), and a writer's likewise: the statements
-- below range over all types and impls, so over those of standard input and output too.
use Rattle.std.specs.Prelude.{ℕ, ◌≡◌, ◌+◌, ◌≤◌, List, ◌++◌, length, take, drop, Option, Some, IfErr, OnOk, IsOk, Result}
use Rattle.std.specs.Io.KnownBytes.{Appends}
use Rattle.std.specs.declared.io.traits.Read as Readers
use Rattle.std.specs.declared.io.traits.Write as Writers
use denote.RattleType.{RattleType}
use denote.Param.Laws.{Laws}
use denote.Ref.{Bor, MutBor, Gone}
use mir.Syntax.{Dict}
use mathlib.Core.List.{Mem}
use base.Fml.{Lft}
use contract.Lifetimes.{Lfts}
use borrow.Fn.Kinds.{Dens}
use Rattle.meanings.specs.Limits.{full, max_sheet, max_output}
use Rattle.meanings.specs.Output.{refusal_text}
use Rattle.meanings.specs.ranges.RangeSheet.{RangeContents}
use Rattle.meanings.specs.ranges.RangeOutput.{contents_text, either_program}
use Rattle.laws.specs.ranges.RangeForm.{EitherSheet, EitherRefused}
use Rattle.sheet_to_curve.specs.declared.Failure.{Failure}
use Rattle.sheet_to_curve.specs.declared.input.Source as Sources
use Rattle.sheet_to_curve.specs.declared.output.Sink as Sinks
use Rattle.sheet_to_curve.specs.Ends.{IsFew}
use Rattle.sheet_to_curve.specs.Run.{IsOfInput, IsOfOutput, StoppedAt, OfAnyReader, WriterStays}
use Rattle.sheet_to_curve.proofs.run.Reads as run
use Rattle.sheet_to_curve.proofs.run.Kinds as run_kinds
use Rattle.sheet_to_curve.proofs.run.Statement as run_code
use Rattle.sheet_to_curve.proofs.text_into.Reads as text_into
use Rattle.sheet_to_curve.proofs.text_into.Kinds as text_into_kinds
use Rattle.sheet_to_curve.proofs.text_into.Statement as text_into_code

-- a type that is read from, with what its impls say of its values
pub record ReaderType : Type 2 where
  pub type : RattleType
  pub laws : Laws type
  pub as_source : Sources.Ghosts type.Denot
  pub source_impl : Dict
  pub as_reader : Readers.Ghosts type.Denot
  pub reader_impl : Dict

-- and one that is written to
pub record WriterType : Type 2 where
  pub type : RattleType
  pub laws : Laws type
  pub as_sink : Sinks.Ghosts type.Denot
  pub sink_impl : Dict
  pub as_writer : Writers.Ghosts type.Denot
  pub writer_impl : Dict

-- the value a, lent to be changed from that place
abbrev pub lent_whole : {A : Type 0} → Gone → A → MutBor A
lent_whole x a = record { ref_ptr = x.ref_ptr; ghost_name = x.ghost_name; now = a }

-- a run from the reader r to the writer w gave the answer a, and left the two as r' and w'
pub record RunCall (R : ReaderType) (W : WriterType) (r : R.type.Denot) (w : W.type.Denot) (a : Result (Unit {0}) Failure) (r' : R.type.Denot)
    (w' : W.type.Denot) : Type 0 where
  pub lifetimes : Lfts 4
  pub reader_at : Gone
  pub writer_at : Gone
  pub ensured :
      run.Post R.type W.type R.laws W.laws R.as_source R.source_impl R.as_reader R.reader_impl W.as_sink W.sink_impl W.as_writer W.writer_impl lifetimes
      (lent_whole reader_at r, (lent_whole writer_at w, tt)) a (lent_whole reader_at r', (lent_whole writer_at w', tt))

-- the text of a sheet in memory, put into the buffer out: n bytes of it, and the buffer is then out'
pub record TextIntoCall (sheet out : List ℕ) (n : ℕ) (out' : List ℕ) : Type 0 where
  pub lifetimes : Lfts 2
  pub sheet_at : Gone
  pub out_at : Gone
  pub ensured :
      text_into.Post lifetimes (record { ref_ptr = sheet_at.ref_ptr; now = sheet }, (lent_whole out_at out, tt)) n
      (record { ref_ptr = sheet_at.ref_ptr; now = sheet }, (lent_whole out_at out', tt))

-- each loan that a value of the type may hold lasts through the time κ
abbrev pub Lasts : RattleType → Lft → Type 0
Lasts T κ = (name : ℕ) → Mem name T.lives → Mem name κ

-- A run ends, on every reader and writer. It asks nothing beforehand: what comes before its arrow is the typing of a call, that what the two ends have
-- borrowed lasts as long as they do.
pub record EveryRunEnds : Type 2 where
  pub run_ends : {M : Type 1} → run_code.statement M
  pub run_asks_nothing :
      (R : ReaderType) (W : WriterType) (κs : Lfts 4) (a : Dens κs (run_kinds.ps R.type W.type R.laws W.laws))
      → Lasts R.type κs.1.1.0 → Lasts W.type κs.1.1.1.0
      → run.Asked R.type W.type R.laws W.laws R.as_source R.source_impl R.as_reader R.reader_impl W.as_sink W.sink_impl W.as_writer W.writer_impl κs a
  pub text_into_ends : {M : Type 1} → text_into_code.statement M
  pub text_into_asks_nothing : (κs : Lfts 2) (a : Dens κs text_into_kinds.ps) → text_into.Asked κs a

-- From what the reader has to what the writer gains.
pub record ProgramRuns : Type 2 where
  -- on success it gained the text of the sheet that the reader had, and nothing else
  pub text_written :
      (R : ReaderType) (W : WriterType) (r r' : R.type.Denot) (w w' : W.type.Denot) (a : Result (Unit {0}) Failure) (sheet : List ℕ)
      → RunCall R W r w a r' w' → R.as_reader.remaining r ≡ Some sheet
      → OnOk a (Appends (W.as_writer.contents w) (W.as_writer.contents w') (either_program sheet))
  -- that is, the curve of the lists of which the bytes are a sheet, or the number and place of the report that is the first to hold
  pub curve_written :
      (R : ReaderType) (W : WriterType) (r r' : R.type.Denot) (w w' : W.type.Denot) (a : Result (Unit {0}) Failure) (sheet : List ℕ) (c : RangeContents)
      → RunCall R W r w a r' w' → R.as_reader.remaining r ≡ Some sheet → EitherSheet full sheet c
      → OnOk a (Appends (W.as_writer.contents w) (W.as_writer.contents w') (contents_text c))
  pub refusal_written :
      (R : ReaderType) (W : WriterType) (r r' : R.type.Denot) (w w' : W.type.Denot) (a : Result (Unit {0}) Failure) (sheet : List ℕ) (n p : ℕ)
      → RunCall R W r w a r' w' → R.as_reader.remaining r ≡ Some sheet → EitherRefused full sheet n p
      → OnOk a (Appends (W.as_writer.contents w) (W.as_writer.contents w') (refusal_text (record { number = n; place = p })))
  -- the reader still has what it had without its first 32,769 bytes
  pub sheet_read :
      (R : ReaderType) (W : WriterType) (r r' : R.type.Denot) (w w' : W.type.Denot) (a : Result (Unit {0}) Failure) (sheet : List ℕ)
      → RunCall R W r w a r' w' → R.as_reader.remaining r ≡ Some sheet
      → OnOk a (R.as_reader.remaining r' ≡ Some (drop (max_sheet + 1) sheet))
  -- if a read fails nothing was written, if a write fails a proper front of the text was
  pub stopped :
      (R : ReaderType) (W : WriterType) (r r' : R.type.Denot) (w w' : W.type.Denot) (a : Result (Unit {0}) Failure)
      → RunCall R W r w a r' w'
      → IfErr a (StoppedAt (R.as_reader.remaining r) (W.as_writer.contents w) (W.as_writer.contents w'))
  -- and where a read fails the writer is what it was
  pub writer_stays :
      (R : ReaderType) (W : WriterType) (r r' : R.type.Denot) (w w' : W.type.Denot) (a : Result (Unit {0}) Failure)
      → RunCall R W r w a r' w' → IfErr a (λ failure. WriterStays failure w w')
  -- Of a reader of which nothing is known beforehand the same holds for the bytes that its log says were read. By the logs no call was made but those that
  -- moved the bytes, those that were interrupted, the read that met the end, and the one that failed, whose error is told.
  pub any_reader :
      (R : ReaderType) (W : WriterType) (r r' : R.type.Denot) (w w' : W.type.Denot) (a : Result (Unit {0}) Failure)
      → RunCall R W r w a r' w'
      → OfAnyReader a (R.as_reader.remaining r) (R.as_reader.remaining r') (R.as_source.log r) (R.as_source.log r')
      (W.as_writer.contents w) (W.as_writer.contents w') (W.as_sink.log w) (W.as_sink.log w')
  -- no end is told as the other: where reads fail by interruption alone it is not the input that failed, and in a room for the text not the output
  pub input_good :
      (R : ReaderType) (W : WriterType) (r r' : R.type.Denot) (w w' : W.type.Denot) (a : Result (Unit {0}) Failure)
      → RunCall R W r w a r' w' → R.as_source.steady r → IsFew (R.as_source.interruptions r) → IfErr a IsOfOutput
  pub output_good :
      (R : ReaderType) (W : WriterType) (r r' : R.type.Denot) (w w' : W.type.Denot) (a : Result (Unit {0}) Failure) (sheet : List ℕ)
      → RunCall R W r w a r' w' → R.as_reader.remaining r ≡ Some sheet
      → IsFew (W.as_sink.interruptions w) → length (either_program sheet) ≤ W.as_sink.room w → IfErr a IsOfInput
  -- where reads and writes fail by interruption alone, and the text fits the room, it succeeds
  pub succeeds :
      (R : ReaderType) (W : WriterType) (r r' : R.type.Denot) (w w' : W.type.Denot) (a : Result (Unit {0}) Failure) (sheet : List ℕ)
      → RunCall R W r w a r' w' → R.as_reader.remaining r ≡ Some sheet → R.as_source.steady r
      → IsFew (R.as_source.interruptions r) → IsFew (W.as_sink.interruptions w) → length (either_program sheet) ≤ W.as_sink.room w
      → IsOk a × (W.as_sink.room w ≤ W.as_sink.room w' + length (either_program sheet))
  -- and so in a room of 44,113 bytes, whatever is read
  pub any_succeeds :
      (R : ReaderType) (W : WriterType) (r r' : R.type.Denot) (w w' : W.type.Denot) (a : Result (Unit {0}) Failure)
      → RunCall R W r w a r' w' → R.as_source.steady r
      → IsFew (R.as_source.interruptions r) → IsFew (W.as_sink.interruptions w) → max_output ≤ W.as_sink.room w → IsOk a
  -- what lies in a lent buffer behind the text stays
  pub spare_stays :
      (R : ReaderType) (W : WriterType) (r r' : R.type.Denot) (w w' : W.type.Denot) (a : Result (Unit {0}) Failure) (sheet : List ℕ)
      → RunCall R W r w a r' w' → R.as_reader.remaining r ≡ Some sheet
      → OnOk a (W.as_sink.spare w' ≡ drop (length (either_program sheet)) (W.as_sink.spare w))
  -- in memory nothing can fail: the text is in front of the buffer's untouched rest
  pub text_in_memory :
      (sheet out : List ℕ) (n : ℕ) (out' : List ℕ) → TextIntoCall sheet out n out'
      → (n ≡ length (either_program sheet)) × (out' ≡ either_program sheet ++ drop (length (either_program sheet)) out)

-- The program as it runs: its contract, and what the text of a sheet is.
use Prim.Native.Nat.{ℕ, ◌+◌, ◌≤◌}
use mathlib.Core.Path.{◌≡◌}
use mathlib.Core.List.{List}
use lib.ListN.{length}
use Rattle.std.proofs.Common.{subst}
use Rattle.std.specs.Prelude.{Option, Some, IfSome, OnOk, Result}
use Rattle.std.specs.Io.KnownBytes.{Appends}
use Rattle.sheet_to_curve.specs.declared.Failure.{Failure}
use Rattle.meanings.specs.ranges.RangeOutput.{either_program}
use Rattle.promises.specs.Demands.{ProgramHolds}
use Rattle.promises.specs.Runs.{ReaderType, WriterType, RunCall, ProgramRuns}
use Rattle.promises.proofs.Program.{program_holds}

-- what holds of the bytes if they are known holds of those that are known
of_known : (P : List ℕ → Type 0) (known : Option (List ℕ)) (bytes : List ℕ) → known ≡ Some bytes → IfSome known P → P bytes
of_known P known bytes is holds = subst (λ o. IfSome o P) is holds

-- and so of what holds on success
of_known_on_ok :
    (a : Result (Unit {0}) Failure) (P : List ℕ → Type 0) (known : Option (List ℕ)) (bytes : List ℕ) → known ≡ Some bytes
    → OnOk a (IfSome known P) → OnOk a (P bytes)
of_known_on_ok a P known bytes is holds = subst (λ o. OnOk a (IfSome o P)) is holds

text_written :
    (R : ReaderType) (W : WriterType) (r r' : R.type.Denot) (w w' : W.type.Denot) (a : Result (Unit {0}) Failure) (sheet : List ℕ)
    → RunCall R W r w a r' w' → R.as_reader.remaining r ≡ Some sheet
    → OnOk a (Appends (W.as_writer.contents w) (W.as_writer.contents w') (either_program sheet))
text_written R W r r' w w' a sheet call known = of_known_on_ok a _ _ sheet known call.ensured.0

-- the text by another name
text_is :
    (R : ReaderType) (W : WriterType) (r r' : R.type.Denot) (w w' : W.type.Denot) (a : Result (Unit {0}) Failure) (sheet text : List ℕ)
    → RunCall R W r w a r' w' → R.as_reader.remaining r ≡ Some sheet → either_program sheet ≡ text
    → OnOk a (Appends (W.as_writer.contents w) (W.as_writer.contents w') text)
text_is R W r r' w w' a sheet text call known is =
    subst (λ t. OnOk a (Appends (W.as_writer.contents w) (W.as_writer.contents w') t)) is (text_written R W r r' w w' a sheet call known)

pub program_runs : ProgramRuns
program_runs = record {
  text_written = text_written;
  curve_written = λ R W r r' w w' a sheet c call known form.
      text_is R W r r' w w' a sheet _ call known ((program_holds sheet).each_sheet c form).text;
  refusal_written = λ R W r r' w w' a sheet n p call known fault.
      text_is R W r r' w w' a sheet _ call known ((program_holds sheet).each_report n p fault).text;
  sheet_read = λ R W r r' w w' a sheet call known. of_known_on_ok a _ _ sheet known call.ensured.1.1.0;
  stopped = λ R W r r' w w' a call. call.ensured.1.0;
  writer_stays = λ R W r r' w w' a call. call.ensured.1.1.1.1.1.1.1.1.1.1.1;
  any_reader = λ R W r r' w w' a call. call.ensured.1.1.1.0;
  input_good = λ R W r r' w w' a call. call.ensured.1.1.1.1.0;
  output_good = λ R W r r' w w' a sheet call known few_writes fits.
      of_known _ _ _ known (call.ensured.1.1.1.1.1.0 few_writes) fits;
  succeeds = λ R W r r' w w' a sheet call known steady few_reads few_writes fits.
      of_known _ _ _ known (call.ensured.1.1.1.1.1.1.1.0 steady few_reads few_writes) fits;
  any_succeeds = λ R W r r' w w' a call. call.ensured.1.1.1.1.1.1.1.1.0;
  spare_stays = λ R W r r' w w' a sheet call known. of_known_on_ok a _ _ sheet known call.ensured.1.1.1.1.1.1.1.1.1.0;
  text_in_memory = λ sheet out n out' call. (call.ensured.1, call.ensured.0);
}

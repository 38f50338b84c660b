-- A call goes by what the reader makes of the sheet, and that is what it was where no carriage return stands directly before a line feed; lines
-- without a fault are read as what they say, whatever their endings.
use Prim.Native.Nat.{ℕ}
use mathlib.Core.Path.{◌≡◌, ap, ◌∙◌}
use mathlib.Core.List.{List}
use lib.ListN.{length}
use Rattle.meanings.specs.Limits.{full}
use Rattle.meanings.specs.Reports.{first_of, read_checks}
use Rattle.meanings.specs.Sheet.{Outcome, or_next}
use Rattle.meanings.specs.SheetForm.{print_sheet, contents_of}
use Rattle.meanings.specs.FeedSheet.{read_feed_sheet, NoReturnFeed}
use Rattle.meanings.specs.Output.{curve_text, outcome_text, program}
use Rattle.meanings.specs.Calls.{read, filled_front, curve_size, buffer_refusal, write, write_buffer}
use Rattle.laws.proofs.sheet.Outcomes.{read_is_printed}
use Rattle.laws.proofs.sheet.LineEndings.{outcome_as_before, read_under_any_endings}
use Rattle.promises.specs.LineEndings.{read_before, written_before, LineEndings}
use Rattle.promises.proofs.EitherSheets.{plain_program, plain_write, plain_buffer}
use Rattle.promises.proofs.Program.{program_holds}

module _ (s : List ℕ) (n : NoReturnFeed s) where
  read_is : (ts vs zs hs : List ℕ) → read full s ts vs zs hs ≡ read_before s ts vs zs hs
  unfolding read
  read_is ts vs zs hs =
      ap (or_next (first_of (read_checks full (length ts) (length vs) (length zs) (length hs)))) (outcome_as_before full s n)

  program_is : program s ≡ outcome_text (read_feed_sheet full s)
  unfolding program
  program_is = ap outcome_text (outcome_as_before full s n)

  size_is : (out : List ℕ) → write s out ≡ curve_size (written_before s out)
  unfolding write
  size_is out = ap (λ (o : Outcome). curve_size (or_next (buffer_refusal out) o)) (outcome_as_before full s n)

  buffer_is : (out : List ℕ) → write_buffer s out ≡ filled_front (written_before s out) curve_text out
  unfolding write_buffer
  buffer_is out = ap (λ (o : Outcome). filled_front (or_next (buffer_refusal out) o) curve_text out) (outcome_as_before full s n)

pub line_endings : LineEndings
line_endings = record {
  any_endings = λ ms js a b c e d f ns ks p q l.
      let t = print_sheet e ns d f ks in
      let i = read_is_printed full t (contents_of ms js) (read_under_any_endings full ms js a b c e d f ns ks p q l) in
      (program_holds t).plain_text (contents_of ms js) i;
  program_as_before = λ s n w. plain_program s w ∙ program_is s n;
  read_as_before = λ s ts vs zs hs a ts' vs' zs' hs' n k.
      let e = read_is s n ts vs zs hs in (
        rw e at k.ensured.0,
        record {
          minutes = rw e at k.ensured.1.0;
          values = rw e at k.ensured.1.1.0;
          points = rw e at k.ensured.1.1.1.0;
          bandwidths = rw e at k.ensured.1.1.1.1;
        },
      );
  text_as_before = λ s out a out' n w k.
      (k.ensured.0 ∙ plain_write s w out ∙ size_is s n out, k.ensured.1 ∙ plain_buffer s w out ∙ buffer_is s n out);
  exported_read_as_before = λ s ts vs zs hs ns c ts' vs' zs' hs' ns' n k.
      let e = read_is s n ts vs zs hs in (
        rw e at k.ensured.0,
        record {
          minutes = rw e at k.ensured.1.0;
          values = rw e at k.ensured.1.1.0;
          points = rw e at k.ensured.1.1.1.0;
          bandwidths = rw e at k.ensured.1.1.1.1.0;
        },
        rw e at k.ensured.1.1.1.1.1,
      );
  exported_text_as_before = λ s out c out' n w k.
      (rw (plain_write s w out, size_is s n out) at k.ensured.0, k.ensured.1 ∙ plain_buffer s w out ∙ buffer_is s n out);
}

-- What is promised of line endings, a line feed with or without a carriage return before it: faultless lines give one curve however each of
-- them ends, and a sheet in which no carriage return stands directly before a line feed is read as it was when a line feed alone ended a line.
use Rattle.std.specs.Prelude.{ℕ, ◌≤◌, ◌≡◌, List, length}
use Rattle.std.specs.Prelude.{Result}
use Rattle.meanings.specs.declared.Counts.{Counts}
use Rattle.meanings.specs.declared.Refusal.{Refusal}
use Rattle.meanings.specs.Calls.{answer_of}
use Rattle.meanings.specs.Limits.{full, max_sheet}
use Rattle.meanings.specs.Bytes.{LineEnding}
use Rattle.meanings.specs.Reports.{first_of, read_checks}
use Rattle.meanings.specs.Sheet.{EvaluationPoint}
use Rattle.meanings.specs.Sheet.{Injection, Outcome, or_next}
use Rattle.meanings.specs.SheetForm.{Ended, without_endings, print_sheet, contents_of, FitPoints, FitSamples}
use Rattle.meanings.specs.FeedSheet.{read_feed_sheet, NoReturnFeed}
use Rattle.meanings.specs.Output.{curve_text, outcome_text}
use Rattle.meanings.specs.Calls.{counts, read_minutes, read_values, read_evaluation_points, read_bandwidths}
use Rattle.meanings.specs.Calls.{filled_front, curve_size, buffer_refusal}
use Rattle.meanings.specs.Codes.{answered, no_detail}
use Rattle.meanings.specs.ranges.RangeOutput.{either_program}
use Rattle.laws.specs.ranges.RangeForm.{NamesRanges}
use Rattle.exports.specs.Answers.{sized, stored, count_numbers}
use Rattle.promises.specs.Calls.{ReadCall, TextCall, ExportedRead, ExportedText}

-- the lists that a reader leaves by the outcome o
pub record ListsBy (o : Outcome) (ts vs zs hs ts' vs' zs' hs' : List ℕ) : Type 0 where
  pub minutes : ts' ≡ read_minutes o ts
  pub values : vs' ≡ read_values o vs
  pub points : zs' ≡ read_evaluation_points o zs
  pub bandwidths : hs' ≡ read_bandwidths o hs

-- the reader's outcome when a line feed alone ended a line, with four lent lists, and with a buffer
abbrev pub read_before : List ℕ → List ℕ → List ℕ → List ℕ → List ℕ → Outcome
read_before s ts vs zs hs = or_next (first_of (read_checks full (length ts) (length vs) (length zs) (length hs))) (read_feed_sheet full s)

abbrev pub written_before : List ℕ → List ℕ → Outcome
written_before s out = or_next (buffer_refusal out) (read_feed_sheet full s)

pub record LineEndings : Type 0 where
  -- the lines ns and ks say the faultless ms and js, and each has its own ending, as have both header lines and the empty line
  pub any_endings : (ms : List EvaluationPoint) (js : List Injection) → FitPoints full ms → 1 ≤ length ms → FitSamples full js
      → (e d f : LineEnding) (ns : List (Ended EvaluationPoint)) (ks : List (Ended Injection)) → without_endings ns ≡ ms → without_endings ks ≡ js
      → length (print_sheet e ns d f ks) ≤ max_sheet → either_program (print_sheet e ns d f ks) ≡ curve_text (contents_of ms js)
  -- no carriage return stands directly before a line feed: the program, the reader, a sheet's text, and both calls for C and Rust; where a sheet with
  -- ranges is taken, of the others
  pub program_as_before : (s : List ℕ) → NoReturnFeed s → ¬ NamesRanges full s → either_program s ≡ outcome_text (read_feed_sheet full s)
  pub read_as_before : (s ts vs zs hs : List ℕ) (a : Result Counts Refusal) (ts' vs' zs' hs' : List ℕ) → NoReturnFeed s
      → ReadCall s ts vs zs hs a ts' vs' zs' hs'
      → (answer_of a ≡ counts (read_before s ts vs zs hs)) × ListsBy (read_before s ts vs zs hs) ts vs zs hs ts' vs' zs' hs'
  pub text_as_before : (s out : List ℕ) (a : Result ℕ Refusal) (out' : List ℕ) → NoReturnFeed s → ¬ NamesRanges full s → TextCall s out a out'
      → (answer_of a ≡ curve_size (written_before s out)) × (out' ≡ filled_front (written_before s out) curve_text out)
  pub exported_read_as_before : (s ts vs zs hs ns : List ℕ) (c : ℕ) (ts' vs' zs' hs' ns' : List ℕ) → NoReturnFeed s
      → ExportedRead s ts vs zs hs ns c ts' vs' zs' hs' ns'
      → (c ≡ answered no_detail (counts (sized 2 ns (read_before s ts vs zs hs))))
      × ListsBy (sized 2 ns (read_before s ts vs zs hs)) ts vs zs hs ts' vs' zs' hs'
      × (ns' ≡ stored count_numbers (counts (sized 2 ns (read_before s ts vs zs hs))) ns)
  pub exported_text_as_before : (s out : List ℕ) (c : ℕ) (out' : List ℕ) → NoReturnFeed s → ¬ NamesRanges full s → ExportedText s out c out'
      → (c ≡ answered (λ n. n) (curve_size (written_before s out))) × (out' ≡ filled_front (written_before s out) curve_text out)

-- The reading lines, line by line: what is left of the sheet's meaning after those read so far; and the call from it.
use Prim.Native.Nat.{ℕ, ◌-◌, ◌≤◌, ◌<◌}
use mathlib.Core.Path.{◌≡◌, refl, sym, ◌∙◌}
use mathlib.Core.List.{List, []}
use native.Mathlib.Omega.{arith}
use lib.ListN.{length, take, drop, drop_of_length-le}
use Rattle.meanings.specs.declared.Report.TheVariants.{MalformedLine}
use Rattle.meanings.specs.declared.Refusal.{Refusal}
use Rattle.std.specs.Prelude.{Result, Some, None, Ok, Err}
use Rattle.meanings.specs.Limits.{full}
use Rattle.meanings.specs.Bytes.{sample_header}
use Rattle.meanings.specs.Sheet.{lines, header, read_samples}
use Rattle.meanings.proofs.Checks.{differ_same}
use Rattle.sheet.specs.declared.lines.Line.{Line}
use Rattle.sheet.specs.Lines.{line_at}
use Rattle.sheet.proofs.LineEnds.{ended_line, text_begins, text_within, line_shortens}
use Rattle.sheet.specs.LineValues.{minute_before}
use Rattle.sheet.specs.declared.values.Progress.{Progress}
use Rattle.sheet.specs.FrontStages.{HeaderTried}
use Rattle.sheet.proofs.FrontLineSteps.{header_goes_on}
use Rattle.sheet.specs.SamplesStages.{SampleTried, samples_read, SamplesFound, samples_call, SamplesOutcome}
use Rattle.sheet.proofs.SamplesLineSteps.{samples_without_line, samples_at_line}
use Rattle.sheet.proofs.SamplesLastMinutes.{last_minute}

-- the reading lines from byte `from` up to byte p are read, as far as f tells; those that are kept stand in ts and vs
pub record SamplesSoFar (s : List ℕ) (from : ℕ) (ts vs : List ℕ) (p : ℕ) (f : Progress) : Type 0 where
  pub few : f.count ≤ 1024
  pub left : (zs hs : List ℕ) → read_samples full zs hs from [] [] [] (lines (drop from s))
      ≡ read_samples full zs hs p (minute_before f.last) (take f.count ts) (take f.count vs) (lines (drop p s))

pub samples_begin : {s : List ℕ} {from : ℕ} {ts vs : List ℕ} → SamplesSoFar s from ts vs from (record { count = 0; last = None })
samples_begin = record { few = omega arith; left = λ zs hs. refl }

module _ {s : List ℕ} {from : ℕ} {ts vs : List ℕ} {p : ℕ} {f : Progress} (w : SamplesSoFar s from ts vs p f) where
  pub samples_end : length s ≤ p → SamplesFound s from (Ok f.count) ts vs
  samples_end l = record { outcome = λ zs hs. w.left zs hs ∙ rw (drop_of_length-le s l); within = w.few }

  pub sample_line_unended : {r : Refusal} → p < length s → None ≡ line_at s p → r ≡ (record { report = MalformedLine; place = p })
      → SamplesFound s from (Err r) ts vs
  sample_line_unended l t e =
      record { outcome = λ zs hs. w.left zs hs ∙ samples_without_line full s zs hs p _ _ _ l (sym t) ∙ rw e; within = tt }

  -- a line, tried
  module _ {l : Line} (t : Some l ≡ line_at s p) {ts' vs' : List ℕ} where
    pub sample_line_refused : {r : Refusal} → SampleTried (take (l.end - p) (drop p s)) p ts vs f (Err r) ts' vs' → SamplesFound s from (Err r) ts' vs'
    sample_line_refused tried =
        record {
          outcome = λ zs hs. w.left zs hs ∙ samples_at_line full s zs hs p _ _ _ _ _ (ended_line t) ∙ tried.goes_on _;
          within = tt;
        }

    pub samples_go_on : {g : Progress} → SampleTried (take (l.end - p) (drop p s)) p ts vs f (Ok g) ts' vs'
        → SamplesSoFar s from ts' vs' l.next g
    samples_go_on {g} tried =
        record {
          few = tried.within.0;
          left = λ zs hs.
              w.left zs hs ∙ samples_at_line full s zs hs p _ _ _ _ _ (ended_line t) ∙ tried.goes_on _
              ∙ last_minute full zs hs l.next (minute_before f.last) g.last (take g.count ts') (take g.count vs') (lines (drop l.next s))
              tried.within.1;
        }

-- the call with lists of full length, behind the header line
pub samples_after_header : {s : List ℕ} {from : ℕ} {ts vs : List ℕ} {a b p : ℕ} {r : Result ℕ Refusal} → a ≡ 1024 → b ≡ 1024
    → HeaderTried sample_header s from (Some p) → SamplesFound s p r ts vs → SamplesOutcome s from a b r ts vs
unfolding samples_call
samples_after_header {a = a} {b = b} x y tried g =
    record { outcome = λ zs hs. rw (differ_same a 1024 x, differ_same b 1024 y) (header_goes_on _ tried ∙ g.outcome zs hs); within = g.within }

-- the call with lists of full length says what the sheet is from there on
module _ {s : List ℕ} {from : ℕ} {ts vs : List ℕ} {a b : ℕ} {r : Result ℕ Refusal} (call : SamplesOutcome s from a b r ts vs) where
  pub samples_of_call : a ≡ 1024 → b ≡ 1024 → (zs hs : List ℕ)
      → header sample_header from (lines (drop from s)) (λ p rest. read_samples full zs hs p [] [] [] rest) ≡ samples_read r zs hs ts vs
  unfolding samples_call
  samples_of_call x y zs hs = rw (differ_same a 1024 x, differ_same b 1024 y) at (call.outcome zs hs)

-- what reading the lines goes by
pub ruleset reading_samples = (samples_begin, samples_end, text_begins, text_within, line_shortens)

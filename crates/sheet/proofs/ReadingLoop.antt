-- The reading lines, line by line: what is left of their meaning after those read so far.
use Prim.Native.Nat.{ℕ, ◌-◌, ◌≤◌, ◌<◌}
use mathlib.Core.Path.{◌≡◌, refl, sym, ap, ◌∙◌}
use mathlib.Core.List.{List}
use Rattle.std.specs.Prelude.{Some, None, Ok, Err}
use native.Mathlib.Omega.{arith}
use lib.ListN.{length, take, drop, drop_of_length-le, length-drop}
use Rattle.meanings.specs.declared.Report.TheVariants.{MalformedLine}
use Rattle.meanings.specs.declared.Refusal.{Refusal}
use Rattle.meanings.specs.Limits.{full}
use Rattle.meanings.specs.Sheet.{Lines, end, unended, line, lines, refused_at}
use Rattle.laws.proofs.text.Texts.{no_lines}
use Rattle.meanings.specs.declared.ranges.Kind.{Kind}
use Rattle.meanings.specs.ranges.RangeSheet.{Readings, no_readings, reading_line, with_reading, read_readings}
use Rattle.sheet.specs.declared.lines.Line.{Line}
use Rattle.sheet.specs.Lines.{first_end, line_at}
use Rattle.sheet.proofs.LineEnds.{LineFound, ended_line, text_begins, text_within, line_shortens}
use Rattle.sheet.specs.LineValues.{minute_before}
use Rattle.sheet.specs.declared.values.Progress.{Progress}
use Rattle.sheet.specs.ReadingsStages.{read_so_far, kept_readings, ReadingTried, ReadingsFound}
use Rattle.sheet.proofs.ReadingsLastMinutes.{last_minute}

readings_without_line : (s : List ℕ) (k : Kind) (p : ℕ) (w : Readings) → p < length s → line_at s p ≡ None
    → read_readings full k p w (lines (drop p s)) kept_readings ≡ refused_at p 3
unfolding line_at
readings_without_line s k p w l h = by (lines (drop p s)) refl h
  where
    by : (r : Lines) → lines (drop p s) ≡ r → first_end p r ≡ None → read_readings full k p w r kept_readings ≡ refused_at p 3
    by end g h = let m = sym (length-drop p s) ∙ ap length (no_lines (drop p s) g) in absurd (omega arith)
    by (unended t) g h = refl
    by (line t d r) g h = let z : ◌≡◌ {A = ℕ} 0 1 = cc in absurd (omega arith)

readings_at_line : (s : List ℕ) (k : Kind) (p e n : ℕ) (w : Readings) → LineFound s p e n
    → read_readings full k p w (lines (drop p s)) kept_readings
    ≡ with_reading full p w (reading_line k (take (e - p) (drop p s))) (λ w'. read_readings full k n w' (lines (drop n s)) kept_readings)
readings_at_line s k p e n w f = rw (f.first_of_lines, f.passes)

-- the lines from byte `from` up to byte p are read, as far as f tells; those that are kept stand in three lists
pub record ReadingsSoFar (s : List ℕ) (from : ℕ) (k : Kind) (ts ls us : List ℕ) (p : ℕ) (f : Progress) : Type 0 where
  pub few : f.count ≤ 1024
  pub left : read_readings full k from no_readings (lines (drop from s)) kept_readings
      ≡ read_readings full k p (read_so_far (minute_before f.last) f.count ts ls us) (lines (drop p s)) kept_readings

pub readings_begin : {s : List ℕ} {from : ℕ} {k : Kind} {ts ls us : List ℕ}
    → ReadingsSoFar s from k ts ls us from (record { count = 0; last = None })
readings_begin = record { few = omega arith; left = refl }

module _ {s : List ℕ} {from : ℕ} {k : Kind} {ts ls us : List ℕ} {p : ℕ} {f : Progress} (w : ReadingsSoFar s from k ts ls us p f) where
  pub readings_end : length s ≤ p → ReadingsFound s from k (Ok f.count) ts ls us
  readings_end l = record { outcome = w.left ∙ rw (drop_of_length-le s l); within = w.few }

  pub reading_line_unended : {r : Refusal} → p < length s → None ≡ line_at s p → r ≡ (record { report = MalformedLine; place = p })
      → ReadingsFound s from k (Err r) ts ls us
  reading_line_unended l t e = record { outcome = w.left ∙ readings_without_line s k p _ l (sym t) ∙ rw e; within = tt }

  -- a line, tried
  module _ {l : Line} (t : Some l ≡ line_at s p) {ts' ls' us' : List ℕ} where
    pub reading_line_refused : {r : Refusal} → ReadingTried k (take (l.end - p) (drop p s)) p ts ls us f (Err r) ts' ls' us'
        → ReadingsFound s from k (Err r) ts' ls' us'
    reading_line_refused tried = record { outcome = w.left ∙ readings_at_line s k p _ _ _ (ended_line t) ∙ tried.goes_on _; within = tt }

    pub readings_go_on : {g : Progress} → ReadingTried k (take (l.end - p) (drop p s)) p ts ls us f (Ok g) ts' ls' us'
        → ReadingsSoFar s from k ts' ls' us' l.next g
    readings_go_on {g} tried =
        record {
          few = tried.within.0;
          left =
              w.left ∙ readings_at_line s k p _ _ _ (ended_line t) ∙ tried.goes_on _
              ∙ last_minute full k l.next (minute_before f.last) g.last (take g.count ts') (take g.count ls') (take g.count us')
              (lines (drop l.next s)) tried.within.1;
        }

-- what reading the lines goes by
pub ruleset reading_lines = (readings_begin, readings_end, text_begins, text_within, line_shortens)

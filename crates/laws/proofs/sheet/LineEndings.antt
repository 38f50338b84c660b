-- What a second line ending leaves as it was. Bytes without a carriage return directly before a line feed have the lines that line feeds alone
-- cut: a carriage return that is met there belongs to a text either way. And a sheet without a fault is read as its lists, which know nothing
-- of endings, so the same lines under other endings are read as the same.
use Prim.Native.Nat.{ℕ, ◌≤◌}
use mathlib.Core.Path.{◌≡◌, refl, ap, subst, ◌∙◌}
use mathlib.Core.List.{List, [], ◌∷◌}
use native.Mathlib.Omega.{arith}
use borrow.Author.Tests.{eq-eqb}
use lib.ListN.{length}
use Rattle.meanings.specs.declared.Limits.{Limits}
use Rattle.meanings.specs.Limits.{full, max_sheet}
use Rattle.meanings.specs.Bytes.{ascii, line_feed, carriage_return, LineEnding, feed}
use Rattle.meanings.specs.Reports.{given}
use Rattle.meanings.specs.Sheet.{EvaluationPoint}
use Rattle.meanings.specs.Sheet.{Lines, line, lines, Injection, refused_at, read_lines, read_sheet}
use Rattle.meanings.specs.SheetForm.{Ended, without_endings, print_sheet, contents_of, FitPoints, FitSamples}
use Rattle.meanings.specs.FeedSheet.{feed_lines, read_feed_sheet, NoReturnFeed}
use Rattle.laws.proofs.text.Texts.{FirstByte, is_feed, is_return, is_text, first_byte, first_line}
use Rattle.laws.proofs.sheet.Printed.{printed_is_read}

-- what follows the first byte has no such pair either
rest_free : (b : ℕ) (s : List ℕ) → NoReturnFeed (b ∷ s) → NoReturnFeed s
rest_free b [] n = tt
rest_free b (c ∷ s) n = n.1

-- a carriage return before an empty line's line feed would be such a pair
no_return_here : (s : List ℕ) (ls : Lines) → lines s ≡ line [] feed ls → ¬ NoReturnFeed (carriage_return ∷ s)
no_return_here [] ls g n = let z : ◌≡◌ {A = ℕ} 0 1 = cc in omega arith
no_return_here (c ∷ s) ls g n =
    let o = first_line (c ∷ s) [] feed ls g in
    let e : c ≡ line_feed = cc in
    n.0 (refl, e)

pub lines_as_before : (s : List ℕ) → NoReturnFeed s → lines s ≡ feed_lines s
lines_as_before [] n = refl
lines_as_before (b ∷ s) n = by (first_byte b s) (lines_as_before s (rest_free b s n))
  where
    by : FirstByte b s → lines s ≡ feed_lines s → lines (b ∷ s) ≡ feed_lines (b ∷ s)
    by (is_feed f g) k = g ∙ rw (eq-eqb b line_feed f, k)
    by (is_return f ls h g) k = absurd (no_return_here s ls h (subst (λ x. NoReturnFeed (x ∷ s)) f n))
    by (is_text f g w) k = g ∙ rw (f, k)

-- a sheet in which no carriage return stands directly before a line feed has the outcome it had
pub outcome_as_before : (L : Limits) (s : List ℕ) → NoReturnFeed s → read_sheet L s ≡ read_feed_sheet L s
unfolding read_sheet read_feed_sheet
outcome_as_before L s n = ap (read_lines L (length s)) (lines_as_before s n)

-- what that was where a carriage return did stand there: a wrong byte in each line
pub return_was_wrong :
    (read_feed_sheet full (ascii "mark,half\r\n0,1\n") ≡ refused_at 0 2)
    × (read_feed_sheet full (ascii "mark,half\n0,1\r\n") ≡ refused_at 10 3)
    × (read_feed_sheet full (ascii "mark,half\n0,1\n\r\n") ≡ refused_at 14 3)
    × (read_feed_sheet full (ascii "mark,half\n0,1\n\nminute,inj,vdk\r\n") ≡ refused_at 15 2)
    × (read_feed_sheet full (ascii "mark,half\n0,1\n\nminute,inj,vdk\n0,3,1\r\n") ≡ refused_at 30 3)
unfolding read_feed_sheet
return_was_wrong = (refl, refl, refl, refl, refl)

-- faultless lines are read as what they say, under any endings
pub read_under_any_endings : (L : Limits) (ms : List EvaluationPoint) (js : List Injection) → FitPoints L ms → 1 ≤ length ms → FitSamples L js
    → (e d f : LineEnding) (ns : List (Ended EvaluationPoint)) (ks : List (Ended Injection)) → without_endings ns ≡ ms → without_endings ks ≡ js
    → length (print_sheet e ns d f ks) ≤ max_sheet → read_sheet L (print_sheet e ns d f ks) ≡ given (contents_of ms js)
read_under_any_endings L ms js fit some_point fits e d f ns ks p q short =
    printed_is_read L (print_sheet e ns d f ks) (contents_of ms js) (record {
      header_ending = e;
      point_lines = ns;
      empty_line_ending = d;
      sample_header_ending = f;
      sample_lines = ks;
      printed = refl;
      short = short;
      some_point = rw p some_point;
      fit_points = rw p fit;
      fit_samples = rw q fits;
      points = rw p;
      bandwidths = rw p;
      minutes = rw q;
      values = rw q;
    })

-- No text of a plain sheet has more than 31,291 bytes: 36 for the names, 61 for each of 512 marks, 1 for the empty line, 12 for the names of
-- the totals, and 10 for the totals, since there are at most 1,024 readings and two passes a reading. A refusal is shorter.
use Prim.Native.Nat.{ℕ, ◌≤◌}
use mathlib.Core.Path.{◌≡◌, refl}
use mathlib.Core.List.{List}
use native.Mathlib.Nat.{le_refl}
use native.Mathlib.Omega.{arith}
use lib.ListN.{length, length-append}
use Rattle.meanings.specs.Limits.{full, max_output}
use Rattle.meanings.specs.Moves.{moves}
use Rattle.meanings.specs.Reports.{given, refused}
use Rattle.meanings.specs.Running.{fresh, passes}
use Rattle.meanings.specs.Sheet.{Contents, Outcome, read_sheet}
use Rattle.meanings.specs.Output.{curve_text, outcome_text, program}
use Rattle.laws.proofs.text.Numbers.{decimal_length}
use Rattle.meanings.proofs.Passes.{passes_at_most_twice}
use Rattle.laws.proofs.output.AcceptedSheet.{AcceptedContents, accepted_contents}
use Rattle.laws.proofs.output.CurveLines.{curve_lines_fit}
use Rattle.laws.proofs.output.Refusals.{refusal_text_fits}

pub curve_text_fits : (c : Contents) → AcceptedContents c → length (curve_text c) ≤ max_output
unfolding curve_text
curve_text_fits c a =
    let n = passes c.minutes c.values fresh (moves c.points c.bandwidths) in
    let lines = curve_lines_fit c a (length c.points) (le_refl _) in
    let kept = decimal_length (length c.minutes) 3 (omega arith) in
    let total = decimal_length n 3 (omega (arith, passes_at_most_twice c.minutes c.values (moves c.points c.bandwidths))) in
    simp length-append (omega arith)

pub program_fits : (s : List ℕ) → length (program s) ≤ max_output
unfolding program
program_fits s = by (read_sheet full s) refl
  where
    by : (o : Outcome) → read_sheet full s ≡ o → length (outcome_text o) ≤ max_output
    by (given c) e = curve_text_fits c (accepted_contents s c e)
    by (refused f) e = let l = refusal_text_fits s f e in omega arith

-- What is written of the used parts of the lists, once an accepted sheet is read into them, is the sheet's text.
use Prim.Native.Nat.{ℕ, min}
use Rattle.std.proofs.lemmas.List.{take_min}
use Rattle.std.specs.Prelude.{Result, Ok}
use Rattle.meanings.specs.declared.ranges.RangeCounts.{RangeCounts}
use mathlib.Core.Path.{◌≡◌, sym, ap, ◌∙◌}
use mathlib.Core.List.{List}
use lib.ListN.{length, take}
use Rattle.meanings.specs.declared.Refusal.{Refusal}
use Rattle.meanings.specs.Limits.{max_output}
use Rattle.meanings.proofs.Checks.{differ_same}
use Rattle.meanings.specs.ranges.RangeOutput.{write_either, write_either_buffer}
use Rattle.sheet.specs.ScanStages.{EitherScanned}
use Rattle.text.specs.KindText.{KindWritten}
use Rattle.text.specs.SheetText.{SheetAccepted, SheetWritten}
use Rattle.text.proofs.Texts.{in_front}

-- the used part of a list, which is used whole where it has fewer
pub used_part : (n m : ℕ) (xs : List ℕ) → length xs ≡ m → take (min n m) xs ≡ take n xs
used_part n m xs e = ap (λ (k : ℕ). take (min n k) xs) (sym e) ∙ take_min n xs

-- a sheet read into lists: those of an accepted one have its contents as their used parts
module _ {s ts ls us zs hs : List ℕ} {u : RangeCounts} (scanned : EitherScanned s (Ok u) ts ls us zs hs) where
  parts_accepted : SheetAccepted u.kind (take u.samples ts) (take u.samples ls) (take u.samples us) (take u.points zs) (take u.points hs)
  parts_accepted = record { sheet = s; accepted = scanned.outcome }

  pub sheet_written : {w : Result ℕ Refusal} {out now : List ℕ} → length out ≡ max_output
      → KindWritten u.kind (take u.samples ts) (take u.samples ls) (take u.samples us) (take u.points zs) (take u.points hs) out w now
      → SheetWritten s out w now
  unfolding write_either write_either_buffer
  sheet_written {w} {out} {now} right kind =
      let f = in_front _ _ _ _ _ out right w now u.kind parts_accepted kind in
      record {
        size = f.size ∙ rw (differ_same (length out) max_output right, scanned.outcome);
        text = f.text ∙ rw (differ_same (length out) max_output right, scanned.outcome);
      }

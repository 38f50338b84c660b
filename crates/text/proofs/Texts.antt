-- The lists of an accepted sheet are swept with room for their rows, whatever the kind: so what is answered is the text and its length.
use Prim.Native.Nat.{ℕ, ◌*◌, ◌≤◌, min}
use Rattle.std.specs.Prelude.{Result}
use Rattle.meanings.specs.declared.Refusal.{Refusal}
use mathlib.Core.Path.{◌≡◌, ap, ◌∙◌}
use mathlib.Core.List.{List}
use native.Mathlib.Omega.{arith}
use lib.ListN.{length, replicate, length-replicate}
use Rattle.meanings.specs.Limits.{full, max_output, row_width}
use Rattle.meanings.specs.Reports.{given}
use Rattle.meanings.proofs.Checks.{same_limits, differ_same}
use Rattle.meanings.specs.declared.ranges.Kind.{Kind}
use Rattle.meanings.specs.declared.ranges.Kind.TheVariants.{Plain, Ranges}
use Rattle.meanings.specs.ranges.Ranges.{range_row_width}
use Rattle.meanings.specs.ranges.RangeOutput.{text_of_kind}
use Rattle.meanings.proofs.Sweeps.{ranges_accept, plain_accepts}
use Rattle.meanings.proofs.Within.{lows_chosen}
use Rattle.laws.proofs.ranges.RangesSwept.{AcceptedRanges, accepted_ranges, accepted_sheet_is_swept}
use Rattle.text.specs.Table.{contents_of, lists_swept}
use Rattle.text.specs.RangeTable.{ranges_of, ranges_swept}
use Rattle.text.specs.KindText.{KindWritten}
use Rattle.text.specs.SheetText.{PlainAccepted, RangesAccepted, SheetAccepted, lists_of, InFront}

-- those of an accepted sheet are accepted by both
module _ (k : Kind) (ts ls us zs hs : List ℕ) (a : SheetAccepted k ts ls us zs hs) where
  accepted : AcceptedRanges full (lists_of k ts ls us zs hs)
  accepted = accepted_ranges full a.sheet (lists_of k ts ls us zs hs) a.accepted

  pub accepted_by_ranges : RangesAccepted ts ls us zs hs
  accepted_by_ranges = record {
    few = accepted.marks.few;
    swept = λ rs seven. accepted_sheet_is_swept a.sheet (lists_of k ts ls us zs hs) a.accepted rs seven;
  }

  -- the lowest values are values in their ranges
  pub accepted_as_plain : PlainAccepted ts ls zs hs
  accepted_as_plain = record {
    few = accepted.marks.few;
    swept = λ rs five.
        let rows : List ℕ = replicate (range_row_width * length zs) 0 in
        let found = accepted_by_ranges.swept rows (length-replicate (range_row_width * length zs) 0) in
        plain_accepts full (same_limits full) ts ls us zs hs rows found ls
        (lows_chosen ls us (ranges_accept full ts ls us zs hs rows found).uncrossed) rs five;
  }

-- at most 512 marks have all their rows
all_marks : (z : ℕ) → z ≤ 512 → min z 512 ≡ z
all_marks z few = omega (arith, few)

-- the text of lists that the sweep of their kind accepts
module _ (ts ls us zs hs out : List ℕ) (right : length out ≡ max_output) (r : Result ℕ Refusal) (now : List ℕ) where
  plain_in_front : PlainAccepted ts ls zs hs → KindWritten Plain ts ls us zs hs out r now
      → InFront (text_of_kind Plain (lists_of Plain ts ls us zs hs)) out r now
  unfolding lists_swept
  plain_in_front a w =
      let swept = a.swept w.rows (w.room ∙ ap (λ (m : ℕ). row_width * m) (all_marks (length zs) a.few)) in
      let read : lists_swept ts ls zs hs w.rows out ≡ given (contents_of ts ls zs hs) = rw (differ_same (length out) max_output right, swept) in
      record { size = w.size ∙ rw read; text = w.text ∙ rw read }

  ranges_in_front : RangesAccepted ts ls us zs hs → KindWritten Ranges ts ls us zs hs out r now
      → InFront (text_of_kind Ranges (lists_of Ranges ts ls us zs hs)) out r now
  unfolding ranges_swept
  ranges_in_front a w =
      let swept = a.swept w.rows (w.room ∙ ap (λ (m : ℕ). range_row_width * m) (all_marks (length zs) a.few)) in
      let read : ranges_swept ts ls us zs hs w.rows out ≡ given (ranges_of ts ls us zs hs) = rw (differ_same (length out) max_output right, swept) in
      record { size = w.size ∙ rw read; text = w.text ∙ rw read }

  -- whatever the kind
  pub in_front : (k : Kind) → SheetAccepted k ts ls us zs hs → KindWritten k ts ls us zs hs out r now
      → InFront (text_of_kind k (lists_of k ts ls us zs hs)) out r now
  in_front Plain a w = plain_in_front (accepted_as_plain Plain ts ls us zs hs a) w
  in_front Ranges a w = ranges_in_front (accepted_by_ranges Ranges ts ls us zs hs a) w

-- Where the loop is left, the part ends: at the text's end or at a comma.
use Rattle.std.proofs.Common.{arith}
use Rattle.sheet.proofs.FieldsLaws.{PartEnd, no_digit_here, part_ends_at_end, part_ends_at_comma}
use Rattle.sheet.proofs.FieldsLaws.{leading_zero_no_field, long_no_field, behind_no_number, plain_number}
use Rattle.sheet.proofs.fields.number_at.Goals as goal
use Rattle.sheet.proofs.fields.number_at.Goals.{Else-end-from, else-loop-at-test, then-loop-at-test+then-not-is_ascii_digit+else-b-ne-COMMA}
use Rattle.sheet.proofs.fields.number_at.Goals.{else-end-from-gt1-via-then-end-from-gt1+else-text-from-eq-ZERO, else-end-from-gt1-via-else-end-from-gt1}

part_end : (c : Else-end-from) → PartEnd c.args.text.now c.args.from c.loop-at-test.end c.loop-at.value
part_end c = elim c.loop-at-test.branch [
  | else-loop-at-test w ↦ rw (w.end-is, c.loop-at.invariant.1) (part_ends_at_end c.loop-at.invariant.0 (omega arith) (omega arith))
  | then-loop-at-test+then-not-is_ascii_digit+else-b-ne-COMMA w ↦
      rw w.end-is (part_ends_at_comma c.loop-at.invariant.0 w.loop-at-test.true w.if-b-ne-COMMA.false)
]

pub returns-then-b-ne-COMMA : goal.returns-then-b-ne-COMMA
returns-then-b-ne-COMMA c = no_digit_here c.loop-at.invariant.0 (search) (search) c.if-not-is_ascii_digit.ensures.cases

pub returns-then-end-from : goal.returns-then-end-from
returns-then-end-from c = elim c.loop-at-test.branch [
  | else-loop-at-test w ↦ behind_no_number _ _ (omega (arith, c.loop-at.invariant.1))
  | then-loop-at-test+then-not-is_ascii_digit+else-b-ne-COMMA w ↦
      (part_ends_at_comma c.loop-at.invariant.0 w.loop-at-test.true w.if-b-ne-COMMA.false).none_there (omega (arith, w.end-is))
]

pub returns-then-end-from-gt5 : goal.returns-then-end-from-gt5
returns-then-end-from-gt5 c = long_no_field (part_end (goal.at.returns-then-end-from-gt5 c).Else-end-from) (omega arith) (omega arith)

pub returns-then-text-from-eq-ZERO : goal.returns-then-text-from-eq-ZERO
returns-then-text-from-eq-ZERO c =
    let s = part_end (goal.at.returns-then-text-from-eq-ZERO c).Else-end-from in
    leading_zero_no_field s (omega arith) (omega arith) c.if-text-from-eq-ZERO.true

pub returns : goal.returns
returns c =
    plain_number (part_end (goal.at.returns c).Else-end-from) (omega arith) (λ l. omega arith) (elim c.else-end-from-gt1.branch [
      | else-end-from-gt1-via-then-end-from-gt1+else-text-from-eq-ZERO w ↦ λ _. w.if-text-from-eq-ZERO.false
      | else-end-from-gt1-via-else-end-from-gt1 w ↦ λ l z. omega arith
    ])

use Rattle.std.proofs.Common.{rules, ap, ◌∙◌, drop}
use Rattle.std.proofs.lemmas.List.{drop-drop}
use Rattle.sheet_to_curve.proofs.Pieces.{write_more, write_more_logged, handed_on, written_front, written_zero}
use Rattle.sheet_to_curve.proofs.output.write_text.Goals as goal

pub loop-done-preserved : goal.loop-done-preserved
loop-done-preserved g c =
    let before = c.loop-done.invariant in
    let wrote = c.in_ok-more.ensures in
    let n = c.in_ok-more.more in (
      search rules,
      write_more _ _ _ c.loop-done.done n c.args.text.now before.1 wrote.bytes,
      write_more_logged _ _ _ c.loop-done.done n c.args.text.now wrote.bound (search rules) before.2 wrote.logged,
      search rules,
      wrote.spare ∙ ap (drop n) before.4 ∙ drop-drop n c.loop-done.done _,
      search rules,
    )

pub returns-then-more-eq0-clause-err : goal.returns-then-more-eq0-clause-err
returns-then-more-eq0-clause-err g c =
    let before = c.loop-done.invariant in
    let wrote = c.in_ok-more.ensures in
    let none = c.if-more-eq0.true in
    written_zero _ _ _ _ _ _ c.loop-done.done c.in_ok-more.more c.args.text.now c.from.result (search rules) before.1 wrote.bytes none before.2
    wrote.logged (search rules)

pub returns-in_err-more-clause-err : goal.returns-in_err-more-clause-err
returns-in_err-more-clause-err g c =
    let before = c.loop-done.invariant in
    let failed = c.in_err-more.ensures in
    handed_on c.from_residual.result c.in_err-more.field-0.0 _ c.from_residual.ensures.1
    (written_front _ _ _ _ _ _ c.loop-done.done c.args.text.now _ (search rules) before.1 failed.bytes before.2 failed.logged)

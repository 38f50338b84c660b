use Rattle.sheet_to_curve.proofs.tell.Goals as goal

pub returns-clause-err : goal.returns-clause-err
returns-clause-err g c = rw (← c.line.ensures) c.write_text.ensures.err

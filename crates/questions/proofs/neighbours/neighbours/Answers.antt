-- Every check is made before the first store, so a refusal leaves both lists. Where there is none the half widths are filled in, and the sweep
-- with them, which is never refused, leaves their rows.
use Rattle.questions.proofs.Calls.{fillable, rows_given, never_refused}
use Rattle.questions.proofs.neighbours.neighbours.Goals as goal

pub put_bandwidths-requires : goal.put_bandwidths-requires
put_bandwidths-requires c = search (fillable, c.judged.ensures, c.in_ok-judged.was)

pub returns-in_err-swept-clause-result_value : goal.returns-in_err-swept-clause-result_value
returns-in_err-swept-clause-result_value c = absurd (search (never_refused, c.judged.ensures, c.in_ok-judged.was, c.in_err-swept.was))

pub returns-in_err-swept-clause-rows_after : goal.returns-in_err-swept-clause-rows_after
returns-in_err-swept-clause-rows_after c = absurd (search (never_refused, c.judged.ensures, c.in_ok-judged.was, c.in_err-swept.was))

pub returns-clause-rows_after : goal.returns-clause-rows_after
returns-clause-rows_after c = search (rows_given, c.judged.ensures, c.in_ok-judged.was)

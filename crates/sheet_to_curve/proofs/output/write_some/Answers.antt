use Rattle.std.proofs.Common.{rules, refl}
use Rattle.std.specs.Prelude.{Err}
use Rattle.sheet_to_curve.proofs.Events.{moved_interrupted}
use Rattle.sheet_to_curve.proofs.output.write_some.Goals as goal

pub loop-preserved : goal.loop-preserved
loop-preserved g c = (
  search rules,
  search rules,
  search rules,
  moved_interrupted (Err c.in-Err.e) c.loop.invariant.3 c.in-Err.ensures.logged (search rules) refl,
  search rules,
)

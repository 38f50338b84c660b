-- Where the header line stands the reading lines follow it, and what they give is given.
use native.Mathlib.Omega.{arith}
use Rattle.std.proofs.lemmas.Grind.{common_steps}
use Rattle.sheet.proofs.SampleLoop.{samples_after_header}
use Rattle.sheet.proofs.samples.read_samples.Goals as goal

pub returns : goal.returns
returns c = samples_after_header (grind (arith, common_steps)) (grind (arith, common_steps)) c.in-Some.ensures c.scan_samples.ensures

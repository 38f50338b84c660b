-- A line that fits is stored part by part; for any other nothing is.
use Rattle.text.proofs.Fitting.{line_fits, no_line_size, no_line_listed}
use Rattle.text.proofs.lines.put_line.Goals as goal

pub put_whole_line-requires : goal.put_whole_line-requires
put_whole_line-requires c = search line_fits

pub returns-clause-value : goal.returns-clause-value
returns-clause-value c = search no_line_size

pub returns-clause-out_after : goal.returns-clause-out_after
returns-clause-out_after c = search no_line_listed

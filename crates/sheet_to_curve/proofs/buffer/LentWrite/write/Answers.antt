use Rattle.std.proofs.Common.{◌+◌, sym, ◌∙◌, arith}
use Rattle.std.proofs.lemmas.List.{drop-drop}
use borrow.Rule.Slice.PartMut.{drop_put}
use Rattle.sheet_to_curve.proofs.buffer.LentWrite.write.Goals as goal

pub returns-clause-spare : goal.returns-clause-spare
returns-clause-spare c =
    let used = c.args.self.now.used in
    let n = c.min-n.result in
    drop_put used (used + n) c.args.self.now.buf.now c.copy_from_slice.new.self (omega arith) (omega arith) (omega arith) ∙ sym (drop-drop n used _)

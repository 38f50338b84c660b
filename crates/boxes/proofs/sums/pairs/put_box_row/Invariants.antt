-- Each turn stores the two numbers of one pair more.
use Rattle.std.proofs.Common.{◌≡◌, ◌*◌, take}
use Rattle.meanings.specs.boxes.Lent.{firsts, ends}
use Rattle.boxes.specs.Pairs.{table_row}
use Rattle.boxes.proofs.sums.pairs.put_box_row.Given as goal

abbrev pub invariant-loop-k : goal.invariant-loop-k
invariant-loop-k l =
    take (2 * l.k) l.row ≡ table_row l.tables.counts.now l.tables.sums.now l.window.first l.window.end (firsts l.others) (ends l.others) l.k

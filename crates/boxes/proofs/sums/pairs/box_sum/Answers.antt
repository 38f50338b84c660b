-- The rules tell of an array that each of its numbers fits its type.
use borrow.Author.Rules.{rules}
use Rattle.boxes.proofs.SumsStoring.{four_terms_are}
use Rattle.boxes.proofs.sums.pairs.box_sum.Goals as goal

pub returns : goal.returns
returns c = four_terms_are c.args.table.now _ _ _ _ (λ i. search rules)

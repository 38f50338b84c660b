-- Each turn takes the reading that the iterator gives, with the weight that the table has at its distance.
use Rattle.std.proofs.Common.{rules, arith, ◌<◌}
use Rattle.std.proofs.lemmas.List.{length-append}
use Rattle.questions.proofs.Weighing.{reading_given, weight_fits, term_fits, sum_fits, weighing_goes_on}
use Rattle.questions.proofs.biweight.weigh.Goals as goal

pub overflow_add-weight : goal.overflow_add-weight
overflow_add-weight c =
    let r = reading_given c.args.run.minutes.now c.args.run.values.now _ _ _ c.next.new.self _ _ (search rules) (search rules) c.loop-minute.yielded_by
    c.in-Some.is c.next.ensures.steps in
    search weight_fits

pub overflow_mul-sum : goal.overflow_mul-sum
overflow_mul-sum c =
    let r = reading_given c.args.run.minutes.now c.args.run.values.now _ _ _ c.next.new.self _ _ (search rules) (search rules) c.loop-minute.yielded_by
    c.in-Some.is c.next.ensures.steps in
    let v : c.in-Some.value < 65536 = search (rules, arith) in
    search term_fits

pub overflow_add-sum : goal.overflow_add-sum
overflow_add-sum c =
    let r = reading_given c.args.run.minutes.now c.args.run.values.now _ _ _ c.next.new.self _ _ (search rules) (search rules) c.loop-minute.yielded_by
    c.in-Some.is c.next.ensures.steps in
    let v : c.in-Some.value < 65536 = search (rules, arith) in
    search sum_fits

pub loop-minute-preserved : goal.loop-minute-preserved
loop-minute-preserved c =
    let r = reading_given c.args.run.minutes.now c.args.run.values.now _ _ _ c.next.new.self _ _ (search rules) (search rules) c.loop-minute.yielded_by
    c.in-Some.is c.next.ensures.steps in
    let v : c.in-Some.value < 65536 = search (rules, arith) in
    search (weighing_goes_on, length-append)

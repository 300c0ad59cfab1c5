use Rattle.std.proofs.Common.{refl}
use Rattle.bc_script.proofs.Sums.{answer_more}
use Rattle.bc_script.proofs.summary.sum_of_all.Goals as goal

pub loop-answer-preserved : goal.loop-answer-preserved
loop-answer-preserved c =
    answer_more c.args.answers.now c.answer-item.result c.loop-answer.answer-index c.loop-answer.sum c.sum_of-sum.result _
    c.loop-answer-test.true c.answer-item.is c.loop-answer.invariant c.sum_of-sum.ensures refl

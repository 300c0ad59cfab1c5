use Rattle.bc_script.proofs.Sums.{FrontAll}
use Rattle.bc_script.proofs.summary.sum_of_all.Given as goal

abbrev pub invariant-loop-answer : goal.invariant-loop-answer
invariant-loop-answer l = FrontAll l.answers l.answer-index l.sum

use Rattle.bc_script.proofs.Sums.{FrontSums}
use Rattle.bc_script.proofs.summary.sum_of_values.Given as goal

abbrev pub invariant-loop-place : goal.invariant-loop-place
invariant-loop-place l = FrontSums l.first l.values l.place l.sum

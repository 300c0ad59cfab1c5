use Rattle.bc_enter.proofs.Low.{LowSoFar}
use Rattle.bc_enter.proofs.needed.oldest_needed.Given as goal

abbrev pub invariant-loop-i : goal.invariant-loop-i
invariant-loop-i l = LowSoFar l.read.entries l.next l.low l.i

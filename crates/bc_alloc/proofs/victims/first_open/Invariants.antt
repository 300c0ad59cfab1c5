use Rattle.bc_alloc.proofs.Open.{FirstBelow}
use Rattle.bc_alloc.proofs.victims.first_open.Given as goal

abbrev pub invariant-loop-k : goal.invariant-loop-k
invariant-loop-k l = FirstBelow l.records l.listed l.k l.first

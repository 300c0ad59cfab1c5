use Rattle.bc_alloc.proofs.Open.{FirstBelow}
use Rattle.bc_plain.proofs.alloc.first_open.Given as goal

abbrev pub invariant-loop-bucket : goal.invariant-loop-bucket
invariant-loop-bucket l = FirstBelow l.records l.listed l.bucket l.first

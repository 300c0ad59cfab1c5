use Rattle.bc_recover.proofs.Marked.{MarkedSoFar}
use Rattle.bc_recover.proofs.buckets.mark_metadata.Given as goal

abbrev pub invariant-loop-k : goal.invariant-loop-k
invariant-loop-k l = MarkedSoFar l.uses l.k l.initial.buckets l.buckets

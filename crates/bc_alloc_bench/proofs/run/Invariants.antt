use Rattle.std.proofs.Common.{◌≡◌, length}
use Rattle.bc_alloc_bench.proofs.run.Given as goal

abbrev pub invariant-loop-refill : goal.invariant-loop-refill
invariant-loop-refill g l = length l.buckets.records ≡ l.g.nbuckets

use Rattle.std.proofs.Common.{◌≡◌, length}
use Rattle.bc_alloc_bench.proofs.random_buckets.Given as goal

abbrev pub invariant-loop-k : goal.invariant-loop-k
invariant-loop-k l = length l.gens.records ≡ l.g.nbuckets

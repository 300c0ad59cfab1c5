use Rattle.std.proofs.Common.{◌≡◌, length}
use Rattle.bc_plain_rows.proofs.lists.some_buckets.Given as goal

abbrev pub invariant-loop-bucket : goal.invariant-loop-bucket
invariant-loop-bucket l = length l.gens.records ≡ l.g.nbuckets

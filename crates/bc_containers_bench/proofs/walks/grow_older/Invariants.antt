use Rattle.std.proofs.Common.{◌≡◌, length}
use Rattle.bc_containers_bench.proofs.walks.grow_older.Given as goal

abbrev pub invariant-loop-hit : goal.invariant-loop-hit
invariant-loop-hit l = length l.b.records ≡ l.size

use Rattle.std.proofs.Common.{◌≡◌, length}
use Rattle.bc_containers_bench.proofs.walks.measure_walks.Given as goal

abbrev pub invariant-loop-round : goal.invariant-loop-round
invariant-loop-round g l = (length l.walk ≡ length l.b.records) × (length l.b.records ≡ l.size)

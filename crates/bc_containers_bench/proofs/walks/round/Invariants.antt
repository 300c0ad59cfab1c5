use Rattle.std.proofs.Common.{◌≡◌, length}
use Rattle.bc_containers_bench.proofs.walks.round.Given as goal

abbrev pub invariant-loop-key : goal.invariant-loop-key
invariant-loop-key l = (length l.walk ≡ length l.b.records) × (length l.b.records ≡ length l.fn.b.records)

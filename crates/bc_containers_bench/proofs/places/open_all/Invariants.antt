use Rattle.bc_alloc.specs.Buckets.{AreFor}
use Rattle.bc_fill.specs.Fill.{AreOpen}
use Rattle.bc_containers_bench.proofs.places.open_all.Given as goal

abbrev pub invariant-loop-bucket : goal.invariant-loop-bucket
invariant-loop-bucket l = AreFor l.r l.b × AreOpen l.f l.r l.b

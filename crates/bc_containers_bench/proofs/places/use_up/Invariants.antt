use Rattle.bc_alloc.specs.Buckets.{AreFor}
use Rattle.bc_fill.specs.Fill.{AreOpen}
use Rattle.bc_containers_bench.proofs.places.use_up.Given as goal

abbrev pub invariant-loop-place : goal.invariant-loop-place
invariant-loop-place l = AreFor l.r l.b × AreOpen l.f l.r l.b

use Rattle.bc_alloc.specs.Buckets.{AreFor}
use Rattle.bc_fill.specs.Fill.{AreOpen}
use Rattle.bc_containers_bench.proofs.places.measure.Given as goal

abbrev pub invariant-loop-round : goal.invariant-loop-round
invariant-loop-round g l = AreFor l.r l.b × AreOpen l.fill l.r l.b

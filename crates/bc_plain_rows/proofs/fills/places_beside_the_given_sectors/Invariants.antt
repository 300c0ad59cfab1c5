use Rattle.bc_alloc.specs.Buckets.{AreFor}
use Rattle.bc_fill.specs.Fill.{AreOpen}
use Rattle.bc_plain_rows.proofs.fills.places_beside_the_given_sectors.Given as goal

abbrev pub invariant-loop-step : goal.invariant-loop-step
invariant-loop-step g l = AreFor l.r l.b × AreOpen l.fill l.r l.b

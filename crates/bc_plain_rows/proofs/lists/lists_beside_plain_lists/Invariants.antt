use Rattle.bc_alloc.specs.Buckets.{AreFor}
use Rattle.bc_plain_rows.proofs.lists.lists_beside_plain_lists.Given as goal

abbrev pub invariant-loop-step : goal.invariant-loop-step
invariant-loop-step g l = AreFor l.r l.b

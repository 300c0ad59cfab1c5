use Rattle.bc_alloc.proofs.Loops.{GivenBack}
use Rattle.bc_alloc.proofs.reserves.Reserves.give_back_all.Given as goal

abbrev pub invariant-loop-bucket : goal.invariant-loop-bucket
invariant-loop-bucket l = GivenBack l.fn.self l.fn.b l.old l.bucket-index l.self l.b

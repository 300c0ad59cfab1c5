use Rattle.bc_alloc.specs.Reserves.{empty}
use Rattle.bc_alloc.proofs.Loops.{Filled}
use Rattle.bc_alloc.proofs.reserves.Reserves.new.Given as goal

abbrev pub invariant-loop-bucket : goal.invariant-loop-bucket
invariant-loop-bucket l = Filled (empty l.fn.g) l.spare l.bucket-index l.reserves

use Rattle.std.proofs.Common.{take}
use Rattle.bc_ready.proofs.Checks.{EachIs}
use Rattle.bc_ready.proofs.go.are_taken.Given as goal
use Rattle.bc_ready.specs.Free.{IsTakenOnce}

abbrev pub invariant-loop-bucket : goal.invariant-loop-bucket
invariant-loop-bucket l = EachIs (IsTakenOnce l.part l.new) (take l.bucket-index l.new)

use Rattle.std.proofs.Common.{take}
use Rattle.bc_ready.proofs.Checks.{EachIs}
use Rattle.bc_ready.proofs.go.are_loose.Given as goal
use Rattle.bc_ready.specs.Free.{IsLooseOnce}

abbrev pub invariant-loop-bucket : goal.invariant-loop-bucket
invariant-loop-bucket l = EachIs (IsLooseOnce l.part l.old) (take l.bucket-index l.old)

use Rattle.std.proofs.Common.{◌≡◌, ◌≤◌, take}
use Rattle.bc_alloc.specs.Reserve.{times}
use Rattle.bc_ready.proofs.go.times_among.Given as goal

abbrev pub invariant-loop-other : goal.invariant-loop-other
invariant-loop-other l = (l.count ≡ times l.bucket (take l.other-index l.among))
    × (l.count ≤ l.other-index)

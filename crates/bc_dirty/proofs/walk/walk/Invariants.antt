use Rattle.std.proofs.Common.{◌-◌}
use Rattle.bc_dirty.proofs.walk.walk.Given as goal
use Rattle.bc_dirty.proofs.Walking.{IsUnderWay}

abbrev pub invariant-loop-first : goal.invariant-loop-first
invariant-loop-first g l = IsUnderWay g.C.Disk.facts g.B.Disk.facts l.parts l.initial.seat l.seat l.first l.size

abbrev pub decreases-loop-first : goal.decreases-loop-first
decreases-loop-first g l = l.size - l.first

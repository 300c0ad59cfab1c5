use Rattle.std.proofs.Common.{◌/◌, ◌-◌}
use Rattle.bc_around.specs.Line.{HasWrittenSome}
use Rattle.bc_flush.specs.bc_job.Asked.{IsFor}
use Rattle.bc_flush.specs.bc_request.Asked.{IsIdle}
use Rattle.bc_around.proofs.line.write.Given as goal

-- the pieces so far are written
abbrev pub invariant-loop-number : goal.invariant-loop-number
invariant-loop-number g l = IsIdle g.C.Disk.facts g.B.Disk.facts l.parts l.seat
    × IsFor g.C.Disk.facts g.B.Disk.facts l.job l.seat
    × HasWrittenSome g.C.Disk.facts g.B.Disk.facts l.parts l.job l.values
    (l.number - l.job.first / 256) l.initial.seat l.seat

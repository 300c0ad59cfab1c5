use Rattle.std.proofs.Common.{◌/◌, ◌-◌}
use Rattle.bc_model.specs.Pieces.{pieces_from}
use Rattle.bc_deed.specs.Flushed.{HasDone}
use Rattle.bc_job.specs.Asked.{IsReady, line_of}
use Rattle.bc_job.specs.Deeds.{writes_deeds}
use Rattle.bc_job.proofs.write.write.Given as goal

-- the pieces so far are written
abbrev pub invariant-loop-number : goal.invariant-loop-number
invariant-loop-number g l = IsReady g.C.Disk.facts g.B.Disk.facts l.parts l.seat l.stock
    × HasDone g.C.Disk.facts g.B.Disk.facts (writes_deeds l.job.force (line_of l.job) l.job.first l.values
    (pieces_from l.job.first l.job.count (l.job.first / 256) (l.number - l.job.first / 256))) l.initial.seat l.seat

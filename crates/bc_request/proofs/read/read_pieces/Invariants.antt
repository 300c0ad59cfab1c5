use Rattle.std.proofs.Common.{◌≡◌, ◌+◌, ◌-◌, ◌*◌, ◌/◌, min, max, length}
use Rattle.bc_job.specs.Asked.{IsFor, line_of}
use Rattle.bc_model.specs.Pieces.{pieces_from}
use Rattle.bc_model.specs.Sector.{sectors}
use Rattle.bc_request.specs.Asked.{IsIdle}
use Rattle.bc_request.specs.Line.{HasReadPieces}
use Rattle.bc_request.proofs.read.read_pieces.Given as goal

-- the pieces so far are read, and stand at their places
abbrev pub invariant-loop-number : goal.invariant-loop-number
invariant-loop-number g l = IsIdle g.C.Disk.facts g.B.Disk.facts l.parts l.seat
    × IsFor g.C.Disk.facts g.B.Disk.facts l.job l.seat
    × (length l.bytes ≡ 512 * l.job.count)
    × HasReadPieces g.C.Disk.facts g.B.Disk.facts l.parts (line_of l.job)
    (pieces_from l.job.first l.job.count (l.job.first / 256) (l.number - l.job.first / 256))
    (sectors (min (l.job.first + l.job.count) (max l.job.first (256 * l.number)) - l.job.first)
    l.bytes) l.initial.seat l.seat

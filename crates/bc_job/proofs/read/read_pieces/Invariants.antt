use Rattle.std.proofs.Common.{◌≡◌, ◌+◌, ◌-◌, ◌*◌, ◌/◌, min, max, ◌≤◌, List, [], ◌++◌, length}
use Rattle.std.specs.Prelude.{MatchOption}
use Rattle.bc_model.specs.Sector.{Value, sectors}
use Rattle.bc_model.specs.Pieces.{pieces_from}
use Rattle.bc_events.specs.declared.event.Deed.{Deed}
use Rattle.bc_deed.specs.Flushed.{HasDone}
use Rattle.bc_job.specs.Asked.{IsReady, line_of}
use Rattle.bc_job.specs.Deeds.{AreReadDeeds}
use Rattle.bc_job.proofs.read.read_pieces.Given as goal

-- the pieces so far are read, and stand at their places, the last one behind the others
abbrev pub invariant-loop-number : goal.invariant-loop-number
invariant-loop-number g l = IsReady g.C.Disk.facts g.B.Disk.facts l.parts l.seat l.stock
    × (length l.bytes ≡ 512 * l.job.count) × ((ds : List Deed)
    × AreReadDeeds (line_of l.job)
    (pieces_from l.job.first l.job.count (l.job.first / 256) (l.number - l.job.first / 256))
    (sectors (min (l.job.first + l.job.count) (max l.job.first (256 * l.number)) - l.job.first) l.bytes) ds
    × HasDone g.C.Disk.facts g.B.Disk.facts ds l.initial.seat l.seat)
    × MatchOption l.last
    (sectors (min (l.job.first + l.job.count) (max l.job.first (256 * l.number)) - l.job.first) l.bytes ≡ [])
    (λ own. (before : List Value) × (1 ≤ length own)
    × (sectors (min (l.job.first + l.job.count) (max l.job.first (256 * l.number)) - l.job.first) l.bytes
    ≡ before ++ own))

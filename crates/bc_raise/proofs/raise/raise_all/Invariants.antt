use Rattle.std.proofs.Common.{◌+◌, ◌≤◌, take}
use Rattle.bc_held.specs.Taken.{KeepsHeld}
use Rattle.bc_held.specs.bc_place.Place.{HasBefore}
use Rattle.bc_held.specs.bc_place.Written.{KeepsPlaces}
use Rattle.bc_held.specs.bc_deed.Flushed.{HasDone}
use Rattle.bc_held.specs.bc_hand.Seats.{Works, world}
use Rattle.bc_held.specs.bc_machine.World.{FromEach}
use Rattle.bc_raise.specs.Raise.{raises}
use Rattle.bc_raise.proofs.Many.{AreRaisedTo}
use Rattle.bc_raise.proofs.raise.raise_all.Given as goal

abbrev pub invariant-loop-bucket : goal.invariant-loop-bucket
invariant-loop-bucket g l = Works g.C.Disk.facts g.B.Disk.facts l.parts l.seat l.hand
    × (l.initial.seat.promises ≤ l.seat.promises + l.bucket-index)
    × FromEach (world g.C.Disk.facts g.B.Disk.facts l.seat) (HasBefore l.before)
    × AreRaisedTo l.victims l.bucket-index l.initial.hand l.hand
    × HasDone g.C.Disk.facts g.B.Disk.facts (raises l.before (take l.bucket-index l.victims))
    l.initial.seat l.seat
    × KeepsPlaces g.C.Disk.facts g.B.Disk.facts l.initial.seat l.seat
    × KeepsHeld g.C.Disk.facts g.B.Disk.facts l.initial.seat l.seat

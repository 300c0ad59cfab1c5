use Rattle.std.proofs.Common.{◌≡◌, ◌+◌, drop, take}
use Rattle.bc_stored.specs.All.{AreOwnApart}
use Rattle.bc_stored.specs.bc_hand.Seats.{Works, empty, world}
use Rattle.bc_stored.specs.bc_machine.World.{FromEach}
use Rattle.bc_stored.specs.bc_place.Named.{sectors_of}
use Rattle.bc_kept.specs.Kept.{AreKeepable, HaveNoted}
use Rattle.bc_kept.proofs.keep.note_each.Given as goal

abbrev pub invariant-loop-i : goal.invariant-loop-i
invariant-loop-i g l = Works g.C.Disk.facts g.B.Disk.facts l.parts l.seat l.hand
    × (l.hand ≡ empty) × (l.seat.promises + l.i ≡ l.initial.seat.promises)
    × (l.next ≡ l.first + sectors_of (take l.i l.places))
    × FromEach (world g.C.Disk.facts g.B.Disk.facts l.seat)
    (AreOwnApart l.seat.first (drop l.i l.places))
    × FromEach (world g.C.Disk.facts g.B.Disk.facts l.seat)
    (AreKeepable l.seat.first l.next (drop l.i l.places))
    × HaveNoted g.C.Disk.facts g.B.Disk.facts l.first (take l.i l.places) l.initial.seat l.seat

use Rattle.std.proofs.Common.{◌≡◌, ◌+◌, drop, take}
use Rattle.bc_insert.specs.bc_deed.Flushed.{HasDone}
use Rattle.bc_insert.specs.bc_hand.Seats.{Works, empty, world}
use Rattle.bc_insert.specs.bc_machine.World.{FromEach}
use Rattle.bc_stored.specs.All.{AreOwnApart, unpins}
use Rattle.bc_stored.proofs.all.let_go.Given as goal

abbrev pub invariant-loop-place : goal.invariant-loop-place
invariant-loop-place g l = Works g.C.Disk.facts g.B.Disk.facts l.parts l.seat l.hand
    × (l.hand ≡ empty) × (l.seat.promises + l.place-index ≡ l.initial.seat.promises)
    × FromEach (world g.C.Disk.facts g.B.Disk.facts l.seat)
    (AreOwnApart l.seat.first (drop l.place-index l.places))
    × HasDone g.C.Disk.facts g.B.Disk.facts (unpins (take l.place-index l.places)) l.initial.seat
    l.seat

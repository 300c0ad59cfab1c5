use Rattle.std.proofs.Common.{◌≡◌, ◌+◌, ◌-◌, ◌*◌, ◌≤◌, length}
use Rattle.std.specs.Prelude.{All, vec_capacity}
use Rattle.bc_insert.specs.bc_hand.Seats.{Works, empty, world}
use Rattle.bc_insert.specs.Write.{AreReady}
use Rattle.bc_insert.specs.bc_machine.World.{FromEach}
use Rattle.bc_insert.specs.bc_place.Named.{AreOnDevice, sectors_of}
use Rattle.bc_insert.specs.bc_place.Place.{HasBefore}
use Rattle.bc_stored.specs.All.{HaveStored}
use Rattle.bc_stored.proofs.all.store.Given as goal

abbrev pub invariant-loop-done : goal.invariant-loop-done
invariant-loop-done g l = Works g.C.Disk.facts g.B.Disk.facts l.parts l.seat l.hand
    × (l.hand ≡ empty) × (length l.places.items ≤ l.done)
    × (length l.values ≤ vec_capacity l.places) × (l.done ≡ sectors_of l.places.items)
    × (l.done ≤ length l.values)
    × (l.initial.seat.promises + length l.places.items ≤ l.seat.promises + 4 * l.done)
    × FromEach (world g.C.Disk.facts g.B.Disk.facts l.seat) (HasBefore l.before)
    × HaveStored g.C.Disk.facts g.B.Disk.facts l.before l.sectors l.places.items l.values
    l.initial.seat l.seat
    × FromEach (world g.C.Disk.facts g.B.Disk.facts l.seat)
    (AreReady l.seat.first l.first l.values l.places.items) × AreOnDevice l.places.items
    × All (λ p. p.count ≤ 32768) l.places.items

abbrev pub decreases-loop-done : goal.decreases-loop-done
decreases-loop-done g l = length l.values - l.done

use Rattle.std.proofs.Common.{◌≡◌, ℕ, ◌+◌, ◌-◌, ◌<◌, ◌≤◌, length}
use Rattle.bc_alloc.specs.Reserve.{IsDistinct}
use Rattle.bc_new_chain.specs.bc_chained.Chained.{AreForChain, IsSetOf}
use Rattle.bc_new_chain.specs.bc_hand.Seats.{Works, world}
use Rattle.bc_new_chain.specs.bc_held.Taken.{KeepsHeld}
use Rattle.bc_new_chain.specs.bc_machine.World.{FromEach}
use Rattle.bc_new_chain.specs.bc_place.Written.{KeepsPlaces}
use Rattle.bc_refill.specs.Hands.{HasAll}
use Rattle.bc_refill.specs.Sets.{AreRooms, HaveWritten}
use Rattle.bc_refill.proofs.Writing.{WithCache}
use Rattle.bc_refill.proofs.sets.write_sets.Given as goal

abbrev pub invariant-loop-part : goal.invariant-loop-part
invariant-loop-part g l = (l.part ≤ length l.new)
    × Works g.C.Disk.facts g.B.Disk.facts l.parts l.seat l.hand
    × HasAll l.g l.hand
    × WithCache l.initial.hand l.hand
    × (l.seat.first ≡ l.initial.seat.first)
    × HaveWritten g.C.Disk.facts g.B.Disk.facts l.g l.gens.records l.new 0 l.part l.initial.seat
    l.seat
    × ((k : ℕ) → k < l.part → IsSetOf l.g l.gens.records l.new k
    (world g.C.Disk.facts g.B.Disk.facts l.seat))
    × FromEach (world g.C.Disk.facts g.B.Disk.facts l.seat)
    (AreForChain l.initial.seat.first l.new)
    × FromEach (world g.C.Disk.facts g.B.Disk.facts l.seat) (λ o st. IsDistinct l.new)
    × (length l.rooms.items + l.part ≡ length l.new)
    × AreRooms l.g l.rooms.items
    × (l.initial.seat.promises ≤ l.seat.promises + l.part)
    × KeepsPlaces g.C.Disk.facts g.B.Disk.facts l.initial.seat l.seat
    × KeepsHeld g.C.Disk.facts g.B.Disk.facts l.initial.seat l.seat
    × (l.count ≡ length l.new)

abbrev pub decreases-loop-part : goal.decreases-loop-part
decreases-loop-part g l = l.count - l.part

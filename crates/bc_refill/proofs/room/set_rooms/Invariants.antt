use Rattle.std.proofs.Common.{◌≡◌, ◌*◌, ◌-◌, ◌≤◌, length, vec_capacity}
use Rattle.bc_refill.specs.Sets.{AreRooms}
use Rattle.bc_refill.proofs.room.set_rooms.Given as goal

abbrev pub invariant-loop-done : goal.invariant-loop-done
invariant-loop-done l = (length l.rooms.items ≡ l.done) × (l.done ≤ l.count)
    × (l.count ≤ vec_capacity l.rooms) × AreRooms l.g l.rooms.items
    × (l.bytes ≡ 512 * l.g.bucket)

abbrev pub decreases-loop-done : goal.decreases-loop-done
decreases-loop-done l = l.count - l.done

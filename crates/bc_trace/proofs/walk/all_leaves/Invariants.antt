use Rattle.std.proofs.Common.{◌-◌, ◌≤◌}
use Rattle.bc_leaf_walk.specs.bc_hand.Seats.{Works, empty, world}
use Rattle.bc_leaf_walk.specs.bc_machine.World.{FromEach}
use Rattle.bc_leaf_walk.specs.bc_place.Place.{HasBefore}
use Rattle.bc_trace.specs.Trace.{HasGone}
use Rattle.bc_trace.proofs.walk.all_leaves.Given as goal

abbrev pub invariant-loop-next : goal.invariant-loop-next
invariant-loop-next g l = Works g.C.Disk.facts g.B.Disk.facts l.parts l.seat empty
    × (l.initial.seat.promises ≤ l.seat.promises)
    × HasGone g.C.Disk.facts g.B.Disk.facts l.initial.seat l.seat
    × FromEach (world g.C.Disk.facts g.B.Disk.facts l.seat) (HasBefore l.before)

abbrev pub decreases-loop-next : goal.decreases-loop-next
decreases-loop-next g l = l.size - l.next

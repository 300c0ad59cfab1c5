use Rattle.std.proofs.Common.{◌-◌, ◌+◌, ◌≡◌, ◌≤◌, Some, length}
use Rattle.bc_new_node.specs.bc_hand.Seats.{Works, kinds, world}
use Rattle.bc_new_node.specs.bc_machine.World.{FromEach, cache_among}
use Rattle.bc_new_node.specs.bc_machine.declared.part.SpinePart.{SpinePart}
use Rattle.bc_new_node.specs.bc_place.Place.{HasBefore}
use Rattle.bc_new_node.specs.bc_place.Written.{KeepsPlaces}
use Rattle.bc_new_nodes.proofs.SoFar.{IsSoFar}
use Rattle.bc_new_nodes.specs.Wrote.{KeepsBuckets}
use Rattle.bc_new_nodes.proofs.all.write_each.Given as goal

abbrev pub invariant-loop-done : goal.invariant-loop-done
invariant-loop-done g l = (l.done ≤ length l.nodes)
    × Works g.C.Disk.facts g.B.Disk.facts l.parts l.seat l.hand
    × (kinds l.hand ≡ kinds l.initial.hand)
    × (l.initial.seat.promises ≤ l.seat.promises + l.done)
    × FromEach (world g.C.Disk.facts g.B.Disk.facts l.seat) (HasBefore l.before)
    × KeepsBuckets g.C.Disk.facts g.B.Disk.facts l.initial.seat l.seat
    × KeepsPlaces g.C.Disk.facts g.B.Disk.facts l.initial.seat l.seat
    × ((spine : SpinePart) → l.initial.hand.spine ≡ Some spine
    → IsSoFar g.C.Disk.facts g.B.Disk.facts l.before
    (cache_among g.C.Disk.facts g.B.Disk.facts l.parts.run.start).sectors spine l.nodes l.buckets
    l.done l.initial.plan l.plan l.initial.hand l.hand l.rooms.items l.initial.seat l.seat)

abbrev pub decreases-loop-done : goal.decreases-loop-done
decreases-loop-done g l = length l.nodes - l.done

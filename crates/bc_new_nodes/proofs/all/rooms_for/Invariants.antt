use Rattle.std.proofs.Common.{◌-◌, ◌≡◌, ◌≤◌, Some, length, vec_capacity}
use Rattle.bc_new_node.specs.bc_machine.declared.part.SpinePart.{SpinePart}
use Rattle.bc_new_nodes.specs.Course.{AreRooms}
use Rattle.bc_new_nodes.proofs.all.rooms_for.Given as goal

abbrev pub invariant-loop-done : goal.invariant-loop-done
invariant-loop-done g l = (length l.rooms.items ≡ l.done) × (l.done ≤ l.count)
    × (l.count ≤ vec_capacity l.rooms)
    × ((spine : SpinePart) → l.hand.spine ≡ Some spine
    → AreRooms spine.spine.geometry l.rooms.items)

abbrev pub decreases-loop-done : goal.decreases-loop-done
decreases-loop-done g l = l.count - l.done

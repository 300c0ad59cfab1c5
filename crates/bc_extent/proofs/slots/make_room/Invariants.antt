use Rattle.std.proofs.Common.{◌≡◌, ◌≤◌, ◌-◌, List, length, vec_len, vec_capacity}
use Rattle.bc_extent.specs.declared.slot.Front.{Front}
use Rattle.bc_extent.specs.Slot.{keys_in}
use Rattle.bc_extent.proofs.slots.make_room.Given as goal

abbrev pub invariant-loop-tails : goal.invariant-loop-tails
invariant-loop-tails l = record {
  same : (fronts : List Front) → keys_in fronts l.tails.items ≡ keys_in fronts l.fn.tails.items;
  few : length l.tails.items ≤ 512;
  room : 512 ≤ vec_capacity l.tails;
}

abbrev pub decreases-loop-tails : goal.decreases-loop-tails
decreases-loop-tails l = 512 - vec_len l.tails

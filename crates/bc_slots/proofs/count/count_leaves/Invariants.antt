use Rattle.bc_slots.proofs.Made.{AreCountedTo}
use Rattle.bc_slots.proofs.count.count_leaves.Given as goal

abbrev pub invariant-loop-i : goal.invariant-loop-i
invariant-loop-i l = AreCountedTo l.pending l.count l.i l.counts.items

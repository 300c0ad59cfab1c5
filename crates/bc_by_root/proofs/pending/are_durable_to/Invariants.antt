use Rattle.std.proofs.Common.{drop, take}
use Rattle.bc_by_root.proofs.pending.are_durable_to.Given as goal
use Rattle.bc_by_root.specs.Given.{AreDurableTo}

abbrev pub invariant-loop-i : goal.invariant-loop-i
invariant-loop-i l = AreDurableTo l.cache.slots (take l.i (drop l.e.place l.spine.leaves)) l.upto
